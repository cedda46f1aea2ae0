use Rattle.std.proofs.Common.{arith}
use Rattle.sync_base.specs.Lemmas.Looks.{name_total, name_exact}
use Rattle.sync_cells.specs.Undoing.{done, undone}
use Rattle.sync_maps.specs.Answers.{then_ok, then_so}
use Rattle.sync_store.proofs.Ordered.{here, here_sorted, here_done, here_back}
use Rattle.sync_store.proofs.object.Object.edit.Goals as goal

pub index_mut-requires : goal.index_mut-requires
index_mut-requires c =
    let h = here name_total name_exact c.self.inside.cells.items c.self.invariant c.self.view_is c.args.column.now c.in-Ok.place c.in-Ok.ensures.found in
    omega (arith, h.0, c.self.inside.cells.ok.0)

pub invariant_of-self : goal.invariant_of-self
invariant_of-self c = here_sorted name_total name_exact c.self.inside.cells.items c.self.invariant c.self.view_is c.args.column.now c.in-Ok.place c.in-Ok.ensures.found c.index_mut.result.now c.index_mut.ensures.value c.edit.new.self

pub returns-in-Ok-clause-done : goal.returns-in-Ok-clause-done
returns-in-Ok-clause-done c = then_ok c.edit.result (here_done name_total name_exact c.self.inside.cells.items c.self.invariant c.self.view_is c.args.column.now c.in-Ok.place c.in-Ok.ensures.found c.index_mut.result.now c.index_mut.ensures.value (done c.args.edit) c.edit.new.self) c.edit.ensures.done

pub returns-in-Ok-clause-former : goal.returns-in-Ok-clause-former
returns-in-Ok-clause-former c = then_so c.edit.result (λ f. here_back name_total name_exact c.self.inside.cells.items c.self.invariant c.self.view_is c.args.column.now c.in-Ok.place c.in-Ok.ensures.found c.index_mut.result.now c.index_mut.ensures.value (undone c.args.edit f) c.edit.new.self) c.edit.ensures.former
