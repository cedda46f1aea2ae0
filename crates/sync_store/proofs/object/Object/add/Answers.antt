use Rattle.std.proofs.Common.{arith}
use Rattle.sync_base.specs.Lemmas.Looks.{name_total, name_exact}
use Rattle.sync_store.proofs.Ordered.{here, gap, here_sorted, here_seen, inserted_sorted, inserted_seen}
use Rattle.sync_store.proofs.object.Object.add.Goals as goal

pub index_mut-requires : goal.index_mut-requires
index_mut-requires c =
    let h = here name_total name_exact c.self.inside.cells.items c.self.invariant c.self.view_is c.args.column c.in-Ok.place c.in-Ok.ensures.found in
    omega (arith, h.0, c.self.inside.cells.ok.0)

pub invariant_of-self : goal.invariant_of-self
invariant_of-self c = here_sorted name_total name_exact c.self.inside.cells.items c.self.invariant c.self.view_is c.args.column c.in-Ok.place c.in-Ok.ensures.found c.index_mut.result.now c.index_mut.ensures.value c.args.cell

pub returns-in-Ok : goal.returns-in-Ok
returns-in-Ok c = here_seen name_total name_exact c.self.inside.cells.items c.self.invariant c.self.view_is c.args.column c.in-Ok.place c.in-Ok.ensures.found c.index_mut.result.now c.index_mut.ensures.value c.args.cell

pub insert_into-requires : goal.insert_into-requires
insert_into-requires c =
    let g = gap name_total name_exact c.self.inside.cells.items c.self.invariant c.self.view_is c.args.column c.in-Err.place c.in-Err.ensures.absent in
    omega (arith, g.0, c.self.inside.cells.ok.0)

pub invariant_of-self-in-Err : goal.invariant_of-self-in-Err
invariant_of-self-in-Err c = inserted_sorted name_total name_exact c.self.inside.cells.items c.self.invariant c.self.view_is c.args.column c.in-Err.place c.in-Err.ensures.absent c.args.cell c.insert_into.result c.insert_into.ensures

pub returns-in-Err : goal.returns-in-Err
returns-in-Err c = inserted_seen name_total name_exact c.self.inside.cells.items c.self.invariant c.self.view_is c.args.column c.in-Err.place c.in-Err.ensures.absent c.args.cell c.insert_into.result c.insert_into.ensures
