use Rattle.std.proofs.Common.{T, sym, ◌∙◌, ap, subst, arith}
use Rattle.std.specs.FinMap as map
use Rattle.std.specs.FinMap.{is_sorted}
use Rattle.sync_data.specs.Orders.{name_cmp}
use Rattle.sync_base.specs.Lemmas.Looks.{name_total, name_exact}
use Rattle.sync_maps.specs.Seen.{remove_absent}
use Rattle.sync_store.proofs.Ordered.{here, got_none, left_sorted, left_seen}
use Rattle.sync_store.proofs.object.Object.remove.Goals as goal

pub remove-requires : goal.remove-requires
remove-requires c =
    let h = here name_total name_exact c.self.inside.cells.items c.self.invariant c.self.view_is c.args.column.now c.in-Ok.place c.in-Ok.ensures.found in
    omega (arith, h.0, c.self.inside.cells.ok.0)

pub invariant_of-self : goal.invariant_of-self
invariant_of-self c = subst (λ l. T (is_sorted name_cmp l)) (sym c.remove.ensures.items) (left_sorted name_total name_exact c.self.inside.cells.items c.self.invariant c.self.view_is c.args.column.now c.in-Ok.place c.in-Ok.ensures.found c.remove.result)

pub returns-in-Ok : goal.returns-in-Ok
returns-in-Ok c = ap map.from_sorted c.remove.ensures.items ∙ left_seen name_total name_exact c.self.inside.cells.items c.self.invariant c.self.view_is c.args.column.now c.in-Ok.place c.in-Ok.ensures.found c.remove.result

pub returns-in_default : goal.returns-in_default
returns-in_default c = sym (remove_absent name_total name_exact c.args.self.now c.args.column.now (got_none name_total name_exact c.self.inside.cells.items c.self.invariant c.self.view_is c.args.column.now c.in_default.field-0 c.in_default.ensures.absent))
