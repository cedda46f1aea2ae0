use Rattle.std.proofs.Common.{not, sym, ◌∙◌, ap}
use Rattle.sync_data.specs.Orders.{value_cmp_total, value_cmp_exact}
use Rattle.sync_maps.specs.Seen.{had, included}
use Rattle.sync_cells.proofs.set.include.Goals.{in-Ok, in-Err}
use Rattle.sync_cells.proofs.set.include.Goals as goal

pub returns-clause-ok : goal.returns-clause-ok
returns-clause-ok c = elim c.match-insert.branch [
  | in-Ok w ↦ rw w.result-is (
    w.in-Ok.ensures.added ∙ ap not (sym (had value_cmp_total c.args.set.now c.args.value)),
    included value_cmp_total value_cmp_exact c.args.set.now c.insert.new.self c.args.value w.in-Ok.ensures.updates.0,
  )
  | in-Err w ↦ rw w.result-is tt
]
