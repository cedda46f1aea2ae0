use Rattle.std.proofs.Common.{refl, sym, ◌∙◌, ap, ◌≡◌}
use Rattle.sync_data.specs.Orders.{value_cmp_total, value_cmp_exact}
use Rattle.sync_base.specs.States.{Members}
use Rattle.sync_maps.specs.Seen.{had, excluded}
use Rattle.sync_cells.specs.Contents.{content_seen}
use Rattle.sync_cells.specs.Lists.{members}
use Rattle.sync_cells.proofs.cell.Cell.set_remove.Goals as goal

pub returns-clause-ok : goal.returns-clause-ok
returns-clause-ok c =
    let e : c.args.self.now ≡ Members (members c.in-Set.set) = sym c.self.view_is ∙ ap content_seen c.in-Set.is in
    rw e (
      c.remove.ensures.test ∙ sym (had value_cmp_total c.in-Set.set c.args.value.now),
      ap Members (excluded value_cmp_total value_cmp_exact c.in-Set.set c.remove.new.self c.args.value.now c.remove.ensures.updates.0),
      refl,
    )
