use Rattle.std.proofs.Common.{set, ap, ◌∙◌}
use Rattle.list_regions.specs.Regions.{RegionOf}
use Rattle.list_regions.specs.Kept.{with_gap}
use Rattle.list_regions.proofs.Sets.{set_twice, same_item}
use Rattle.list_regions.proofs.crossing.set_gap_at.Goals as goal

pub returns : goal.returns
returns c = λ q g.
    let e = same_item c.args.items.now c.args.place c.replace-region.result q c.replace-region.ensures.value g in
    c.replace.ensures.list
    ∙ (λ i. set (c.replace-region.ensures.list i) c.args.place (c.set_gap.ensures i))
    ∙ set_twice c.args.items.now c.args.place c.empty.result (with_gap c.args.gap c.replace-region.result)
    ∙ ap (λ (r : RegionOf). set c.args.items.now c.args.place (with_gap c.args.gap r)) e
