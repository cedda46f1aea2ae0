use Rattle.std.proofs.Common.{set, ap, ◌∙◌}
use Rattle.list_lane.specs.Ops.{lane_later as later}
use Rattle.list_regions.specs.Regions.{RegionOf}
use Rattle.list_regions.specs.Kept.{crossed_region}
use Rattle.list_regions.proofs.Sets.{set_twice, same_item}
use Rattle.list_regions.proofs.crossing.cross_at.Goals as goal

pub returns-clause-regions : goal.returns-clause-regions
returns-clause-regions c = λ q g.
    let l = later c.args.lane_left in
    let e = same_item c.args.items.now c.args.place c.replace-region.result q c.replace-region.ensures.value g in
    c.replace.ensures.list
    ∙ (λ i. set (c.replace-region.ensures.list i) c.args.place (c.cross-left.ensures.region i))
    ∙ set_twice c.args.items.now c.args.place c.empty.result (crossed_region l c.replace-region.result c.args.inner)
    ∙ ap (λ (r : RegionOf). set c.args.items.now c.args.place (crossed_region l r c.args.inner)) e
