use Rattle.std.proofs.Common.{set, ap, ◌∙◌}
use Rattle.list_regions.specs.Regions.{RegionOf}
use Rattle.list_regions.specs.Kept.{with_front}
use Rattle.list_regions.proofs.Sets.{set_twice, same_item}
use Rattle.list_regions.proofs.push.take_front_at.Goals as goal

pub returns : goal.returns
returns c = λ q g.
    let qs = c.args.items.now in
    let i = c.args.place in
    let e = same_item qs i c.replace-region.result q c.replace-region.ensures.value g in
    c.replace.ensures.list
    ∙ (λ j. set (c.replace-region.ensures.list j) i (c.take_front.ensures j))
    ∙ set_twice qs i c.empty.result (with_front c.replace-region.result)
    ∙ ap (λ (r : RegionOf). set qs i (with_front r)) e
