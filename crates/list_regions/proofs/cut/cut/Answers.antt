use Rattle.std.proofs.Common.{◌-◌, length, ap, ◌∙◌, arith}
use Rattle.list_regions.specs.Regions.{RegionOf}
use Rattle.list_regions.specs.Kept.{fresh}
use Rattle.list_regions.proofs.Halving.{cut_starts, cut_ends}
use Rattle.list_regions.proofs.cut.cut.Goals as goal

pub loop-i-init : goal.loop-i-init
loop-i-init c =
    let m = c.args.region.now in
    let p = c.args.element in
    let gap = c.gap.ensures ∙ ap (λ (o : RegionOf). o.gap) c.in-Ok.ensures in
    let there = c.if-element-elements.false in
    let first = c.elements.ensures in
    let same = c.elements-2.ensures ∙ ap (λ (o : RegionOf). o.lane.first) c.in-Ok.ensures in
    cut_starts m c.fresh.result c.fresh-2.result p (c.elements-2.result - p - 1) (c.fresh.ensures ∙ ap (λ n. fresh n p) gap) c.fresh-2.ensures (omega (arith, there, first, same))

pub returns : goal.returns
returns c =
    let m = c.args.region.now in
    let past = c.loop-i-test.false in
    let numbers = c.len-i-end.ensures.numbers ∙ ap (λ (o : RegionOf). length o.numbers) c.in-Ok.ensures in
    let slots = c.len-i-end.ensures.slots ∙ ap (λ (o : RegionOf). length o.lane.slots) c.in-Ok.ensures in
    cut_ends m c.loop-i.i c.loop-i.halves.front c.loop-i.halves.back c.loop-i.invariant (omega (arith, past, numbers)) (omega (arith, past, slots))
