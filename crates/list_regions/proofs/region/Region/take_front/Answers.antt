use Rattle.std.proofs.Common.{◌+◌, ◌-◌, ◌<◌, length, sym, ap, ◌∙◌, subst, arith}
use Rattle.list_lane.specs.Lanes.{LaneOf, Crossed}
use Rattle.list_regions.specs.Regions.{RegionOf}
use Rattle.list_regions.specs.Kept.{with_front}
use Rattle.list_regions.proofs.Edits.{onward_length}
use Rattle.list_regions.proofs.Ahead.{crossed_ahead}
use Rattle.list_regions.proofs.region.Region.take_front.Goals as goal

pub invariant_of-self : goal.invariant_of-self
invariant_of-self c =
    let a = c.self.inside in
    let lane = c.cross-front.ensures.lane in
    let slots = ap (λ (r : LaneOf). length r.slots) lane in
    let same = ap (λ (r : Crossed). length r.slots) (crossed_ahead a.lane.slots) in
    let count = onward_length 1 a.lane.slots in
    let first = ap (λ (r : LaneOf). r.first) lane in
    let numbers = c.self.invariant.numbers_are in
    let room = c.self.invariant.room in
    let some = subst (λ (v : RegionOf). 0 < v.gap) (sym c.self.view_is) c.requires in
    record { numbers_are = omega (arith, slots, same, count, numbers); room = omega (arith, slots, same, count, first, room, some) }

pub returns : goal.returns
returns c =
    let a = c.self.inside in
    (λ i. record { gap = a.gap - 1; numbers = a.numbers.items; lane = c.cross-front.ensures.lane i })
    ∙ (λ i. record { gap = a.gap - 1; numbers = a.numbers.items; lane = record { first = a.lane.first + 1; slots = (crossed_ahead a.lane.slots i).slots } })
    ∙ ap with_front c.self.view_is
