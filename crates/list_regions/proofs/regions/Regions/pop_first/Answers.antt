use Rattle.std.proofs.Common.{◌<◌, ◌+◌, ◌-◌, sym, ap, ◌∙◌, subst, arith}
use Rattle.list_lane.specs.Lanes.{LaneOf, without_first, length_after}
use Rattle.list_lane.proofs.Rooms.{less_is}
use Rattle.list_regions.specs.Kept.{IsRegions}
use Rattle.list_regions.proofs.Keeping.{all, popped_slot, popped_is, popped_keeps}
use Rattle.list_regions.proofs.regions.Regions.pop_first.Goals as goal

pub invariant_of-self : goal.invariant_of-self
invariant_of-self c =
    let a = c.self.inside in
    let some : 0 < a.count = omega arith in
    let zs = c.pop_number-slot.new.items in
    let z = c.pop_number-slot.result in
    subst (λ n. IsRegions (a.popped + 1) (a.count - 1) n a.last zs (all (a.popped + 1) (a.count - 1) zs)) (sym c.length_behind-self-inside.ensures)
    (popped_keeps a.popped a.count a.first a.last a.items zs z c.self.invariant some c.pop_number-slot.ensures)

pub returns-clause-lane : goal.returns-clause-lane
returns-clause-lane c =
    let a = c.self.inside in
    let some : 0 < a.count = omega arith in
    let zs = c.pop_number-slot.new.items in
    let z = c.pop_number-slot.result in
    let first = c.length_behind-self-inside.ensures ∙ ap (λ o. length_after o a.first) (popped_slot a.popped a.count a.first a.last a.items zs z c.self.invariant some c.pop_number-slot.ensures) in
    let is = popped_is a.popped a.count a.first a.last a.items zs z c.self.invariant some c.pop_number-slot.ensures in
    (λ i. record { first = first i; slots = is i })
    ∙ sym (less_is a.first (all a.popped a.count a.items))
    ∙ ap (λ (v : LaneOf). without_first v.first v.slots) c.self.view_is
