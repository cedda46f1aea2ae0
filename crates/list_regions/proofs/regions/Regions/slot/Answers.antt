use Rattle.std.proofs.Common.{◌+◌, ◌≤◌, length, refl, sym, ap, ◌∙◌, subst, arith}
use Rattle.list_lane.specs.Lanes.{LaneOf, Fits, length_before, slot_at}
use Rattle.list_lane.proofs.Rooms.{slot_fits}
use Rattle.list_regions.proofs.Slots.{whole_slot}
use Rattle.list_regions.proofs.Keeping.{all, slot_past}
use Rattle.list_regions.proofs.regions.Regions.slot.Goals as goal

pub returns-then-place-self-clause-slot : goal.returns-then-place-self-clause-slot
returns-then-place-self-clause-slot c =
    let a = c.self.inside in
    let count = c.self.invariant.lane.count_is in
    let past : length (all a.popped a.count a.items) ≤ c.args.place = omega (arith, count) in
    slot_past c.args.place (all a.popped a.count a.items) past ∙ ap (λ (v : LaneOf). slot_at c.args.place v.slots) c.self.view_is

pub returns-clause-slot : goal.returns-clause-slot
returns-clause-slot c =
    let a = c.self.inside in
    c.slot_in.ensures ∙ sym (whole_slot a.popped c.args.place (a.popped + c.args.place) refl c.self.invariant.whole) ∙ ap (λ (v : LaneOf). slot_at c.args.place v.slots) c.self.view_is

pub returns-clause-fits : goal.returns-clause-fits
returns-clause-fits c =
    let a = c.self.inside in
    let ss = all a.popped a.count a.items in
    let is = c.slot_in.ensures ∙ sym (whole_slot a.popped c.args.place (a.popped + c.args.place) refl c.self.invariant.whole) in
    subst (λ (v : LaneOf). Fits (length_before c.args.place v.first v.slots) c.slot_in.result) c.self.view_is
    (subst (Fits (length_before c.args.place a.first ss)) (sym is) (slot_fits c.args.place a.first ss c.self.invariant.lane.chains))
