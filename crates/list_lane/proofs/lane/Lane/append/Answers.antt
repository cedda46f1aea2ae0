use Rattle.std.proofs.Common.{◌+◌, ◌<◌, length, sym, subst, arith}
use Rattle.sync_base.specs.Rules.{top}
use Rattle.list_lane.specs.Lanes.{LaneOf, length_at_end, Fits}
use Rattle.list_lane.specs.Flat.{joined, IsLane}
use Rattle.list_lane.proofs.Rooms.{placed_of, last_below, lane_more}
use Rattle.list_lane.proofs.lane.Lane.append.Goals as goal

pub push_slot-requires-clause-placed : goal.push_slot-requires-clause-placed
push_slot-requires-clause-placed c = placed_of (joined c.self.inside.bursts.items) c.self.inside.first c.self.invariant.chains c.self.invariant.room

pub length_behind-self-inside-requires : goal.length_behind-self-inside-requires
length_behind-self-inside-requires c =
    let b = last_below (joined c.self.inside.bursts.items) c.self.inside.first in
    let e = c.self.invariant.last_is in
    let r = c.self.invariant.room in
    omega (arith, b, e, r)

pub invariant_of-self-2 : goal.invariant_of-self-2
invariant_of-self-2 c =
    let a = c.self.inside in
    let ss = joined a.bursts.items in
    let fits = subst (λ (v : LaneOf). Fits (length_at_end v.first v.slots) c.args.slot) (sym c.self.view_is) c.requires.fits in
    let room = subst (λ (v : LaneOf). v.first + length v.slots + 1 < top) (sym c.self.view_is) c.requires.room in
    subst (λ n. IsLane a.first n (a.count + 1) (joined c.push_slot.new.bursts.items)) (sym c.length_behind-self-inside.ensures.is)
    (subst (λ l. IsLane a.first (Rattle.list_lane.specs.Lanes.length_after c.args.slot a.last) (a.count + 1) l) (sym c.in_ok-push_slot.ensures.ok) (lane_more a.first a.last a.count ss c.args.slot c.self.invariant fits room))
