use Rattle.std.proofs.Common.{◌+◌, ◌<◌, Some, length, sym, ap, subst, arith}
use Rattle.sync_base.specs.Rules.{top}
use Rattle.list_lane.specs.Lanes.{LaneOf}
use Rattle.list_lane.specs.Ops.{lane_later as later}
use Rattle.list_lane.proofs.Rooms.{crossed_length, after_more}
use Rattle.list_regions.specs.Regions.{RegionOf}
use Rattle.list_regions.proofs.region.Region.cross.Goals as goal

pub invariant_of-self : goal.invariant_of-self
invariant_of-self c =
    let a = c.self.inside in
    let b = c.args.traveller in
    let same = crossed_length (later c.args.lane_left) a.lane.slots (Some b) in
    let lane = c.cross.ensures.lane in
    let count = ap (λ (r : LaneOf). length r.slots) lane in
    let first = ap (λ (r : LaneOf). r.first) lane in
    let more = after_more (Some b) a.lane.first in
    let numbers = c.self.invariant.numbers_are in
    let room = subst (λ (v : RegionOf). v.gap + v.lane.first + length v.lane.slots + 1 < top) (sym c.self.view_is) c.requires.room in
    record { numbers_are = omega (arith, same, count, numbers); room = omega (arith, same, count, first, more, room) }
