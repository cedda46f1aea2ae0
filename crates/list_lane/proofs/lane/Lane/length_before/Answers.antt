use Rattle.std.proofs.Common.{◌<◌, length, sym, subst, arith}
use Rattle.list_lane.specs.Lanes.{LaneOf}
use Rattle.list_lane.proofs.lane.Lane.length_before.Goals as goal

pub length_within-requires : goal.length_within-requires
length_within-requires c =
    let there = subst (λ (v : LaneOf). c.args.place < length v.slots) (sym c.self.view_is) c.requires in
    let room = c.self.invariant.room in
    omega (arith, there, room)
