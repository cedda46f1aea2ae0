use Rattle.std.proofs.Common.{Some, length, ap, ◌∙◌, arith}
use Rattle.list_lane.specs.Lanes.{crossed as crosses}
use Rattle.list_lane.specs.Ops.{lane_later as later}
use Rattle.list_lane.proofs.Bounded.{lift_none}
use Rattle.list_lane.proofs.Rooms.{crossed_length}
use Rattle.list_lane.proofs.burst.Burst.cross_each.Goals as goal

pub bounds_of-self-inside-requires : goal.bounds_of-self-inside-requires
bounds_of-self-inside-requires c =
    let size = ap length c.as_slice.ensures.value in
    let new = ap length c.cross_vec-left.ensures.slots in
    let same = crossed_length (later c.args.lane_left) c.settle.new.slots.items (Some c.args.traveller) in
    let old = ap length (c.settle.ensures ∙ c.self.view_is) in
    let room = c.requires.room in
    omega (arith, size, new, same, old, room)

pub returns-clause-slots : goal.returns-clause-slots
returns-clause-slots c =
    lift_none c.cross_vec-left.new.slots.items ∙ c.cross_vec-left.ensures.slots ∙ ap (λ ss. (crosses (later c.args.lane_left) ss (Some c.args.traveller)).slots) (c.settle.ensures ∙ c.self.view_is)
