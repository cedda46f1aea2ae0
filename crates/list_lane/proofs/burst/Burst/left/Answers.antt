use Rattle.std.proofs.Common.{Some, length, sym, ap, ◌∙◌, arith}
use Rattle.list_lane.specs.Lanes.{Crossed}
use Rattle.list_lane.specs.Ops.{lane_later as later}
use Rattle.list_lane.proofs.Beside.{behind_all, before_all}
use Rattle.list_lane.proofs.Bounded.{lift_length}
use Rattle.list_lane.proofs.burst.Burst.left.Goals as goal

pub returns-then-is_before : goal.returns-then-is_before
returns-then-is_before c = ap Some c.beyond.ensures ∙ ap (λ (r : Crossed). r.left) (sym (before_all (later c.args.lane_left) c.args.self.now c.args.traveller (c.is_before.ensures c.if-is_before.true)))

pub returns-then-is_behind : goal.returns-then-is_behind
returns-then-is_behind c = ap (λ (r : Crossed). r.left) (sym (behind_all (later c.args.lane_left) c.args.self.now c.args.traveller (c.is_behind.ensures c.if-is_behind.true)))

pub left_behind-requires-clause-room : goal.left_behind-requires-clause-room
left_behind-requires-clause-room c =
    let a = c.self.inside in
    let size = ap length c.as_slice.ensures.value in
    let view = ap length c.self.view_is in
    let lift = lift_length a.slots.items a.up a.down in
    let room = c.requires.room in
    omega (arith, size, view, lift, room)
