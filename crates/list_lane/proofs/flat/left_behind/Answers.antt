use Rattle.std.proofs.Common.{sym, arith}
use Rattle.list_lane.specs.Ops.{lane_later as later}
use Rattle.list_lane.proofs.Turns.{left_gone}
use Rattle.list_lane.proofs.Bounded.{lifted_placed}
use Rattle.list_lane.proofs.flat.left_behind.Goals as goal

pub lifted-requires : goal.lifted-requires
lifted-requires c =
    let test = c.loop-i-test.true in
    let h = lifted_placed c.args.slots.now c.loop-i.i c.args.up c.args.down _ c.in-Some.op (omega (arith, test)) (sym c.in-Some.is) c.requires.placed in
    omega (arith, h)

pub returns-in-None : goal.returns-in-None
returns-in-None c =
    let test = c.loop-i-test.true in
    left_gone (later c.args.lane_left) _ c.args.slots.now c.loop-i.i c.args.up c.args.down _ c.in-Some.op c.lifted.result c.loop-i.now c.left_of.result (omega (arith, test)) c.loop-i.invariant.so_far (sym c.in-Some.is) c.lifted.ensures c.left_of.ensures.is c.in-None.is
