use Rattle.std.proofs.Common.{◌<◌, Some, length, sym, ◌∙◌, arith}
use Rattle.list_lane.specs.Ops.{lane_later as later}
use Rattle.list_lane.proofs.Rooms.{left_at}
use Rattle.list_lane.proofs.Joins.{placed_here, length_here, left_turn, left_end}
use Rattle.list_lane.proofs.bursts.left_over.Goals as goal

pub left-requires-clause-placed : goal.left-requires-clause-placed
left-requires-clause-placed c =
    let lt : c.loop-i.i < length c.args.bursts.now.items = omega (arith, c.loop-i-test.true, c.len-i-end.ensures, c.args.bursts.now.ok.0) in
    let h = placed_here c.args.bursts.now.items c.loop-i.i _ c.index.result.now lt c.index.ensures c.loop-i.invariant.placed in
    h.0

pub returns-in-None : goal.returns-in-None
returns-in-None c =
    let xs = c.args.bursts.now.items in
    let i = c.loop-i.i in
    let lt : c.loop-i.i < length c.args.bursts.now.items = omega (arith, c.loop-i-test.true, c.len-i-end.ensures, c.args.bursts.now.ok.0) in
    left_end (later c.args.lane_left) _ _ c.left.result c.in-None.is (left_turn (later c.args.lane_left) _ xs i _ c.index.result.now c.loop-i.now c.left.result lt c.index.ensures c.loop-i.invariant.so_far c.left.ensures)

pub loop-i-preserved : goal.loop-i-preserved
loop-i-preserved c =
    let xs = c.args.bursts.now.items in
    let i = c.loop-i.i in
    let x = c.index.result.now in
    let z = c.in-Some.left in
    let lt : i < length xs = omega (arith, c.loop-i-test.true, c.len-i-end.ensures, c.args.bursts.now.ok.0) in
    let at = sym c.in-Some.is ∙ c.left.ensures in
    let far = left_at (later c.args.lane_left) x c.loop-i.now z at in
    let split = length_here xs i _ x lt c.index.ensures in
    let room = c.loop-i.invariant.room in
    let rest = placed_here xs i _ x lt c.index.ensures c.loop-i.invariant.placed in
    record {
      so_far = left_turn (later c.args.lane_left) _ xs i _ x c.loop-i.now (Some z) lt c.index.ensures c.loop-i.invariant.so_far at;
      room = omega (arith, far, split, room);
      placed = rest.1;
    }
