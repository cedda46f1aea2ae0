use Rattle.std.proofs.Common.{◌<◌, length, arith}
use Rattle.list_lane.proofs.Joins.{placed_here}
use Rattle.list_lane.proofs.Listing.{burst_turn, burst_end}
use Rattle.list_lane.proofs.bursts.slots_of.Goals as goal

pub append_to-requires : goal.append_to-requires
append_to-requires c =
    let lt : c.loop-i.i < length c.args.bursts.now.items = omega (arith, c.loop-i-test.true, c.len-i-end.ensures, c.args.bursts.now.ok.0) in
    let h = placed_here c.args.bursts.now.items c.loop-i.i _ c.index.result.now lt c.index.ensures c.loop-i.invariant.placed in
    h.0

pub loop-i-preserved : goal.loop-i-preserved
loop-i-preserved c =
    let xs = c.args.bursts.now.items in
    let i = c.loop-i.i in
    let x = c.index.result.now in
    let lt : i < length xs = omega (arith, c.loop-i-test.true, c.len-i-end.ensures, c.args.bursts.now.ok.0) in
    let rest = placed_here xs i _ x lt c.index.ensures c.loop-i.invariant.placed in
    record {
      so_far = burst_turn _ c.loop-i.slots.items _ xs i _ x lt c.index.ensures c.loop-i.invariant.so_far c.in_ok-append_to.ensures;
      placed = rest.1;
    }

pub returns : goal.returns
returns c = burst_end _ c.loop-i.slots.items c.args.bursts.now.items c.loop-i.i (omega (arith, c.loop-i-test.false, c.len-i-end.ensures, c.args.bursts.now.ok.0)) c.loop-i.invariant.so_far
