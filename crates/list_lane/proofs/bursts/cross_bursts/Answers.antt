use Rattle.std.proofs.Common.{◌≤◌, ◌<◌, ◌+◌, Some, length, take, set, refl, sym, ap, ◌∙◌, subst, arith}
use Rattle.std.proofs.lemmas.List.{length-set}
use Rattle.sync_base.specs.Rules.{top}
use Rattle.list_lane.specs.Lanes.{Crossed, crossed}
use Rattle.list_lane.specs.Ops.{lane_later as later}
use Rattle.list_lane.specs.Flat.{done, joined, Placed}
use Rattle.list_lane.proofs.Rooms.{left_at}
use Rattle.list_lane.proofs.Joins.{placed_here, length_here, burst_turn, burst_end, drop_set}
use Rattle.list_lane.proofs.bursts.cross_bursts.Goals as goal

pub cross-requires-clause-placed : goal.cross-requires-clause-placed
cross-requires-clause-placed c =
    let lt : c.loop-i.i < length c.loop-i.bursts.items = omega (arith, c.loop-i-test.true, c.len-i-end.ensures, c.args.bursts.now.ok.0, c.loop-i.invariant.size) in
    let h = placed_here c.loop-i.bursts.items c.loop-i.i _ c.index_mut-burst.result.now lt c.index_mut-burst.ensures.value c.loop-i.invariant.placed in
    h.0

pub returns-in-None-clause-slots : goal.returns-in-None-clause-slots
returns-in-None-clause-slots c =
    let xs = c.loop-i.bursts.items in
    let i = c.loop-i.i in
    let y = c.cross.new.self in
    let z = c.cross.result in
    let lt : c.loop-i.i < length c.loop-i.bursts.items = omega (arith, c.loop-i-test.true, c.len-i-end.ensures, c.args.bursts.now.ok.0, c.loop-i.invariant.size) in
    let turn = burst_turn (later c.args.lane_left) _ xs xs i _ c.index_mut-burst.result.now y c.loop-i.now z lt refl c.loop-i.invariant.so_far c.index_mut-burst.ensures.value c.cross.ensures.slots c.cross.ensures.left in
    ap (λ (r : Crossed). r.slots) (sym (burst_end (later c.args.lane_left) _ xs i y z c.in-None.is turn))

pub returns-in-None-clause-left : goal.returns-in-None-clause-left
returns-in-None-clause-left c =
    let xs = c.loop-i.bursts.items in
    let i = c.loop-i.i in
    let y = c.cross.new.self in
    let z = c.cross.result in
    let lt : c.loop-i.i < length c.loop-i.bursts.items = omega (arith, c.loop-i-test.true, c.len-i-end.ensures, c.args.bursts.now.ok.0, c.loop-i.invariant.size) in
    let turn = burst_turn (later c.args.lane_left) _ xs xs i _ c.index_mut-burst.result.now y c.loop-i.now z lt refl c.loop-i.invariant.so_far c.index_mut-burst.ensures.value c.cross.ensures.slots c.cross.ensures.left in
    ap (λ (r : Crossed). r.left) (sym (burst_end (later c.args.lane_left) _ xs i y z c.in-None.is turn))

pub loop-i-preserved : goal.loop-i-preserved
loop-i-preserved c =
    let xs = c.loop-i.bursts.items in
    let i = c.loop-i.i in
    let x = c.index_mut-burst.result.now in
    let y = c.cross.new.self in
    let z = c.in-Some.left in
    let value = c.index_mut-burst.ensures.value in
    let lt : i < length xs = omega (arith, c.loop-i-test.true, c.len-i-end.ensures, c.args.bursts.now.ok.0, c.loop-i.invariant.size) in
    let at = sym c.in-Some.is ∙ c.cross.ensures.left in
    let far = left_at (later c.args.lane_left) x c.loop-i.now z at in
    let split = length_here xs i _ x lt value in
    let room = c.loop-i.invariant.room in
    let rest = placed_here xs i _ x lt value c.loop-i.invariant.placed in
    let same = drop_set xs i y in
    record {
      so_far = burst_turn (later c.args.lane_left) _ xs xs i _ x y c.loop-i.now (Some z) lt refl c.loop-i.invariant.so_far value c.cross.ensures.slots at
          ∙ ap (λ r. done (joined (take (i + 1) (set xs i y))) (crossed (later c.args.lane_left) (joined r) (Some z))) (sym same);
      room = subst (λ r. z.place + length (joined r) ≤ top) (sym same) (omega (arith, far, split, room));
      placed = subst (λ r. Placed (joined r)) (sym same) rest.1;
      size = length-set xs i y ∙ c.loop-i.invariant.size;
    }
