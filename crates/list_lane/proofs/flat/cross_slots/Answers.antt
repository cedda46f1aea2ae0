use Rattle.std.proofs.Common.{◌+◌, None, take, drop, sym, ap, ◌∙◌, arith}
use Rattle.list_lane.specs.Lanes.{Crossed}
use Rattle.list_lane.specs.Ops.{lane_later as later}
use Rattle.list_lane.proofs.Turns.{over, on, placed_more, whole_again}
use Rattle.list_lane.proofs.flat.cross_slots.Goals as goal

pub returns-then-not-meet_at-clause-slots : goal.returns-then-not-meet_at-clause-slots
returns-then-not-meet_at-clause-slots c =
    let n = c.loop-i.i + 1 in
    let ys = c.meet_at.new.slots in
    sym (whole_again ys n)
    ∙ ap (λ (r : Crossed). r.slots) (sym (over (later c.args.lane_left) _ (take n ys) (drop n ys) c.meet_at.result c.meet_at.new.now c.if-not-meet_at.true (c.loop-i.invariant.so_far ∙ c.meet_at.ensures.so_far)))

pub returns-then-not-meet_at-clause-left : goal.returns-then-not-meet_at-clause-left
returns-then-not-meet_at-clause-left c =
    let n = c.loop-i.i + 1 in
    let ys = c.meet_at.new.slots in
    ap (λ (r : Crossed). r.left) (sym (over (later c.args.lane_left) _ (take n ys) (drop n ys) c.meet_at.result c.meet_at.new.now c.if-not-meet_at.true (c.loop-i.invariant.so_far ∙ c.meet_at.ensures.so_far)))

pub loop-i-preserved : goal.loop-i-preserved
loop-i-preserved c =
    let n = c.loop-i.i + 1 in
    let ys = c.meet_at.new.slots in
    let size = c.loop-i.invariant.size in
    let more = c.meet_at.ensures.size in
    let test = c.loop-i-test.true in
    let room = c.loop-i.invariant.room in
    let place = c.meet_at.ensures.place in
    record {
      so_far = on (later c.args.lane_left) _ (take n ys) (drop n ys) c.meet_at.result c.meet_at.new.now c.if-not-meet_at.false (c.loop-i.invariant.so_far ∙ c.meet_at.ensures.so_far);
      room = omega (arith, size, more, test, room, place);
      placed = placed_more c.loop-i.slots ys c.loop-i.i None (omega (arith, size, test)) c.meet_at.ensures.rest c.loop-i.invariant.placed;
      size = more ∙ size;
    }
