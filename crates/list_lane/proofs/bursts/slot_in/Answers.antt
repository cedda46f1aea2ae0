use Rattle.std.proofs.Common.{◌<◌, ◌+◌, ◌-◌, length, drop, sym, ap, ◌∙◌, arith}
use Rattle.list_lane.specs.Lanes.{slot_at}
use Rattle.list_lane.specs.Flat.{joined}
use Rattle.list_lane.proofs.Joins.{placed_here, joined_more, slot_before, slot_behind}
use Rattle.list_lane.proofs.bursts.slot_in.Goals as goal

pub slot-requires-clause-placed : goal.slot-requires-clause-placed
slot-requires-clause-placed c =
    let lt : c.loop-i.i < length c.args.bursts.now.items = omega (arith, c.loop-i-test.true, c.len-i-end.ensures, c.args.bursts.now.ok.0) in
    let h = placed_here c.args.bursts.now.items c.loop-i.i _ c.index-burst.result.now lt c.index-burst.ensures c.loop-i.invariant.placed in
    h.0

pub returns-then-rest-len : goal.returns-then-rest-len
returns-then-rest-len c =
    let xs = c.args.bursts.now.items in
    let i = c.loop-i.i in
    let x = c.index-burst.result.now in
    let lt : c.loop-i.i < length c.args.bursts.now.items = omega (arith, c.loop-i-test.true, c.len-i-end.ensures, c.args.bursts.now.ok.0) in
    c.slot.ensures
    ∙ sym (slot_before x (joined (drop (i + 1) xs)) c.loop-i.rest (omega (arith, c.if-rest-len.true, c.len.ensures)))
    ∙ ap (slot_at c.loop-i.rest) (sym (joined_more xs i _ x lt c.index-burst.ensures))
    ∙ sym c.loop-i.invariant.so_far

pub loop-i-preserved : goal.loop-i-preserved
loop-i-preserved c =
    let xs = c.args.bursts.now.items in
    let i = c.loop-i.i in
    let x = c.index-burst.result.now in
    let lt : c.loop-i.i < length c.args.bursts.now.items = omega (arith, c.loop-i-test.true, c.len-i-end.ensures, c.args.bursts.now.ok.0) in
    let rest = placed_here xs i _ x lt c.index-burst.ensures c.loop-i.invariant.placed in
    record {
      so_far = c.loop-i.invariant.so_far
          ∙ ap (slot_at c.loop-i.rest) (joined_more xs i _ x lt c.index-burst.ensures)
          ∙ slot_behind x (joined (drop (i + 1) xs)) c.loop-i.rest (omega (arith, c.if-rest-len.false, c.len.ensures))
          ∙ ap (λ n. slot_at (c.loop-i.rest - n) (joined (drop (i + 1) xs))) (sym c.len-rest.ensures);
      placed = rest.1;
    }
