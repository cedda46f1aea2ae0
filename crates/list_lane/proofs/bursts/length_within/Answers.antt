use Rattle.std.proofs.Common.{◌<◌, ◌+◌, ◌-◌, length, drop, sym, ap, ◌∙◌, arith}
use Rattle.list_lane.specs.Lanes.{length_before}
use Rattle.list_lane.specs.Flat.{joined}
use Rattle.list_lane.proofs.Joins.{joined_more, before_first, before_rest, before_most}
use Rattle.list_lane.proofs.bursts.length_within.Goals as goal

pub returns-then-rest-len : goal.returns-then-rest-len
returns-then-rest-len c =
    let xs = c.args.bursts.now.items in
    let i = c.loop-i.i in
    let x = c.index-burst.result.now in
    let lt : i < length xs = omega (arith, c.loop-i-test.true, c.len-i-end.ensures, c.args.bursts.now.ok.0) in
    c.length_before.ensures
    ∙ sym (before_first x (joined (drop (i + 1) xs)) c.loop-i.rest c.loop-i.result (omega (arith, c.if-rest-len.true, c.len-len.ensures)))
    ∙ ap (length_before c.loop-i.rest c.loop-i.result) (sym (joined_more xs i _ x lt c.index-burst.ensures))
    ∙ sym c.loop-i.invariant.so_far

pub loop-i-preserved : goal.loop-i-preserved
loop-i-preserved c =
    let xs = c.args.bursts.now.items in
    let i = c.loop-i.i in
    let x = c.index-burst.result.now in
    let lt : i < length xs = omega (arith, c.loop-i-test.true, c.len-i-end.ensures, c.args.bursts.now.ok.0) in
    let most = before_most x c.len-len.result c.loop-i.result in
    record {
      so_far = c.loop-i.invariant.so_far
          ∙ ap (length_before c.loop-i.rest c.loop-i.result) (joined_more xs i _ x lt c.index-burst.ensures)
          ∙ before_rest x (joined (drop (i + 1) xs)) c.loop-i.rest c.loop-i.result (omega (arith, c.if-rest-len.false, c.len-len.ensures))
          ∙ ap (λ n. length_before (c.loop-i.rest - n) (length_before n c.loop-i.result x) (joined (drop (i + 1) xs))) (sym c.len-len.ensures)
          ∙ ap (λ n. length_before (c.loop-i.rest - c.len-len.result) n (joined (drop (i + 1) xs))) (sym c.length_before-result.ensures);
      most = omega (arith, most, c.length_before-result.ensures, c.loop-i.invariant.most, c.if-rest-len.false);
    }
