use Rattle.std.proofs.Common.{◌≡◌, ◌+◌, ◌-◌, ◌≤◌, ◌++◌, List, take, drop, sym, ap, ◌∙◌, subst, arith}
use Rattle.std.proofs.lemmas.List.{take_all}
use Rattle.sum_list.specs.declared.at.At.{At}
use Rattle.sum_list.specs.Blocks.{joined}
use Rattle.sum_list.specs.Counts.{by, counts}
use Rattle.sum_list.specs.Places.{IsAt, Reaches}
use Rattle.sum_list.proofs.Joined.{cut, ends_within}
use Rattle.sum_list.proofs.Walks.{Walk, Sums, reached_with, walk_found, walk_end}
use Rattle.sum_list.proofs.blocks.find.Goals as goal

pub behind-end-requires-clause-places : goal.behind-end-requires-clause-places
behind-end-requires-clause-places g c =
    let place = c.loop-block.invariant.sums.place in let len = c.extent.ensures.place in
    let ends = ends_within c.args.blocks.now c.loop-block.block-index c.block-item.result c.loop-block-test.true c.block-item.is in omega arith

pub behind-end-requires-clause-before : goal.behind-end-requires-clause-before
behind-end-requires-clause-before g c =
    let place = c.loop-block.invariant.sums.place in let len = c.extent.ensures.place in
    let low = c.loop-block.invariant.sums.low_before in let more = c.extent.ensures.low.0 in
    let ends = ends_within c.args.blocks.now c.loop-block.block-index c.block-item.result c.loop-block-test.true c.block-item.is in omega arith

pub behind-end-requires-clause-after : goal.behind-end-requires-clause-after
behind-end-requires-clause-after g c =
    let place = c.loop-block.invariant.sums.place in let len = c.extent.ensures.place in
    let low = c.loop-block.invariant.sums.low_after in let more = c.extent.ensures.low.1 in
    let ends = ends_within c.args.blocks.now c.loop-block.block-index c.block-item.result c.loop-block-test.true c.block-item.is in omega arith

-- the place that the block finds is the list's
pub returns-then-sum-by : goal.returns-then-sum-by
returns-then-sum-by g c =
    let f = g.T.Measured.before in let h = g.T.Measured.after in let m = c.args.measure in let sum = c.args.sum in
    let bs = c.args.blocks.now in let i = c.loop-block.block-index in let b = c.block-item.result in let at = c.loop-block.at in
    let e = c.extent.result in let ex = c.extent.ensures in let inner = c.find.result in let r = c.behind.result in
    let xs = joined (take i bs) in let ys = joined (drop (i + 1) bs) in
    let sums : Sums f h b e = record { place = ex.place; before = ex.before; after = ex.after; low_before = ex.low.0; low_after = ex.low.1 } in
    let enough = reached_with f h m sum xs b at e c.behind-end.result c.loop-block.invariant.sums sums c.behind-end.ensures (subst (λ v. sum ≤ v) c.by.ensures c.if-sum-by.true) in
    let len = ex.place in let some = ex.some in
    let rest : c.saturating_sub.result ≡ sum - by m at.place at.before at.after = c.saturating_sub.ensures ∙ ap (λ v. sum - v) c.by-then-sum-by.ensures in
    let reaches = subst (λ v. Reaches (counts f h m) v b inner.place) rest c.find.ensures.reaches in
    let found = walk_found f h m sum xs b ys at inner c.loop-block.invariant (omega arith) enough c.find.ensures.at reaches in
    let whole = sym (cut bs i b c.loop-block-test.true c.block-item.is) in
    record {
      at = subst (λ (l : List g.row.T.Denot). IsAt f h l r) whole (subst (λ (v : At). IsAt f h (xs ++ (b ++ ys)) v) (sym c.behind.ensures) found.0);
      reaches = subst (λ (l : List g.row.T.Denot). Reaches (counts f h m) sum l r.place) whole (subst (λ (v : At). Reaches (counts f h m) sum (xs ++ (b ++ ys)) v.place) (sym c.behind.ensures) found.1);
    }

pub returns-clause-reaches : goal.returns-clause-reaches
returns-clause-reaches g c =
    let f = g.T.Measured.before in let h = g.T.Measured.after in let at = c.loop-block.at in let bs = c.args.blocks.now in
    let w = subst (λ (l : List g.row.T.Denot). Walk f h c.args.measure c.args.sum l at) (ap joined (take_all c.loop-block.block-index bs c.loop-block-test.false)) c.loop-block.invariant in
    (walk_end f h c.args.measure c.args.sum (joined bs) at w).1
