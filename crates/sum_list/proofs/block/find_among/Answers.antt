use Rattle.std.proofs.Common.{◌≤◌, ◌+◌, ◌∷◌, [], List, take, drop, sym, ap, subst}
use Rattle.std.proofs.lemmas.List.{take_all}
use Rattle.sum_list.specs.Counts.{counts}
use Rattle.sum_list.specs.Places.{Reaches}
use Rattle.sum_list.proofs.Parts.{cut_list}
use Rattle.sum_list.proofs.Walks.{Walk, reached_with, sums_one, walk_at, walk_end}
use Rattle.sum_list.proofs.block.find_among.Goals as goal

pub returns-then-sum-by-clause-reaches : goal.returns-then-sum-by-clause-reaches
returns-then-sum-by-clause-reaches g c =
    let f = g.T.Measured.before in let h = g.T.Measured.after in let m = c.args.measure in let sum = c.args.sum in
    let items = c.args.items.now in let i = c.loop-item.item-index in let at = c.loop-item.at in let x = c.item-item.result in
    let e = c.extent.result in let one = c.extent.ensures in let is = one.extent in
    let single = sums_one f h x e (ap (λ v. v.place) is) (ap (λ v. v.before) is) (ap (λ v. v.after) is) one.short.0 one.short.1 in
    let enough = reached_with f h m sum (take i items) (x ∷ []) at e c.behind-end.result c.loop-item.invariant.sums single c.behind-end.ensures (subst (λ v. sum ≤ v) c.by.ensures c.if-sum-by.true) in
    subst (λ (l : List g.row.T.Denot). Reaches (counts f h m) sum l at.place) (sym (cut_list items i x c.loop-item-test.true c.item-item.is))
    (walk_at f h m sum (take i items) x (drop (i + 1) items) at c.loop-item.invariant enough)

pub returns-clause-reaches : goal.returns-clause-reaches
returns-clause-reaches g c =
    let f = g.T.Measured.before in let h = g.T.Measured.after in let at = c.loop-item.at in let items = c.args.items.now in
    let w = subst (λ (l : List g.row.T.Denot). Walk f h c.args.measure c.args.sum l at) (take_all c.loop-item.item-index items c.loop-item-test.false) c.loop-item.invariant in
    (walk_end f h c.args.measure c.args.sum items at w).1
