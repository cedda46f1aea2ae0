use Rattle.std.proofs.Common.{◌<◌, get_or, All, sym, ap, ◌∙◌, subst, arith}
use Rattle.sync_recip.specs.Lists.{entry_of}
use Rattle.server_memory.proofs.Others.{next_is, next_other, next_own}
use Rattle.server_memory.proofs.extending.extend_others.Goals as goal
use Rattle.server_memory.proofs.extending.extend_others.Goals.{then-place-own+in_ok-extend, else-place-own}

pub extend-requires : goal.extend-requires
extend-requires c =
    let n = c.loop-place.place in
    let d = c.index-idents-place.result in
    let x = entry_of c.args.entry.now in
    let here = ap (λ l. get_or l n d) c.loop-place.invariant ∙ next_is c.args.own c.args.version x n 0 c.args.idents.now d (omega arith) in
    subst (λ g. All (λ q. q.0 < c.args.version) g.reciprocal) (sym here) (c.requires n d (omega arith))

pub loop-place-preserved : goal.loop-place-preserved
loop-place-preserved c =
    let n = c.loop-place.place in
    let x = entry_of c.args.entry.now in
    elim c.if-place-own.branch [
      | then-place-own+in_ok-extend w ↦ w.idents-is ∙ next_other c.args.own c.args.version x n c.args.idents.now c.loop-place.idents w.index-idents-place.result w.extend.new.self (omega arith) w.if-place-own.true c.loop-place.invariant w.in_ok-extend.ensures.ok
      | else-place-own w ↦ w.idents-is ∙ next_own c.args.own c.args.version x n c.args.idents.now c.loop-place.idents (omega arith) w.if-place-own.false c.loop-place.invariant
    ]
