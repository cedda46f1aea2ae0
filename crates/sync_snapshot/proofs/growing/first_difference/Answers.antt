use Rattle.std.proofs.Common.{◌≡◌, ◌-◌, length, Some, sym, ap, ◌∙◌, arith}
use Rattle.sync_snapshot.proofs.Applied.{differs_from, differs_here, differs_on, goes_further}
use Rattle.sync_snapshot.proofs.growing.first_difference.Goals as goal

pub returns-then-not-branch : goal.returns-then-not-branch
returns-then-not-branch c =
    sym (c.loop-place.invariant ∙ differs_here c.loop-place.place c.args.parts.now c.args.built.now c.index-parts-place.result c.loop-place-test.true c.index-parts-place.is (sym c.in_ok-is_at.ensures ∙ c.if-not-branch.true))

pub loop-place-preserved : goal.loop-place-preserved
loop-place-preserved c =
    c.loop-place.invariant ∙ differs_on c.loop-place.place c.args.parts.now c.args.built.now c.index-parts-place.result c.loop-place-test.true c.index-parts-place.is (sym c.in_ok-is_at.ensures ∙ c.if-not-branch.false)

pub returns-then-parts-built : goal.returns-then-parts-built
returns-then-parts-built c =
    let at_end : c.loop-place.place ≡ length c.args.parts.now = omega (arith, c.loop-place-test.false, c.loop-place.auto.place-end) in
    let last : c.saturating_sub.result ≡ length c.args.parts.now - 1 = omega (arith, c.saturating_sub.ensures) in
    ap Some last ∙ sym (c.loop-place.invariant ∙ ap (λ k. differs_from k c.args.parts.now c.args.built.now) at_end ∙ goes_further c.args.parts.now c.args.built.now c.if-parts-built.true)
