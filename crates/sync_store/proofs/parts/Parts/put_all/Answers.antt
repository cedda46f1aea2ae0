use Rattle.std.proofs.Common.{◌≡◌, ◌+◌, length, arith, sym, subst}
use Rattle.sync_maps.specs.Answers.{was_ok}
use Rattle.sync_store.proofs.Acting.{Goes, goes_on, stands_before, stands_last}
use Rattle.sync_store.proofs.parts.Parts.put_all.Goals as goal

pub loop-place-preserved : goal.loop-place-preserved
loop-place-preserved c =
    let h = c.in-Ok.ensures in
    let kept = was_ok c.keep.result c.if-is_err.ensures.value c.keep.ensures in
    let stands = stands_before c.args.instrs.now c.in-Some.others.now c.loop-place.place c.in-Some.last.now c.index-others-place.result c.in-Some.ensures.cases c.loop-place-test.true c.index-others-place.is in
    subst (λ us. Goes c.args.instrs.now c.args.self.now c.apply.new.self (c.loop-place.place + 1) us) (sym kept)
    (goes_on c.args.instrs.now c.args.self.now c.loop-place.self c.apply.new.self c.loop-place.place c.loop-place.undos.items c.index-others-place.result c.in-Ok.undo c.loop-place.invariant stands.0 stands.1 h.unbroken h.placed h.after h.back h.grows)

pub returns-in-Ok-apply-clause-small : goal.returns-in-Ok-apply-clause-small
returns-in-Ok-apply-clause-small c =
    let h = c.in-Ok-apply.ensures in
    let at_end : c.loop-place.place ≡ length c.in-Some.others.now = omega arith in
    let stands = stands_last c.args.instrs.now c.in-Some.others.now c.loop-place.place c.in-Some.last.now c.in-Some.ensures.cases at_end in
    (goes_on c.args.instrs.now c.args.self.now c.loop-place.self c.apply-2.new.self c.loop-place.place c.loop-place.undos.items c.in-Some.last.now c.in-Ok-apply.undo c.loop-place.invariant stands.0 stands.1 h.unbroken h.placed h.after h.back h.grows).small
