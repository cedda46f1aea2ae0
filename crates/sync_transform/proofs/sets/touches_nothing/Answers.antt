use Rattle.std.proofs.Common.{◌++◌, ◌∷◌, [], sym, ◌∙◌, ap, subst, take, arith}
use Rattle.std.proofs.lemmas.List.{take_more, take_all}
use Rattle.sync_index.specs.Spots.{Misses}
use Rattle.sync_transform.proofs.Covered.{more_missed}
use Rattle.sync_transform.proofs.sets.touches_nothing.Goals as goal

pub loop-instr-preserved : goal.loop-instr-preserved
loop-instr-preserved c =
    let more = take_more c.instrs-instr-items.result.now c.loop-instr.instr-index c.instr-item.result c.loop-instr-test.true ∙ ap (λ x. take c.loop-instr.instr-index c.instrs-instr-items.result.now ++ x ∷ []) (sym c.instr-item.is) in
    subst (Misses c.args.index.now) (sym more) (more_missed c.args.index.now (take c.loop-instr.instr-index c.instrs-instr-items.result.now) c.instr-item.result c.loop-instr.invariant (sym c.may_touch.ensures.value ∙ c.if-may_touch.false))

pub returns : goal.returns
returns c = λ _.
    let all = take_all c.loop-instr.instr-index c.instrs-instr-items.result.now (omega arith) ∙ c.instrs-instr-items.ensures.listed in
    subst (Misses c.args.index.now) all c.loop-instr.invariant
