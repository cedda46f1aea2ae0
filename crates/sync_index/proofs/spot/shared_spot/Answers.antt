use Rattle.std.proofs.Common.{◌≡◌, ◌<◌, Some, ◌++◌, ◌∷◌, [], sym, ◌∙◌, ap, subst, take, length, arith}
use Rattle.std.proofs.lemmas.List.{take_more}
use Rattle.sync_index.specs.Spots.{spot_in, AllAt}
use Rattle.sync_index.proofs.Spotted.{one_more_at, at_place, is_spot, no_spot}
use Rattle.sync_index.proofs.spot.shared_spot.Goals as goal

pub returns-then-ne-clause-none : goal.returns-then-ne-clause-none
returns-then-ne-clause-none c = λ spot _ all.
    let instrs = c.args.instrs.now in
    let within : c.loop-instr.instr-index < length instrs = c.loop-instr-test.true in
    let first = c.in_ok-first.field-0.now in
    let here : Some c.in_ok-spot.spot ≡ Some spot = c.in_ok-spot.ensures ∙ ap spot_in c.in_ok-first.ensures.item.1 ∙ at_place spot instrs 0 first (omega arith) all in
    absurd (no_spot c.spot_in-in-loop-instr.result c.in_ok-spot.spot c.if-ne.ensures
    (c.spot_in-in-loop-instr.ensures ∙ ap spot_in c.instr-item.is ∙ at_place spot instrs c.loop-instr.instr-index c.instr-item.result within all ∙ sym here))

pub loop-instr-preserved : goal.loop-instr-preserved
loop-instr-preserved c =
    let instrs = c.args.instrs.now in
    let more = take_more instrs c.loop-instr.instr-index c.instr-item.result c.loop-instr-test.true ∙ ap (λ x. take c.loop-instr.instr-index instrs ++ x ∷ []) (sym c.instr-item.is) in
    subst (AllAt c.in_ok-spot.spot) (sym more)
    (one_more_at c.in_ok-spot.spot (take c.loop-instr.instr-index instrs) c.instr-item.result c.loop-instr.invariant (sym c.spot_in-in-loop-instr.ensures ∙ is_spot c.spot_in-in-loop-instr.result c.in_ok-spot.spot c.if-ne.ensures))
