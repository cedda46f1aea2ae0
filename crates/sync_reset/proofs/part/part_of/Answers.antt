use Rattle.std.proofs.Common.{◌≡◌, ◌+◌, List, length, drop, ap, ◌∙◌, subst, arith}
use Rattle.sync_data.specs.declared.instr.Instr.{Instr}
use Rattle.sync_reset.specs.Parts.{AreAlikeFor}
use Rattle.sync_reset.proofs.Brought.{Brings, brings_on}
use Rattle.sync_reset.proofs.Tried.{cut_at, none_left}
use Rattle.sync_reset.proofs.part.part_of.Goals as goal

pub loop-instr-preserved : goal.loop-instr-preserved
loop-instr-preserved c =
    let s = c.args.objects.now in
    let items = c.instrs-instr-items.result.now in
    let index = c.loop-instr.instr-index in
    let i = c.instr-item.result in
    let cut = cut_at index items i c.loop-instr-test.true c.instr-item.is in
    let before = subst (λ (rest : List Instr). Brings c.loop-instr.part s items rest) cut c.loop-instr.invariant.1 in (
      c.in_ok-bring_named.ensures.part,
      brings_on c.loop-instr.part c.bring_named.new.part s i items (drop (index + 1) items) before c.in_ok-bring_named.ensures.others c.in_ok-bring_named.ensures.brought,
    )

pub returns-clause-objects : goal.returns-clause-objects
returns-clause-objects c =
    let s = c.args.objects.now in
    let items = c.instrs-instr-items.result.now in
    let part = c.loop-instr.part in
    let at_end : c.loop-instr.instr-index ≡ length items = omega (arith, c.loop-instr-test.false, c.loop-instr.auto.instr-index-end) in
    let left = ap (λ k. drop k items) at_end ∙ none_left items in
    let brings = subst (λ (rest : List Instr). Brings part s items rest) left c.loop-instr.invariant.1 in
    subst (AreAlikeFor part s) c.instrs-instr-items.ensures.listed (brings part (λ o h. h) tt)
