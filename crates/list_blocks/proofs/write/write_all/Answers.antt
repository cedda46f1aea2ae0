use Rattle.std.proofs.Common.{◌+◌, ◌∷◌, ◌++◌, take, drop, sym, ap, ◌∙◌, subst, arith}
use Rattle.std.proofs.lemmas.List.{drop_more, drop_all}
use Rattle.list_blocks.specs.Blocks.{acted}
use Rattle.list_blocks.proofs.Writing.{next_of, no_instr, all_written, next_fell, next_written}
use Rattle.list_blocks.proofs.write.write_all.Goals.{in-Some, in_default}
use Rattle.list_blocks.proofs.write.write_all.Goals as goal

pub loop-read-preserved : goal.loop-read-preserved
loop-read-preserved c =
    let xs = c.args.actions.now in
    let is = c.loop-read.instrs in
    let k = c.loop-read.count in
    let r = c.loop-read.read in
    let whole = acted xs c.args.instrs.now in
    let next = next_of is r c.loop-read-test.true in
    elim c.match-actions-read.branch [
      | in-Some w ↦ (
          let at = drop_more xs r _ c.if-read-actions.true ∙ ap (λ y. y ∷ drop (r + 1) xs) w.in-Some.is in
          let front = ap (λ n. take n w.write_at.new.instrs) w.count-is ∙ w.write_at.ensures.front next.0 next.1 in (
            (λ j. take c.match-actions-read.count (w.instrs-is j) ++ acted (drop (r + 1) xs) (drop (r + 1) (w.instrs-is j)))
                ∙ next_written (take k is) whole (drop r xs) (drop (r + 1) xs) (drop r is) (drop (r + 1) is) next.0 w.in-Some.action (take c.match-actions-read.count w.write_at.new.instrs) (drop (r + 1) w.write_at.new.instrs) at next.1 front w.write_at.ensures.rest c.loop-read.invariant.0,
            omega arith,
          ))
      | in_default w ↦ (
          let at = drop_more xs r _ c.if-read-actions.true ∙ ap (λ y. y ∷ drop (r + 1) xs) w.in_default.is in (
            (λ j. take (w.count-is j) (w.instrs-is j) ++ acted (drop (r + 1) xs) (drop (r + 1) (w.instrs-is j)))
                ∙ next_fell (take k is) whole (drop r xs) (drop (r + 1) xs) (drop r is) (drop (r + 1) is) next.0 at next.1 c.loop-read.invariant.0,
            omega arith,
          ))
    ]

pub returns-after-loop-read : goal.returns-after-loop-read
returns-after-loop-read c =
    let xs = c.args.actions.now in
    let is = c.loop-read.instrs in
    let r = c.loop-read.read in
    all_written (take c.loop-read.count is) (acted (drop r xs) (drop r is)) (acted xs c.args.instrs.now) c.loop-read.invariant.0 (no_instr (drop r xs) (drop r is) (drop_all r is c.loop-read-test.false))
