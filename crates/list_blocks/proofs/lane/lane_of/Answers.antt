use Rattle.std.proofs.Common.{◌∷◌, [], ◌++◌, take, sym, ap, ◌∙◌, subst}
use Rattle.std.proofs.lemmas.List.{take_more, take_all}
use Rattle.list_blocks.specs.Blocks.{ActsAs, Tells}
use Rattle.list_blocks.proofs.Passing.{none_told, one_more}
use Rattle.list_blocks.proofs.lane.lane_of.Goals as goal

pub loop-instr-preserved : goal.loop-instr-preserved
loop-instr-preserved c =
    let i = c.instr-item.result in
    let op = c.in_ok-op.op in
    let k = c.loop-instr.instr-index in
    let is = c.args.instrs.now in
    let more = take_more is k i c.loop-instr-test.true ∙ ap (λ x. take k is ++ x ∷ []) (sym c.instr-item.is) in
    let acts = subst (λ n. ActsAs c.args.cell.now n i op) c.last.ensures c.in_ok-op.ensures.acts in
    let next = one_more c.args.cell.now c.args.stamp i op (take k is) c.loop-instr.lane c.in_ok-op.ensures.stamp acts c.loop-instr.invariant in
    subst (λ l. Tells c.args.cell.now c.args.stamp l c.push.new.self) (sym more) (subst (Tells c.args.cell.now c.args.stamp (take k is ++ i ∷ [])) (sym c.in-Ok.ensures.ok) next)
