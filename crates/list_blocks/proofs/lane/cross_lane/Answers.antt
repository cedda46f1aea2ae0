use Rattle.std.proofs.Common.{◌≡◌, ◌+◌, ◌∷◌, [], ◌++◌, length, length-append, length-take, take, arith, refl, sym, ap, ◌∙◌, subst}
use Rattle.std.proofs.lemmas.List.{take_more, take_all}
use Rattle.list_lane.specs.Lanes.{length_at_end}
use Rattle.list_blocks.specs.Blocks.{slot_action, ActsAs, CrossesBlock}
use Rattle.list_blocks.proofs.Passing.{none_crosses, next_crosses}
use Rattle.list_blocks.proofs.lane.cross_lane.Goals as goal

pub loop-instr-init : goal.loop-instr-init
loop-instr-init c =
    (subst (λ xs. CrossesBlock c.args.cell.now c.args.stamp [] xs c.args.lane.now c.args.lane.now) (sym c.new-left.ensures.items) (none_crosses c.args.cell.now c.args.stamp c.args.lane.now), ap length c.new-left.ensures.items)

pub loop-instr-preserved : goal.loop-instr-preserved
loop-instr-preserved c =
    let i = c.instr-item.result in
    let op = c.in_ok-op.op in
    let k = c.loop-instr.instr-index in
    let is = c.args.instrs.now in
    let xs = c.loop-instr.left.items in
    let a = c.loop-instr.lane in
    let more = take_more is k i c.loop-instr-test.true ∙ ap (λ x. take k is ++ x ∷ []) (sym c.instr-item.is) in
    let acts = subst (λ n. ActsAs c.args.cell.now n i op) c.first.ensures.is c.in_ok-op.ensures.acts in
    let same : length xs ≡ length (take k is) = omega (arith, length-take k is, c.loop-instr.invariant.1, c.loop-instr-test.true) in
    let next = next_crosses c.args.cell.now c.args.stamp (take k is) xs c.args.lane.now a c.cross.new.self i op c.in-Ok.rest same c.loop-instr.invariant.0 c.in_ok-op.ensures.stamp acts (c.in-Ok.ensures.on_right refl) c.in-Ok.ensures.lane in
    let items = c.in-Ok-push.ensures.items ∙ (λ j. xs ++ (c.action_told.ensures ∙ ap (λ n. slot_action n c.in-Ok.rest) c.last-end.ensures) j ∷ []) in (
      subst (λ ys. CrossesBlock c.args.cell.now c.args.stamp (take (k + 1) is) ys c.args.lane.now c.cross.new.self) (sym items) (subst (λ l. CrossesBlock c.args.cell.now c.args.stamp l (xs ++ slot_action (length_at_end a.first a.slots) c.in-Ok.rest ∷ []) c.args.lane.now c.cross.new.self) (sym more) next),
      omega (arith, ap length c.in-Ok-push.ensures.items, length-append xs (c.action_told.result ∷ []), c.loop-instr.invariant.1),
    )
