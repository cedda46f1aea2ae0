use Rattle.std.proofs.Common.{[], ◌∷◌, ◌++◌, take, sym, ap, ◌∙◌, subst, arith}
use Rattle.std.proofs.lemmas.List.{take_more}
use Rattle.long_sets.specs.Rows.{CrossInTurn}
use Rattle.long_sets.proofs.Homes.{part_at, part_sizes}
use Rattle.long_sets.proofs.Whole.{turn_goes_on}
use Rattle.long_sets.proofs.instrs.cross_each.Goals as goal

pub cross_next-requires-clause-within : goal.cross_next-requires-clause-within
cross_next-requires-clause-within c = omega (arith, part_sizes c.args.left.now c.args.lefts.now c.requires.left, c.loop-place-test.true)

pub cross_next-requires-clause-written : goal.cross_next-requires-clause-written
cross_next-requires-clause-written c = λ a d e.
    part_at c.args.left.now c.args.lefts.now c.loop-place.place c.index-left-place.result d a c.requires.left c.loop-place-test.true (sym c.index-left-place.is ∙ sym c.in_ok-now.ensures ∙ e)

pub loop-place-preserved : goal.loop-place-preserved
loop-place-preserved c =
    let xs = c.args.left.now in
    let i = c.loop-place.place in
    let y = c.in_ok-now.now in
    let z = c.cross_next.new.now in
    let more = take_more xs i c.index-left-place.result c.loop-place-test.true ∙ ap (λ x. take i xs ++ x ∷ []) (sym c.index-left-place.is ∙ sym c.in_ok-now.ensures) in
    let k = c.loop-place.invariant in
    let turn = turn_goes_on c.args.left_later (take i xs) y c.args.slots.now c.loop-place.slots c.cross_next.new.slots c.loop-place.rest.items z k.turn c.in_ok-cross_next.ensures.crosses in
    record {
      size = omega (arith, c.cross_next.auto.slots, k.size);
      listed = c.in_ok-cross_next.ensures.listed;
      turn = subst (λ l. CrossInTurn c.args.left_later l c.args.slots.now c.push.new.self.items c.cross_next.new.slots) (sym more) (subst (λ zs. CrossInTurn c.args.left_later (take i xs ++ y ∷ []) c.args.slots.now zs c.cross_next.new.slots) (sym c.in-Ok.ensures.items) turn);
    }
