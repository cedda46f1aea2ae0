use Rattle.std.proofs.Common.{◌≡◌, ◌<◌, ◌∷◌, [], ◌++◌, length, length-take, take, sym, ap, ◌∙◌, arith}
use Rattle.std.proofs.lemmas.List.{take_more}
use Rattle.long_sets.specs.Parts.{together}
use Rattle.long_sets.proofs.Parts.{together_more}
use Rattle.long_sets.proofs.lists.join.Goals as goal

pub loop-place-preserved : goal.loop-place-preserved
loop-place-preserved c =
    let xs = c.args.first.now in
    let ys = c.args.second.now in
    let k = c.loop-place.place in
    let x = c.index-first-place.result in
    let y = c.index-second-place.result in
    let there : k < length ys = omega (arith, c.loop-place-test.true, c.if-first-second.false) in
    let more = take_more xs k x c.loop-place-test.true ∙ ap (λ z. take k xs ++ z ∷ []) (sym c.index-first-place.is) in
    let other = take_more ys k y there ∙ ap (λ z. take k ys ++ z ∷ []) (sym c.index-second-place.is) in
    let same : length (take k xs) ≡ length (take k ys) = omega (arith, length-take k xs, length-take k ys, c.loop-place-test.true, there) in
    c.in-Ok.ensures.items
    ∙ (λ i. c.loop-place.invariant i ++ c.in_ok-slot.ensures i ∷ [])
    ∙ sym (together_more (take k xs) (take k ys) x y same)
    ∙ (λ i. together (sym more i) (sym other i))
