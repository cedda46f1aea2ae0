use Rattle.std.proofs.Common.{◌∷◌, [], ◌++◌, take, refl, sym, ap, ◌∙◌, subst}
use Rattle.std.proofs.lemmas.List.{take_more}
use Rattle.sync_base.specs.Effects.{path_of}
use Rattle.long_sets.specs.Parts.{others_of, AllStrangers}
use Rattle.long_sets.proofs.Parts.{strangers_more}
use Rattle.long_sets.proofs.strangers.are_strangers.Goals as goal

pub loop-slot-preserved : goal.loop-slot-preserved
loop-slot-preserved c =
    let p = path_of c.args.cell.now in
    let xs = c.args.slots.now in
    let k = c.loop-slot.slot-index in
    let x = c.slot-item.result in
    let more = take_more xs k x c.loop-slot-test.true ∙ ap (λ y. take k xs ++ y ∷ []) (sym c.slot-item.is) in
    subst (λ l. AllStrangers p (others_of p l)) (sym more) (strangers_more p (take k xs) x c.loop-slot.invariant (c.if-not-stays.ensures refl))
