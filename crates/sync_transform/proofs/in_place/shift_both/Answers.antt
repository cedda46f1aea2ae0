use Rattle.std.proofs.Common.{Some, Ok, refl, sym, ◌∙◌}
use Rattle.sync_transform.proofs.InPlace.{lists_meet}
use Rattle.sync_transform.proofs.in_place.shift_both.Goals as goal

pub returns-clause-both : goal.returns-clause-both
returns-clause-both c = λ told.
    lists_meet c.args.left_later c.in-Some-Some.action c.in-Some-Some.other c.in-Some.moves c.args.left.now c.args.right.now c.in-Some.ensures (sym c.in-Some-Some.ensures) (sym c.in-Some-Some.ensures') (c.if-not-are_of_one_cell.ensures refl)
    ∙ (λ i. Ok (Some (sym c.put_action.ensures i), Some (sym c.put_action-2.ensures i)))
