use Rattle.std.proofs.Common.{◌≡◌, List, [], ◌∷◌, ◌++◌, append_assoc, append-nil, Option, sym, ap, ◌∙◌}
use Rattle.sync_theory.specs.Lists.{kept}
use Rattle.slot_law.specs.Slots.{alive}
use Rattle.long_sets.proofs.instrs.alive_of.Goals as goal

one_more : {I : Type 0} (xs : List (Option I)) (x : Option I) → alive (xs ++ x ∷ []) ≡ alive xs ++ kept x
one_more [] x = append-nil (kept x)
one_more (y ∷ xs) x = ap (λ l. kept y ++ l) (one_more xs x) ∙ sym (append_assoc (kept y) (alive xs) (kept x))

pub loop-slot-preserved-in-Ok-1 : goal.loop-slot-preserved-in-Ok-1
loop-slot-preserved-in-Ok-1 c =
    c.in-Ok.ensures.items
    ∙ (λ i. c.loop-slot.invariant i ++ kept (sym c.in-Some-slot.is i))
    ∙ sym (one_more c.loop-slot.yielded c.in-Some.slot)

pub loop-slot-preserved : goal.loop-slot-preserved
loop-slot-preserved c =
    c.loop-slot.invariant
    ∙ sym (append-nil (alive c.loop-slot.yielded))
    ∙ (λ i. alive c.loop-slot.yielded ++ kept (sym c.in_default.is i))
    ∙ sym (one_more c.loop-slot.yielded c.in-Some.slot)
