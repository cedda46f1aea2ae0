use Rattle.std.proofs.Common.{refl, ◌≡◌, Option, Some, None, true≢false, sym}
use Rattle.uuid.specs.Text.{parsed}
use Rattle.sync_value_text.proofs.fields.id_of_text.Goals as goal

nothing_given : {A : Type 0} (o : Option A) → ((x : A) → o ≡ Some x → ⊥) → o ≡ None
nothing_given (Some x) none = absurd (none x refl)
nothing_given None none = refl

pub returns-in-Err : goal.returns-in-Err
returns-in-Err c = (refl, nothing_given (parsed c.args.text.now) (λ x is. true≢false (sym (c.in-Err.ensures.ok.1 (x, is)))))
