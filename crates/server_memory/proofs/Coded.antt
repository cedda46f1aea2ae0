-- Crossing with mismatches by their numbers is crossing, and then the number.
use Rattle.std.proofs.Common.{◌≡◌, ℕ, List, Result, Ok, Err, IfOk, IfErr, refl, ap, ◌∙◌, subst}
use Rattle.sync_data.specs.declared.instr.Instr.{Instr}
use Rattle.sync_base.specs.declared.answers.Mismatch.{Mismatch}
use Rattle.sync_base.specs.Codes.{mismatch_code}
use Rattle.sync_theory.specs.Grid.{carry}
use Rattle.sync_theory.specs.Changesets.{Changeset, cross_sets}
use Rattle.sync_theory.specs.Reciprocals.{from_base}
use Rattle.sync_data.specs.Payload.{Changes}
use Rattle.sync_transform.specs.Sets.{made_by}
use Rattle.sync_recip.specs.Carrying.{Carrying, Fits, entries_of, IsStuckBy}
use Rattle.sync_recip.specs.declared.refusal.RecipRefusal.{RecipRefusal}
use Rattle.sync_recip.specs.declared.refusal.RecipRefusal.TheVariants as uncarried
use Rattle.sync_law.specs.Instrs.{meet}
use Rattle.sync_exchange.specs.Lemmas.Coded.{carry_coded, coded_sets}
use Rattle.server_memory.specs.Merging.{carried_as, crossing, Carries}

pub carries_by_code : (own number : ℕ) (v : Changes) (base : ℕ) (c : Carrying) (found list : List (ℕ × Changeset Instr)) → found ≡ list → carry (cross_sets meet) (made_by own number v) (from_base base found) ≡ Ok (made_by own number c.changes, entries_of c found) → c.base ≡ base → Fits c found
    → (crossing own number v base list ≡ Ok (made_by own number c.changes, entries_of c list)) × (c.base ≡ base) × Fits c list
carries_by_code own number v base c found list e ok b fits =
    subst (λ l. (crossing own number v base l ≡ Ok (made_by own number c.changes, entries_of c l)) × (c.base ≡ base) × Fits c l) e
    (carry_coded (from_base base found) (made_by own number v) ∙ ap coded_sets ok, b, fits)

pub stuck_by_code : (own number : ℕ) (v : Changes) (base place right : ℕ) (kind : Mismatch) (found list : List (ℕ × Changeset Instr)) → found ≡ list → carry (cross_sets meet) (made_by own number v) (from_base base found) ≡ Err (place, right, kind) → crossing own number v base list ≡ Err (place, right, mismatch_code kind)
stuck_by_code own number v base place right kind found list e stuck =
    subst (λ l. crossing own number v base l ≡ Err (place, right, mismatch_code kind)) e (carry_coded (from_base base found) (made_by own number v) ∙ ap coded_sets stuck)

pub carried_answers : (own number : ℕ) (v : Changes) (base : ℕ) (found list : List (ℕ × Changeset Instr)) → found ≡ list → (r : Result Carrying RecipRefusal)
    → IfOk r (λ c. (m : ℕ) → carry (cross_sets meet) (made_by own m v) (from_base base found) ≡ Ok (made_by own m c.changes, entries_of c found))
    → IfOk r (λ c. c.base ≡ base) → IfOk r (λ c. Fits c found)
    → IfErr r (λ e. (m : ℕ) → IsStuckBy e (carry (cross_sets meet) (made_by own m v) (from_base base found))) → Carries (carried_as r) own number v base list
carried_answers own number v base found list e (Ok c) ok b fits stuck = carries_by_code own number v base c found list e (ok number) b fits
carried_answers own number v base found list e (Err (uncarried.Mismatch place kind)) ok b fits stuck =
    ((place, (stuck number).right, mismatch_code kind), stuck_by_code own number v base place (stuck number).right kind found list e (stuck number).is, refl)
carried_answers own number v base found list e (Err uncarried.NoMemory) ok b fits stuck = tt
