-- What is read of the history, from a version on.
use Rattle.std.proofs.Common.{◌≡◌, ℕ, ◌+◌, ◌-◌, ◌≤◌, List, [], ◌∷◌, drop, Some, None, refl, sym, ap, ◌∙◌, arith}
use Rattle.std.specs.Prelude.{slice_get, if◌then◌else◌}
use Rattle.std.proofs.lemmas.Bool.{le-ltb}
use Rattle.sync_theory.specs.Changesets.{Changeset}
use Rattle.sync_data.specs.declared.instr.Instr.{Instr}
use Rattle.sync_model.specs.Trimmed.{entry_records}
use Rattle.sync_model.specs.Worlds.{at}
use Rattle.sync_exchange.specs.Profile.{the_profile}
use Rattle.server_memory.specs.Readers.{item_from}
use Rattle.sync_trim.proofs.Pieces.{at_some, at_none, get_at}

pub from_floor : {A : Type 0} (floor v : ℕ) (xs : List A) → floor ≤ v → item_from floor xs v ≡ at xs (v - floor)
from_floor floor v xs h = ap (λ b. if b then None else slice_get xs (v - floor)) (le-ltb v floor h) ∙ get_at xs (v - floor)

pub item_some : {A : Type 0} (floor v : ℕ) (xs : List A) (x : A) → floor ≤ v → Some x ≡ item_from floor xs v → drop (v - floor) xs ≡ x ∷ drop (v + 1 - floor) xs
item_some floor v xs x h e =
    let n : v - floor + 1 ≡ v + 1 - floor = omega (arith, h) in
    at_some xs (v - floor) x (sym (from_floor floor v xs h) ∙ sym e) ∙ ap (λ k. x ∷ drop k xs) n

pub item_none : {A : Type 0} (floor v : ℕ) (xs : List A) → floor ≤ v → None ≡ item_from floor xs v → drop (v - floor) xs ≡ []
item_none floor v xs h e = at_none xs (v - floor) (sym (from_floor floor v xs h) ∙ sym e)

-- where there are no more entries, or no more bases
pub no_entries : (xs : List (Changeset Instr)) (bs : List ℕ) → xs ≡ [] → entry_records the_profile xs bs ≡ []
no_entries xs bs e = ap (λ l. entry_records the_profile l bs) e

pub no_bases : (xs : List (Changeset Instr)) (bs : List ℕ) → bs ≡ [] → entry_records the_profile xs bs ≡ []
no_bases xs bs e = ap (λ l. entry_records the_profile xs l) e ∙ on xs
  where
    on : (xs : List (Changeset Instr)) → entry_records the_profile xs [] ≡ []
    on [] = refl
    on (x ∷ xs) = refl
