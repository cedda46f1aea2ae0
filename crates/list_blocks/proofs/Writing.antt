-- Instructions are written at the front of their list, one after another. They are no more then, and about the same objects.
use Rattle.std.proofs.Common.{◌≡◌, ℕ, suc, ◌+◌, ◌≤◌, ◌<◌, List, [], ◌∷◌, ◌++◌, append_assoc, append-nil, length, drop, get_or, arith, Option, Some, None, refl, sym, ap, ◌∙◌, subst}
use Rattle.std.proofs.lemmas.List.{drop_more}
use Rattle.std.specs.List.{sum_by}
use Rattle.std.proofs.lemmas.List.Sums.{sum_by-cons}
use Rattle.sync_data.specs.declared.instr.Instr.{Instr}
use Rattle.sync_data.specs.Payload.{payload, IsSmall}
use Rattle.sync_base.specs.Effects.{effect_of}
use Rattle.sync_base.specs.Objects.{object_of}
use Rattle.sync_index.specs.Touched.{Touched, touches, Covers}
use Rattle.list_places.specs.Moves.{moved}
use Rattle.list_places.specs.declared.moves.ListAction.{ListAction}
use Rattle.list_places.proofs.Stands.{same_elsewhere}
use Rattle.list_blocks.specs.Blocks.{acted}

-- the element at a place
pub next_of : {A : Type 0} (xs : List A) (n : ℕ) → n < length xs → (x : A) × (drop n xs ≡ x ∷ drop (n + 1) xs)
next_of [] n h = absurd (omega (arith, h))
next_of (x ∷ xs) n h = (get_or (x ∷ xs) n x, drop_more (x ∷ xs) n x h)

-- nothing is left to read
pub no_instr : (xs : List (Option ListAction)) (is : List Instr) → is ≡ [] → acted xs is ≡ []
no_instr xs is e = ap (acted xs) e ∙ none xs
  where
    none : (xs : List (Option ListAction)) → acted xs [] ≡ []
    none [] = refl
    none (x ∷ xs) = refl

pub no_action : (xs : List (Option ListAction)) (is : List Instr) → xs ≡ [] → acted xs is ≡ []
no_action xs is e = ap (λ ys. acted ys is) e

pub all_written : (front rest whole : List Instr) → front ++ rest ≡ whole → rest ≡ [] → front ≡ whole
all_written front rest whole h e = sym (append-nil front) ∙ ap (λ l. front ++ l) (sym e) ∙ h

module _ (front whole : List Instr) (xs ys : List (Option ListAction)) (is js : List Instr) (i : Instr) where
  -- the next one fell
  pub next_fell : xs ≡ None ∷ ys → is ≡ i ∷ js → front ++ acted xs is ≡ whole → front ++ acted ys js ≡ whole
  next_fell e f h = (λ k. front ++ acted (sym e k) (sym f k)) ∙ h

  -- it is written
  pub next_written : (a : ListAction) (more behind : List Instr) → xs ≡ Some a ∷ ys → is ≡ i ∷ js → more ≡ front ++ moved a i ∷ [] → behind ≡ js → front ++ acted xs is ≡ whole → more ++ acted ys behind ≡ whole
  next_written a more behind e f m b h =
      (λ k. m k ++ acted ys (b k))
      ∙ append_assoc front (moved a i ∷ []) (acted ys js)
      ∙ (λ k. front ++ acted (sym e k) (sym f k))
      ∙ h

-- ---- what is left
no_longer : (xs : List (Option ListAction)) (is : List Instr) → length (acted xs is) ≤ length is
no_longer [] is = omega arith
no_longer (x ∷ xs) [] = omega arith
no_longer (None ∷ xs) (i ∷ is) = let h = no_longer xs is in omega (arith, h)
no_longer (Some a ∷ xs) (i ∷ is) = let h = no_longer xs is in omega (arith, h)

no_heavier : (xs : List (Option ListAction)) (is : List Instr) → sum_by payload (acted xs is) ≤ sum_by payload is
no_heavier [] is = omega arith
no_heavier (x ∷ xs) [] = omega arith
no_heavier (None ∷ xs) (i ∷ is) = let h = no_heavier xs is in omega (arith, h, sum_by-cons payload i is)
no_heavier (Some a ∷ xs) (i ∷ is) =
    let h = no_heavier xs is in
    let same : payload (moved a i) ≡ payload i = same_elsewhere payload (λ c v s t. refl) (λ c s t. refl) (λ c v s t. refl) a i in
    omega (arith, h, same, sum_by-cons payload i is, sum_by-cons payload (moved a i) (acted xs is))

pub still_small : (xs : List (Option ListAction)) (is : List Instr) → IsSmall is → IsSmall (acted xs is)
still_small xs is h = let n = no_longer xs is in let w = no_heavier xs is in (omega (arith, h.0, n), omega (arith, h.1, w))

pub still_covered : (t : Touched) (xs : List (Option ListAction)) (is : List Instr) → Covers t is → Covers t (acted xs is)
still_covered t [] is h = tt
still_covered t (x ∷ xs) [] h = tt
still_covered t (None ∷ xs) (i ∷ is) h = still_covered t xs is h.1
still_covered t (Some a ∷ xs) (i ∷ is) h = (ap (touches t) (same_elsewhere (λ j. object_of (effect_of j)) (λ c v s t. refl) (λ c s t. refl) (λ c v s t. refl) a i) ∙ h.0, still_covered t xs is h.1)
