-- The entries of others, as an ident's changes cross them, entry by entry.
use Rattle.std.proofs.Common.{◌≡◌, ◌≢◌, ℕ, suc, ◌+◌, ◌<◌, ◌≤◌, ◌==◌, Bool, true, false, ◌&&◌, List, [], ◌∷◌, ◌++◌, length, All, Option, Some, None, if◌then◌else◌, nat_lt, refl, ap, ◌∙◌, arith}
use Rattle.std.proofs.lemmas.Bool.{eq-eqb, ne_eqb, eqb-false, lt-ltb, le-ltb}
use Rattle.std.proofs.lemmas.List.Elements.{All-nil, All-cons, All-head, All-tail}
use Rattle.sync_theory.specs.Changesets.{Changeset}
use Rattle.sync_model.specs.Fronts.{Passed, instrs_at, pairs_of, with_pairs}
use Rattle.sync_model.specs.Parts.{Given, list_kept}
use Rattle.sync_model.specs.Trims.{pairs_from}

module _ {I : Type 0} where
  abbrev pub pair_at : ℕ → ℕ → List (Passed I) → Changeset I → ℕ × Changeset I
  pair_at c v qs x = (v, record x { instrs = instrs_at c v qs x.instrs })

  pub pair_own : (c v m : ℕ) (x : Changeset I) (xs : List (Changeset I)) (qs : List (Passed I)) → x.origin ≡ c → pairs_from m (pairs_of c v (x ∷ xs) qs) ≡ pairs_from m (pairs_of c (suc v) xs qs)
  pair_own c v m x xs qs e = ap (λ t. pairs_from m ((if t then [] else pair_at c v qs x ∷ []) ++ pairs_of c (suc v) xs qs)) (eq-eqb x.origin c e)

  pub pair_early : (c v m : ℕ) (x : Changeset I) (xs : List (Changeset I)) (qs : List (Passed I)) → v < m → pairs_from m (pairs_of c v (x ∷ xs) qs) ≡ pairs_from m (pairs_of c (suc v) xs qs)
  pair_early c v m x xs qs h = on (x.origin == c)
    where
      on : (t : Bool) → pairs_from m ((if t then [] else pair_at c v qs x ∷ []) ++ pairs_of c (suc v) xs qs) ≡ pairs_from m (pairs_of c (suc v) xs qs)
      on true = refl
      on false = ap (λ t. if t then pairs_from m (pairs_of c (suc v) xs qs) else pair_at c v qs x ∷ pairs_from m (pairs_of c (suc v) xs qs)) (lt-ltb v m h)

  pub pair_next : (c v m : ℕ) (x : Changeset I) (xs : List (Changeset I)) (qs : List (Passed I)) → x.origin ≢ c → m ≤ v → pairs_from m (pairs_of c v (x ∷ xs) qs) ≡ pair_at c v qs x ∷ pairs_from m (pairs_of c (suc v) xs qs)
  pair_next c v m x xs qs ne h =
      ap (λ t. pairs_from m ((if t then [] else pair_at c v qs x ∷ []) ++ pairs_of c (suc v) xs qs)) (ne_eqb x.origin c ne)
      ∙ ap (λ t. if t then pairs_from m (pairs_of c (suc v) xs qs) else pair_at c v qs x ∷ pairs_from m (pairs_of c (suc v) xs qs)) (le-ltb v m h)

  -- ---- what holds of each
  pub from_keeps : (P : ℕ × Changeset I → Type 0) (m : ℕ) (ps : List (ℕ × Changeset I)) → All P ps → All P (pairs_from m ps)
  from_keeps P m [] a = All-nil P
  from_keeps P m (q ∷ ps) a =
      let rest = from_keeps P m ps (All-tail P q ps a) in
      elim (nat_lt q.0 m) as (λ t. All P (if t then pairs_from m ps else q ∷ pairs_from m ps)) [
        | true ↦ rest
        | false ↦ All-cons P q (pairs_from m ps) (All-head P q ps a) rest
      ]

  pub kept_keeps : (P : ℕ × Changeset I → Type 0) (o : Option ℕ) (ps : List (ℕ × Changeset I)) → All P ps → All P (list_kept o ps)
  kept_keeps P None ps a = a
  kept_keeps P (Some by) ps a = All-nil P

  list_at : (ok : List I → Bool) (c v : ℕ) (qs : List (Passed I)) (is : List I) → All (λ q. ok q.instrs ≡ true) qs → ok is ≡ true → ok (instrs_at c v qs is) ≡ true
  list_at ok c v [] is a e = e
  list_at ok c v (q ∷ qs) is a e =
      let rest = list_at ok c v qs is (All-tail (λ q. ok q.instrs ≡ true) q qs a) e in
      elim ((q.ident == c) && (q.version == v)) as (λ t. ok (if t then q.instrs else instrs_at c v qs is) ≡ true) [
        | true ↦ All-head (λ q. ok q.instrs ≡ true) q qs a
        | false ↦ rest
      ]

  pub all_pairs : (P : ℕ × Changeset I → Type 0) (ok : List I → Bool) (c v : ℕ) (xs : List (Changeset I)) (qs : List (Passed I))
      → ((k : ℕ) (x : Changeset I) → k < v + length xs → x.origin ≢ c → ok x.instrs ≡ true → P (k, x))
      → All (λ x. ok x.instrs ≡ true) xs → All (λ q. ok q.instrs ≡ true) qs → All P (pairs_of c v xs qs)
  all_pairs P ok c v [] qs give a b = All-nil P
  all_pairs P ok c v (x ∷ xs) qs give a b =
      on (x.origin == c) refl (all_pairs P ok c (suc v) xs qs (λ k y h. give k y (omega (arith, h))) (All-tail (λ x. ok x.instrs ≡ true) x xs a) b)
    where
      on : (t : Bool) → (x.origin == c) ≡ t → All P (pairs_of c (suc v) xs qs) → All P ((if t then [] else pair_at c v qs x ∷ []) ++ pairs_of c (suc v) xs qs)
      on true is rest = rest
      on false is rest =
          All-cons P (pair_at c v qs x) (pairs_of c (suc v) xs qs)
          (give v (record x { instrs = instrs_at c v qs x.instrs }) (omega arith) (eqb-false x.origin c is) (list_at ok c v qs x.instrs b (All-head (λ x. ok x.instrs ≡ true) x xs a))) rest

  pub length_pairs : (c floor : ℕ) (xs : List (Changeset I)) (qs : List (Passed I)) (gs : List (Given I)) → length (with_pairs c floor xs qs gs) ≡ length gs
  length_pairs c floor xs qs [] = refl
  length_pairs c floor xs qs (g ∷ gs) = ap suc (length_pairs (suc c) floor xs qs gs)
