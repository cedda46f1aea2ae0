-- What the strings have in common that were used.
use Rattle.std.specs.Prelude.{ℕ, Bool, true, false, List, [], ◌∷◌, ◌++◌, if◌then◌else◌}
use Rattle.std.specs.List.{AllByRecursion}
use Rattle.sync_intern.specs.FirstUses.{has_string, with_string}

module _ {X : Type 0} (P : X → Type 0) where
  pub all_append : (xs ys : List X) → AllByRecursion P xs → AllByRecursion P ys → AllByRecursion P (xs ++ ys)
  all_append [] ys h g = g
  all_append (x ∷ xs) ys h g = (h.0, all_append xs ys h.1 g)

module _ (P : List ℕ → Type 0) where
  pub with_one : (strings : List (List ℕ)) (s : List ℕ) → AllByRecursion P strings → P s → AllByRecursion P (with_string strings s)
  with_one strings s h p = go (has_string strings s)
    where
      go : (b : Bool) → AllByRecursion P (if b then strings else strings ++ s ∷ [])
      go true = h
      go false = all_append P strings (s ∷ []) h (p, tt)
