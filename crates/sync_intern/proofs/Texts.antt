-- What is told of the strings that are kept is told of their bytes.
use Rattle.std.proofs.Common.{◌≡◌, ℕ, suc, ◌+◌, ◌≤◌, true, false, cond, not, List, [], ◌∷◌, ◌++◌, length, map, refl, sym, ap, ◌∙◌, arith}
use Rattle.std.specs.Prelude.{position, ◌||◌}
use Rattle.std.specs.List.{list_any, position_or_len}
use Rattle.std.specs.Str.{bytes_eq}
use Rattle.std.proofs.lemmas.Slice.Eq.{bytes_eq-Decides}
use Rattle.sync_intern.specs.FirstUses.{has_string, place_of, place_in, with_string, AreShort}

module _ {S : Type 0} (bytes : S → List ℕ) where
  pub place_of_bytes : (s : List ℕ) (kept : List S) → position_or_len (λ k. bytes_eq s (bytes k)) kept ≡ place_of (map bytes kept) s
  place_of_bytes s [] = refl
  place_of_bytes s (k ∷ kept) = ap (λ n. cond (not (bytes_eq s (bytes k))) (1 + n) 0) (place_of_bytes s kept)

  has_bytes : (s : List ℕ) (kept : List S) → list_any (λ k. bytes_eq s (bytes k)) kept ≡ has_string (map bytes kept) s
  has_bytes s [] = refl
  has_bytes s (k ∷ kept) = ap (λ b. bytes_eq s (bytes k) || b) (has_bytes s kept)

  length_bytes : (kept : List S) → length (map bytes kept) ≡ length kept
  length_bytes [] = refl
  length_bytes (k ∷ kept) = ap suc (length_bytes kept)

  pub place_in_bytes : (s : List ℕ) (kept : List S) → position (λ k. bytes_eq s (bytes k)) kept ≡ place_in (map bytes kept) s
  place_in_bytes s kept = rw (place_of_bytes s kept, length_bytes kept) refl

  pub append_bytes : (kept : List S) (s : S) → map bytes (kept ++ s ∷ []) ≡ map bytes kept ++ bytes s ∷ []
  append_bytes [] s = refl
  append_bytes (k ∷ kept) s = ap (λ (ss : List (List ℕ)). bytes k ∷ ss) (append_bytes kept s)

  pub added_bytes : (kept : List S) (s : S) → map bytes (cond (list_any (λ k. bytes_eq (bytes s) (bytes k)) kept) kept (kept ++ s ∷ [])) ≡ with_string (map bytes kept) (bytes s)
  added_bytes kept s = rw (← has_bytes (bytes s) kept) (elim (list_any (λ k. bytes_eq (bytes s) (bytes k)) kept) as (λ b. map bytes (cond b kept (kept ++ s ∷ [])) ≡ cond b (map bytes kept) (map bytes kept ++ bytes s ∷ [])) [ true ↦ refl | false ↦ append_bytes kept s ])

-- ---- lists of strings
own : (s : List ℕ) → bytes_eq s s ≡ true
own s = (bytes_eq-Decides s s).1 refl

pub place_at_end : (strings : List (List ℕ)) (s : List ℕ) → has_string strings s ≡ false → place_of (strings ++ s ∷ []) s ≡ length strings
place_at_end [] s h = rw (own s) refl
place_at_end (t ∷ strings) s h = elim (bytes_eq s t) as (λ b. (b || has_string strings s) ≡ false → cond (not b) (1 + place_of (strings ++ s ∷ []) s) 0 ≡ suc (length strings)) [ true ↦ λ e. absurd cc | false ↦ λ e. ap (λ n. 1 + n) (place_at_end strings s e) ∙ omega arith ] h

pub not_placed : (strings : List (List ℕ)) (s : List ℕ) → has_string strings s ≡ false → place_of strings s ≡ length strings
not_placed [] s h = refl
not_placed (t ∷ strings) s h = elim (bytes_eq s t) as (λ b. (b || has_string strings s) ≡ false → cond (not b) (1 + place_of strings s) 0 ≡ suc (length strings)) [ true ↦ λ e. absurd cc | false ↦ λ e. ap (λ n. 1 + n) (not_placed strings s e) ∙ omega arith ] h

pub place_stays : (strings : List (List ℕ)) (s : List ℕ) → place_of (with_string strings s) s ≡ place_of strings s
place_stays strings s = elim (has_string strings s) as (λ b. has_string strings s ≡ b → place_of (cond b strings (strings ++ s ∷ [])) s ≡ place_of strings s) [ true ↦ λ e. refl | false ↦ λ e. place_at_end strings s e ∙ sym (not_placed strings s e) ] refl

pub short_more : (strings : List (List ℕ)) (s : List ℕ) → AreShort strings → length s ≤ 255 → AreShort (strings ++ s ∷ [])
short_more [] s h short = (short, tt)
short_more (t ∷ strings) s h short = (h.0, short_more strings s h.1 short)
