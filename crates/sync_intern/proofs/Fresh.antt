-- A string that follows others, in a list in which each stands once, isn't one of those.
use Rattle.std.proofs.Common.{◌≡◌, ℕ, zero, suc, ◌+◌, ◌<◌, true, false, cond, not, List, [], ◌∷◌, ◌++◌, take, map, length, get_or, Result, Ok, Err, Bor, refl, sym, ap, subst, ◌∙◌, arith}
use Rattle.std.proofs.Math.Seq.{take-suc}
use Rattle.std.specs.Prelude.{◌||◌, ◌≤◌, is_some, IfOk, OnOk}
use Rattle.std.specs.List.{AllByRecursion, IsDistinct}
use Rattle.std.specs.Str.{bytes_eq}
use Rattle.std.proofs.lemmas.Slice.Eq.{bytes_eq-Decides}
use Rattle.sync_intern.specs.FirstUses.{has_string, with_string, place_of, place_in, AreShort}
use Rattle.sync_intern.specs.declared.strings.NoMemory.{NoMemory}
use Rattle.sync_intern.proofs.Texts.{not_placed, place_at_end}

-- equal either way round
pub turned : (s t : List ℕ) → bytes_eq s t ≡ false → bytes_eq t s ≡ false
turned s t h = elim (bytes_eq t s) as (λ b. bytes_eq t s ≡ b → b ≡ false) [
  | true ↦ λ e. absurd (let same : s ≡ t = sym ((bytes_eq-Decides t s).0 e) in subst (λ (x : List ℕ). bytes_eq s x ≡ false → ⊥) same (λ (apart : bytes_eq s s ≡ false). let own : bytes_eq s s ≡ true = (bytes_eq-Decides s s).1 refl in cc) h)
  | false ↦ λ e. refl
] refl

other : (s : List ℕ) (strings : List (List ℕ)) (i : ℕ) → AllByRecursion (λ t. bytes_eq s t ≡ false) strings → i < length strings → bytes_eq (get_or strings i []) s ≡ false
other s [] i h less = absurd (omega (arith, less))
other s (t ∷ strings) zero h less = turned s t h.0
other s (t ∷ strings) (suc i) h less = other s strings i h.1 (omega (arith, less))

pub not_before : (strings : List (List ℕ)) (i : ℕ) → IsDistinct bytes_eq strings → i < length strings → has_string (take i strings) (get_or strings i []) ≡ false
unfolding IsDistinct
not_before [] i h less = absurd (omega (arith, less))
not_before (t ∷ strings) zero h less = refl
not_before (t ∷ strings) (suc i) h less = rw (other t strings i h.0 (omega (arith, less))) (not_before strings i h.1 (omega (arith, less)))

-- one more of them
pub next_of : (strings : List (List ℕ)) (i : ℕ) → IsDistinct bytes_eq strings → i < length strings → with_string (take i strings) (get_or strings i []) ≡ take (i + 1) strings
next_of strings i h less = rw (not_before strings i h less) (sym (ap (λ n. take n strings) (let plus : i + 1 ≡ suc i = omega arith in plus) ∙ take-suc strings i [] less))

none_more : (t : List ℕ) (strings : List (List ℕ)) (s : List ℕ) → AllByRecursion (λ o. bytes_eq t o ≡ false) strings → bytes_eq t s ≡ false → AllByRecursion (λ o. bytes_eq t o ≡ false) (strings ++ s ∷ [])
none_more t [] s h apart = (apart, tt)
none_more t (o ∷ strings) s h apart = (h.0, none_more t strings s h.1 apart)

-- a new one goes last
pub distinct_more : (strings : List (List ℕ)) (s : List ℕ) → IsDistinct bytes_eq strings → has_string strings s ≡ false → IsDistinct bytes_eq (strings ++ s ∷ [])
unfolding IsDistinct
distinct_more [] s h new = (tt, tt)
distinct_more (t ∷ strings) s h new = elim (bytes_eq s t) as (λ b. bytes_eq s t ≡ b → (b || has_string strings s) ≡ false → IsDistinct bytes_eq (t ∷ strings ++ s ∷ [])) [
  | true ↦ λ e apart. absurd cc
  | false ↦ λ e apart. (none_more t strings s h.0 (turned s t e), distinct_more strings s h.1 apart)
] refl new

pub within : (strings : List (List ℕ)) (s : List ℕ) → has_string strings s ≡ true → place_of strings s < length strings
within [] s h = absurd cc
within (t ∷ strings) s h = elim (bytes_eq s t) as (λ b. (b || has_string strings s) ≡ true → cond (not b) (1 + place_of strings s) 0 < length (t ∷ strings)) [ true ↦ λ e. omega arith | false ↦ λ e. omega (arith, within strings s e) ] h

-- a string has a place if and only if it is there
pub has_place : (strings : List (List ℕ)) (s : List ℕ) → is_some (place_in strings s) ≡ has_string strings s
has_place strings s = elim (has_string strings s) as (λ b. has_string strings s ≡ b → is_some (place_in strings s) ≡ b) [
  | true ↦ λ e. grind (arith, within strings s e)
  | false ↦ λ e. grind (arith, not_placed strings s e)
] refl

-- a string that was found is short
pub short_found : (texts : List (Bor (List ℕ))) (n : ℕ) (s : Bor (List ℕ)) → AreShort (map (λ t. t.now) texts) → n < length texts → s ≡ get_or texts n s → length s.now ≤ 255
short_found [] n s short less e = absurd (omega (arith, less))
short_found (t ∷ texts) zero s short less e = subst (λ (x : Bor (List ℕ)). length x.now ≤ 255) (sym e) short.0
short_found (t ∷ texts) (suc n) s short less e = short_found texts n s short.1 (omega (arith, less)) e

-- the number of a new string is its place behind the others
pub placed_last : (old new : List (List ℕ)) (s : List ℕ) (r : Result ℕ NoMemory) → has_string old s ≡ false → IfOk r (λ n. n ≡ length old) → OnOk r (new ≡ old ++ s ∷ []) → IfOk r (λ n. n ≡ place_of new s)
placed_last old new s (Ok n) fresh number strings = number ∙ sym (place_at_end old s fresh) ∙ ap (λ (ss : List (List ℕ)). place_of ss s) (sym strings)
placed_last old new s (Err e) fresh number strings = tt
