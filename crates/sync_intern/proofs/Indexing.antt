-- An index of strings, and one string more.
use Rattle.std.proofs.Common.{String, ◌≡◌, ℕ, suc, ◌+◌, ◌<◌, true, false, cond, not, List, [], ◌∷◌, ◌++◌, take, length, get_or, Some, refl, sym, ap, subst, ◌∙◌, arith}
use Rattle.std.proofs.Math.Seq.{take-suc}
use Rattle.std.proofs.lemmas.List.{length-take-le}
use Rattle.std.specs.Prelude.{string_bytes, ◌||◌}
use Rattle.std.specs.List.{IsDistinct}
use Rattle.std.specs.Str.{bytes_eq}
use Rattle.std.specs.BTreeMap.{BTreeMap, get_by_text}
use Rattle.std.proofs.lemmas.Bool.Decides.{nat_tests}
use Rattle.std.proofs.lemmas.Slice.Eq.{bytes_eq-Decides}
use Rattle.sync_intern.specs.FirstUses.{has_string, place_of, place_in}
use Rattle.sync_intern.specs.Indexes.{Indexes}
use Rattle.sync_intern.proofs.Texts.{place_at_end, not_placed}
use Rattle.sync_intern.proofs.Fresh.{not_before, within, turned}

length_more : (strings : List (List ℕ)) (s : List ℕ) → length (strings ++ s ∷ []) ≡ suc (length strings)
length_more [] s = refl
length_more (t ∷ strings) s = ap suc (length_more strings s)

-- a string that is there has the same place after one more
found_before : (strings : List (List ℕ)) (t s : List ℕ) → has_string strings s ≡ true → place_of (strings ++ t ∷ []) s ≡ place_of strings s
found_before [] t s h = absurd cc
found_before (u ∷ strings) t s h = elim (bytes_eq s u) as (λ b. (b || has_string strings s) ≡ true → cond (not b) (1 + place_of (strings ++ t ∷ []) s) 0 ≡ cond (not b) (1 + place_of strings s) 0) [ true ↦ λ e. refl | false ↦ λ e. ap (λ n. 1 + n) (found_before strings t s e) ] h

-- one that isn't, and isn't that one either, has none
not_found : (strings : List (List ℕ)) (t s : List ℕ) → has_string strings s ≡ false → bytes_eq s t ≡ false → place_of (strings ++ t ∷ []) s ≡ suc (length strings)
not_found [] t s h apart = rw apart refl
not_found (u ∷ strings) t s h apart = elim (bytes_eq s u) as (λ b. (b || has_string strings s) ≡ false → cond (not b) (1 + place_of (strings ++ t ∷ []) s) 0 ≡ suc (suc (length strings))) [ true ↦ λ e. absurd cc | false ↦ λ e. ap (λ n. 1 + n) (not_found strings t s e apart) ∙ omega arith ] h

-- with one string more each other one has the place that it had
pub place_more : (strings : List (List ℕ)) (t s : List ℕ) → has_string strings t ≡ false → place_in (strings ++ t ∷ []) s ≡ cond (bytes_eq t s) (Some (length strings)) (place_in strings s)
place_more strings t s new = elim (bytes_eq t s) as (λ b. bytes_eq t s ≡ b → place_in (strings ++ t ∷ []) s ≡ cond b (Some (length strings)) (place_in strings s)) [
  | true ↦ λ e. let same : t ≡ s = (bytes_eq-Decides t s).0 e in
      let last : place_of (strings ++ t ∷ []) s ≡ length strings = subst (λ (x : List ℕ). place_of (strings ++ t ∷ []) x ≡ length strings) same (place_at_end strings t new) in
      rw (last, length_more strings t) (grind (arith, nat_tests))
  | false ↦ λ e. elim (has_string strings s) as (λ b. has_string strings s ≡ b → place_in (strings ++ t ∷ []) s ≡ place_in strings s) [
    | true ↦ λ h. rw (found_before strings t s h, length_more strings t) (grind (arith, nat_tests, within strings s h))
    | false ↦ λ h. rw (not_found strings t s h (turned t s e), length_more strings t, not_placed strings s h) (grind (arith, nat_tests))
  ] refl
] refl

-- and an index, to which the string at the next place is added, is one of one string more
pub indexed_more : {A : Type 0} (old new : BTreeMap (String A) ℕ) (strings : List (List ℕ)) (i : ℕ) (key : String A) → IsDistinct bytes_eq strings → i < length strings → string_bytes key ≡ get_or strings i [] → Indexes old (take i strings)
    → ((text : List ℕ) → get_by_text new text ≡ cond (bytes_eq (string_bytes key) text) (Some i) (get_by_text old text)) → Indexes new (take (i + 1) strings)
indexed_more old new strings i key distinct less at before added = λ text.
    let count : length (take i strings) ≡ i = length-take-le i strings (omega (arith, less)) in
    let more : take i strings ++ string_bytes key ∷ [] ≡ take (i + 1) strings = ap (λ (x : List ℕ). take i strings ++ x ∷ []) at ∙ sym (ap (λ n. take n strings) (let plus : i + 1 ≡ suc i = omega arith in plus) ∙ take-suc strings i [] less) in
    let fresh : has_string (take i strings) (string_bytes key) ≡ false = subst (λ (x : List ℕ). has_string (take i strings) x ≡ false) (sym at) (not_before strings i distinct less) in
    added text
    ∙ ap (λ o. cond (bytes_eq (string_bytes key) text) (Some i) o) (before text)
    ∙ ap (λ n. cond (bytes_eq (string_bytes key) text) (Some n) (place_in (take i strings) text)) (sym count)
    ∙ sym (place_more (take i strings) (string_bytes key) text fresh)
    ∙ ap (λ (ss : List (List ℕ)). place_in ss text) more
