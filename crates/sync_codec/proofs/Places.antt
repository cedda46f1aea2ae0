-- Places of strings stay as more strings are used.
use Rattle.std.proofs.Common.{◌≡◌, ℕ, ◌+◌, true, false, cond, not, List, [], ◌∷◌, ◌++◌, refl, ap, ◌∙◌}
use Rattle.std.specs.Prelude.{◌||◌}
use Rattle.std.specs.Str.{bytes_eq}
use Rattle.std.proofs.lemmas.Slice.Eq.{bytes_eq-Decides}
use Rattle.sync_intern.specs.FirstUses.{has_string, place_of, with_string, with_strings}

own : (s : List ℕ) → bytes_eq s s ≡ true
own s = (bytes_eq-Decides s s).1 refl

has_last : (strings : List (List ℕ)) (s : List ℕ) → has_string (strings ++ s ∷ []) s ≡ true
has_last [] s = rw (own s) refl
has_last (t ∷ strings) s = rw (has_last strings s) (elim (bytes_eq s t) as (λ b. (b || true) ≡ true) [ true ↦ refl | false ↦ refl ])

pub has_used : (strings : List (List ℕ)) (s : List ℕ) → has_string (with_string strings s) s ≡ true
has_used strings s = elim (has_string strings s) as (λ b. has_string strings s ≡ b → has_string (cond b strings (strings ++ s ∷ [])) s ≡ true) [ true ↦ λ e. e | false ↦ λ e. has_last strings s ] refl

has_more : (strings : List (List ℕ)) (s t : List ℕ) → has_string strings s ≡ true → has_string (strings ++ t ∷ []) s ≡ true
has_more [] s t h = absurd cc
has_more (u ∷ strings) s t h = elim (bytes_eq s u) as (λ b. (b || has_string strings s) ≡ true → (b || has_string (strings ++ t ∷ []) s) ≡ true) [ true ↦ λ e. refl | false ↦ λ e. has_more strings s t e ] h

place_more : (strings : List (List ℕ)) (s t : List ℕ) → has_string strings s ≡ true → place_of (strings ++ t ∷ []) s ≡ place_of strings s
place_more [] s t h = absurd cc
place_more (u ∷ strings) s t h = elim (bytes_eq s u) as (λ b. (b || has_string strings s) ≡ true → cond (not b) (1 + place_of (strings ++ t ∷ []) s) 0 ≡ cond (not b) (1 + place_of strings s) 0) [ true ↦ λ e. refl | false ↦ λ e. ap (λ n. 1 + n) (place_more strings s t e) ] h

has_with : (strings : List (List ℕ)) (s t : List ℕ) → has_string strings s ≡ true → has_string (with_string strings t) s ≡ true
has_with strings s t h = elim (has_string strings t) as (λ b. has_string (cond b strings (strings ++ t ∷ [])) s ≡ true) [ true ↦ h | false ↦ has_more strings s t h ]

place_with : (strings : List (List ℕ)) (s t : List ℕ) → has_string strings s ≡ true → place_of (with_string strings t) s ≡ place_of strings s
place_with strings s t h = elim (has_string strings t) as (λ b. place_of (cond b strings (strings ++ t ∷ [])) s ≡ place_of strings s) [ true ↦ refl | false ↦ place_more strings s t h ]

pub place_stays : (strings more : List (List ℕ)) (s : List ℕ) → has_string strings s ≡ true → place_of (with_strings strings more) s ≡ place_of strings s
place_stays strings [] s h = refl
place_stays strings (t ∷ more) s h = place_stays (with_string strings t) more s (has_with strings s t h) ∙ place_with strings s t h
