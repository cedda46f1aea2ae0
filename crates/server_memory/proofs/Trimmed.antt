-- How a trimmed file begins, by its first two records.
use Rattle.std.proofs.Common.{◌≡◌, ℕ, List, [], ◌∷◌, Bool, true, false, map, slice_get, Some, None, refl, ap, ◌∙◌}
use Rattle.std.specs.Prelude.{◌&&◌, ◌||◌}
use Rattle.sync_exchange.specs.Profile.{the_profile}
use Rattle.sync_exchange.specs.Seen.{read_server}
use Rattle.sync_model.specs.Fronts.{begins_trimmed, is_form}
use Rattle.server_memory.specs.Opening.{is_trimmed}

and_false : (b : Bool) → (b && false) ≡ false
and_false true = refl
and_false false = refl

module _ (a : List ℕ) where
  -- the first is a part or a floor
  pub trimmed_first : (file : List (List ℕ)) → slice_get file 0 ≡ Some a → begins_trimmed the_profile (read_server a ∷ []) ≡ true → is_trimmed (map read_server file) ≡ true
  trimmed_first [] at e = cc
  trimmed_first (c ∷ file) at e =
      let same : c ≡ a = cc in
      ap (λ t. t || (is_form the_profile (read_server c) && begins_trimmed the_profile (map read_server file))) (ap (λ x. begins_trimmed the_profile (read_server x ∷ [])) same ∙ e)

  -- it isn't, and there is no other
  pub trimmed_alone : (file : List (List ℕ)) → slice_get file 0 ≡ Some a → begins_trimmed the_profile (read_server a ∷ []) ≡ false → slice_get file 1 ≡ None → is_trimmed (map read_server file) ≡ false
  trimmed_alone [] at e none = refl
  trimmed_alone (c ∷ []) at e none =
      let same : c ≡ a = cc in
      ap (λ t. t || (is_form the_profile (read_server c) && false)) (ap (λ x. begins_trimmed the_profile (read_server x ∷ [])) same ∙ e) ∙ and_false (is_form the_profile (read_server c))
  trimmed_alone (c ∷ d ∷ file) at e none = cc

  -- it is no form
  pub trimmed_plain : (file : List (List ℕ)) → slice_get file 0 ≡ Some a → begins_trimmed the_profile (read_server a ∷ []) ≡ false → is_form the_profile (read_server a) ≡ false → is_trimmed (map read_server file) ≡ false
  trimmed_plain [] at e f = refl
  trimmed_plain (c ∷ file) at e f =
      let same : c ≡ a = cc in
      ap (λ t. t || (is_form the_profile (read_server c) && begins_trimmed the_profile (map read_server file))) (ap (λ x. begins_trimmed the_profile (read_server x ∷ [])) same ∙ e)
      ∙ ap (λ t. t && begins_trimmed the_profile (map read_server file)) (ap (λ x. is_form the_profile (read_server x)) same ∙ f)

  -- it is one, and so the second tells
  pub trimmed_second : (file : List (List ℕ)) (b : List ℕ) → slice_get file 0 ≡ Some a → begins_trimmed the_profile (read_server a ∷ []) ≡ false → is_form the_profile (read_server a) ≡ true → slice_get file 1 ≡ Some b
      → is_trimmed (map read_server file) ≡ begins_trimmed the_profile (read_server b ∷ [])
  trimmed_second [] b at e f two = cc
  trimmed_second (c ∷ []) b at e f two = cc
  trimmed_second (c ∷ d ∷ file) b at e f two =
      let same : c ≡ a = cc in
      let next : d ≡ b = cc in
      ap (λ t. t || (is_form the_profile (read_server c) && begins_trimmed the_profile (read_server d ∷ map read_server file))) (ap (λ x. begins_trimmed the_profile (read_server x ∷ [])) same ∙ e)
      ∙ ap (λ t. t && begins_trimmed the_profile (read_server d ∷ map read_server file)) (ap (λ x. is_form the_profile (read_server x)) same ∙ f)
      ∙ ap (λ x. begins_trimmed the_profile (read_server x ∷ [])) next
