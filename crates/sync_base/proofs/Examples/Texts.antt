-- The text of a list that both sides change, worked out on ["x", "y"]. The first edit is the earlier one.
use Rattle.std.specs.Prelude.{◌≡◌, List, [], ◌∷◌, refl}
use Rattle.sync_data.specs.declared.value.Value.{Value}
use Rattle.sync_base.specs.Effects.{Replace, Insert, Remove}
use Rattle.sync_base.specs.Merged.{text_of}
use Rattle.sync_base.specs.Rules.{spot}
use Rattle.sync_base.proofs.Examples.Setting.{a, b, x, y}

abbrev xy : List Value
xy = x ∷ y ∷ []

two_insertions : text_of (Insert (spot 0 2) a) (Insert (spot 2 2) b) xy ≡ a ∷ x ∷ y ∷ b ∷ []
two_insertions = refl

-- at one place the earlier stands first
insertions_at_one_place : text_of (Insert (spot 1 2) b) (Insert (spot 1 2) a) xy ≡ x ∷ b ∷ a ∷ y ∷ []
insertions_at_one_place = refl

insertion_beside_an_erased_element : text_of (Insert (spot 1 2) a) (Remove (spot 1 2)) xy ≡ x ∷ a ∷ []
insertion_beside_an_erased_element = refl

insertion_and_update : text_of (Replace (spot 1 2) b) (Insert (spot 1 2) a) xy ≡ x ∷ a ∷ b ∷ []
insertion_and_update = refl

one_element_erased_twice : text_of (Remove (spot 0 2)) (Remove (spot 0 2)) xy ≡ y ∷ []
one_element_erased_twice = refl

both_elements_erased : text_of (Remove (spot 0 2)) (Remove (spot 1 2)) xy ≡ []
both_elements_erased = refl

erased_and_then_updated : text_of (Remove (spot 0 2)) (Replace (spot 0 2) a) xy ≡ y ∷ []
erased_and_then_updated = refl

-- of two updates of one element the later counts
updated_twice : text_of (Replace (spot 0 2) a) (Replace (spot 0 2) b) xy ≡ b ∷ y ∷ []
updated_twice = refl
