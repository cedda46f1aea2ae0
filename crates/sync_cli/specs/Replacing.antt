-- The words of the commands that write a node's file anew where it stands.
use Rattle.std.specs.Prelude.{◌≡◌, ◌⊎◌, ℕ, List, [], ◌∷◌, codes}

abbrev pub AsksToReplace : List (List ℕ) → Type 0
AsksToReplace words = (file : List ℕ) × ((words ≡ codes "trim" ∷ codes "--replace" ∷ file ∷ []) ⊎ (words ≡ codes "shrink" ∷ codes "--replace" ∷ file ∷ []))
