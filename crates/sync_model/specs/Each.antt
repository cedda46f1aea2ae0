-- What holds of each element of a list.
use Rattle.std.specs.Prelude.{List, [], ◌∷◌}

pub data Each {X : Type 0} (P : X → Type 0) : List X → Type 0 where
  no_more : Each P []
  and_each : {x : X} {xs : List X} → P x → Each P xs → Each P (x ∷ xs)
