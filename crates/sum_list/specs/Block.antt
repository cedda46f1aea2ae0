-- What a block keeps of its items.
use Rattle.std.specs.Prelude.{◌≡◌, ℕ, ◌*◌, ◌<◌, ◌≤◌, List, [], ◌∷◌, length, min, sum_by, Option, Some, None}
use Rattle.sum_list.specs.declared.block.Measures.{Measures}

module _ {X : Type 0} where
  -- the least number of the items, or the greatest one of 64 bits where there are none
  abbrev pub least : (X → ℕ) → List X → ℕ
  least n [] = 18446744073709551615
  least n (x ∷ xs) = min (n x) (least n xs)

  -- the sums of the lengths f and g of the items, and the least of their numbers n; no length is above 32 bits
  pub record Keeps (f g n : X → ℕ) (xs : List X) (m : Measures) : Type 0 where
    pub before : m.before ≡ sum_by f xs
    pub after : m.after ≡ sum_by g xs
    pub first : m.first ≡ least n xs
    pub low_before : m.before ≤ length xs * 4294967295
    pub low_after : m.after ≤ length xs * 4294967295

  -- a block of these items
  pub record IsBlock (f g n : X → ℕ) (xs : List X) (m : Measures) : Type 0 where
    pub keeps : Keeps f g n xs m
    pub some : 0 < length xs
    pub few : length xs ≤ 128

  -- the items of a block that may be there
  abbrev pub items_of : Option (List X) → List X
  items_of None = []
  items_of (Some xs) = xs
