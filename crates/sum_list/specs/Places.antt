-- What contracts say of the places of a list, by the lengths and the numbers of its items.
use Rattle.std.specs.Prelude.{◌≡◌, ℕ, ◌+◌, ◌<◌, ◌≤◌, List, length, take, sum_by, All, slice_index_or}
use Rattle.sum_list.specs.declared.at.At.{At}

module _ {X : Type 0} where
  -- the sums of the lengths f and g of the items in front of the place
  pub record IsAt (f g : X → ℕ) (xs : List X) (at : At) : Type 0 where
    pub within : at.place ≤ length xs
    pub before : at.before ≡ sum_by f (take at.place xs)
    pub after : at.after ≡ sum_by g (take at.place xs)

  -- the place of the first item at whose end the sum is reached, or the length of the list where there is none
  pub record Reaches (f : X → ℕ) (sum : ℕ) (xs : List X) (place : ℕ) : Type 0 where
    pub short : 0 < place → sum_by f (take place xs) < sum
    pub reached : place < length xs → sum ≤ sum_by f (take (place + 1) xs)

  -- the place of an item whose number is the least
  pub record IsLeast (n : X → ℕ) (xs : List X) (place : ℕ) : Type 0 where
    pub within : place < length xs
    pub least : (d : X) → All (λ x. n (slice_index_or xs place d) ≤ n x) xs
