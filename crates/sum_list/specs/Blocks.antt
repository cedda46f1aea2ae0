-- A list in blocks.
use Rattle.std.specs.Prelude.{◌≡◌, ℕ, ◌+◌, ◌<◌, ◌≤◌, List, length, take, slice_get, Some}
use Rattle.std.specs.List.{flat_map}
use Rattle.sum_list.specs.declared.blocks.Seat.{Seat}

module _ {X : Type 0} where
  -- the blocks, one after another
  abbrev pub joined : List (List X) → List X
  joined blocks = flat_map (λ xs. xs) blocks

  -- where a place of the list lies: in which block, and where in it
  pub record IsSeat (blocks : List (List X)) (place : ℕ) (seat : Seat) : Type 0 where
    pub block : List X
    pub is : slice_get blocks seat.block ≡ Some block
    pub place_is : place ≡ length (joined (take seat.block blocks)) + seat.within
    pub ends : seat.within ≤ length block
    pub within : place < length (joined blocks) → seat.within < length block
