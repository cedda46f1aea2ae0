-- The place of a name among cells in the order of names.
use Rattle.std.specs.Prelude.{◌≡◌, ℕ, ◌<◌, ◌≤◌, List, length}
use Rattle.std.specs.declared.cmp.Ordering.TheVariants.{Less, Equal, Greater}
use Rattle.std.specs.List.{HoldsAt}
use Rattle.std.specs.List.Sorted.{IsPartitionPoint}
use Rattle.sync_data.specs.Orders.{name_cmp}
use Rattle.sync_base.specs.States.{Cell}

-- the cell at place i has the name
abbrev pub IsPlaceOf : List ℕ → List (List ℕ × Cell) → ℕ → Type 0
IsPlaceOf name cells i = (i < length cells) × HoldsAt (λ e. name_cmp e.0 name ≡ Equal) cells i

-- no cell has the name, which would stand at place i: lower names before it, higher ones from it on
abbrev pub IsGapFor : List ℕ → List (List ℕ × Cell) → ℕ → Type 0
IsGapFor name cells i = (i ≤ length cells) × IsPartitionPoint (λ e. name_cmp e.0 name ≡ Less) (λ e. name_cmp e.0 name ≡ Greater) cells i
