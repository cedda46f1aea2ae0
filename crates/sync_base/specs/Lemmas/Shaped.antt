-- The parts of what a state keeps that the shape of cells needs, and places within their lists.
use Rattle.std.specs.Prelude.{◌≡◌, ℕ, ◌<◌, ◌≤◌, true, List, is_some, Some}
use Rattle.std.specs.FinMap as map
use Rattle.sync_data.specs.declared.column.Column.{Column}
use Rattle.sync_base.specs.Effects.{ObjectName, Edit, Effect, Replace, Insert, Remove, Change}
use Rattle.sync_base.specs.States.{State, Cell, has, cell_at, column_in, cell_rank, shape_rank}

-- each object's table stands, and it has a cell of its shape for each column of its table and no other
pub record IsShaped (s : State) : Type 0 where
  pub housed : (o : ObjectName) → has s o ≡ true → is_some (map.get s.tables o.0) ≡ true
  pub filled : (o : ObjectName) (c : List ℕ) → has s o ≡ true → is_some (cell_at s o c) ≡ is_some (column_in s.tables o.0 c)
  pub shaped : (o : ObjectName) (c : List ℕ) (x : Cell) (col : Column) → cell_at s o c ≡ Some x → column_in s.tables o.0 c ≡ Some col → cell_rank x ≡ shape_rank col.shape

abbrev pub IsEdit : Edit → Type 0
IsEdit (Replace s v) = s.place < s.prior
IsEdit (Insert s v) = s.place ≤ s.prior
IsEdit (Remove s) = s.place < s.prior
IsEdit e = Unit {0}

abbrev pub IsEffect : Effect → Type 0
IsEffect (Change p e) = IsEdit e
IsEffect d = Unit {0}
