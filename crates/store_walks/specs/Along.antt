-- What a walk over a store goes along: the columns of a table, its objects, their cells, the values of a set.
use Rattle.std.specs.Prelude.{ℕ, if◌then◌else◌, List, [], ◌∷◌}
use Rattle.std.specs.Option.{option_map_or}
use Rattle.std.specs.Ordering.{eq_by_cmp}
use Rattle.std.specs.FinMap as map
use Rattle.std.specs.FinSet as set
use Rattle.sync_data.specs.Orders.{name_cmp, value_cmp}
use Rattle.sync_data.specs.declared.column.Column.{Column}
use Rattle.sync_data.specs.declared.key.Key.{Key}
use Rattle.sync_data.specs.declared.value.Value.{Value}
use Rattle.sync_base.specs.Effects.{ObjectName}
use Rattle.sync_base.specs.States.{State, Tables, Cell, Cells}

-- the columns of a table by name, in order; none where the table doesn't stand
abbrev pub columns_in : Tables → List ℕ → List (List ℕ × Column)
columns_in ts t = option_map_or (λ table. map.entries table.columns) (map.get ts t) []

-- the cells of an object by column, in order; none where the object doesn't stand
abbrev pub cells_in : State → ObjectName → List (List ℕ × Cell)
cells_in s o = option_map_or (λ cells. map.entries cells) (map.get s.objects o) []

-- the objects of one table by key, in order
abbrev pub objects_in : List ℕ → List (ObjectName × Cells) → List (Key × Cells)
objects_in table [] = []
objects_in table (e ∷ es) = if eq_by_cmp name_cmp table e.0.0 then (e.0.1, e.1) ∷ objects_in table es else objects_in table es

-- the values of a set, in their order: they are the keys of a map
abbrev pub keyed : List Value → map.FinMap value_cmp (Unit {0})
keyed [] = map.empty
keyed (v ∷ vs) = map.insert (keyed vs) v tt

abbrev pub in_order : set.FinSet value_cmp → List Value
in_order vs = map.keys (keyed (set.items vs))
