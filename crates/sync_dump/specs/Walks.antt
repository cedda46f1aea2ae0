-- What the store's walkers go along.
use Rattle.std.specs.Prelude.{ℕ, List, []}
use Rattle.std.specs.Option.{option_map_or}
use Rattle.std.specs.FinMap as map
use Rattle.sync_data.specs.declared.column.Column.{Column}
use Rattle.sync_base.specs.States.{Tables}

-- the columns of a table by name, in order; none where the table doesn't stand
abbrev pub columns_in : Tables → List ℕ → List (List ℕ × Column)
columns_in ts t = option_map_or (λ table. map.entries table.columns) (map.get ts t) []
