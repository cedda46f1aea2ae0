-- How long a list is.
use Rattle.std.specs.Prelude.{ℕ}
use Rattle.std.specs.Option.{option_map_or}
use Rattle.sync_base.specs.Checks.{size}
use Rattle.sync_base.specs.Effects.{CellPath}
use Rattle.sync_base.specs.States.{State, cell_at}

-- how many elements the list of a cell has; 0 where there is none
abbrev pub size_at : State → CellPath → ℕ
size_at s p = option_map_or size (cell_at s p.0 p.1) 0
