-- What is read of objects.
use Rattle.std.specs.Prelude.{not, List, if◌then◌else◌, is_some, Result, Ok, Err}
use Rattle.std.specs.Option.{option_map_or}
use Rattle.std.specs.FinMap as map
use Rattle.std.specs.FinSet as set
use Rattle.sync_data.specs.Orders.{name_cmp, value_cmp}
use Rattle.sync_data.specs.declared.value.Value.{Value}
use Rattle.sync_base.specs.Effects.{CellPath}
use Rattle.sync_base.specs.States.{State, Cell, One, Many, Members, Dict, cell_at, has}
use Rattle.sync_app.specs.declared.reading.Unread.{Unread}
use Rattle.sync_app.specs.declared.reading.Unread.TheVariants as unread

-- a cell, or the first name of it that is wrong
abbrev pub cell_found : State → CellPath → Result Cell Unread
cell_found s p =
    if not (is_some (map.get s.tables p.0.0)) then Err unread.NoTable
    else if not (has s p.0) then Err unread.NoObject
    else option_map_or Ok (cell_at s p.0 p.1) (Err unread.NoColumn)

-- ---- what it holds
abbrev pub value_in : Cell → Result Value Unread
value_in (One v) = Ok v
value_in x = Err unread.WrongShape

abbrev pub elements_in : Cell → Result (List Value) Unread
elements_in (Many xs) = Ok xs
elements_in x = Err unread.WrongShape

abbrev pub members_in : Cell → Result (set.FinSet value_cmp) Unread
members_in (Members xs) = Ok xs
members_in x = Err unread.WrongShape

abbrev pub bindings_in : Cell → Result (map.FinMap name_cmp Value) Unread
bindings_in (Dict m) = Ok m
bindings_in x = Err unread.WrongShape

abbrev pub held_by : {A : Type 0} → (Cell → Result A Unread) → Result Cell Unread → Result A Unread
held_by held (Ok x) = held x
held_by held (Err why) = Err why

abbrev pub found : {A : Type 0} → (Cell → Result A Unread) → State → CellPath → Result A Unread
found held s p = held_by held (cell_found s p)
