-- What an instruction asks of a state, as the store looks at it.
use Rattle.std.specs.Prelude.{ℕ, Bool, true, false, not, ◌==◌, List, [], ◌∷◌, ◌++◌, is_some, Option, None, Some, Result, Ok, Err}
use Rattle.std.specs.Option.{option_map_or}
use Rattle.sync_data.specs.declared.value.Value.{Value}
use Rattle.sync_data.specs.declared.column.Shape.{Shape}
use Rattle.sync_data.specs.declared.column.Column.{Column}
use Rattle.sync_base.specs.declared.answers.Break.{Break}
use Rattle.sync_base.specs.declared.answers.Break.TheVariants as breaks
use Rattle.sync_base.specs.Effects.{CellPath, ObjectName}
use Rattle.sync_base.specs.States.{State, Tables, Cell, column_in, has, cell_at, fits, shape_rank}
use Rattle.sync_base.specs.Checks.{object_checks, column_check, size}
use Rattle.sync_store.specs.declared.wanted.Wanted.{Wanted}
use Rattle.sync_store.specs.declared.wanted.Wanted.TheVariants as wanted

-- the answer of a check
abbrev pub verdict : Option Break → Result (Unit {0}) Break
verdict None = Ok tt
verdict (Some b) = Err b

-- the object stands, and then the rest
abbrev pub standing_checks : State → ObjectName → List (Bool × Break) → List (Bool × Break)
standing_checks s o rest = object_checks s.tables o ++ (has s o, breaks.NoObject) ∷ rest

-- its object and its column stand, and then the rest
abbrev pub cell_checks : State → CellPath → List (Bool × Break) → List (Bool × Break)
cell_checks s p rest = standing_checks s p.0 ((is_some (column_in s.tables p.0.0 p.1), breaks.NoColumn) ∷ rest)

-- the checks of a cell that is changed
abbrev pub column_checks : State → CellPath → (Shape → Bool) → (Column → Bool) → (Cell → Bool) → List (Bool × Break)
column_checks s p shape kind prior =
    let col = column_in s.tables p.0.0 p.1 in
    (column_check (λ c. shape c.shape) col, breaks.WrongShape) ∷ (column_check kind col, breaks.WrongKind) ∷ (option_map_or prior (cell_at s p.0 p.1) false, breaks.BadPrior) ∷ []

abbrev pub change_checks : State → CellPath → (Shape → Bool) → (Column → Bool) → (Cell → Bool) → List (Bool × Break)
change_checks s p shape kind prior = cell_checks s p (column_checks s p shape kind prior)

abbrev pub is_wanted : Wanted → Shape → Bool
is_wanted wanted.One found = shape_rank found == 0
is_wanted wanted.List found = shape_rank found == 1
is_wanted wanted.Set found = shape_rank found == 2
is_wanted wanted.Dict found = shape_rank found == 3
is_wanted wanted.Collection found = not (shape_rank found == 0)

-- a value that is given fits
abbrev pub takes : Tables → Option Value → Column → Bool
takes ts None col = true
takes ts (Some v) col = fits ts col v

-- a length that is given is the list's
abbrev pub has_size : Option ℕ → Cell → Bool
has_size None x = true
has_size (Some n) x = n == size x
