-- What an instruction asks, by what a sketch shows.
use Rattle.std.specs.Prelude.{Bool, not, List, [], ◌∷◌, ◌++◌, is_some, Option}
use Rattle.std.specs.FinMap as map
use Rattle.sync_data.specs.declared.column.Shape.{Shape}
use Rattle.sync_data.specs.declared.column.Column.{Column}
use Rattle.sync_base.specs.declared.answers.Break.{Break}
use Rattle.sync_base.specs.declared.answers.Break.TheVariants as breaks
use Rattle.sync_base.specs.Checks.{object_checks, column_check, first_failed, has_shape, edit_fits}
use Rattle.sync_base.specs.Effects.{ObjectName, CellPath, Effect, NewTable, NewColumn, Create, Erase, Change}
use Rattle.sync_base.specs.States.{column_in, shape_rank, is_sound_column, has_target}
use Rattle.sync_app.specs.declared.sketch.Sketch.{Sketch}
use Rattle.sync_app.specs.Wants.{is_length, prior_of}
use Rattle.sync_app.specs.Sketches.{tables_in, stands_in, size_in}

-- an object stands
abbrev pub stands_checks : Sketch → ObjectName → List (Bool × Break)
stands_checks k o = object_checks (tables_in k) o ++ (stands_in k o, breaks.NoObject) ∷ []

-- a column has the shape, takes the value, and the list has the length
abbrev pub column_checks : Option Column → (Shape → Bool) → (Column → Bool) → Bool → List (Bool × Break)
column_checks col shape kind prior = (column_check (λ c. shape c.shape) col, breaks.WrongShape) ∷ (column_check kind col, breaks.WrongKind) ∷ (prior, breaks.BadPrior) ∷ []

-- a cell is changed
abbrev pub cell_checks : Sketch → CellPath → (Shape → Bool) → (Column → Bool) → Bool → List (Bool × Break)
cell_checks k p shape kind prior =
    let col = column_in (tables_in k) p.0.0 p.1 in
    object_checks (tables_in k) p.0 ++ (stands_in k p.0, breaks.NoObject) ∷ (is_some col, breaks.NoColumn) ∷ column_checks col shape kind prior

abbrev pub sketch_checks : Sketch → Effect → List (Bool × Break)
sketch_checks k (NewTable t key) = (not (is_some (map.get (tables_in k) t)), breaks.TableExists) ∷ []
sketch_checks k (NewColumn t c def) =
    (is_some (map.get (tables_in k) t), breaks.NoTable) ∷ (not (is_some (column_in (tables_in k) t c)), breaks.ColumnExists)
    ∷ (is_sound_column def, breaks.BadColumn) ∷ (has_target (tables_in k) def.kind, breaks.NoTable) ∷ []
sketch_checks k (Create o) = object_checks (tables_in k) o
sketch_checks k (Erase o) = stands_checks k o
sketch_checks k (Change p e) = cell_checks k p (λ r. has_shape e (shape_rank r)) (λ c. edit_fits (tables_in k) c e) (is_length (prior_of e) (size_in k p))

-- the first break, by what the sketch shows
abbrev pub break_in : Sketch → Effect → Option Break
break_in k d = first_failed (sketch_checks k d)
