-- The lists of instructions of which a state's list is made: of a table, a column, an object, a cell.
use Rattle.std.specs.Prelude.{ℕ, List, [], ◌∷◌, ◌++◌, map, flat_map}
use Rattle.std.specs.Option.{option_map_or}
use Rattle.std.specs.FinMap as fin
use Rattle.sync_data.specs.declared.instr.Instr.{Instr}
use Rattle.sync_base.specs.Effects.{ObjectName, CellPath, Edit, NewColumn, Change, instr_of}
use Rattle.sync_base.specs.States.{State, Tables, Cell}
use Rattle.store_walks.specs.Along.{columns_in, objects_in, cells_in}
use Rattle.snapshot_law.specs.Build.{new_tables, new_columns, cell_effects, object_effects}

-- edits of one cell
abbrev pub edit_instrs : CellPath → List Edit → List Instr
edit_instrs p es = map instr_of (map (λ e. Change p e) es)

-- what makes a cell of the default one
abbrev pub cell_instrs : State → ObjectName → List ℕ → Cell → List Instr
cell_instrs s o c x = map instr_of (cell_effects s o c x)

-- and all cells of an object
abbrev pub cells_instrs : State → ObjectName → List Instr
cells_instrs s o = flat_map (λ e. cell_instrs s o e.0 e.1) (cells_in s o)

-- the object with its cells, where it stands
abbrev pub object_instrs : State → ObjectName → List Instr
object_instrs s o = option_map_or (λ cells. map instr_of (object_effects s o cells)) (fin.get s.objects o) []

-- the columns of a table
abbrev pub columns_instrs : Tables → List ℕ → List Instr
columns_instrs ts t = flat_map (λ e. instr_of (NewColumn t e.0 e.1) ∷ []) (columns_in ts t)

-- the tables and then their columns
abbrev pub schema_instrs : State → List Instr
schema_instrs s = map instr_of (new_tables s ++ new_columns s)

-- the objects of a table, each with its cells
abbrev pub table_instrs : State → List ℕ → List Instr
table_instrs s t = flat_map (λ e. map instr_of (object_effects s (t, e.0) e.1)) (objects_in t (fin.entries s.objects))
