-- A state as a list of instructions: tables, columns, and each object with its cells.
use Rattle.std.specs.Prelude.{ℕ, suc, Bool, false, if◌then◌else◌, List, [], ◌∷◌, ◌++◌, map, Option, Some, None}
use Rattle.std.specs.Ordering.{eq_by_cmp}
use Rattle.std.specs.FinMap as fin
use Rattle.sync_data.specs.Orders.{value_cmp}
use Rattle.sync_data.specs.declared.column.Column.{Column}
use Rattle.sync_data.specs.declared.instr.Instr.{Instr}
use Rattle.sync_data.specs.declared.value.Value.{Value}
use Rattle.sync_base.specs.Effects.{ObjectName, Edit, Effect, Set, Insert, Include, Bind, NewTable, NewColumn, Create, Change, instr_of}
use Rattle.sync_base.specs.States.{State, Table, Cell, Cells, One, Many, Members, Dict, column_in}
use Rattle.sync_base.specs.After.{default_of}
use Rattle.sync_model.specs.Cuts.{cut}
use Rattle.store_walks.specs.Along.{in_order}

-- one list behind the other
abbrev pub joined : {A : Type 0} → List (List A) → List A
joined [] = []
joined (xs ∷ xss) = xs ++ joined xss

-- ---- tables and columns, in order of names
abbrev pub new_tables : State → List Effect
new_tables s = map (λ e. NewTable e.0 e.1.key) (fin.entries s.tables)

-- the columns of a table
abbrev pub columns_of : List ℕ → Table → List Effect
columns_of t table = map (λ e. NewColumn t e.0 e.1) (fin.entries table.columns)

-- and of all tables
abbrev pub new_columns : State → List Effect
new_columns s = joined (map (λ e. columns_of e.0 e.1) (fin.entries s.tables))

-- ---- cells
-- each element at its place, at the end of what stands before it
abbrev pub insertions : ℕ → List Value → List Edit
insertions k [] = []
insertions k (v ∷ vs) = Insert (record { place = k; prior = k }) v ∷ insertions (suc k) vs

-- the value is the default one
abbrev pub is_default : Value → Cell → Bool
is_default v (One w) = eq_by_cmp value_cmp v w
is_default v (Many xs) = false
is_default v (Members xs) = false
is_default v (Dict m) = false

-- what makes a cell of the default one; the default list, set and dictionary are empty
abbrev pub edits_of : Cell → Cell → List Edit
edits_of default (One v) = if is_default v default then [] else Set v ∷ []
edits_of default (Many xs) = insertions 0 xs
edits_of default (Members xs) = map (λ v. Include v) (in_order xs)
edits_of default (Dict m) = map (λ e. Bind e.0 (Some e.1)) (fin.entries m)

-- a cell of a column of its table
abbrev pub cell_edits : Option Column → Cell → List Edit
cell_edits None x = []
cell_edits (Some col) x = edits_of (default_of col) x

-- ---- objects, in order of table and key, each with its cells in order of columns
abbrev pub cell_effects : State → ObjectName → List ℕ → Cell → List Effect
cell_effects s o c x = map (λ e. Change (o, c) e) (cell_edits (column_in s.tables o.0 c) x)

-- an object, and what isn't the default of its cells
abbrev pub object_effects : State → ObjectName → Cells → List Effect
object_effects s o cells = Create o ∷ joined (map (λ e. cell_effects s o e.0 e.1) (fin.entries cells))

-- all objects
abbrev pub new_objects : State → List Effect
new_objects s = joined (map (λ e. object_effects s e.0 e.1) (fin.entries s.objects))

-- ---- all of it
abbrev pub built_effects : State → List Effect
built_effects s = new_tables s ++ (new_columns s ++ new_objects s)

-- as instructions
abbrev pub built_list : State → List Instr
built_list s = map instr_of (built_effects s)

-- and as changesets, each the longest beginning of the rest within the limits
abbrev pub build : (List Instr → Bool) → State → List (List Instr)
build small s = cut small (built_list s)
