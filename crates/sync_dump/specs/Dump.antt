-- The dump of a state: a line of JSON for each table, each of its columns and each of its objects.
use Rattle.std.specs.Prelude.{ℕ, if◌then◌else◌, List, [], ◌∷◌, ◌++◌, codes, flat_map, Option}
use Rattle.std.specs.Option.{option_map_or}
use Rattle.std.specs.Ordering.{eq_by_cmp}
use Rattle.std.specs.FinMap as map
use Rattle.std.specs.FinSet as set
use Rattle.serde_json.specs.Data as json
use Rattle.serde_json.specs.Written.{compact_text}
use Rattle.sync_data.specs.Orders.{name_cmp, value_cmp}
use Rattle.sync_data.specs.declared.key.Key.{Key}
use Rattle.sync_data.specs.declared.key.KeyKind.{KeyKind}
use Rattle.sync_data.specs.declared.key.KeyKind.TheVariants as key_kinds
use Rattle.sync_data.specs.declared.value.Value.{Value}
use Rattle.sync_data.specs.declared.value.Value.TheVariants as values
use Rattle.sync_data.specs.declared.column.Column.{Column}
use Rattle.sync_base.specs.Effects.{ObjectName}
use Rattle.sync_base.specs.States.{State, Table, Cell, One, Many, Members, Dict, Cells, has, cell_at}
use Rattle.sync_value_text.specs.Printed.{data_of_key, data_of_value, kind_word, shape_word, target_name, target_field}

-- ---- cells
-- a value has its form, but a link also tells whether its object stands
abbrev pub data_of_link : State → List ℕ → Key → json.Data
data_of_link s table key = json.object (
    json.member (codes "key") (data_of_key key)
    (json.member (codes "link") (json.string table)
    (json.member (codes "resolved") (json.boolean (has s (table, key)))
    json.no_members)))

abbrev pub data_of : State → Value → json.Data
data_of s (values.Link table key) = data_of_link s table key
data_of s v = data_of_value v

abbrev pub items_of : State → List Value → json.Items
items_of s [] = json.no_items
items_of s (v ∷ vs) = json.item (data_of s v) (items_of s vs)

abbrev pub bindings_of : State → List (List ℕ × Value) → json.Members
bindings_of s [] = json.no_members
bindings_of s (e ∷ es) = json.member e.0 (data_of s e.1) (bindings_of s es)

-- the values of a set, in their order: they are the keys of a map
abbrev pub keyed : List Value → map.FinMap value_cmp (Unit {0})
keyed [] = map.empty
keyed (v ∷ vs) = map.insert (keyed vs) v tt

abbrev pub in_order : set.FinSet value_cmp → List Value
in_order vs = map.keys (keyed (set.items vs))

-- a list and a set are arrays, a set in the order of its values; a dictionary is an object, in the order of its keys
abbrev pub data_of_cell : State → Cell → json.Data
data_of_cell s (One v) = data_of s v
data_of_cell s (Many vs) = json.array (items_of s vs)
data_of_cell s (Members vs) = json.array (items_of s (in_order vs))
data_of_cell s (Dict m) = json.object (bindings_of s (map.entries m))

abbrev pub data_of_field : State → Option Cell → json.Data
data_of_field s cell = option_map_or (data_of_cell s) cell json.null

-- a field for each column (in every state each object has a cell for each column of its table)
abbrev pub cells_of : State → ObjectName → List (List ℕ × Column) → json.Members
cells_of s o [] = json.no_members
cells_of s o (e ∷ es) = json.member e.0 (data_of_field s (cell_at s o e.0)) (cells_of s o es)

-- ---- what each line says
abbrev pub key_word : KeyKind → List ℕ
key_word key_kinds.Int = codes "Int"
key_word key_kinds.Text = codes "Text"
key_word key_kinds.Uuid = codes "Uuid"

abbrev pub data_of_table : List ℕ → KeyKind → json.Data
data_of_table table kind = json.object (
    json.member (codes "key") (json.string (key_word kind))
    (json.member (codes "table") (json.string table)
    json.no_members))

abbrev pub data_of_column : List ℕ → List ℕ → Column → json.Data
data_of_column table name column = json.object (
    json.member (codes "column") (json.string name)
    (json.member (codes "kind") (json.string (kind_word column.kind))
    (json.member (codes "nullable") (json.boolean column.nullable)
    (json.member (codes "shape") (json.string (shape_word column.shape))
    (json.member (codes "table") (json.string table)
    (target_field (target_name column.kind)))))))

abbrev pub data_of_object : State → List (List ℕ × Column) → ObjectName → json.Data
data_of_object s columns o = json.object (
    json.member (codes "cells") (json.object (cells_of s o columns))
    (json.member (codes "key") (data_of_key o.1)
    (json.member (codes "table") (json.string o.0)
    json.no_members)))

-- ---- the lines
-- compact JSON and a line feed
abbrev pub line : json.Data → List ℕ
line d = compact_text d ++ 10 ∷ []

-- the objects of one table by key, in order
abbrev pub objects_in : List ℕ → List (ObjectName × Cells) → List (Key × Cells)
objects_in table [] = []
objects_in table (e ∷ es) = if eq_by_cmp name_cmp table e.0.0 then (e.0.1, e.1) ∷ objects_in table es else objects_in table es

abbrev pub column_lines : List ℕ → List (List ℕ × Column) → List ℕ
column_lines table = flat_map (λ e. line (data_of_column table e.0 e.1))

abbrev pub object_lines : State → List (List ℕ × Column) → List ℕ → List (Key × Cells) → List ℕ
object_lines s columns table = flat_map (λ e. line (data_of_object s columns (table, e.0)))

-- a table's line, those of its columns in order of names, and those of its objects in order of keys
abbrev pub table_lines : State → List ℕ → Table → List ℕ
table_lines s name table =
    line (data_of_table name table.key) ++ column_lines name (map.entries table.columns)
    ++ object_lines s (map.entries table.columns) name (objects_in name (map.entries s.objects))

-- all tables in order of names
abbrev pub dump : State → List ℕ
dump s = flat_map (λ e. table_lines s e.0 e.1) (map.entries s.tables)
