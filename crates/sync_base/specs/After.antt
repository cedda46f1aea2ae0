-- The state after an effect.
use Rattle.std.specs.Prelude.{ℕ, ℤ, pos, ◌+ℤ◌, false, if◌then◌else◌, List, [], Option, None, Some, slice_set, replicate}
use Rattle.std.specs.Ordering.{eq_by_cmp}
use Rattle.std.specs.FinMap as map
use Rattle.std.specs.FinSet as set
use Rattle.std.specs.Int.{int_wrap, w64}
use Rattle.std.specs.List.{insert, remove}
use Rattle.sync_data.specs.Orders.{name_cmp}
use Rattle.sync_data.specs.declared.value.Value.{Value}
use Rattle.sync_data.specs.declared.value.Value.TheVariants as values
use Rattle.sync_data.specs.declared.column.Kind.{Kind}
use Rattle.sync_data.specs.declared.column.Kind.TheVariants as kinds
use Rattle.sync_data.specs.declared.column.Shape.{Shape}
use Rattle.sync_data.specs.declared.column.Shape.TheVariants as shapes
use Rattle.sync_data.specs.declared.column.Column.{Column}
use Rattle.sync_base.specs.Maps.{map_with}
use Rattle.sync_base.specs.Effects.{ObjectName, Edit, Effect, Set, Add, Replace, Insert, Remove, Include, Exclude, Bind, Empty, NewTable, NewColumn, Create, Erase, Change}
use Rattle.sync_base.specs.States.{State, Table, Tables, Cell, Cells, One, Many, Members, Dict, object_cmp, has}

-- ---- the default cell of a column
abbrev pub zero_of : Kind → Value
zero_of kinds.Int = values.Int (pos 0)
zero_of kinds.Bool = values.Bool false
zero_of kinds.Text = values.Text []
zero_of kinds.Bytes = values.Bytes []
zero_of kinds.Time = values.Time (record { secs = pos 0; nanos = pos 0 })
zero_of kinds.Uuid = values.Uuid (replicate 16 0)
zero_of (kinds.Link t) = values.Null

abbrev pub default_by : Shape → Column → Cell
default_by shapes.One col = One (if col.nullable then values.Null else zero_of col.kind)
default_by shapes.List col = Many []
default_by shapes.Set col = Members set.empty
default_by shapes.Dict col = Dict map.empty

abbrev pub default_of : Column → Cell
default_of col = default_by col.shape col

-- ---- what an edit does to a cell
-- modulo 2^64, in two's complement
abbrev pub sum64 : ℤ → ℤ → ℤ
sum64 m n = int_wrap w64 (m +ℤ n)

abbrev pub added : ℤ → Value → Value
added n (values.Int m) = values.Int (sum64 m n)
added n v = v

abbrev pub bound : map.FinMap name_cmp Value → List ℕ → Option Value → map.FinMap name_cmp Value
bound m k (Some v) = map.insert m k v
bound m k None = map.remove m k

abbrev pub edited : Edit → Cell → Cell
edited (Set v) (One w) = One v
edited (Add n) (One v) = One (added n v)
edited (Replace s v) (Many xs) = Many (slice_set xs s.place v)
edited (Insert s v) (Many xs) = Many (insert xs s.place v)
edited (Remove s) (Many xs) = Many (remove xs s.place)
edited (Include v) (Members xs) = Members (set.insert xs v)
edited (Exclude v) (Members xs) = Members (set.remove xs v)
edited (Bind k v) (Dict m) = Dict (bound m k v)
edited Empty (Many xs) = Many []
edited Empty (Members xs) = Members set.empty
edited Empty (Dict m) = Dict map.empty
edited e x = x

-- ---- the tables
abbrev pub with_column : List ℕ → Column → Table → Table
with_column c def table = record { key = table.key; columns = map.insert table.columns c def }

abbrev pub tables_after : Effect → Tables → Tables
tables_after (NewTable t k) tables = map.insert tables t (record { key = k; columns = map.empty })
tables_after (NewColumn t c def) tables = elim (map.get tables t) [ None ↦ tables | Some table ↦ map.insert tables t (with_column c def table) ]
tables_after d tables = tables

-- ---- the objects
-- an object's cells, where its table gets a column
abbrev pub with_default : List ℕ → List ℕ → Column → ObjectName → Cells → Cells
with_default t c def o cells = if eq_by_cmp name_cmp o.0 t then map.insert cells c (default_of def) else cells

-- the cells of a new object
abbrev pub new_cells : Option Table → Cells
new_cells None = map.empty
new_cells (Some table) = map_with (λ c def. default_of def) table.columns

abbrev pub changed : List ℕ → Edit → Cells → Cells
changed c e cells = elim (map.get cells c) [ None ↦ cells | Some x ↦ map.insert cells c (edited e x) ]

abbrev pub objects_after : Effect → State → map.FinMap object_cmp Cells
objects_after (NewTable t k) s = s.objects
objects_after (NewColumn t c def) s = map_with (with_default t c def) s.objects
objects_after (Create o) s = if has s o then s.objects else map.insert s.objects o (new_cells (map.get s.tables o.0))
objects_after (Erase o) s = map.remove s.objects o
objects_after (Change p e) s = elim (map.get s.objects p.0) [ None ↦ s.objects | Some cells ↦ map.insert s.objects p.0 (changed p.1 e cells) ]

abbrev pub after : State → Effect → State
after s d = record { tables = tables_after d s.tables; objects = objects_after d s }
