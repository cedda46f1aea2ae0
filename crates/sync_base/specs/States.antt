-- A state: the tables with their columns, and the objects with their cells.
use Rattle.std.specs.Prelude.{◌≡◌, ℕ, Bool, true, false, not, ◌&&◌, ◌==◌, if◌then◌else◌, List, [], ◌∷◌, is_some, Option, Some}
use Rattle.std.specs.declared.cmp.Ordering.{Ordering}
use Rattle.std.specs.Option.{option_and_then, option_map_or}
use Rattle.std.specs.Ordering.{eq_by_cmp, on, then_cmp}
use Rattle.std.specs.FinMap as map
use Rattle.std.specs.FinSet as set
use Rattle.sync_data.specs.Orders.{name_cmp, key_cmp, value_cmp, key_rank}
use Rattle.sync_data.specs.declared.key.Key.{Key}
use Rattle.sync_data.specs.declared.key.KeyKind.{KeyKind}
use Rattle.sync_data.specs.declared.key.KeyKind.TheVariants as key_kinds
use Rattle.sync_data.specs.declared.value.Value.{Value}
use Rattle.sync_data.specs.declared.value.Value.TheVariants as values
use Rattle.sync_data.specs.declared.column.Kind.{Kind}
use Rattle.sync_data.specs.declared.column.Kind.TheVariants as kinds
use Rattle.sync_data.specs.declared.column.Shape.{Shape}
use Rattle.sync_data.specs.declared.column.Shape.TheVariants as shapes
use Rattle.sync_data.specs.declared.column.Column.{Column}
use Rattle.sync_base.specs.Effects.{ObjectName}

-- objects by table and then key
abbrev pub object_cmp : ObjectName → ObjectName → Ordering
object_cmp = then_cmp (on (λ o. o.0) name_cmp) (on (λ o. o.1) key_cmp)

pub record Table : Type 0 where
  pub key : KeyKind
  pub columns : map.FinMap name_cmp Column

abbrev pub Tables : Type 0
Tables = map.FinMap name_cmp Table

pub data Cell : Type 0 where
  One : (value : Value) → Cell
  Many : (items : List Value) → Cell
  Members : (items : set.FinSet value_cmp) → Cell
  Dict : (items : map.FinMap name_cmp Value) → Cell

abbrev pub Cells : Type 0
Cells = map.FinMap name_cmp Cell

pub record State : Type 0 where
  pub tables : Tables
  pub objects : map.FinMap object_cmp Cells

-- nothing stands
abbrev pub no_state : State
no_state = record { tables = map.empty; objects = map.empty }

-- ---- what is looked up
abbrev pub column_in : Tables → List ℕ → List ℕ → Option Column
column_in tables t c = option_and_then (λ table. map.get table.columns c) (map.get tables t)

abbrev pub has : State → ObjectName → Bool
has s o = is_some (map.get s.objects o)

abbrev pub cell_at : State → ObjectName → List ℕ → Option Cell
cell_at s o c = option_and_then (λ cells. map.get cells c) (map.get s.objects o)

-- ---- kinds and shapes
abbrev pub key_rank_of : KeyKind → ℕ
key_rank_of key_kinds.Int = 0
key_rank_of key_kinds.Text = 1
key_rank_of key_kinds.Uuid = 2

abbrev pub is_of_kind : KeyKind → Key → Bool
is_of_kind kind k = key_rank_of kind == key_rank k

abbrev pub shape_rank : Shape → ℕ
shape_rank shapes.One = 0
shape_rank shapes.List = 1
shape_rank shapes.Set = 2
shape_rank shapes.Dict = 3

abbrev pub cell_rank : Cell → ℕ
cell_rank (One v) = 0
cell_rank (Many xs) = 1
cell_rank (Members xs) = 2
cell_rank (Dict m) = 3

-- the table stands, and the key is of its kind
abbrev pub is_key_of : Tables → List ℕ → Key → Bool
is_key_of ts t k = option_map_or (λ table. is_of_kind table.key k) (map.get ts t) false

-- ---- a value fits a column: it is null and may be, or is of the column's kind; a link's key is of its target's kind
abbrev pub is_of : Tables → Kind → Value → Bool
is_of ts kinds.Int (values.Int n) = true
is_of ts kinds.Bool (values.Bool b) = true
is_of ts kinds.Text (values.Text t) = true
is_of ts kinds.Bytes (values.Bytes b) = true
is_of ts kinds.Time (values.Time t) = true
is_of ts kinds.Uuid (values.Uuid u) = true
is_of ts (kinds.Link t) (values.Link u k) = eq_by_cmp name_cmp t u && is_key_of ts t k
is_of ts kind v = false

abbrev pub is_null : Value → Bool
is_null values.Null = true
is_null v = false

abbrev pub fits : Tables → Column → Value → Bool
fits ts col v = if is_null v then col.nullable else is_of ts col.kind v

abbrev pub Each : (Value → Bool) → List Value → Type 0
Each p [] = Unit {0}
Each p (x ∷ xs) = (p x ≡ true) × Each p xs

-- each value of the cell fits
abbrev pub CellFits : Tables → Column → Cell → Type 0
CellFits ts col (One v) = fits ts col v ≡ true
CellFits ts col (Many xs) = Each (fits ts col) xs
CellFits ts col (Dict m) = (k : List ℕ) (v : Value) → map.get m k ≡ Some v → fits ts col v ≡ true
CellFits ts col (Members xs) = (v : Value) → set.contains xs v ≡ true → fits ts col v ≡ true

-- ---- a column is sound: a link is nullable just where it is single
abbrev pub is_link : Kind → Bool
is_link (kinds.Link t) = true
is_link k = false

abbrev pub is_one : Shape → Bool
is_one shapes.One = true
is_one s = false

abbrev pub is_sound_column : Column → Bool
is_sound_column col = if is_link col.kind then (if is_one col.shape then col.nullable else not col.nullable) else true

-- a link's target stands
abbrev pub has_target : Tables → Kind → Bool
has_target ts (kinds.Link t) = is_some (map.get ts t)
has_target ts k = true

-- ---- what every state keeps
pub record IsState (s : State) : Type 0 where
  -- each object's table stands, and its key is of the table's kind
  pub keyed : (o : ObjectName) → has s o ≡ true → is_key_of s.tables o.0 o.1 ≡ true
  -- an object has a cell for each column of its table, and no other
  pub filled : (o : ObjectName) (c : List ℕ) → has s o ≡ true → is_some (cell_at s o c) ≡ is_some (column_in s.tables o.0 c)
  -- a cell has its column's shape, and each value in it fits the column
  pub shaped : (o : ObjectName) (c : List ℕ) (x : Cell) (col : Column) → cell_at s o c ≡ Some x → column_in s.tables o.0 c ≡ Some col → cell_rank x ≡ shape_rank col.shape
  pub fitting : (o : ObjectName) (c : List ℕ) (x : Cell) (col : Column) → cell_at s o c ≡ Some x → column_in s.tables o.0 c ≡ Some col → CellFits s.tables col x
  -- a link column's target stands, and it is nullable exactly where it is single
  pub columns : (t c : List ℕ) (col : Column) → column_in s.tables t c ≡ Some col → (is_sound_column col ≡ true) × (has_target s.tables col.kind ≡ true)
