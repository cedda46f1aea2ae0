-- A table `t` of numbered objects with a column of each shape, its object 1, and what is looked up in it.
use Rattle.std.specs.Prelude.{◌≡◌, ℕ, pos, Bool, true, false, cond, List, [], ◌∷◌, None, Some}
use Rattle.std.specs.Option.{option_map}
use Rattle.std.specs.Ordering.{eq_by_cmp}
use Rattle.std.specs.FinMap as map
use Rattle.std.specs.FinSet as set
use Rattle.sync_data.specs.Orders.{name_cmp}
use Rattle.sync_data.specs.declared.key.Key.TheVariants as keys
use Rattle.sync_data.specs.declared.key.KeyKind.TheVariants as key_kinds
use Rattle.sync_data.specs.declared.value.Value.{Value}
use Rattle.sync_data.specs.declared.value.Value.TheVariants as values
use Rattle.sync_data.specs.declared.column.Kind.{Kind}
use Rattle.sync_data.specs.declared.column.Kind.TheVariants as kinds
use Rattle.sync_data.specs.declared.column.Shape.TheVariants as shapes
use Rattle.sync_data.specs.declared.column.Column.{Column}
use Rattle.sync_data.specs.declared.instr.CellName.{CellName}
use Rattle.sync_base.specs.Effects.{ObjectName, CellPath}
use Rattle.sync_base.specs.States.{State, Table, Cell, Cells, One, Many, Members, Dict, object_cmp}
use Rattle.sync_base.specs.Maps.{map_with}
use Rattle.sync_base.specs.Lemmas.Looks.{name_total, object_total, name_exact, object_exact}
use Rattle.sync_base.specs.Lemmas.Maps.{get-map_with}

-- ---- the names `t`, `n`, `m`, `s`, `l`, `u`, `k`, `d`, and `z`, which names nothing
abbrev pub t : List ℕ
t = 116 ∷ []

abbrev pub n : List ℕ
n = 110 ∷ []

abbrev pub m : List ℕ
m = 109 ∷ []

abbrev pub s : List ℕ
s = 115 ∷ []

abbrev pub l : List ℕ
l = 108 ∷ []

abbrev pub u : List ℕ
u = 117 ∷ []

abbrev pub k : List ℕ
k = 107 ∷ []

abbrev pub d : List ℕ
d = 100 ∷ []

abbrev pub z : List ℕ
z = 122 ∷ []

-- ---- the texts "a", "b", "x", "y"
abbrev pub letter : ℕ → Value
letter c = values.Text (c ∷ [])

abbrev pub a : Value
a = letter 97

abbrev pub b : Value
b = letter 98

abbrev pub x : Value
x = letter 120

abbrev pub y : Value
y = letter 121

abbrev pub int : ℕ → Value
int i = values.Int (pos i)

-- ---- columns
abbrev pub column : Kind → Bool → Column
column kind nullable = record { kind = kind; nullable = nullable; shape = shapes.One }

abbrev pub n_column : Column
n_column = column kinds.Int false

abbrev pub m_column : Column
m_column = column kinds.Int true

abbrev pub s_column : Column
s_column = column kinds.Text true

abbrev pub l_column : Column
l_column = record { kind = kinds.Text; nullable = true; shape = shapes.List }

abbrev pub u_column : Column
u_column = record { kind = kinds.Int; nullable = false; shape = shapes.Set }

abbrev pub k_column : Column
k_column = column (kinds.Link t) true

abbrev pub d_column : Column
d_column = record { kind = kinds.Int; nullable = false; shape = shapes.Dict }

-- ---- objects and cells
abbrev pub object : ℕ → ObjectName
object i = (t, keys.Int (pos i))

abbrev pub path : List ℕ → CellPath
path c = (object 1, c)

abbrev pub cell : List ℕ → CellName
cell c = record { table = t; key = keys.Int (pos 1); column = c }

-- ---- the state in which cell n is 0, l is ["x", "y"], and s and m are null
abbrev pub columns : map.FinMap name_cmp Column
columns = map.insert (map.insert (map.insert (map.insert (map.insert (map.insert (map.insert map.empty n n_column) m m_column) s s_column) l l_column) u u_column) k k_column) d d_column

abbrev pub no_items : Cell
no_items = Members set.empty

abbrev pub cells : Cells
cells = map.insert (map.insert (map.insert (map.insert (map.insert (map.insert (map.insert map.empty n (One (int 0))) m (One values.Null)) s (One values.Null)) l (Many (x ∷ y ∷ []))) u no_items) k (One values.Null)) d (Dict map.empty)

abbrev pub here : State
here = record { tables = map.insert map.empty t (record { key = key_kinds.Int; columns = columns }); objects = map.insert map.empty (object 1) cells }

-- ---- what is looked up
pub put_table : (ts : map.FinMap name_cmp Table) (p : List ℕ) (v : Table) (q : List ℕ) → map.get (map.insert ts p v) q ≡ cond (eq_by_cmp name_cmp q p) (Some v) (map.get ts q)
put_table = map.get-insert name_total

pub put_column : (cs : map.FinMap name_cmp Column) (p : List ℕ) (v : Column) (q : List ℕ) → map.get (map.insert cs p v) q ≡ cond (eq_by_cmp name_cmp q p) (Some v) (map.get cs q)
put_column = map.get-insert name_total

pub put_cell : (cs : Cells) (p : List ℕ) (v : Cell) (q : List ℕ) → map.get (map.insert cs p v) q ≡ cond (eq_by_cmp name_cmp q p) (Some v) (map.get cs q)
put_cell = map.get-insert name_total

pub put_object : (os : map.FinMap object_cmp Cells) (p : ObjectName) (v : Cells) (q : ObjectName) → map.get (map.insert os p v) q ≡ cond (eq_by_cmp object_cmp q p) (Some v) (map.get os q)
put_object = map.get-insert object_total

pub no_table : (q : List ℕ) → map.get (map.empty {X = Table} {R = name_cmp}) q ≡ None
no_table = map.get-empty name_cmp

pub no_column : (q : List ℕ) → map.get (map.empty {X = Column} {R = name_cmp}) q ≡ None
no_column = map.get-empty name_cmp

pub no_object : (q : ObjectName) → map.get (map.empty {X = Cells} {R = object_cmp}) q ≡ None
no_object = map.get-empty object_cmp

pub each_object : (f : ObjectName → Cells → Cells) (os : map.FinMap object_cmp Cells) (q : ObjectName) → map.get (map_with f os) q ≡ option_map (f q) (map.get os q)
each_object f = get-map_with f object_exact

pub each_column : (f : List ℕ → Column → Cell) (cs : map.FinMap name_cmp Column) (q : List ℕ) → map.get (map_with f cs) q ≡ option_map (f q) (map.get cs q)
each_column f = get-map_with f name_exact

pub ruleset looks = (put_table, put_column, put_cell, put_object, no_table, no_column, no_object, each_object, each_column)
