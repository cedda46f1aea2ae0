-- What an instruction reads and changes of a state.
use Rattle.std.specs.Prelude.{◌≡◌, Bool, true, false, ◌&&◌, ◌||◌, List, ℕ, Some}
use Rattle.std.specs.Option.{option_map}
use Rattle.std.specs.Ordering.{eq_by_cmp}
use Rattle.std.specs.FinMap as map
use Rattle.sync_data.specs.Orders.{name_cmp}
use Rattle.sync_data.specs.declared.value.Value.{Value}
use Rattle.sync_data.specs.declared.value.Value.TheVariants as values
use Rattle.sync_data.specs.declared.column.Kind.{Kind}
use Rattle.sync_data.specs.declared.column.Kind.TheVariants as kinds
use Rattle.sync_data.specs.declared.instr.Instr.{Instr}
use Rattle.sync_base.specs.Effects.{ObjectName, CellPath, Edit, Effect, Set, Replace, Insert, Include, Exclude, Bind, NewTable, NewColumn, Create, Erase, Change, effect_of}
use Rattle.sync_base.specs.States.{State, Table, object_cmp, column_in, has, cell_at}
use Rattle.sync_base.specs.Checks.{act, break_of}
use Rattle.sync_base.specs.Merged.{path_cmp}

-- a part of a state: a table with its key kind, a column, whether an object is there, a cell
pub data Part : Type 0 where
  TableAt : (table : List ℕ) → Part
  ColumnAt : (table : List ℕ) (column : List ℕ) → Part
  ObjectAt : (object : ObjectName) → Part
  CellAt : (cell : CellPath) → Part

-- two states are alike there
abbrev pub SameAt : State → State → Part → Type 0
SameAt s t (TableAt u) = option_map (λ (x : Table). x.key) (map.get s.tables u) ≡ option_map (λ (x : Table). x.key) (map.get t.tables u)
SameAt s t (ColumnAt u c) = column_in s.tables u c ≡ column_in t.tables u c
SameAt s t (ObjectAt o) = has s o ≡ has t o
SameAt s t (CellAt p) = cell_at s p.0 p.1 ≡ cell_at t p.0 p.1

-- ---- what is changed
abbrev pub changes : Effect → Part → Bool
changes (NewTable t k) (TableAt u) = eq_by_cmp name_cmp u t
changes (NewColumn t c def) (ColumnAt u d) = eq_by_cmp name_cmp u t && eq_by_cmp name_cmp d c
changes (NewColumn t c def) (CellAt q) = eq_by_cmp name_cmp q.0.0 t && eq_by_cmp name_cmp q.1 c
changes (Create o) (ObjectAt p) = eq_by_cmp object_cmp p o
changes (Create o) (CellAt q) = eq_by_cmp object_cmp q.0 o
changes (Erase o) (ObjectAt p) = eq_by_cmp object_cmp p o
changes (Erase o) (CellAt q) = eq_by_cmp object_cmp q.0 o
changes (Change p e) (CellAt q) = eq_by_cmp path_cmp q p
changes d x = false

-- ---- what is read
-- a link's table is read for the kind of its keys
abbrev pub value_reads : Value → List ℕ → Bool
value_reads (values.Link t k) u = eq_by_cmp name_cmp u t
value_reads v u = false

abbrev pub edit_reads : Edit → List ℕ → Bool
edit_reads (Set v) u = value_reads v u
edit_reads (Replace s v) u = value_reads v u
edit_reads (Insert s v) u = value_reads v u
edit_reads (Include v) u = value_reads v u
edit_reads (Exclude v) u = value_reads v u
edit_reads (Bind k (Some v)) u = value_reads v u
edit_reads e u = false

abbrev pub kind_reads : Kind → List ℕ → Bool
kind_reads (kinds.Link t) u = eq_by_cmp name_cmp u t
kind_reads k u = false

-- a new column is given to each object of its table; a new object gets a cell for each column of its table
abbrev pub reads : Effect → Part → Bool
reads (NewTable t k) (TableAt u) = eq_by_cmp name_cmp u t
reads (NewColumn t c def) (TableAt u) = eq_by_cmp name_cmp u t || kind_reads def.kind u
reads (NewColumn t c def) (ColumnAt u d) = eq_by_cmp name_cmp u t && eq_by_cmp name_cmp d c
reads (NewColumn t c def) (ObjectAt o) = eq_by_cmp name_cmp o.0 t
reads (Create o) (TableAt u) = eq_by_cmp name_cmp u o.0
reads (Create o) (ColumnAt u d) = eq_by_cmp name_cmp u o.0
reads (Create o) (ObjectAt p) = eq_by_cmp object_cmp p o
reads (Create o) (CellAt q) = eq_by_cmp object_cmp q.0 o
reads (Erase o) (TableAt u) = eq_by_cmp name_cmp u o.0
reads (Erase o) (ObjectAt p) = eq_by_cmp object_cmp p o
reads (Change p e) (TableAt u) = eq_by_cmp name_cmp u p.0.0 || edit_reads e u
reads (Change p e) (ColumnAt u d) = eq_by_cmp name_cmp u p.0.0 && eq_by_cmp name_cmp d p.1
reads (Change p e) (ObjectAt o) = eq_by_cmp object_cmp o p.0
reads (Change p e) (CellAt q) = eq_by_cmp path_cmp q p
reads d x = false

-- the footprint is what is read or changed; two meet where one changes a part of the other's
abbrev pub in_footprint : Effect → Part → Bool
in_footprint d x = reads d x || changes d x

abbrev pub FootprintsMeet : Effect → Effect → Type 0
FootprintsMeet a b = (x : Part) × (((changes a x && in_footprint b x) || (changes b x && in_footprint a x)) ≡ true)

-- ---- the frame law
abbrev pub AlikeFor : Effect → State → State → Type 0
AlikeFor d s t = (x : Part) → reads d x ≡ true → SameAt s t x

pub record Framed (i : Instr) : Type 0 where
  -- it changes nothing but what its footprint names as changed
  pub changes_alone : (s s1 : State) → act i s ≡ Some s1 → (x : Part) → changes (effect_of i) x ≡ false → SameAt s1 s x
  -- it reads its footprint alone: what it reads decides whether it acts, the break, and what it changes to
  pub same_break : (s t : State) → AlikeFor (effect_of i) s t → break_of s (effect_of i) ≡ break_of t (effect_of i)
  pub same_changes : (s t s1 t1 : State) → AlikeFor (effect_of i) s t → act i s ≡ Some s1 → act i t ≡ Some t1 → (x : Part) → changes (effect_of i) x ≡ true → SameAt s1 t1 x
