-- The merged state of two effects, cell by cell. No instruction is rewritten here, and no index shifted.
use Rattle.std.specs.Prelude.{ℕ, ℤ, suc, Bool, true, false, not, ◌||◌, ◌&&◌, ◌==◌, if◌then◌else◌, List, [], ◌∷◌, ◌++◌, Option, None, Some}
use Rattle.std.proofs.Common.{zero}
use Rattle.std.specs.declared.cmp.Ordering.{Ordering}
use Rattle.std.specs.Ordering.{eq_by_cmp, on, then_cmp}
use Rattle.std.specs.Option.{unwrap_or}
use Rattle.std.specs.FinMap as map
use Rattle.std.specs.FinSet as set
use Rattle.sync_data.specs.Orders.{name_cmp}
use Rattle.sync_data.specs.declared.value.Value.{Value}
use Rattle.sync_data.specs.declared.value.Value.TheVariants as values
use Rattle.sync_data.specs.declared.column.Kind.{Kind}
use Rattle.sync_data.specs.declared.column.Kind.TheVariants as kinds
use Rattle.sync_data.specs.declared.column.Column.{Column}
use Rattle.sync_data.specs.declared.instr.Instr.{Instr}
use Rattle.sync_base.specs.Effects.{effect_of, ObjectName, CellPath, Edit, Effect, Set, Add, Replace, Insert, Remove, NewTable, NewColumn, Create, Erase, Change, Empty}
use Rattle.sync_base.specs.Maps.{map_with}
use Rattle.sync_base.specs.States.{State, Tables, Cell, One, Many, Members, Dict, object_cmp, cell_at, key_rank_of, shape_rank}
use Rattle.sync_base.specs.After.{edited, added, sum64, default_of, tables_after}

-- cells by object and then column
abbrev pub path_cmp : CellPath → CellPath → Ordering
path_cmp = then_cmp (on (λ p. p.0) object_cmp) (on (λ p. p.1) name_cmp)

-- ---- the text of a list with marks: the values at each gap, and what each element becomes
abbrev pub text : {V : Type 0} → (ℕ → List V) → (ℕ → V → List V) → List V → List V
text gap element [] = gap 0
text gap element (x ∷ xs) = gap 0 ++ element 0 x ++ text (λ g. gap (suc g)) (λ g. element (suc g)) xs

-- the place is that gap or element
abbrev pub is_at : ℕ → ℕ → Bool
is_at zero zero = true
is_at (suc p) (suc g) = is_at p g
is_at p g = false

abbrev pub gap_of : Edit → ℕ → List Value
gap_of (Insert s v) g = if is_at s.place g then v ∷ [] else []
gap_of e g = []

abbrev pub erased_by : Edit → ℕ → Bool
erased_by (Remove s) g = is_at s.place g
erased_by e g = false

abbrev pub updated_by : Edit → ℕ → Value → Value
updated_by (Replace s v) g x = if is_at s.place g then v else x
updated_by e g x = x

abbrev pub element_of : Edit → Edit → ℕ → Value → List Value
element_of earlier later g x = if erased_by earlier g || erased_by later g then [] else updated_by later g (updated_by earlier g x) ∷ []

-- at each gap the earlier insertion stands before the later one; then the element with its updates, unless it is erased
abbrev pub text_of : Edit → Edit → List Value → List Value
text_of earlier later = text (λ g. gap_of earlier g ++ gap_of later g) (element_of earlier later)

-- ---- a cell that both sides change
-- the sum of all three, modulo 2^64; null stays null
abbrev pub sum_of : ℤ → ℤ → Value → Value
sum_of m n (values.Int k) = values.Int (sum64 (sum64 k m) n)
sum_of m n v = v

-- the first is the earlier edit
abbrev pub merged_value : Edit → Edit → Value → Value
merged_value (Set v) (Set w) x = w
merged_value (Set v) (Add n) x = added n v
merged_value (Add n) (Set v) x = v
merged_value (Add m) (Add n) x = sum_of m n x
merged_value e f x = x

abbrev pub empties : Edit → Bool
empties Empty = true
empties e = false

-- a cell that one clears is empty; in a set and a dictionary the later says what becomes of what both touch
abbrev pub merged_in_order : Edit → Edit → Cell → Cell
merged_in_order earlier later (One x) = One (merged_value earlier later x)
merged_in_order earlier later (Many xs) = Many (if empties earlier || empties later then [] else text_of earlier later xs)
merged_in_order earlier later (Members xs) = if empties earlier || empties later then Members set.empty else edited later (edited earlier (Members xs))
merged_in_order earlier later (Dict m) = if empties earlier || empties later then Dict map.empty else edited later (edited earlier (Dict m))

-- the flag is whether the left is later
abbrev pub merged_cell : Bool → Edit → Edit → Cell → Cell
merged_cell true left right x = merged_in_order right left x
merged_cell false left right x = merged_in_order left right x

-- what an effect does to a cell
abbrev pub touch : Effect → CellPath → Option Edit
touch (Change p e) q = if eq_by_cmp path_cmp q p then Some e else None
touch d q = None

-- no side, one side, or both sides touch it
abbrev pub merged_touch : Bool → Option Edit → Option Edit → Cell → Cell
merged_touch l None None x = x
merged_touch l (Some e) None x = edited e x
merged_touch l None (Some f) x = edited f x
merged_touch l (Some e) (Some f) x = merged_cell l e f x

-- ---- the objects: those of the state and those created, but for those erased
abbrev pub Presence : Type 0
Presence = map.FinMap object_cmp (Unit {0})

abbrev pub with_created : Effect → Presence → Presence
with_created (Create o) m = map.insert m o tt
with_created d m = m

abbrev pub without_erased : Effect → Presence → Presence
without_erased (Erase o) m = map.remove m o
without_erased d m = m

abbrev pub presence : State → Presence
presence s = map_with (λ o cells. tt) s.objects

abbrev pub merged_presence : State → Effect → Effect → Presence
merged_presence s a b = without_erased b (without_erased a (with_created b (with_created a (presence s))))

-- a cell as it is, and else the default
abbrev pub cell_or_default : State → ObjectName → List ℕ → Column → Cell
cell_or_default s o c def = unwrap_or (cell_at s o c) (default_of def)

abbrev pub columns_in : Tables → List ℕ → map.FinMap name_cmp Column
columns_in tables t = elim (map.get tables t) [ None ↦ map.empty | Some table ↦ table.columns ]

-- a state of tables, objects, and a cell for each column of each object's table
abbrev pub built : Tables → Presence → (ObjectName → List ℕ → Column → Cell) → State
built tables present cell = record { tables = tables; objects = map_with (λ o u. map_with (cell o) (columns_in tables o.0)) present }

-- the tables that both sides add to, the objects that stand, and each cell as the sides that touch it say
abbrev pub merged_state : State → Effect → Effect → Bool → State
merged_state s a b l = built (tables_after b (tables_after a s.tables)) (merged_presence s a b) (λ o c def. merged_touch l (touch a (o, c)) (touch b (o, c)) (cell_or_default s o c def))

-- ---- where it is defined: the two sides define no table and no column differently
abbrev pub kind_rank : Kind → ℕ
kind_rank kinds.Int = 0
kind_rank kinds.Bool = 1
kind_rank kinds.Text = 2
kind_rank kinds.Bytes = 3
kind_rank kinds.Time = 4
kind_rank kinds.Uuid = 5
kind_rank (kinds.Link t) = 6

abbrev pub target_of : Kind → List ℕ
target_of (kinds.Link t) = t
target_of k = []

abbrev pub bit : Bool → ℕ
bit b = if b then 1 else 0

abbrev pub same_column : Column → Column → Bool
same_column x y = kind_rank x.kind == kind_rank y.kind && eq_by_cmp name_cmp (target_of x.kind) (target_of y.kind) && bit x.nullable == bit y.nullable && shape_rank x.shape == shape_rank y.shape

abbrev pub is_defined : Effect → Effect → Bool
is_defined (NewTable t k) (NewTable u j) = not (eq_by_cmp name_cmp t u) || (key_rank_of k == key_rank_of j)
is_defined (NewColumn t c x) (NewColumn u d y) = not (eq_by_cmp name_cmp t u && eq_by_cmp name_cmp c d) || same_column x y
is_defined a b = true

-- the merged state of two instructions, or none
abbrev pub merge : Instr → Instr → Bool → State → Option State
merge a b later s = if is_defined (effect_of a) (effect_of b) then Some (merged_state s (effect_of a) (effect_of b) later) else None
