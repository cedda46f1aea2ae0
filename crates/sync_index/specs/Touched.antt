-- What an index knows of a list of instructions, and what it tells of an instruction that may meet them.
use Rattle.std.specs.Prelude.{◌≡◌, Bool, true, false, not, ◌||◌, List, [], ◌∷◌, Option, None, Some, is_some, Ok}
use Rattle.std.specs.Option.{option_map_or, unwrap_or}
use Rattle.std.specs.Ordering.{eq_by_cmp}
use Rattle.std.specs.FinMap as map
use Rattle.std.specs.FinSet as set
use Rattle.sync_data.specs.Orders.{name_cmp, key_cmp}
use Rattle.sync_data.specs.declared.instr.Instr.{Instr}
use Rattle.sync_base.specs.Effects.{ObjectName, effect_of}
use Rattle.sync_base.specs.States.{object_cmp}
use Rattle.sync_base.specs.Objects.{object_of}
use Rattle.sync_base.specs.Rules.{meeting}

-- the objects that the instructions are about, by table, and whether one of them adds a table or a column
pub record Touched : Type 0 where
  pub objects : map.FinMap name_cmp (set.FinSet key_cmp)
  pub schema : Bool

abbrev pub holds : map.FinMap name_cmp (set.FinSet key_cmp) → ObjectName → Bool
holds objects o = option_map_or (λ keys. set.contains keys o.1) (map.get objects o.0) false

abbrev pub has_object : Touched → ObjectName → Bool
has_object t o = holds t.objects o

-- ---- what is indexed
abbrev pub is_one : ObjectName → Option ObjectName → Bool
is_one o None = false
is_one o (Some p) = eq_by_cmp object_cmp o p

abbrev pub is_about : ObjectName → Instr → Bool
is_about o i = is_one o (object_of (effect_of i))

-- it adds a table or a column
abbrev pub is_of_schema : Instr → Bool
is_of_schema i = not (is_some (object_of (effect_of i)))

-- with one object more
abbrev pub with_name : ObjectName → map.FinMap name_cmp (set.FinSet key_cmp) → map.FinMap name_cmp (set.FinSet key_cmp)
with_name o objects = map.insert objects o.0 (set.insert (unwrap_or (map.get objects o.0) set.empty) o.1)

-- with the first of them, where there is one
abbrev pub with_first : Option ObjectName → map.FinMap name_cmp (set.FinSet key_cmp) → map.FinMap name_cmp (set.FinSet key_cmp)
with_first None objects = objects
with_first (Some o) objects = with_name o objects

-- one more is held
abbrev pub HoldsMore : ObjectName → map.FinMap name_cmp (set.FinSet key_cmp) → map.FinMap name_cmp (set.FinSet key_cmp) → Type 0
HoldsMore p before after = (o : ObjectName) → holds after o ≡ (eq_by_cmp object_cmp o p || holds before o)

-- what an instruction is about is added: its object, or that it is of the schema
abbrev pub Adds : Option ObjectName → Touched → Touched → Type 0
Adds p before after = ((o : ObjectName) → has_object after o ≡ (is_one o p || has_object before o)) × (after.schema ≡ (not (is_some p) || before.schema))

-- ---- what may be touched
abbrev pub touches : Touched → Option ObjectName → Bool
touches t None = t.schema
touches t (Some o) = has_object t o

abbrev pub may_touch : Touched → Instr → Bool
may_touch t i = touches t (object_of (effect_of i))

-- the index knows of every instruction of the list
abbrev pub Covers : Touched → List Instr → Type 0
Covers t [] = Unit {0}
Covers t (b ∷ bs) = (may_touch t b ≡ true) × Covers t bs

-- both stay as they are, on whichever side they stand and whichever is later
abbrev pub Apart : Instr → Instr → Type 0
Apart a b = (later : Bool) → (meeting a b later ≡ Ok (record { left = Some a; right = Some b })) × (meeting b a later ≡ Ok (record { left = Some b; right = Some a }))

abbrev pub ApartFromAll : Instr → List Instr → Type 0
ApartFromAll a [] = Unit {0}
ApartFromAll a (b ∷ bs) = Apart a b × ApartFromAll a bs
