-- The states that came of instructions which a changeset can bear, and of those which version 1 of the bytes can spell.
use Rattle.std.specs.Prelude.{◌≡◌, ℕ, ◌+◌, ◌-◌, ◌≤◌, true, false, is_some, List, length, Some}
use Rattle.std.specs.List.{flat_map, AllByRecursion}
use Rattle.std.specs.FinMap as map
use Rattle.std.specs.FinSet as set
use Rattle.sync_data.specs.Payload.{key_payload, value_payload}
use Rattle.sync_data.specs.declared.column.Column.{Column}
use Rattle.sync_data.specs.declared.column.Kind.{Kind}
use Rattle.sync_data.specs.declared.key.Key.{Key}
use Rattle.sync_data.specs.declared.value.Value.{Value}
use Rattle.sync_base.specs.Effects.{ObjectName}
use Rattle.sync_base.specs.States.{State, Cell, One, Many, Members, Dict, IsState, cell_at, column_in, has}
use Rattle.sync_codec.specs.Spelling.{key_fields, value_fields, target_fields, strings_in_field, has_dictionaries}
use Rattle.sync_codec.specs.Valid.{IsName, IsKey, IsKind, IsValue, IsString}

-- ---- what an instruction can bear

-- a name
abbrev pub IsHeldName : List ℕ → Type 0
IsHeldName s = IsName s × IsString s

-- a key
abbrev pub IsHeldKey : Key → Type 0
IsHeldKey k = IsKey k × AllByRecursion IsString (flat_map strings_in_field (key_fields k))

-- the kind of a column
abbrev pub IsHeldKind : Kind → Type 0
IsHeldKind k = IsKind k × AllByRecursion IsString (flat_map strings_in_field (target_fields k))

-- the bytes of the names under which a cell stands
abbrev pub names_of : ObjectName → List ℕ → ℕ
names_of o c = length o.0 + key_payload o.1 + length c

-- beside so many bytes of names
pub record IsHeldValue (n : ℕ) (v : Value) : Type 0 where
  pub value : IsValue v
  pub strings : AllByRecursion IsString (flat_map strings_in_field (value_fields v))
  pub light : value_payload v ≤ 4194304 - n

-- a cell under so many bytes of names, whose insertions have places below 2^32
abbrev pub IsHeldCell : ℕ → Cell → Type 0
IsHeldCell n (One v) = IsHeldValue n v
IsHeldCell n (Many xs) = (length xs ≤ 4294967296) × AllByRecursion (IsHeldValue n) xs
IsHeldCell n (Members xs) = (v : Value) → set.contains xs v ≡ true → IsHeldValue n v
IsHeldCell n (Dict m) = (k : List ℕ) (v : Value) → map.get m k ≡ Some v → IsString k × IsHeldValue (n + length k) v

-- ---- it is a state, and each name, key, column and value in it is one that an instruction can bear where it stands
pub record IsBounded (s : State) : Type 0 where
  pub is_state : IsState s
  pub tables : (t : List ℕ) → is_some (map.get s.tables t) ≡ true → IsHeldName t
  pub columns : (t c : List ℕ) (def : Column) → column_in s.tables t c ≡ Some def → IsHeldName c × IsHeldKind def.kind
  pub objects : (o : ObjectName) → has s o ≡ true → IsHeldKey o.1
  pub cells : (o : ObjectName) (c : List ℕ) (x : Cell) → cell_at s o c ≡ Some x → IsHeldCell (names_of o c) x

-- ---- no column is of dictionaries
abbrev pub IsOldState : State → Type 0
IsOldState s = (t c : List ℕ) (def : Column) → column_in s.tables t c ≡ Some def → has_dictionaries def.shape ≡ false
