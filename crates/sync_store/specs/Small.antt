-- What every store holds is small enough to be spelled in one changeset: bytes of a value beside the names under which it
-- stands, and elements of a list.
use Rattle.std.specs.Prelude.{◌≡◌, ℕ, ◌+◌, ◌-◌, ◌≤◌, List, [], ◌∷◌, length, true, Some}
use Rattle.std.specs.FinMap as map
use Rattle.std.specs.FinSet as set
use Rattle.sync_data.specs.Payload.{key_payload, value_payload, payload}
use Rattle.sync_data.specs.declared.instr.Instr.{Instr}
use Rattle.sync_data.specs.declared.value.Value.{Value}
use Rattle.sync_base.specs.Effects.{ObjectName, Effect, Insert, Change, effect_of}
use Rattle.sync_base.specs.States.{State, Cell, One, Many, Members, Dict, cell_at}

abbrev pub most_bytes : ℕ
most_bytes = 4194304

abbrev pub most_elements : ℕ
most_elements = 4294967296

-- the bytes of the names under which a cell stands
abbrev pub names_of : ObjectName → List ℕ → ℕ
names_of o c = length o.0 + key_payload o.1 + length c

-- beside so many bytes of names
abbrev pub IsSmallValue : ℕ → Value → Type 0
IsSmallValue n v = value_payload v ≤ most_bytes - n

abbrev pub AreSmall : ℕ → List Value → Type 0
AreSmall n [] = Unit {0}
AreSmall n (v ∷ vs) = IsSmallValue n v × AreSmall n vs

abbrev pub IsSmallCell : ℕ → Cell → Type 0
IsSmallCell n (One v) = IsSmallValue n v
IsSmallCell n (Many xs) = (length xs ≤ most_elements) × AreSmall n xs
IsSmallCell n (Members xs) = (v : Value) → set.contains xs v ≡ true → IsSmallValue n v
IsSmallCell n (Dict m) = (k : List ℕ) (v : Value) → map.get m k ≡ Some v → IsSmallValue (n + length k) v

abbrev pub IsSmallState : State → Type 0
IsSmallState s = (o : ObjectName) (c : List ℕ) (x : Cell) → cell_at s o c ≡ Some x → IsSmallCell (names_of o c) x

-- an insertion is into a list that can grow
abbrev pub MayGrow : Effect → Type 0
MayGrow (Change p (Insert s v)) = s.prior ≤ 4294967295
MayGrow d = Unit {0}

-- an instruction that a changeset may bear
abbrev pub IsSmallInstr : Instr → Type 0
IsSmallInstr i = (payload i ≤ most_bytes) × MayGrow (effect_of i)
