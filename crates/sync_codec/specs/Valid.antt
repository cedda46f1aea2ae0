-- The instructions that the types can hold: numbers have 64 or 32 bits, uuids 16 bytes, names 1 to 63 bytes, and so on.
use Rattle.std.specs.Prelude.{◌≡◌, ℕ, ◌<◌, ◌≤◌, ◌^◌, true, not, nat_lt, List, length, Option, None, Some}
use Rattle.std.specs.List.{flat_map, AllByRecursion}
use Rattle.std.specs.Str.{is_utf8}
use Rattle.sync_data.specs.Spot.{Spot}
use Rattle.sync_data.specs.Times.{Moment}
use Rattle.sync_data.specs.Payload.{IsSmall}
use Rattle.sync_data.specs.declared.key.Key.{Key}
use Rattle.sync_data.specs.declared.key.Key.TheVariants as keys
use Rattle.sync_data.specs.declared.value.Value.{Value}
use Rattle.sync_data.specs.declared.value.Value.TheVariants as values
use Rattle.sync_data.specs.declared.column.Kind.{Kind}
use Rattle.sync_data.specs.declared.column.Kind.TheVariants as kinds
use Rattle.sync_data.specs.declared.instr.CellName.{CellName}
use Rattle.sync_data.specs.declared.instr.Instr.{Instr}
use Rattle.sync_data.specs.declared.instr.Instr.TheVariants as instrs
use Rattle.sync_io.specs.Varints.{zigzag}
use Rattle.sync_codec.specs.Reading.{is_name}
use Rattle.sync_codec.specs.Values.{is_time}
use Rattle.sync_codec.specs.Spelling.{instr_fields, strings_of}

abbrev pub IsName : List ℕ → Type 0
IsName s = is_name s ≡ true

abbrev pub IsKey : Key → Type 0
IsKey (keys.Int n) = zigzag n < 2 ^ 64
IsKey (keys.Text s) = Unit {0}
IsKey (keys.Uuid id) = length id ≡ 16

abbrev pub IsTimeValue : Moment → Type 0
IsTimeValue t = (zigzag t.secs < 2 ^ 64) × (zigzag t.nanos < 2 ^ 32) × (is_time t.secs t.nanos ≡ true)

abbrev pub IsTextValue : List ℕ → Type 0
IsTextValue t = (length t < 2 ^ 32) × (is_utf8 t ≡ true)

abbrev pub IsValue : Value → Type 0
IsValue values.Null = Unit {0}
IsValue (values.Int n) = zigzag n < 2 ^ 64
IsValue (values.Bool b) = Unit {0}
IsValue (values.Text t) = IsTextValue t
IsValue (values.Bytes bs) = length bs < 2 ^ 32
IsValue (values.Time t) = IsTimeValue t
IsValue (values.Uuid id) = length id ≡ 16
IsValue (values.Link table key) = IsName table × IsKey key

abbrev pub IsBinding : Option Value → Type 0
IsBinding None = Unit {0}
IsBinding (Some v) = IsValue v

abbrev pub IsKind : Kind → Type 0
IsKind (kinds.Link table) = IsName table
IsKind kind = Unit {0}

abbrev pub IsCell : CellName → Type 0
IsCell c = IsName c.table × IsKey c.key × IsName c.column

abbrev pub IsElement : Spot → Type 0
IsElement s = (s.place < 2 ^ 32) × (s.prior < 2 ^ 32) × (nat_lt s.place s.prior ≡ true)

abbrev pub IsGap : Spot → Type 0
IsGap s = (s.place < 2 ^ 32) × (s.prior < 2 ^ 32) × (not (nat_lt s.prior s.place) ≡ true)

abbrev pub IsInstr : Instr → Type 0
IsInstr (instrs.AddTable i) = IsName i.table
IsInstr (instrs.AddColumn i) = IsName i.table × IsName i.column × IsKind i.def.kind
IsInstr (instrs.CreateObject i) = IsName i.table × IsKey i.key
IsInstr (instrs.EraseObject i) = IsName i.table × IsKey i.key
IsInstr (instrs.Update i) = IsCell i.cell × IsValue i.value
IsInstr (instrs.AddInteger i) = IsCell i.cell × (zigzag i.amount < 2 ^ 64)
IsInstr (instrs.ListUpdate i) = IsCell i.cell × IsElement i.spot × IsValue i.value
IsInstr (instrs.ListInsert i) = IsCell i.cell × IsGap i.spot × IsValue i.value
IsInstr (instrs.ListErase i) = IsCell i.cell × IsElement i.spot
IsInstr (instrs.SetInsert i) = IsCell i.cell × IsValue i.value
IsInstr (instrs.SetErase i) = IsCell i.cell × IsValue i.value
IsInstr (instrs.DictUpdate i) = IsCell i.cell × IsBinding i.value
IsInstr (instrs.Clear i) = IsCell i.cell

abbrev pub IsString : List ℕ → Type 0
IsString s = (length s ≤ 255) × (is_utf8 s ≡ true)

-- a changeset's instructions: few and small enough, each one that the types hold, with strings of at most 255 bytes of UTF-8
pub record AreInstrs (is : List Instr) : Type 0 where
  pub small : IsSmall is
  pub each : AllByRecursion IsInstr is
  pub strings : AllByRecursion IsString (strings_of (flat_map instr_fields is))
