-- The one spelling of a list of instructions: a version, the strings that they use, and the instructions, each as its fields in
-- order. A string stands once, in the order of first use, and a field has its number.
use Rattle.std.specs.Prelude.{ℕ, Bool, true, false, List, [], ◌∷◌, ◌++◌, Option, None, Some, length, if◌then◌else◌}
use Rattle.std.specs.List.{flat_map, list_any}
use Rattle.sync_data.specs.Spot.{Spot}
use Rattle.sync_data.specs.declared.key.Key.{Key}
use Rattle.sync_data.specs.declared.key.Key.TheVariants as keys
use Rattle.sync_data.specs.declared.key.KeyKind.{KeyKind}
use Rattle.sync_data.specs.declared.key.KeyKind.TheVariants as key_kinds
use Rattle.sync_data.specs.declared.value.Value.{Value}
use Rattle.sync_data.specs.declared.value.Value.TheVariants as values
use Rattle.sync_data.specs.declared.column.Kind.{Kind}
use Rattle.sync_data.specs.declared.column.Kind.TheVariants as kinds
use Rattle.sync_data.specs.declared.column.Shape.{Shape}
use Rattle.sync_data.specs.declared.column.Shape.TheVariants as shapes
use Rattle.sync_data.specs.declared.column.Column.{Column}
use Rattle.sync_data.specs.declared.instr.CellName.{CellName}
use Rattle.sync_data.specs.declared.instr.Instr.{Instr}
use Rattle.sync_data.specs.declared.instr.Instr.TheVariants as instrs
use Rattle.sync_intern.specs.FirstUses.{place_of, with_strings}
use Rattle.sync_io.specs.Varints.{varint, zigzag}

-- a byte, a number, bytes of a known length, or a string
pub data Field : Type 0 where
  byte : ℕ → Field
  number : ℕ → Field
  run : List ℕ → Field
  string : List ℕ → Field

-- ---- the fields of instructions
abbrev pub key_kind_byte : KeyKind → ℕ
key_kind_byte key_kinds.Int = 0
key_kind_byte key_kinds.Text = 1
key_kind_byte key_kinds.Uuid = 2

abbrev pub kind_byte : Kind → ℕ
kind_byte kinds.Int = 1
kind_byte kinds.Bool = 2
kind_byte kinds.Text = 3
kind_byte kinds.Bytes = 4
kind_byte kinds.Time = 5
kind_byte kinds.Uuid = 6
kind_byte (kinds.Link target) = 7

abbrev pub target_fields : Kind → List Field
target_fields (kinds.Link target) = string target ∷ []
target_fields kind = []

abbrev pub shape_byte : Shape → ℕ
shape_byte shapes.One = 0
shape_byte shapes.List = 1
shape_byte shapes.Set = 2
shape_byte shapes.Dict = 3

abbrev pub flag_byte : Bool → ℕ
flag_byte b = if b then 1 else 0

abbrev pub key_fields : Key → List Field
key_fields (keys.Int n) = byte 0 ∷ number (zigzag n) ∷ []
key_fields (keys.Text text) = byte 1 ∷ string text ∷ []
key_fields (keys.Uuid id) = byte 2 ∷ run id ∷ []

abbrev pub value_fields : Value → List Field
value_fields values.Null = byte 0 ∷ []
value_fields (values.Int n) = byte 1 ∷ number (zigzag n) ∷ []
value_fields (values.Bool b) = byte 2 ∷ byte (flag_byte b) ∷ []
value_fields (values.Text text) = byte 3 ∷ number (length text) ∷ run text ∷ []
value_fields (values.Bytes bytes) = byte 4 ∷ number (length bytes) ∷ run bytes ∷ []
value_fields (values.Time time) = byte 5 ∷ number (zigzag time.secs) ∷ number (zigzag time.nanos) ∷ []
value_fields (values.Uuid id) = byte 6 ∷ run id ∷ []
value_fields (values.Link table key) = byte 7 ∷ string table ∷ key_fields key

abbrev pub binding_fields : Option Value → List Field
binding_fields None = byte 0 ∷ []
binding_fields (Some v) = byte 1 ∷ value_fields v

abbrev pub column_fields : Column → List Field
column_fields c = byte (kind_byte c.kind) ∷ byte (flag_byte c.nullable) ∷ byte (shape_byte c.shape) ∷ target_fields c.kind

abbrev pub cell_fields : CellName → List Field
cell_fields c = string c.table ∷ (key_fields c.key ++ string c.column ∷ [])

abbrev pub spot_fields : Spot → List Field
spot_fields s = number s.place ∷ number s.prior ∷ []

unfoldable pub instr_fields : Instr → List Field
instr_fields (instrs.AddTable i) = byte 1 ∷ string i.table ∷ byte (key_kind_byte i.key) ∷ []
instr_fields (instrs.AddColumn i) = byte 2 ∷ string i.table ∷ string i.column ∷ column_fields i.def
instr_fields (instrs.CreateObject i) = byte 3 ∷ string i.table ∷ key_fields i.key
instr_fields (instrs.EraseObject i) = byte 4 ∷ string i.table ∷ key_fields i.key
instr_fields (instrs.Update i) = byte 5 ∷ (cell_fields i.cell ++ value_fields i.value)
instr_fields (instrs.AddInteger i) = byte 6 ∷ (cell_fields i.cell ++ number (zigzag i.amount) ∷ [])
instr_fields (instrs.ListUpdate i) = byte 7 ∷ (cell_fields i.cell ++ (spot_fields i.spot ++ value_fields i.value))
instr_fields (instrs.ListInsert i) = byte 8 ∷ (cell_fields i.cell ++ (spot_fields i.spot ++ value_fields i.value))
instr_fields (instrs.ListErase i) = byte 9 ∷ (cell_fields i.cell ++ spot_fields i.spot)
instr_fields (instrs.SetInsert i) = byte 10 ∷ (cell_fields i.cell ++ value_fields i.value)
instr_fields (instrs.SetErase i) = byte 11 ∷ (cell_fields i.cell ++ value_fields i.value)
instr_fields (instrs.DictUpdate i) = byte 12 ∷ (cell_fields i.cell ++ string i.at ∷ binding_fields i.value)
instr_fields (instrs.Clear i) = byte 13 ∷ cell_fields i.cell

-- ---- fields as bytes
abbrev pub strings_in_field : Field → List (List ℕ)
strings_in_field (string s) = s ∷ []
strings_in_field f = []

-- the strings of the fields, each once, in order of first use
abbrev pub strings_of : List Field → List (List ℕ)
strings_of fields = with_strings [] (flat_map strings_in_field fields)

abbrev pub field_bytes : List (List ℕ) → Field → List ℕ
field_bytes strings (byte b) = b ∷ []
field_bytes strings (number n) = varint n
field_bytes strings (run bytes) = bytes
field_bytes strings (string s) = varint (place_of strings s)

-- ---- the whole
abbrev pub has_dictionaries : Shape → Bool
has_dictionaries shapes.Dict = true
has_dictionaries shape = false

-- whether an instruction isn't in the first version
abbrev pub needs_second : Instr → Bool
needs_second (instrs.DictUpdate i) = true
needs_second (instrs.Clear i) = true
needs_second (instrs.AddColumn i) = has_dictionaries i.def.shape
needs_second i = false

abbrev pub version_of : List Instr → ℕ
version_of is = if list_any needs_second is then 2 else 1

abbrev pub string_bytes : List ℕ → List ℕ
string_bytes s = varint (length s) ++ s

abbrev pub table_bytes : List (List ℕ) → List ℕ
table_bytes strings = varint (length strings) ++ flat_map string_bytes strings

abbrev pub spelled : ℕ → ℕ → List Field → List ℕ
spelled version count fields = let strings = strings_of fields in version ∷ (table_bytes strings ++ (varint count ++ flat_map (field_bytes strings) fields))

unfoldable pub spelling : List Instr → List ℕ
spelling is = spelled (version_of is) (length is) (flat_map instr_fields is)
