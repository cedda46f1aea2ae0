-- A changeset's instructions use fewer than 2^32 strings.
use Rattle.std.proofs.Common.{ℕ, ◌+◌, ◌*◌, ◌^◌, ◌<◌, ◌≤◌, true, false, cond, List, [], ◌∷◌, ◌++◌, length, Option, Some, None, arith}
use Rattle.std.specs.List.{flat_map}
use Rattle.std.proofs.lemmas.List.{length-append}
use Rattle.sync_data.specs.declared.key.Key.{Key}
use Rattle.sync_data.specs.declared.key.Key.TheVariants as keys
use Rattle.sync_data.specs.declared.value.Value.{Value}
use Rattle.sync_data.specs.declared.value.Value.TheVariants as values
use Rattle.sync_data.specs.declared.column.Kind.{Kind}
use Rattle.sync_data.specs.declared.column.Kind.TheVariants as kinds
use Rattle.sync_data.specs.declared.instr.CellName.{CellName}
use Rattle.sync_data.specs.declared.instr.Instr.{Instr}
use Rattle.sync_data.specs.declared.instr.Instr.TheVariants as instrs
use Rattle.sync_intern.specs.FirstUses.{has_string, with_string, with_strings}
use Rattle.sync_io.specs.Varints.{zigzag}
use Rattle.sync_codec.specs.Spelling.{Field, byte, number, run, string, key_fields, value_fields, binding_fields, target_fields, cell_fields, spot_fields, instr_fields, strings_in_field, strings_of}

key_few : (k : Key) → length (key_fields k) ≤ 2
key_few (keys.Int n) = omega arith
key_few (keys.Text s) = omega arith
key_few (keys.Uuid id) = omega arith

value_few : (v : Value) → length (value_fields v) ≤ 4
value_few values.Null = omega arith
value_few (values.Int n) = omega arith
value_few (values.Bool b) = omega arith
value_few (values.Text t) = omega arith
value_few (values.Bytes bs) = omega arith
value_few (values.Time t) = omega arith
value_few (values.Uuid id) = omega arith
value_few (values.Link t k) = omega (arith, key_few k)

binding_few : (v : Option Value) → length (binding_fields v) ≤ 5
binding_few None = omega arith
binding_few (Some v) = omega (arith, value_few v)

target_few : (k : Kind) → length (target_fields k) ≤ 1
target_few kinds.Int = omega arith
target_few kinds.Bool = omega arith
target_few kinds.Text = omega arith
target_few kinds.Bytes = omega arith
target_few kinds.Time = omega arith
target_few kinds.Uuid = omega arith
target_few (kinds.Link t) = omega arith

cell_few : (c : CellName) → length (cell_fields c) ≤ 4
cell_few c = omega (arith, key_few c.key, length-append (key_fields c.key) (string c.column ∷ []))

instr_few : (i : Instr) → length (instr_fields i) ≤ 16
unfolding instr_fields
instr_few (instrs.AddTable i) = omega arith
instr_few (instrs.AddColumn i) = omega (arith, target_few i.def.kind)
instr_few (instrs.CreateObject i) = omega (arith, key_few i.key)
instr_few (instrs.EraseObject i) = omega (arith, key_few i.key)
instr_few (instrs.Update i) = omega (arith, cell_few i.cell, value_few i.value, length-append (cell_fields i.cell) (value_fields i.value))
instr_few (instrs.AddInteger i) = omega (arith, cell_few i.cell, length-append (cell_fields i.cell) (number (zigzag i.amount) ∷ []))
instr_few (instrs.ListUpdate i) = omega (arith, cell_few i.cell, value_few i.value, length-append (cell_fields i.cell) (spot_fields i.spot ++ value_fields i.value), length-append (spot_fields i.spot) (value_fields i.value))
instr_few (instrs.ListInsert i) = omega (arith, cell_few i.cell, value_few i.value, length-append (cell_fields i.cell) (spot_fields i.spot ++ value_fields i.value), length-append (spot_fields i.spot) (value_fields i.value))
instr_few (instrs.ListErase i) = omega (arith, cell_few i.cell, length-append (cell_fields i.cell) (spot_fields i.spot))
instr_few (instrs.SetInsert i) = omega (arith, cell_few i.cell, value_few i.value, length-append (cell_fields i.cell) (value_fields i.value))
instr_few (instrs.SetErase i) = omega (arith, cell_few i.cell, value_few i.value, length-append (cell_fields i.cell) (value_fields i.value))
instr_few (instrs.DictUpdate i) = omega (arith, cell_few i.cell, binding_few i.value, length-append (cell_fields i.cell) (string i.at ∷ binding_fields i.value))
instr_few (instrs.Clear i) = omega (arith, cell_few i.cell)

instrs_few : (is : List Instr) → length (flat_map instr_fields is) ≤ 16 * length is
instrs_few [] = omega arith
instrs_few (i ∷ is) = omega (arith, instr_few i, instrs_few is, length-append (instr_fields i) (flat_map instr_fields is))

field_few : (f : Field) → length (strings_in_field f) ≤ 1
field_few (byte b) = omega arith
field_few (number n) = omega arith
field_few (run bs) = omega arith
field_few (string s) = omega arith

fields_few : (fs : List Field) → length (flat_map strings_in_field fs) ≤ length fs
fields_few [] = omega arith
fields_few (f ∷ fs) = omega (arith, field_few f, fields_few fs, length-append (strings_in_field f) (flat_map strings_in_field fs))

one_few : (cur : List (List ℕ)) (s : List ℕ) → length (with_string cur s) ≤ length cur + 1
one_few cur s = elim (has_string cur s) as (λ b. length (cond b cur (cur ++ s ∷ [])) ≤ length cur + 1) [ true ↦ omega arith | false ↦ omega (arith, length-append cur (s ∷ [])) ]

used_few : (cur xs : List (List ℕ)) → length (with_strings cur xs) ≤ length cur + length xs
used_few cur [] = omega arith
used_few cur (s ∷ xs) = omega (arith, used_few (with_string cur s) xs, one_few cur s)

pub strings_few : (is : List Instr) → length is ≤ 65536 → length (strings_of (flat_map instr_fields is)) < 2 ^ 32
strings_few is h = omega (arith, used_few [] (flat_map strings_in_field (flat_map instr_fields is)), fields_few (flat_map instr_fields is), instrs_few is)
