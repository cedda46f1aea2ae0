-- What is printed is read back.
use Rattle.std.proofs.Common.{◌≡◌, ℕ, ℤ, pos, negsuc, ◌<◌, ◌≤◌, List, length, Bool, true, Some, refl, sym, ap, arith}
use Rattle.std.specs.Prelude.{FitsSigned, IfSome}
use Rattle.std.specs.Int.{w64}
use Rattle.std.specs.Result.{result_ok}
use Rattle.serde_json.specs.Find.{as_i64, of_integer}
use Rattle.hex.specs.Hex.{IsBytes}
use Rattle.hex.proofs.HexLemmas.{decode_of-encode_lower}
use Rattle.uuid.specs.Text.{parsed, hyphenated_text, lower}
use Rattle.sync_data.specs.Times.{IsTime}
use Rattle.sync_data.specs.declared.key.Key.{Key}
use Rattle.sync_data.specs.declared.value.Value.TheVariants as values
use Rattle.sync_data.specs.declared.column.Kind.{Kind}
use Rattle.sync_data.specs.declared.column.Kind.TheVariants as kinds
use Rattle.sync_data.specs.declared.column.Shape.{Shape}
use Rattle.sync_data.specs.declared.column.Shape.TheVariants as shapes
use Rattle.sync_data.specs.declared.column.Column.{Column}
use Rattle.sync_value_text.specs.Fields.{exactly_form, name_of_text, key_of_text, hex_form, text_form, name_form, id_form, flag_form, int_form}
use Rattle.sync_value_text.specs.Keys.{uuid_form, key_form, key_field_form}
use Rattle.sync_value_text.specs.Values.{bytes_form, is_time, time_form, link_form}
use Rattle.sync_value_text.specs.Columns.{plain_kind, kind_form, shape_of_word, shape_form, column_beside, column_form}
use Rattle.sync_value_text.specs.Printed.{target_name, shape_word, data_of_id, data_of_key, data_of_bytes, data_of_time, data_of_link, data_of_column}

pub int_back : (n : ℤ) → FitsSigned w64 n → as_i64 (of_integer n) ≡ Some n
int_back (pos n) fits = grind arith
int_back (negsuc n) fits = refl

pub key_text_back : (text : List ℕ) → length text ≤ 255 → key_of_text text ≡ Some text
key_text_back text short = grind arith

pub name_back : (text : List ℕ) → 0 < length text → length text ≤ 63 → name_of_text text ≡ Some text
name_back text some short = grind arith

pub id_back : (id : List ℕ) → Some id ≡ parsed (hyphenated_text lower id) → uuid_form (data_of_id id) ≡ Some id
unfolding uuid_form exactly_form id_form text_form
id_back id is = sym is

pub bytes_back : (bytes : List ℕ) → IsBytes bytes → bytes_form (data_of_bytes bytes) ≡ Some bytes
unfolding bytes_form exactly_form hex_form text_form
bytes_back bytes small = ap result_ok (decode_of-encode_lower bytes small)

is_time_is : (secs nanos : ℤ) → IsTime secs nanos → is_time secs nanos ≡ true
is_time_is secs nanos is = grind arith

pub time_back : (secs nanos : ℤ) → FitsSigned w64 secs → FitsSigned w64 nanos → IsTime secs nanos → time_form (data_of_time secs nanos) ≡ Some (record { secs = secs; nanos = nanos })
unfolding time_form exactly_form int_form
time_back secs nanos s n is = rw (int_back secs s, int_back nanos n, is_time_is secs nanos is) refl

pub link_back : (table : List ℕ) (key : Key) → 0 < length table → length table ≤ 63 → key_form (data_of_key key) ≡ Some key → link_form (data_of_link table key) ≡ Some (values.Link table key)
unfolding link_form exactly_form name_form text_form key_field_form
link_back table key some short is = rw (name_back table some short, is) refl

-- a target is a name
abbrev pub IsTarget : List ℕ → Type 0
IsTarget target = (0 < length target) × (length target ≤ 63)

shape_back : (s : Shape) → shape_of_word (shape_word s) ≡ Some s
unfolding shape_of_word
shape_back shapes.One = refl
shape_back shapes.List = refl
shape_back shapes.Set = refl
shape_back shapes.Dict = refl

parts_back : (k : Kind) (b : Bool) (s : Shape) → IfSome (target_name k) IsTarget → column_form (data_of_column (record { kind = k; nullable = b; shape = s })) ≡ Some (record { kind = k; nullable = b; shape = s })
unfolding column_beside exactly_form kind_form plain_kind flag_form shape_form text_form name_form
parts_back kinds.Int b s named = rw (shape_back s) refl
parts_back kinds.Bool b s named = rw (shape_back s) refl
parts_back kinds.Text b s named = rw (shape_back s) refl
parts_back kinds.Bytes b s named = rw (shape_back s) refl
parts_back kinds.Time b s named = rw (shape_back s) refl
parts_back kinds.Uuid b s named = rw (shape_back s) refl
parts_back (kinds.Link target) b s named = rw (name_back target named.0 named.1, shape_back s) refl

pub column_back : (c : Column) → IfSome (target_name c.kind) IsTarget → column_form (data_of_column c) ≡ Some c
column_back c named = parts_back c.kind c.nullable c.shape named
