-- The fields of a JSON object: how many there are, and what stands under a name.
use Rattle.std.specs.Prelude.{ℕ, ℤ, ◌^◌, ◌==◌, ◌&&◌, nat_lt, nat_le, List, length, Bool, Option, is_some, ⊤}
use Rattle.std.specs.Result.{result_ok}
use Rattle.serde_json.specs.Data.{Data}
use Rattle.serde_json.specs.Events.{members_len}
use Rattle.serde_json.specs.Find.{get, as_object, as_str, as_bool, as_number, as_i64, as_u64}
use Rattle.hex.specs.Hex.{decode_of}
use Rattle.uuid.specs.Text.{parsed}
use Rattle.sync_value_text.specs.Forms.{◌>>=◌, provided}

-- An object of so many fields. A form also looks up each of its fields by name, so that these are all.
unfoldable pub exactly_form : ℕ → Data → Option ⊤
exactly_form count d = do
  fields ← as_object d
  provided (members_len fields == count) tt

-- a name has 1 to 63 bytes
abbrev pub name_of_text : List ℕ → Option (List ℕ)
name_of_text text = provided (nat_lt 0 (length text) && nat_le (length text) 63) text

-- a text key has up to 255 bytes
abbrev pub key_of_text : List ℕ → Option (List ℕ)
key_of_text text = provided (nat_le (length text) 255) text

-- whether there is a field of that name
abbrev pub has : Data → List ℕ → Bool
has d field = is_some (get field d)

unfoldable pub text_form : Data → List ℕ → Option (List ℕ)
text_form d field = do
  found ← get field d
  as_str found

unfoldable pub name_form : Data → List ℕ → Option (List ℕ)
name_form d field = do
  text ← text_form d field
  name_of_text text

unfoldable pub key_text_form : Data → List ℕ → Option (List ℕ)
key_text_form d field = do
  text ← text_form d field
  key_of_text text

unfoldable pub id_form : Data → List ℕ → Option (List ℕ)
id_form d field = do
  text ← text_form d field
  parsed text

-- two hex digits a byte, in either case
unfoldable pub hex_form : Data → List ℕ → Option (List ℕ)
hex_form d field = do
  text ← text_form d field
  result_ok (decode_of text)

unfoldable pub flag_form : Data → List ℕ → Option Bool
flag_form d field = do
  found ← get field d
  as_bool found

unfoldable pub int_form : Data → List ℕ → Option ℤ
int_form d field = do
  found ← get field d
  number ← as_number found
  as_i64 number

unfoldable pub number_form : Data → List ℕ → Option ℕ
number_form d field = do
  found ← get field d
  number ← as_number found
  as_u64 number

unfoldable pub place_form : Data → List ℕ → Option ℕ
place_form d field = do
  number ← number_form d field
  provided (nat_lt number (2 ^ 32)) number
