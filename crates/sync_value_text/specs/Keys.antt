-- A key is an integer, a text of up to 255 bytes, or `{"uuid":U}`.
use Rattle.std.specs.Prelude.{ℕ, List, codes, Option, None, option_map}
use Rattle.serde_json.specs.Data.{Data, null, boolean, number, string, array, object}
use Rattle.serde_json.specs.Find.{get, as_i64}
use Rattle.sync_data.specs.declared.key.Key.{Key}
use Rattle.sync_data.specs.declared.key.Key.TheVariants as keys
use Rattle.sync_value_text.specs.Forms.{◌>>=◌}
use Rattle.sync_value_text.specs.Fields.{exactly_form, key_of_text, id_form}

unfoldable pub uuid_form : Data → Option (List ℕ)
uuid_form d = do
  one ← exactly_form 1 d
  id_form d (codes "uuid")

unfoldable pub key_form : Data → Option Key
key_form null = None
key_form (boolean b) = None
key_form (number n) = option_map keys.Int (as_i64 n)
key_form (string text) = option_map keys.Text (key_of_text text)
key_form (array items) = None
key_form (object members) = option_map keys.Uuid (uuid_form (object members))

unfoldable pub key_field_form : Data → List ℕ → Option Key
key_field_form d field = do
  found ← get field d
  key_form found
