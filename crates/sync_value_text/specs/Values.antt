-- A value is null, an integer, a flag, a text, or an object that is named by one of its fields:
-- `{"bytes":HEX}`, `{"secs":I,"nanos":I}`, `{"uuid":U}`, `{"link":TABLE,"key":KEY}`.
use Rattle.std.specs.Prelude.{ℕ, ℤ, pos, negsuc, int_le, ◌&&◌, ◌||◌, Bool, List, codes, Option, Some, None, option_map, if◌then◌else◌}
use Rattle.serde_json.specs.Data.{Data, null, boolean, number, string, array, object}
use Rattle.serde_json.specs.Find.{get, as_i64}
use Rattle.sync_data.specs.Times.{Moment}
use Rattle.sync_data.specs.declared.value.Value.{Value}
use Rattle.sync_data.specs.declared.value.Value.TheVariants as values
use Rattle.sync_value_text.specs.Forms.{◌>>=◌, provided}
use Rattle.sync_value_text.specs.Fields.{exactly_form, has, hex_form, name_form, int_form}
use Rattle.sync_value_text.specs.Keys.{uuid_form, key_field_form}

unfoldable pub bytes_form : Data → Option (List ℕ)
bytes_form d = do
  all ← exactly_form 1 d
  hex_form d (codes "bytes")

-- less than a second of nanoseconds, and none of the other sign than the seconds
abbrev pub is_time : ℤ → ℤ → Bool
is_time secs nanos =
    int_le (negsuc 999999998) nanos && int_le nanos (pos 999999999)
    && (int_le secs (pos 0) || int_le (pos 0) nanos) && (int_le (pos 0) secs || int_le nanos (pos 0))

unfoldable pub time_form : Data → Option Moment
time_form d = do
  all ← exactly_form 2 d
  secs ← int_form d (codes "secs")
  nanos ← int_form d (codes "nanos")
  provided (is_time secs nanos) (record { secs = secs; nanos = nanos })

unfoldable pub link_form : Data → Option Value
link_form d = do
  all ← exactly_form 2 d
  table ← name_form d (codes "link")
  key ← key_field_form d (codes "key")
  Some (values.Link table key)

unfoldable pub object_form : Data → Option Value
object_form d =
    if has d (codes "bytes") then option_map values.Bytes (bytes_form d)
    else if has d (codes "secs") then option_map values.Time (time_form d)
    else if has d (codes "uuid") then option_map values.Uuid (uuid_form d)
    else link_form d

unfoldable pub value_form : Data → Option Value
value_form null = Some values.Null
value_form (boolean b) = Some (values.Bool b)
value_form (number n) = option_map values.Int (as_i64 n)
value_form (string text) = Some (values.Text text)
value_form (array items) = None
value_form (object members) = object_form (object members)

unfoldable pub value_field_form : Data → List ℕ → Option Value
value_field_form d field = do
  found ← get field d
  value_form found
