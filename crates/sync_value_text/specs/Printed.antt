-- The form of each value, key and column, with its fields in the order of their bytes.
use Rattle.std.specs.Prelude.{ℕ, ℤ, Bool, List, codes, Option, Some, None}
use Rattle.serde_json.specs.Data.{Data, null, boolean, number, string, object, Members, no_members, member}
use Rattle.serde_json.specs.Find.{of_integer}
use Rattle.hex.specs.Hex.{encode_lower}
use Rattle.uuid.specs.Text.{hyphenated_text, lower}
use Rattle.sync_data.specs.declared.key.Key.{Key}
use Rattle.sync_data.specs.declared.key.Key.TheVariants as keys
use Rattle.sync_data.specs.declared.value.Value.{Value}
use Rattle.sync_data.specs.declared.value.Value.TheVariants as values
use Rattle.sync_data.specs.declared.column.Kind.{Kind}
use Rattle.sync_data.specs.declared.column.Kind.TheVariants as kinds
use Rattle.sync_data.specs.declared.column.Shape.{Shape}
use Rattle.sync_data.specs.declared.column.Shape.TheVariants as shapes
use Rattle.sync_data.specs.declared.column.Column.{Column}

abbrev pub data_of_int : ℤ → Data
data_of_int n = number (of_integer n)

-- a uuid is printed hyphenated and in lower case
abbrev pub data_of_id : List ℕ → Data
data_of_id id = object (member (codes "uuid") (string (hyphenated_text lower id)) no_members)

abbrev pub data_of_key : Key → Data
data_of_key (keys.Int n) = data_of_int n
data_of_key (keys.Text text) = string text
data_of_key (keys.Uuid id) = data_of_id id

abbrev pub data_of_bytes : List ℕ → Data
data_of_bytes bytes = object (member (codes "bytes") (string (encode_lower bytes)) no_members)

abbrev pub data_of_time : ℤ → ℤ → Data
data_of_time secs nanos = object (member (codes "nanos") (data_of_int nanos) (member (codes "secs") (data_of_int secs) no_members))

abbrev pub data_of_link : List ℕ → Key → Data
data_of_link table key = object (member (codes "key") (data_of_key key) (member (codes "link") (string table) no_members))

abbrev pub data_of_value : Value → Data
data_of_value values.Null = null
data_of_value (values.Int n) = data_of_int n
data_of_value (values.Bool b) = boolean b
data_of_value (values.Text text) = string text
data_of_value (values.Bytes bytes) = data_of_bytes bytes
data_of_value (values.Time time) = data_of_time time.secs time.nanos
data_of_value (values.Uuid id) = data_of_id id
data_of_value (values.Link table key) = data_of_link table key

abbrev pub kind_word : Kind → List ℕ
kind_word kinds.Int = codes "Int"
kind_word kinds.Bool = codes "Bool"
kind_word kinds.Text = codes "Text"
kind_word kinds.Bytes = codes "Bytes"
kind_word kinds.Time = codes "Time"
kind_word kinds.Uuid = codes "Uuid"
kind_word (kinds.Link target) = codes "Link"

abbrev pub shape_word : Shape → List ℕ
shape_word shapes.One = codes "One"
shape_word shapes.List = codes "List"
shape_word shapes.Set = codes "Set"
shape_word shapes.Dict = codes "Dict"

abbrev pub target_name : Kind → Option (List ℕ)
target_name (kinds.Link target) = Some target
target_name k = None

abbrev pub target_field : Option (List ℕ) → Members
target_field (Some target) = member (codes "target") (string target) no_members
target_field None = no_members

abbrev pub column_fields : List ℕ → Bool → List ℕ → Members → Data
column_fields kind nullable shape target = object (
    member (codes "kind") (string kind)
    (member (codes "nullable") (boolean nullable)
    (member (codes "shape") (string shape)
    target)))

abbrev pub data_of_column : Column → Data
data_of_column column = column_fields (kind_word column.kind) column.nullable (shape_word column.shape) (target_field (target_name column.kind))
