-- A column is the object of `kind`, `nullable`, `shape` and, exactly where the kind is Link, `target`.
use Rattle.std.specs.Prelude.{ℕ, ◌+◌, List, codes, Option, Some, None, option_map, if◌then◌else◌}
use Rattle.std.specs.Str.{bytes_eq}
use Rattle.serde_json.specs.Data.{Data}
use Rattle.sync_data.specs.declared.column.Kind.{Kind}
use Rattle.sync_data.specs.declared.column.Kind.TheVariants as kinds
use Rattle.sync_data.specs.declared.column.Shape.{Shape}
use Rattle.sync_data.specs.declared.column.Shape.TheVariants as shapes
use Rattle.sync_data.specs.declared.column.Column.{Column}
use Rattle.sync_value_text.specs.Forms.{◌>>=◌}
use Rattle.sync_value_text.specs.Fields.{exactly_form, text_form, name_form, flag_form}

-- the kinds that have a word alone
unfoldable pub plain_kind : List ℕ → Option Kind
plain_kind word =
    if bytes_eq word (codes "Int") then Some kinds.Int
    else if bytes_eq word (codes "Bool") then Some kinds.Bool
    else if bytes_eq word (codes "Text") then Some kinds.Text
    else if bytes_eq word (codes "Bytes") then Some kinds.Bytes
    else if bytes_eq word (codes "Time") then Some kinds.Time
    else if bytes_eq word (codes "Uuid") then Some kinds.Uuid
    else None

unfoldable pub kind_form : Data → Option Kind
kind_form d = do
  word ← text_form d (codes "kind")
  if bytes_eq word (codes "Link") then option_map kinds.Link (name_form d (codes "target")) else plain_kind word

unfoldable pub shape_of_word : List ℕ → Option Shape
shape_of_word word =
    if bytes_eq word (codes "One") then Some shapes.One
    else if bytes_eq word (codes "List") then Some shapes.List
    else if bytes_eq word (codes "Set") then Some shapes.Set
    else if bytes_eq word (codes "Dict") then Some shapes.Dict
    else None

unfoldable pub shape_form : Data → Option Shape
shape_form d = do
  word ← text_form d (codes "shape")
  shape_of_word word

-- how many fields a column of that kind has
abbrev pub field_count : Kind → ℕ
field_count (kinds.Link target) = 4
field_count k = 3

-- the column in an object that has so many other fields beside the column's
unfoldable pub column_beside : ℕ → Data → Option Column
column_beside others d = do
  kind ← kind_form d
  nullable ← flag_form d (codes "nullable")
  shape ← shape_form d
  all ← exactly_form (others + field_count kind) d
  Some (record { kind = kind; nullable = nullable; shape = shape })

abbrev pub column_form : Data → Option Column
column_form d = column_beside 0 d
