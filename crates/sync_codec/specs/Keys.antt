-- Keys, columns and places among the instructions.
use Rattle.std.specs.Prelude.{ℕ, Bool, true, false, ◌&&◌, ◌==◌, Result, Ok, nat_lt, not, if◌then◌else◌}
use Rattle.sync_data.specs.Spot.{Spot}
use Rattle.sync_data.specs.declared.key.Key.{Key}
use Rattle.sync_data.specs.declared.key.Key.TheVariants as keys
use Rattle.sync_data.specs.declared.key.KeyKind.{KeyKind}
use Rattle.sync_data.specs.declared.key.KeyKind.TheVariants as key_kinds
use Rattle.sync_data.specs.declared.column.Kind.{Kind}
use Rattle.sync_data.specs.declared.column.Kind.TheVariants as kinds
use Rattle.sync_data.specs.declared.column.Shape.{Shape}
use Rattle.sync_data.specs.declared.column.Shape.TheVariants as shapes
use Rattle.sync_data.specs.declared.column.Column.{Column}
use Rattle.sync_data.specs.declared.instr.CellName.{CellName}
use Rattle.sync_codec.specs.declared.refusal.Fault.{Fault}
use Rattle.sync_codec.specs.declared.refusal.Rule.TheVariants.{BadTag, BadPlace}
use Rattle.sync_codec.specs.Fields.{◌>>=◌, breaks}
use Rattle.sync_codec.specs.Reading.{Reading, byte_at, run_at, number32_at, signed64_at, string_at, name_at}

unfoldable pub flag_at : Reading → Result (Bool × Reading) Fault
flag_at r = do
  b ← byte_at r
  if b.0 == 0 then Ok (false, b.1) else if b.0 == 1 then Ok (true, b.1) else breaks r.rest BadTag

unfoldable pub key_kind_at : Reading → Result (KeyKind × Reading) Fault
key_kind_at r = do
  b ← byte_at r
  if b.0 == 0 then Ok (key_kinds.Int, b.1) else if b.0 == 1 then Ok (key_kinds.Text, b.1) else if b.0 == 2 then Ok (key_kinds.Uuid, b.1) else breaks r.rest BadTag

-- dictionaries stand in the table under the second version alone
unfoldable pub shape_at : Reading → Result (Shape × Reading) Fault
shape_at r = do
  b ← byte_at r
  if b.0 == 0 then Ok (shapes.One, b.1) else if b.0 == 1 then Ok (shapes.List, b.1) else if b.0 == 2 then Ok (shapes.Set, b.1) else if b.0 == 3 && r.second then Ok (shapes.Dict, b.1) else breaks r.rest BadTag

unfoldable pub int_key_at : Reading → Result (Key × Reading) Fault
int_key_at r = do
  n ← signed64_at r
  Ok (keys.Int n.0, n.1)

unfoldable pub text_key_at : Reading → Result (Key × Reading) Fault
text_key_at r = do
  s ← string_at r
  Ok (keys.Text s.0, s.1)

unfoldable pub uuid_key_at : Reading → Result (Key × Reading) Fault
uuid_key_at r = do
  id ← run_at 16 r
  Ok (keys.Uuid id.0, id.1)

unfoldable pub key_at : Reading → Result (Key × Reading) Fault
key_at r = do
  tag ← byte_at r
  if tag.0 == 0 then int_key_at tag.1 else if tag.0 == 1 then text_key_at tag.1 else if tag.0 == 2 then uuid_key_at tag.1 else breaks r.rest BadTag

-- the byte of a kind, 1 to 7
unfoldable pub kind_byte_at : Reading → Result (ℕ × Reading) Fault
kind_byte_at r = do
  b ← byte_at r
  if nat_lt 0 b.0 && nat_lt b.0 8 then Ok b else breaks r.rest BadTag

unfoldable pub link_at : Reading → Result (Kind × Reading) Fault
link_at r = do
  target ← name_at r
  Ok (kinds.Link target.0, target.1)

-- the kind of that byte, with the target of a link
unfoldable pub kind_at : ℕ → Reading → Result (Kind × Reading) Fault
kind_at b r = if b == 1 then Ok (kinds.Int, r) else if b == 2 then Ok (kinds.Bool, r) else if b == 3 then Ok (kinds.Text, r) else if b == 4 then Ok (kinds.Bytes, r) else if b == 5 then Ok (kinds.Time, r) else if b == 6 then Ok (kinds.Uuid, r) else link_at r

unfoldable pub column_at : Reading → Result (Column × Reading) Fault
column_at r = do
  b ← kind_byte_at r
  nullable ← flag_at b.1
  shape ← shape_at nullable.1
  kind ← kind_at b.0 shape.1
  Ok (record { kind = kind.0; nullable = nullable.0; shape = shape.0 }, kind.1)

unfoldable pub cell_name_at : Reading → Result (CellName × Reading) Fault
cell_name_at r = do
  table ← name_at r
  key ← key_at table.1
  column ← name_at key.1
  Ok (record { table = table.0; key = key.0; column = column.0 }, column.1)

-- the place of an element
unfoldable pub element_at : Reading → Result (Spot × Reading) Fault
element_at r = do
  place ← number32_at r
  prior ← number32_at place.1
  if nat_lt place.0 prior.0 then Ok (record { place = place.0; prior = prior.0 }, prior.1) else breaks r.rest BadPlace

-- the place of a gap
unfoldable pub gap_at : Reading → Result (Spot × Reading) Fault
gap_at r = do
  place ← number32_at r
  prior ← number32_at place.1
  if not (nat_lt prior.0 place.0) then Ok (record { place = place.0; prior = prior.0 }, prior.1) else breaks r.rest BadPlace
