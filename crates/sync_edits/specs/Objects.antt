-- The form of each edit but its word: which fields it has, and the instruction that they are.
use Rattle.std.specs.Prelude.{ℕ, nat_lt, nat_le, List, codes, Option, Some, None, if◌then◌else◌}
use Rattle.std.specs.Str.{bytes_eq}
use Rattle.serde_json.specs.Data.{Data}
use Rattle.sync_data.specs.Spot.{Spot}
use Rattle.sync_data.specs.declared.key.KeyKind.{KeyKind}
use Rattle.sync_data.specs.declared.key.KeyKind.TheVariants as key_kinds
use Rattle.sync_data.specs.declared.instr.CellName.{CellName}
use Rattle.sync_data.specs.declared.instr.Instr.{Instr}
use Rattle.sync_data.specs.declared.instr.Instr.TheVariants as instrs
use Rattle.sync_value_text.specs.Forms.{◌>>=◌, provided}
use Rattle.sync_value_text.specs.Fields.{exactly_form, text_form, name_form, key_text_form, int_form, place_form}
use Rattle.sync_value_text.specs.Keys.{key_field_form}
use Rattle.sync_value_text.specs.Values.{value_field_form}
use Rattle.sync_value_text.specs.Columns.{column_beside}

-- ---- parts that several edits have

unfoldable pub key_kind_of_word : List ℕ → Option KeyKind
key_kind_of_word word =
    if bytes_eq word (codes "Int") then Some key_kinds.Int
    else if bytes_eq word (codes "Text") then Some key_kinds.Text
    else if bytes_eq word (codes "Uuid") then Some key_kinds.Uuid
    else None

unfoldable pub cell_form : Data → Option CellName
cell_form d = do
  table ← name_form d (codes "table")
  key ← key_field_form d (codes "key")
  column ← name_form d (codes "column")
  Some (record { table = table; key = key; column = column })

-- the place of an element
unfoldable pub inside_form : Data → Option Spot
inside_form d = do
  place ← place_form d (codes "place")
  prior ← place_form d (codes "prior")
  provided (nat_lt place prior) (record { place = place; prior = prior })

-- the place of an element, or the end
unfoldable pub between_form : Data → Option Spot
between_form d = do
  place ← place_form d (codes "place")
  prior ← place_form d (codes "prior")
  provided (nat_le place prior) (record { place = place; prior = prior })

-- ---- one edit each

unfoldable pub add_table_form : Data → Option Instr
add_table_form d = do
  all ← exactly_form 3 d
  table ← name_form d (codes "table")
  word ← text_form d (codes "key")
  key ← key_kind_of_word word
  Some (instrs.AddTable (record { table = table; key = key }))

unfoldable pub add_column_form : Data → Option Instr
add_column_form d = do
  table ← name_form d (codes "table")
  column ← name_form d (codes "column")
  def ← column_beside 3 d
  Some (instrs.AddColumn (record { table = table; column = column; def = def }))

unfoldable pub create_object_form : Data → Option Instr
create_object_form d = do
  all ← exactly_form 3 d
  table ← name_form d (codes "table")
  key ← key_field_form d (codes "key")
  Some (instrs.CreateObject (record { table = table; key = key }))

unfoldable pub erase_object_form : Data → Option Instr
erase_object_form d = do
  all ← exactly_form 3 d
  table ← name_form d (codes "table")
  key ← key_field_form d (codes "key")
  Some (instrs.EraseObject (record { table = table; key = key }))

unfoldable pub update_form : Data → Option Instr
update_form d = do
  all ← exactly_form 5 d
  cell ← cell_form d
  value ← value_field_form d (codes "value")
  Some (instrs.Update (record { cell = cell; value = value }))

unfoldable pub add_integer_form : Data → Option Instr
add_integer_form d = do
  all ← exactly_form 5 d
  cell ← cell_form d
  amount ← int_form d (codes "amount")
  Some (instrs.AddInteger (record { cell = cell; amount = amount }))

unfoldable pub list_update_form : Data → Option Instr
list_update_form d = do
  all ← exactly_form 7 d
  cell ← cell_form d
  spot ← inside_form d
  value ← value_field_form d (codes "value")
  Some (instrs.ListUpdate (record { cell = cell; spot = spot; value = value }))

unfoldable pub list_insert_form : Data → Option Instr
list_insert_form d = do
  all ← exactly_form 7 d
  cell ← cell_form d
  spot ← between_form d
  value ← value_field_form d (codes "value")
  Some (instrs.ListInsert (record { cell = cell; spot = spot; value = value }))

unfoldable pub list_erase_form : Data → Option Instr
list_erase_form d = do
  all ← exactly_form 6 d
  cell ← cell_form d
  spot ← inside_form d
  Some (instrs.ListErase (record { cell = cell; spot = spot }))

unfoldable pub set_insert_form : Data → Option Instr
set_insert_form d = do
  all ← exactly_form 5 d
  cell ← cell_form d
  value ← value_field_form d (codes "value")
  Some (instrs.SetInsert (record { cell = cell; value = value }))

unfoldable pub set_erase_form : Data → Option Instr
set_erase_form d = do
  all ← exactly_form 5 d
  cell ← cell_form d
  value ← value_field_form d (codes "value")
  Some (instrs.SetErase (record { cell = cell; value = value }))

unfoldable pub dict_update_form : Data → Option Instr
dict_update_form d = do
  all ← exactly_form 6 d
  cell ← cell_form d
  at ← key_text_form d (codes "at")
  value ← value_field_form d (codes "value")
  Some (instrs.DictUpdate (record { cell = cell; at = at; value = Some value }))

unfoldable pub dict_erase_form : Data → Option Instr
dict_erase_form d = do
  all ← exactly_form 5 d
  cell ← cell_form d
  at ← key_text_form d (codes "at")
  Some (instrs.DictUpdate (record { cell = cell; at = at; value = None }))

unfoldable pub clear_form : Data → Option Instr
clear_form d = do
  all ← exactly_form 4 d
  cell ← cell_form d
  Some (instrs.Clear (record { cell = cell }))
