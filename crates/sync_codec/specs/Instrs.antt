-- Instructions: an opcode, and then their fields in order.
use Rattle.std.specs.Prelude.{ℕ, Bool, ◌&&◌, ◌==◌, Option, None, Some, Result, Ok, Err, if◌then◌else◌}
use Rattle.sync_data.specs.declared.instr.Instr.{Instr}
use Rattle.sync_data.specs.declared.instr.Instr.TheVariants as instrs
use Rattle.sync_data.specs.declared.instr.AddTable.{AddTable}
use Rattle.sync_data.specs.declared.instr.AddColumn.{AddColumn}
use Rattle.sync_data.specs.declared.instr.CreateObject.{CreateObject}
use Rattle.sync_data.specs.declared.instr.EraseObject.{EraseObject}
use Rattle.sync_data.specs.declared.instr.Update.{Update}
use Rattle.sync_data.specs.declared.instr.AddInteger.{AddInteger}
use Rattle.sync_data.specs.declared.instr.ListUpdate.{ListUpdate}
use Rattle.sync_data.specs.declared.instr.ListInsert.{ListInsert}
use Rattle.sync_data.specs.declared.instr.ListErase.{ListErase}
use Rattle.sync_data.specs.declared.instr.SetInsert.{SetInsert}
use Rattle.sync_data.specs.declared.instr.SetErase.{SetErase}
use Rattle.sync_data.specs.declared.instr.DictUpdate.{DictUpdate}
use Rattle.sync_data.specs.declared.instr.Clear.{Clear}
use Rattle.sync_codec.specs.declared.opcode.Opcode.{Opcode}
use Rattle.sync_codec.specs.declared.opcode.Opcode.TheVariants as opcodes
use Rattle.sync_codec.specs.declared.refusal.Fault.{Fault}
use Rattle.sync_codec.specs.declared.refusal.Rule.TheVariants.{BadTag}
use Rattle.sync_codec.specs.Fields.{◌>>=◌, breaks}
use Rattle.sync_codec.specs.Reading.{Reading, byte_at, signed64_at, string_at, name_at}
use Rattle.sync_codec.specs.Keys.{key_kind_at, key_at, column_at, cell_name_at, element_at, gap_at}
use Rattle.sync_codec.specs.Values.{value_at, binding_at}

unfoldable pub add_table_at : Reading → Result (AddTable × Reading) Fault
add_table_at r = do
  table ← name_at r
  key ← key_kind_at table.1
  Ok (record { table = table.0; key = key.0 }, key.1)

unfoldable pub add_column_at : Reading → Result (AddColumn × Reading) Fault
add_column_at r = do
  table ← name_at r
  column ← name_at table.1
  definition ← column_at column.1
  Ok (record { table = table.0; column = column.0; def = definition.0 }, definition.1)

unfoldable pub create_object_at : Reading → Result (CreateObject × Reading) Fault
create_object_at r = do
  table ← name_at r
  key ← key_at table.1
  Ok (record { table = table.0; key = key.0 }, key.1)

unfoldable pub erase_object_at : Reading → Result (EraseObject × Reading) Fault
erase_object_at r = do
  table ← name_at r
  key ← key_at table.1
  Ok (record { table = table.0; key = key.0 }, key.1)

unfoldable pub update_at : Reading → Result (Update × Reading) Fault
update_at r = do
  cell ← cell_name_at r
  value ← value_at cell.1
  Ok (record { cell = cell.0; value = value.0 }, value.1)

unfoldable pub add_integer_at : Reading → Result (AddInteger × Reading) Fault
add_integer_at r = do
  cell ← cell_name_at r
  amount ← signed64_at cell.1
  Ok (record { cell = cell.0; amount = amount.0 }, amount.1)

unfoldable pub list_update_at : Reading → Result (ListUpdate × Reading) Fault
list_update_at r = do
  cell ← cell_name_at r
  spot ← element_at cell.1
  value ← value_at spot.1
  Ok (record { cell = cell.0; spot = spot.0; value = value.0 }, value.1)

unfoldable pub list_insert_at : Reading → Result (ListInsert × Reading) Fault
list_insert_at r = do
  cell ← cell_name_at r
  spot ← gap_at cell.1
  value ← value_at spot.1
  Ok (record { cell = cell.0; spot = spot.0; value = value.0 }, value.1)

unfoldable pub list_erase_at : Reading → Result (ListErase × Reading) Fault
list_erase_at r = do
  cell ← cell_name_at r
  spot ← element_at cell.1
  Ok (record { cell = cell.0; spot = spot.0 }, spot.1)

unfoldable pub set_insert_at : Reading → Result (SetInsert × Reading) Fault
set_insert_at r = do
  cell ← cell_name_at r
  value ← value_at cell.1
  Ok (record { cell = cell.0; value = value.0 }, value.1)

unfoldable pub set_erase_at : Reading → Result (SetErase × Reading) Fault
set_erase_at r = do
  cell ← cell_name_at r
  value ← value_at cell.1
  Ok (record { cell = cell.0; value = value.0 }, value.1)

unfoldable pub dict_update_at : Reading → Result (DictUpdate × Reading) Fault
dict_update_at r = do
  cell ← cell_name_at r
  at ← string_at cell.1
  value ← binding_at at.1
  Ok (record { cell = cell.0; at = at.0; value = value.0 }, value.1)

unfoldable pub clear_at : Reading → Result (Clear × Reading) Fault
clear_at r = do
  cell ← cell_name_at r
  Ok (record { cell = cell.0 }, cell.1)

-- the last two stand in the table under the second version alone
abbrev pub opcode_of : Bool → ℕ → Option Opcode
opcode_of second b = if b == 1 then Some opcodes.AddTable else if b == 2 then Some opcodes.AddColumn else if b == 3 then Some opcodes.CreateObject else if b == 4 then Some opcodes.EraseObject else if b == 5 then Some opcodes.Update else if b == 6 then Some opcodes.AddInteger else if b == 7 then Some opcodes.ListUpdate else if b == 8 then Some opcodes.ListInsert else if b == 9 then Some opcodes.ListErase else if b == 10 then Some opcodes.SetInsert else if b == 11 then Some opcodes.SetErase else if b == 12 && second then Some opcodes.DictUpdate else if b == 13 && second then Some opcodes.Clear else None

abbrev pub taken : {A B : Type 0} → (A → B) → Result (A × Reading) Fault → Result (B × Reading) Fault
taken f (Ok x) = Ok (f x.0, x.1)
taken f (Err fault) = Err fault

unfoldable pub fields_at : Opcode → Reading → Result (Instr × Reading) Fault
fields_at opcodes.AddTable r = taken (λ i. instrs.AddTable i) (add_table_at r)
fields_at opcodes.AddColumn r = taken (λ i. instrs.AddColumn i) (add_column_at r)
fields_at opcodes.CreateObject r = taken (λ i. instrs.CreateObject i) (create_object_at r)
fields_at opcodes.EraseObject r = taken (λ i. instrs.EraseObject i) (erase_object_at r)
fields_at opcodes.Update r = taken (λ i. instrs.Update i) (update_at r)
fields_at opcodes.AddInteger r = taken (λ i. instrs.AddInteger i) (add_integer_at r)
fields_at opcodes.ListUpdate r = taken (λ i. instrs.ListUpdate i) (list_update_at r)
fields_at opcodes.ListInsert r = taken (λ i. instrs.ListInsert i) (list_insert_at r)
fields_at opcodes.ListErase r = taken (λ i. instrs.ListErase i) (list_erase_at r)
fields_at opcodes.SetInsert r = taken (λ i. instrs.SetInsert i) (set_insert_at r)
fields_at opcodes.SetErase r = taken (λ i. instrs.SetErase i) (set_erase_at r)
fields_at opcodes.DictUpdate r = taken (λ i. instrs.DictUpdate i) (dict_update_at r)
fields_at opcodes.Clear r = taken (λ i. instrs.Clear i) (clear_at r)

abbrev pub instr_behind : Option Opcode → Reading → Reading → Result (Instr × Reading) Fault
instr_behind (Some opcode) r from = fields_at opcode r
instr_behind None r from = breaks from.rest BadTag

unfoldable pub instr_at : Reading → Result (Instr × Reading) Fault
instr_at r = do
  b ← byte_at r
  instr_behind (opcode_of r.second b.0) b.1 r
