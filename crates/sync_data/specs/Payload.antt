-- The bytes that instructions carry: names, text keys, and values of text and bytes.
use Rattle.std.specs.Prelude.{ℕ, Option, Some, None, ◌+◌, ◌-◌, ◌^◌, ◌≤◌, min, List, length, sum_by}
use Rattle.sync_data.specs.declared.key.Key.{Key}
use Rattle.sync_data.specs.declared.key.Key.TheVariants as keys
use Rattle.sync_data.specs.declared.value.Value.{Value}
use Rattle.sync_data.specs.declared.value.Value.TheVariants as values
use Rattle.sync_data.specs.declared.column.Kind.{Kind}
use Rattle.sync_data.specs.declared.column.Kind.TheVariants as kinds
use Rattle.sync_data.specs.declared.instr.CellName.{CellName}
use Rattle.sync_data.specs.declared.instr.Instr.{Instr}
use Rattle.sync_data.specs.declared.instr.Instr.TheVariants as instrs

pub record Changes : Type 0 where
  pub ms : ℕ
  pub instrs : List Instr

abbrev pub key_payload : Key → ℕ
key_payload (keys.Text t) = length t
key_payload k = 0

abbrev pub value_payload : Value → ℕ
value_payload (values.Text t) = length t
value_payload (values.Bytes b) = length b
value_payload (values.Link t k) = length t + key_payload k
value_payload v = 0

abbrev pub binding_payload_of : Option Value → ℕ
binding_payload_of (Some v) = value_payload v
binding_payload_of None = 0

abbrev pub kind_payload : Kind → ℕ
kind_payload (kinds.Link t) = length t
kind_payload k = 0

abbrev pub cell_payload : CellName → ℕ
cell_payload c = length c.table + key_payload c.key + length c.column

abbrev pub payload : Instr → ℕ
payload (instrs.AddTable i) = length i.table
payload (instrs.AddColumn i) = length i.table + length i.column + kind_payload i.def.kind
payload (instrs.CreateObject i) = length i.table + key_payload i.key
payload (instrs.EraseObject i) = length i.table + key_payload i.key
payload (instrs.Update i) = cell_payload i.cell + value_payload i.value
payload (instrs.AddInteger i) = cell_payload i.cell
payload (instrs.ListUpdate i) = cell_payload i.cell + value_payload i.value
payload (instrs.ListInsert i) = cell_payload i.cell + value_payload i.value
payload (instrs.ListErase i) = cell_payload i.cell
payload (instrs.SetInsert i) = cell_payload i.cell + value_payload i.value
payload (instrs.SetErase i) = cell_payload i.cell + value_payload i.value
payload (instrs.DictUpdate i) = cell_payload i.cell + length i.at + binding_payload_of i.value
payload (instrs.Clear i) = cell_payload i.cell

abbrev pub payload_all : List Instr → ℕ
payload_all is = sum_by payload is

abbrev pub capped : ℕ → ℕ
capped n = min n (2 ^ 64 - 1)

abbrev pub IsSmall : List Instr → Type 0
IsSmall is = (length is ≤ 65536) × (payload_all is ≤ 4194304)
