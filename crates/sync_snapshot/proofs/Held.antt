-- What the types of names, keys and values hold can be spelled, so a changeset can bear the instructions of a state's list.
use Rattle.std.proofs.Common.{◌≡◌, ℕ, ◌+◌, ◌-◌, ◌≤◌, List, length, Some, arith}
use Rattle.std.specs.List.{flat_map, AllByRecursion}
use Rattle.sync_data.specs.Payload.{payload, value_payload}
use Rattle.sync_data.specs.declared.value.Value.{Value}
use Rattle.sync_data.specs.declared.instr.AddTable.{AddTable}
use Rattle.sync_data.specs.declared.instr.AddColumn.{AddColumn}
use Rattle.sync_data.specs.declared.instr.CreateObject.{CreateObject}
use Rattle.sync_data.specs.declared.instr.Update.{Update}
use Rattle.sync_data.specs.declared.instr.ListInsert.{ListInsert}
use Rattle.sync_data.specs.declared.instr.SetInsert.{SetInsert}
use Rattle.sync_data.specs.declared.instr.CellName.{CellName}
use Rattle.sync_data.specs.declared.instr.Instr.{Instr}
use Rattle.sync_data.specs.declared.instr.Instr.TheVariants as instrs
use Rattle.sync_base.specs.Effects.{path_of}
use Rattle.sync_codec.specs.Spelling.{value_fields, strings_in_field}
use Rattle.sync_codec.specs.Valid.{IsGap, IsValue, IsString}
use Rattle.sync_exchange.specs.Bounded.{IsHeldName, IsHeldKey, IsHeldKind, names_of}
use Rattle.sync_exchange.specs.Lemmas.Held.{IsHeldPath, light_table, light_column, light_create, light_set, light_include, light_insert, light_bind}
use Rattle.sync_exchange.specs.Lemmas.Weights.{light_whole, carried}
use Rattle.sync_exchange.specs.Profile.{weight}

fits_beside : (n m : ℕ) → n + m ≤ 4194304 → m ≤ 4194304 - n
fits_beside n m h = omega (arith, h)

-- the strings of a value
abbrev pub HasStrings : Value → Type 0
HasStrings v = AllByRecursion IsString (flat_map strings_in_field (value_fields v))

pub table_light : (i : AddTable) → IsHeldName i.table → weight (instrs.AddTable i) ≤ 4194304
table_light i h = light_table i.table i.key h

pub column_light : (i : AddColumn) → IsHeldName i.table → IsHeldName i.column → IsHeldKind i.def.kind → weight (instrs.AddColumn i) ≤ 4194304
column_light i h g k = light_column i.table i.column i.def h g k

pub object_light : (i : CreateObject) → IsHeldName i.table → IsHeldKey i.key → weight (instrs.CreateObject i) ≤ 4194304
object_light i h k = light_create (i.table, i.key) h k

pub update_light : (i : Update) → IsHeldPath (path_of i.cell) → IsValue i.value → HasStrings i.value → payload (instrs.Update i) ≤ 4194304 → weight (instrs.Update i) ≤ 4194304
update_light i p v s h = light_set (path_of i.cell) i.value p (record { value = v; strings = s; light = fits_beside (names_of (path_of i.cell).0 (path_of i.cell).1) (value_payload i.value) h })

pub insert_light : (i : ListInsert) → IsHeldPath (path_of i.cell) → IsGap i.spot → IsValue i.value → HasStrings i.value → payload (instrs.ListInsert i) ≤ 4194304 → weight (instrs.ListInsert i) ≤ 4194304
insert_light i p g v s h = light_insert (path_of i.cell) i.spot i.value p g (record { value = v; strings = s; light = fits_beside (names_of (path_of i.cell).0 (path_of i.cell).1) (value_payload i.value) h })

pub include_light : (i : SetInsert) → IsHeldPath (path_of i.cell) → IsValue i.value → HasStrings i.value → payload (instrs.SetInsert i) ≤ 4194304 → weight (instrs.SetInsert i) ≤ 4194304
include_light i p v s h = light_include (path_of i.cell) i.value p (record { value = v; strings = s; light = fits_beside (names_of (path_of i.cell).0 (path_of i.cell).1) (value_payload i.value) h })

pub bind_light : (c : CellName) (at : List ℕ) (v : Value) → IsHeldPath (path_of c) → IsString at → IsValue v → HasStrings v → payload (instrs.DictUpdate (record { cell = c; at = at; value = Some v })) ≤ 4194304
    → weight (instrs.DictUpdate (record { cell = c; at = at; value = Some v })) ≤ 4194304
bind_light c at v p t k s h = light_bind (path_of c) at v p t (record { value = k; strings = s; light = fits_beside (names_of (path_of c).0 (path_of c).1 + length at) (value_payload v) h })

-- what a changeset can bear carries its weight
pub weighs : (i : Instr) → weight i ≤ 4194304 → weight i ≡ payload i
weighs i h = carried i (light_whole i h)
