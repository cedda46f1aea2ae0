-- The reader of instructions.
use Rattle.std.proofs.Common.{◌≡◌, ℕ, ◌^◌, ◌<◌, Bool, true, false, cond, eqb, List, [], ◌∷◌, ◌++◌, Option, Some, None, Result, Ok, Err, refl, sym, ap, subst, ◌∙◌, inl, inr}
use Rattle.std.specs.Prelude.{◌&&◌}
use Rattle.std.proofs.lemmas.Bool.{eqb-true}
use Rattle.sync_data.specs.declared.instr.Instr.{Instr}
use Rattle.sync_data.specs.declared.instr.Instr.TheVariants as instrs
use Rattle.sync_data.specs.declared.instr.AddTable.{AddTable}
use Rattle.sync_data.specs.declared.instr.AddColumn.{AddColumn}
use Rattle.sync_data.specs.declared.instr.CreateObject.{CreateObject}
use Rattle.sync_data.specs.declared.instr.EraseObject.{EraseObject}
use Rattle.sync_data.specs.declared.instr.Update.{Update}
use Rattle.sync_data.specs.declared.instr.AddInteger.{AddInteger}
use Rattle.sync_data.specs.declared.instr.ListUpdate.{ListUpdate}
use Rattle.sync_data.specs.declared.instr.ListInsert.{ListInsert}
use Rattle.sync_data.specs.declared.instr.ListErase.{ListErase}
use Rattle.sync_data.specs.declared.instr.SetInsert.{SetInsert}
use Rattle.sync_data.specs.declared.instr.SetErase.{SetErase}
use Rattle.sync_data.specs.declared.instr.DictUpdate.{DictUpdate}
use Rattle.sync_data.specs.declared.instr.Clear.{Clear}
use Rattle.sync_io.specs.Varints.{zigzag}
use Rattle.sync_codec.specs.declared.opcode.Opcode.{Opcode}
use Rattle.sync_codec.specs.declared.opcode.Opcode.TheVariants as opcodes
use Rattle.sync_codec.specs.declared.refusal.Fault.{Fault}
use Rattle.sync_codec.specs.Reading.{Reading, signed64_at, string_at, name_at}
use Rattle.sync_codec.specs.Keys.{key_kind_at, key_at, column_at, cell_name_at, element_at, gap_at}
use Rattle.sync_codec.specs.Values.{value_at, binding_at}
use Rattle.sync_codec.specs.Instrs.{add_table_at, add_column_at, create_object_at, erase_object_at, update_at, add_integer_at, list_update_at, list_insert_at, list_erase_at, set_insert_at, set_erase_at, dict_update_at, clear_at, opcode_of, taken, fields_at, instr_behind, instr_at}
use Rattle.sync_codec.specs.Spelling.{Field, byte, number, string, key_kind_byte, key_fields, value_fields, binding_fields, column_fields, cell_fields, spot_fields, instr_fields, needs_second}
use Rattle.sync_codec.specs.Valid.{IsName, IsKey, IsCell, IsValue, IsBinding, IsElement, IsGap, IsInstr}
use Rattle.sync_codec.specs.Lemmas.Runs.{ok_is, choice, Run, From, Reads, one, two, three, tagged}
use Rattle.sync_codec.specs.Lemmas.Fields.{Always, read_byte, read_signed64, read_string}
use Rattle.sync_codec.specs.Lemmas.Keys.{no_tag, both_true, refield, read_own_name, read_key_kind, read_key, read_cell, read_element, read_gap}
use Rattle.sync_codec.specs.Lemmas.Columns.{ColumnFits, read_column}
use Rattle.sync_codec.specs.Lemmas.Values.{read_value, read_binding}

module _ (second : Bool) where
  read_add_table : Reads second add_table_at (λ (i : AddTable). string i.table ∷ byte (key_kind_byte i.key) ∷ []) (λ (i : AddTable). IsName i.table × Always i.key)
  unfolding add_table_at
  read_add_table = two second name_at (λ s. string s ∷ []) IsName key_kind_at (λ x. byte (key_kind_byte x) ∷ []) Always (λ a b. record { table = a; key = b }) (λ (i : AddTable). string i.table ∷ byte (key_kind_byte i.key) ∷ []) (λ (i : AddTable). IsName i.table × Always i.key) (read_own_name second) (read_key_kind second) (λ a b. refl) (λ a b p q. (p, q)) (λ i h. (i.table, i.key, refl, h.0, h.1))

  read_add_column : Reads second add_column_at (λ (i : AddColumn). string i.table ∷ string i.column ∷ column_fields i.def) (λ (i : AddColumn). IsName i.table × IsName i.column × (ColumnFits second) i.def)
  unfolding add_column_at
  read_add_column = three second name_at (λ s. string s ∷ []) IsName name_at (λ s. string s ∷ []) IsName column_at column_fields (ColumnFits second) (λ a b c. record { table = a; column = b; def = c }) (λ (i : AddColumn). string i.table ∷ string i.column ∷ column_fields i.def) (λ (i : AddColumn). IsName i.table × IsName i.column × (ColumnFits second) i.def) (read_own_name second) (read_own_name second) (read_column second) (λ a b c. refl) (λ a b c p q s. (p, q, s)) (λ i h. (i.table, i.column, i.def, refl, h.0, h.1, h.2))

  read_create_object : Reads second create_object_at (λ (i : CreateObject). string i.table ∷ key_fields i.key) (λ (i : CreateObject). IsName i.table × IsKey i.key)
  unfolding create_object_at
  read_create_object = two second name_at (λ s. string s ∷ []) IsName key_at key_fields IsKey (λ a b. record { table = a; key = b }) (λ (i : CreateObject). string i.table ∷ key_fields i.key) (λ (i : CreateObject). IsName i.table × IsKey i.key) (read_own_name second) (read_key second) (λ a b. refl) (λ a b p q. (p, q)) (λ i h. (i.table, i.key, refl, h.0, h.1))

  read_erase_object : Reads second erase_object_at (λ (i : EraseObject). string i.table ∷ key_fields i.key) (λ (i : EraseObject). IsName i.table × IsKey i.key)
  unfolding erase_object_at
  read_erase_object = two second name_at (λ s. string s ∷ []) IsName key_at key_fields IsKey (λ a b. record { table = a; key = b }) (λ (i : EraseObject). string i.table ∷ key_fields i.key) (λ (i : EraseObject). IsName i.table × IsKey i.key) (read_own_name second) (read_key second) (λ a b. refl) (λ a b p q. (p, q)) (λ i h. (i.table, i.key, refl, h.0, h.1))

  read_update : Reads second update_at (λ (i : Update). cell_fields i.cell ++ value_fields i.value) (λ (i : Update). IsCell i.cell × IsValue i.value)
  unfolding update_at
  read_update = two second cell_name_at cell_fields IsCell value_at value_fields IsValue (λ a b. record { cell = a; value = b }) (λ (i : Update). cell_fields i.cell ++ value_fields i.value) (λ (i : Update). IsCell i.cell × IsValue i.value) (read_cell second) (read_value second) (λ a b. refl) (λ a b p q. (p, q)) (λ i h. (i.cell, i.value, refl, h.0, h.1))

  read_add_integer : Reads second add_integer_at (λ (i : AddInteger). cell_fields i.cell ++ number (zigzag i.amount) ∷ []) (λ (i : AddInteger). IsCell i.cell × (zigzag i.amount < 2 ^ 64))
  unfolding add_integer_at
  read_add_integer = two second cell_name_at cell_fields IsCell signed64_at (λ z. number (zigzag z) ∷ []) (λ z. zigzag z < 2 ^ 64) (λ a b. record { cell = a; amount = b }) (λ (i : AddInteger). cell_fields i.cell ++ number (zigzag i.amount) ∷ []) (λ (i : AddInteger). IsCell i.cell × (zigzag i.amount < 2 ^ 64)) (read_cell second) (read_signed64 second) (λ a b. refl) (λ a b p q. (p, q)) (λ i h. (i.cell, i.amount, refl, h.0, h.1))

  read_list_update : Reads second list_update_at (λ (i : ListUpdate). cell_fields i.cell ++ (spot_fields i.spot ++ value_fields i.value)) (λ (i : ListUpdate). IsCell i.cell × IsElement i.spot × IsValue i.value)
  unfolding list_update_at
  read_list_update = three second cell_name_at cell_fields IsCell element_at spot_fields IsElement value_at value_fields IsValue (λ a b c. record { cell = a; spot = b; value = c }) (λ (i : ListUpdate). cell_fields i.cell ++ (spot_fields i.spot ++ value_fields i.value)) (λ (i : ListUpdate). IsCell i.cell × IsElement i.spot × IsValue i.value) (read_cell second) (read_element second) (read_value second) (λ a b c. refl) (λ a b c p q s. (p, q, s)) (λ i h. (i.cell, i.spot, i.value, refl, h.0, h.1, h.2))

  read_list_insert : Reads second list_insert_at (λ (i : ListInsert). cell_fields i.cell ++ (spot_fields i.spot ++ value_fields i.value)) (λ (i : ListInsert). IsCell i.cell × IsGap i.spot × IsValue i.value)
  unfolding list_insert_at
  read_list_insert = three second cell_name_at cell_fields IsCell gap_at spot_fields IsGap value_at value_fields IsValue (λ a b c. record { cell = a; spot = b; value = c }) (λ (i : ListInsert). cell_fields i.cell ++ (spot_fields i.spot ++ value_fields i.value)) (λ (i : ListInsert). IsCell i.cell × IsGap i.spot × IsValue i.value) (read_cell second) (read_gap second) (read_value second) (λ a b c. refl) (λ a b c p q s. (p, q, s)) (λ i h. (i.cell, i.spot, i.value, refl, h.0, h.1, h.2))

  read_list_erase : Reads second list_erase_at (λ (i : ListErase). cell_fields i.cell ++ spot_fields i.spot) (λ (i : ListErase). IsCell i.cell × IsElement i.spot)
  unfolding list_erase_at
  read_list_erase = two second cell_name_at cell_fields IsCell element_at spot_fields IsElement (λ a b. record { cell = a; spot = b }) (λ (i : ListErase). cell_fields i.cell ++ spot_fields i.spot) (λ (i : ListErase). IsCell i.cell × IsElement i.spot) (read_cell second) (read_element second) (λ a b. refl) (λ a b p q. (p, q)) (λ i h. (i.cell, i.spot, refl, h.0, h.1))

  read_set_insert : Reads second set_insert_at (λ (i : SetInsert). cell_fields i.cell ++ value_fields i.value) (λ (i : SetInsert). IsCell i.cell × IsValue i.value)
  unfolding set_insert_at
  read_set_insert = two second cell_name_at cell_fields IsCell value_at value_fields IsValue (λ a b. record { cell = a; value = b }) (λ (i : SetInsert). cell_fields i.cell ++ value_fields i.value) (λ (i : SetInsert). IsCell i.cell × IsValue i.value) (read_cell second) (read_value second) (λ a b. refl) (λ a b p q. (p, q)) (λ i h. (i.cell, i.value, refl, h.0, h.1))

  read_set_erase : Reads second set_erase_at (λ (i : SetErase). cell_fields i.cell ++ value_fields i.value) (λ (i : SetErase). IsCell i.cell × IsValue i.value)
  unfolding set_erase_at
  read_set_erase = two second cell_name_at cell_fields IsCell value_at value_fields IsValue (λ a b. record { cell = a; value = b }) (λ (i : SetErase). cell_fields i.cell ++ value_fields i.value) (λ (i : SetErase). IsCell i.cell × IsValue i.value) (read_cell second) (read_value second) (λ a b. refl) (λ a b p q. (p, q)) (λ i h. (i.cell, i.value, refl, h.0, h.1))

  read_dict_update : Reads second dict_update_at (λ (i : DictUpdate). cell_fields i.cell ++ string i.at ∷ binding_fields i.value) (λ (i : DictUpdate). IsCell i.cell × Always i.at × IsBinding i.value)
  unfolding dict_update_at
  read_dict_update = three second cell_name_at cell_fields IsCell string_at (λ s. string s ∷ []) Always binding_at binding_fields IsBinding (λ a b c. record { cell = a; at = b; value = c }) (λ (i : DictUpdate). cell_fields i.cell ++ string i.at ∷ binding_fields i.value) (λ (i : DictUpdate). IsCell i.cell × Always i.at × IsBinding i.value) (read_cell second) (read_string second) (read_binding second) (λ a b c. refl) (λ a b c p q s. (p, q, s)) (λ i h. (i.cell, i.at, i.value, refl, h.0, h.1, h.2))

  read_clear : Reads second clear_at (λ (i : Clear). cell_fields i.cell) (λ (i : Clear). IsCell i.cell)
  unfolding clear_at
  read_clear = one second cell_name_at cell_fields IsCell (λ a. record { cell = a }) (λ (i : Clear). cell_fields i.cell) (λ (i : Clear). IsCell i.cell) (read_cell second) (λ a. refl) (λ a h. h) (λ i h. (i.cell, refl, h))

-- ---- opcodes
abbrev opcode_byte : Instr → ℕ
opcode_byte (instrs.AddTable i) = 1
opcode_byte (instrs.AddColumn i) = 2
opcode_byte (instrs.CreateObject i) = 3
opcode_byte (instrs.EraseObject i) = 4
opcode_byte (instrs.Update i) = 5
opcode_byte (instrs.AddInteger i) = 6
opcode_byte (instrs.ListUpdate i) = 7
opcode_byte (instrs.ListInsert i) = 8
opcode_byte (instrs.ListErase i) = 9
opcode_byte (instrs.SetInsert i) = 10
opcode_byte (instrs.SetErase i) = 11
opcode_byte (instrs.DictUpdate i) = 12
opcode_byte (instrs.Clear i) = 13

abbrev opcode : Instr → Opcode
opcode (instrs.AddTable i) = opcodes.AddTable
opcode (instrs.AddColumn i) = opcodes.AddColumn
opcode (instrs.CreateObject i) = opcodes.CreateObject
opcode (instrs.EraseObject i) = opcodes.EraseObject
opcode (instrs.Update i) = opcodes.Update
opcode (instrs.AddInteger i) = opcodes.AddInteger
opcode (instrs.ListUpdate i) = opcodes.ListUpdate
opcode (instrs.ListInsert i) = opcodes.ListInsert
opcode (instrs.ListErase i) = opcodes.ListErase
opcode (instrs.SetInsert i) = opcodes.SetInsert
opcode (instrs.SetErase i) = opcodes.SetErase
opcode (instrs.DictUpdate i) = opcodes.DictUpdate
opcode (instrs.Clear i) = opcodes.Clear

abbrev code_byte : Opcode → ℕ
code_byte opcodes.AddTable = 1
code_byte opcodes.AddColumn = 2
code_byte opcodes.CreateObject = 3
code_byte opcodes.EraseObject = 4
code_byte opcodes.Update = 5
code_byte opcodes.AddInteger = 6
code_byte opcodes.ListUpdate = 7
code_byte opcodes.ListInsert = 8
code_byte opcodes.ListErase = 9
code_byte opcodes.SetInsert = 10
code_byte opcodes.SetErase = 11
code_byte opcodes.DictUpdate = 12
code_byte opcodes.Clear = 13

abbrev is_late : Opcode → Bool
is_late opcodes.AddTable = false
is_late opcodes.AddColumn = false
is_late opcodes.CreateObject = false
is_late opcodes.EraseObject = false
is_late opcodes.Update = false
is_late opcodes.AddInteger = false
is_late opcodes.ListUpdate = false
is_late opcodes.ListInsert = false
is_late opcodes.ListErase = false
is_late opcodes.SetInsert = false
is_late opcodes.SetErase = false
is_late opcodes.DictUpdate = true
is_late opcodes.Clear = true

abbrev instr_tail : Instr → List Field
instr_tail (instrs.AddTable i) = string i.table ∷ byte (key_kind_byte i.key) ∷ []
instr_tail (instrs.AddColumn i) = string i.table ∷ string i.column ∷ column_fields i.def
instr_tail (instrs.CreateObject i) = string i.table ∷ key_fields i.key
instr_tail (instrs.EraseObject i) = string i.table ∷ key_fields i.key
instr_tail (instrs.Update i) = cell_fields i.cell ++ value_fields i.value
instr_tail (instrs.AddInteger i) = cell_fields i.cell ++ number (zigzag i.amount) ∷ []
instr_tail (instrs.ListUpdate i) = cell_fields i.cell ++ (spot_fields i.spot ++ value_fields i.value)
instr_tail (instrs.ListInsert i) = cell_fields i.cell ++ (spot_fields i.spot ++ value_fields i.value)
instr_tail (instrs.ListErase i) = cell_fields i.cell ++ spot_fields i.spot
instr_tail (instrs.SetInsert i) = cell_fields i.cell ++ value_fields i.value
instr_tail (instrs.SetErase i) = cell_fields i.cell ++ value_fields i.value
instr_tail (instrs.DictUpdate i) = cell_fields i.cell ++ string i.at ∷ binding_fields i.value
instr_tail (instrs.Clear i) = cell_fields i.cell

instr_fields_are : (i : Instr) → byte (opcode_byte i) ∷ instr_tail i ≡ instr_fields i
unfolding instr_fields
instr_fields_are (instrs.AddTable i) = refl
instr_fields_are (instrs.AddColumn i) = refl
instr_fields_are (instrs.CreateObject i) = refl
instr_fields_are (instrs.EraseObject i) = refl
instr_fields_are (instrs.Update i) = refl
instr_fields_are (instrs.AddInteger i) = refl
instr_fields_are (instrs.ListUpdate i) = refl
instr_fields_are (instrs.ListInsert i) = refl
instr_fields_are (instrs.ListErase i) = refl
instr_fields_are (instrs.SetInsert i) = refl
instr_fields_are (instrs.SetErase i) = refl
instr_fields_are (instrs.DictUpdate i) = refl
instr_fields_are (instrs.Clear i) = refl

-- what the first version lacks comes under the second alone
abbrev pub InstrFits : Bool → Instr → Type 0
InstrFits second i = IsInstr i × (needs_second i ≡ true → second ≡ true)

abbrev some : Opcode → Option Opcode
some o = Some o

some_is : (a b : Opcode) → some a ≡ some b → a ≡ b
some_is a b e = cc

code_at : (second : Bool) (t : ℕ) (o : Opcode) → opcode_of second t ≡ Some o → (t ≡ code_byte o) × (is_late o ≡ true → second ≡ true)
code_at second t o e =
    elim (choice (eqb t 1) (Some opcodes.AddTable) (cond (eqb t 2) (Some opcodes.AddColumn) (cond (eqb t 3) (Some opcodes.CreateObject) (cond (eqb t 4) (Some opcodes.EraseObject) (cond (eqb t 5) (Some opcodes.Update) (cond (eqb t 6) (Some opcodes.AddInteger) (cond (eqb t 7) (Some opcodes.ListUpdate) (cond (eqb t 8) (Some opcodes.ListInsert) (cond (eqb t 9) (Some opcodes.ListErase) (cond (eqb t 10) (Some opcodes.SetInsert) (cond (eqb t 11) (Some opcodes.SetErase) (cond (eqb t 12 && second) (Some opcodes.DictUpdate) (cond (eqb t 13 && second) (Some opcodes.Clear) (None))))))))))))) (Some o) e) [
      | inl p ↦ subst (λ (q : Opcode). (t ≡ code_byte q) × (is_late q ≡ true → second ≡ true)) (some_is opcodes.AddTable o p.1) (eqb-true t 1 p.0, λ h. absurd cc)
      | inr p ↦
          elim (choice (eqb t 2) (Some opcodes.AddColumn) (cond (eqb t 3) (Some opcodes.CreateObject) (cond (eqb t 4) (Some opcodes.EraseObject) (cond (eqb t 5) (Some opcodes.Update) (cond (eqb t 6) (Some opcodes.AddInteger) (cond (eqb t 7) (Some opcodes.ListUpdate) (cond (eqb t 8) (Some opcodes.ListInsert) (cond (eqb t 9) (Some opcodes.ListErase) (cond (eqb t 10) (Some opcodes.SetInsert) (cond (eqb t 11) (Some opcodes.SetErase) (cond (eqb t 12 && second) (Some opcodes.DictUpdate) (cond (eqb t 13 && second) (Some opcodes.Clear) (None)))))))))))) (Some o) p.1) [
            | inl p ↦ subst (λ (q : Opcode). (t ≡ code_byte q) × (is_late q ≡ true → second ≡ true)) (some_is opcodes.AddColumn o p.1) (eqb-true t 2 p.0, λ h. absurd cc)
            | inr p ↦
                elim (choice (eqb t 3) (Some opcodes.CreateObject) (cond (eqb t 4) (Some opcodes.EraseObject) (cond (eqb t 5) (Some opcodes.Update) (cond (eqb t 6) (Some opcodes.AddInteger) (cond (eqb t 7) (Some opcodes.ListUpdate) (cond (eqb t 8) (Some opcodes.ListInsert) (cond (eqb t 9) (Some opcodes.ListErase) (cond (eqb t 10) (Some opcodes.SetInsert) (cond (eqb t 11) (Some opcodes.SetErase) (cond (eqb t 12 && second) (Some opcodes.DictUpdate) (cond (eqb t 13 && second) (Some opcodes.Clear) (None))))))))))) (Some o) p.1) [
                  | inl p ↦ subst (λ (q : Opcode). (t ≡ code_byte q) × (is_late q ≡ true → second ≡ true)) (some_is opcodes.CreateObject o p.1) (eqb-true t 3 p.0, λ h. absurd cc)
                  | inr p ↦
                      elim (choice (eqb t 4) (Some opcodes.EraseObject) (cond (eqb t 5) (Some opcodes.Update) (cond (eqb t 6) (Some opcodes.AddInteger) (cond (eqb t 7) (Some opcodes.ListUpdate) (cond (eqb t 8) (Some opcodes.ListInsert) (cond (eqb t 9) (Some opcodes.ListErase) (cond (eqb t 10) (Some opcodes.SetInsert) (cond (eqb t 11) (Some opcodes.SetErase) (cond (eqb t 12 && second) (Some opcodes.DictUpdate) (cond (eqb t 13 && second) (Some opcodes.Clear) (None)))))))))) (Some o) p.1) [
                        | inl p ↦ subst (λ (q : Opcode). (t ≡ code_byte q) × (is_late q ≡ true → second ≡ true)) (some_is opcodes.EraseObject o p.1) (eqb-true t 4 p.0, λ h. absurd cc)
                        | inr p ↦
                            elim (choice (eqb t 5) (Some opcodes.Update) (cond (eqb t 6) (Some opcodes.AddInteger) (cond (eqb t 7) (Some opcodes.ListUpdate) (cond (eqb t 8) (Some opcodes.ListInsert) (cond (eqb t 9) (Some opcodes.ListErase) (cond (eqb t 10) (Some opcodes.SetInsert) (cond (eqb t 11) (Some opcodes.SetErase) (cond (eqb t 12 && second) (Some opcodes.DictUpdate) (cond (eqb t 13 && second) (Some opcodes.Clear) (None))))))))) (Some o) p.1) [
                              | inl p ↦ subst (λ (q : Opcode). (t ≡ code_byte q) × (is_late q ≡ true → second ≡ true)) (some_is opcodes.Update o p.1) (eqb-true t 5 p.0, λ h. absurd cc)
                              | inr p ↦
                                  elim (choice (eqb t 6) (Some opcodes.AddInteger) (cond (eqb t 7) (Some opcodes.ListUpdate) (cond (eqb t 8) (Some opcodes.ListInsert) (cond (eqb t 9) (Some opcodes.ListErase) (cond (eqb t 10) (Some opcodes.SetInsert) (cond (eqb t 11) (Some opcodes.SetErase) (cond (eqb t 12 && second) (Some opcodes.DictUpdate) (cond (eqb t 13 && second) (Some opcodes.Clear) (None)))))))) (Some o) p.1) [
                                    | inl p ↦ subst (λ (q : Opcode). (t ≡ code_byte q) × (is_late q ≡ true → second ≡ true)) (some_is opcodes.AddInteger o p.1) (eqb-true t 6 p.0, λ h. absurd cc)
                                    | inr p ↦
                                        elim (choice (eqb t 7) (Some opcodes.ListUpdate) (cond (eqb t 8) (Some opcodes.ListInsert) (cond (eqb t 9) (Some opcodes.ListErase) (cond (eqb t 10) (Some opcodes.SetInsert) (cond (eqb t 11) (Some opcodes.SetErase) (cond (eqb t 12 && second) (Some opcodes.DictUpdate) (cond (eqb t 13 && second) (Some opcodes.Clear) (None))))))) (Some o) p.1) [
                                          | inl p ↦ subst (λ (q : Opcode). (t ≡ code_byte q) × (is_late q ≡ true → second ≡ true)) (some_is opcodes.ListUpdate o p.1) (eqb-true t 7 p.0, λ h. absurd cc)
                                          | inr p ↦
                                              elim (choice (eqb t 8) (Some opcodes.ListInsert) (cond (eqb t 9) (Some opcodes.ListErase) (cond (eqb t 10) (Some opcodes.SetInsert) (cond (eqb t 11) (Some opcodes.SetErase) (cond (eqb t 12 && second) (Some opcodes.DictUpdate) (cond (eqb t 13 && second) (Some opcodes.Clear) (None)))))) (Some o) p.1) [
                                                | inl p ↦ subst (λ (q : Opcode). (t ≡ code_byte q) × (is_late q ≡ true → second ≡ true)) (some_is opcodes.ListInsert o p.1) (eqb-true t 8 p.0, λ h. absurd cc)
                                                | inr p ↦
                                                    elim (choice (eqb t 9) (Some opcodes.ListErase) (cond (eqb t 10) (Some opcodes.SetInsert) (cond (eqb t 11) (Some opcodes.SetErase) (cond (eqb t 12 && second) (Some opcodes.DictUpdate) (cond (eqb t 13 && second) (Some opcodes.Clear) (None))))) (Some o) p.1) [
                                                      | inl p ↦ subst (λ (q : Opcode). (t ≡ code_byte q) × (is_late q ≡ true → second ≡ true)) (some_is opcodes.ListErase o p.1) (eqb-true t 9 p.0, λ h. absurd cc)
                                                      | inr p ↦
                                                          elim (choice (eqb t 10) (Some opcodes.SetInsert) (cond (eqb t 11) (Some opcodes.SetErase) (cond (eqb t 12 && second) (Some opcodes.DictUpdate) (cond (eqb t 13 && second) (Some opcodes.Clear) (None)))) (Some o) p.1) [
                                                            | inl p ↦ subst (λ (q : Opcode). (t ≡ code_byte q) × (is_late q ≡ true → second ≡ true)) (some_is opcodes.SetInsert o p.1) (eqb-true t 10 p.0, λ h. absurd cc)
                                                            | inr p ↦
                                                                elim (choice (eqb t 11) (Some opcodes.SetErase) (cond (eqb t 12 && second) (Some opcodes.DictUpdate) (cond (eqb t 13 && second) (Some opcodes.Clear) (None))) (Some o) p.1) [
                                                                  | inl p ↦ subst (λ (q : Opcode). (t ≡ code_byte q) × (is_late q ≡ true → second ≡ true)) (some_is opcodes.SetErase o p.1) (eqb-true t 11 p.0, λ h. absurd cc)
                                                                  | inr p ↦
                                                                      elim (choice (eqb t 12 && second) (Some opcodes.DictUpdate) (cond (eqb t 13 && second) (Some opcodes.Clear) (None)) (Some o) p.1) [
                                                                        | inl p ↦ subst (λ (q : Opcode). (t ≡ code_byte q) × (is_late q ≡ true → second ≡ true)) (some_is opcodes.DictUpdate o p.1) (eqb-true t 12 (both_true (eqb t 12) second p.0).0, λ h. (both_true (eqb t 12) second p.0).1)
                                                                        | inr p ↦
                                                                            elim (choice (eqb t 13 && second) (Some opcodes.Clear) (None) (Some o) p.1) [
                                                                              | inl p ↦ subst (λ (q : Opcode). (t ≡ code_byte q) × (is_late q ≡ true → second ≡ true)) (some_is opcodes.Clear o p.1) (eqb-true t 13 (both_true (eqb t 13) second p.0).0, λ h. (both_true (eqb t 13) second p.0).1)
                                                                              | inr p ↦ absurd cc
                                                                            ]
                                                                      ]
                                                                ]
                                                          ]
                                                    ]
                                              ]
                                        ]
                                  ]
                            ]
                      ]
                ]
          ]
    ]

code_again : (second : Bool) (i : Instr) → (needs_second i ≡ true → second ≡ true) → opcode_of second (opcode_byte i) ≡ Some (opcode i)
code_again second (instrs.AddTable i) h = refl
code_again second (instrs.AddColumn i) h = refl
code_again second (instrs.CreateObject i) h = refl
code_again second (instrs.EraseObject i) h = refl
code_again second (instrs.Update i) h = refl
code_again second (instrs.AddInteger i) h = refl
code_again second (instrs.ListUpdate i) h = refl
code_again second (instrs.ListInsert i) h = refl
code_again second (instrs.ListErase i) h = refl
code_again second (instrs.SetInsert i) h = refl
code_again second (instrs.SetErase i) h = refl
code_again second (instrs.DictUpdate i) h = rw (h refl) refl
code_again second (instrs.Clear i) h = rw (h refl) refl

-- ---- instructions
module _ {A : Type 0} (second : Bool) (read : Reading → Result (A × Reading) Fault) (fields : A → List Field) (Fits : A → Type 0) (make : A → Instr) (code : ℕ) where
  from_taken : Reads second read fields Fits → ((a : A) → code ≡ opcode_byte (make a)) → ((a : A) → fields a ≡ instr_tail (make a)) → ((a : A) → Fits a → InstrFits second (make a)) → (k : Reading) (x : Instr) (m : Reading) → From second k → (v : Result (A × Reading) Fault) → read k ≡ v → taken make v ≡ Ok (x, m) → (code ≡ opcode_byte x) × Run k (instr_tail x) m × InstrFits second x
  from_taken ha codes tails fits k x m h (Ok a) is t =
      let left : Instr × Reading = (make a.0, a.1) in
      let ta = ha.takes k a.0 a.1 h is in
      subst (λ (y : Instr × Reading). (code ≡ opcode_byte y.0) × Run k (instr_tail y.0) y.1 × InstrFits second y.0) (ok_is left (x, m) t) (codes a.0, subst (λ (fs : List Field). Run k fs a.1) (tails a.0) ta.0, fits a.0 ta.1)
  from_taken ha codes tails fits k x m h (Err d) is t = absurd cc

  instr_taken : Reads second read fields Fits → ((a : A) → code ≡ opcode_byte (make a)) → ((a : A) → fields a ≡ instr_tail (make a)) → ((a : A) → Fits a → InstrFits second (make a)) → (k : Reading) (x : Instr) (m : Reading) → From second k → taken make (read k) ≡ Ok (x, m) → (code ≡ opcode_byte x) × Run k (instr_tail x) m × InstrFits second x
  instr_taken ha codes tails fits k x m h e = from_taken ha codes tails fits k x m h (read k) refl e

  instr_again : Reads second read fields Fits → ((a : A) → fields a ≡ instr_tail (make a)) → (a : A) (k m : Reading) → k.second ≡ second → Fits a → Run k (instr_tail (make a)) m → taken make (read k) ≡ Ok (make a, m)
  instr_again ha tails a k m v ok ran = ap (taken make) (ha.again k a m v ok (subst (λ (fs : List Field). Run k fs m) (sym (tails a)) ran))

fields_take : (second : Bool) (o : Opcode) (k : Reading) (x : Instr) (m : Reading) → (is_late o ≡ true → second ≡ true) → From second k → fields_at o k ≡ Ok (x, m) → (code_byte o ≡ opcode_byte x) × Run k (instr_tail x) m × InstrFits second x
unfolding fields_at
fields_take second opcodes.AddTable k x m late h e = instr_taken second add_table_at (λ (i : AddTable). string i.table ∷ byte (key_kind_byte i.key) ∷ []) (λ (i : AddTable). IsName i.table × Always i.key) (λ i. instrs.AddTable i) 1 (read_add_table second) (λ a. refl) (λ a. refl) (λ a h. (h.0, λ e. absurd cc)) k x m h e
fields_take second opcodes.AddColumn k x m late h e = instr_taken second add_column_at (λ (i : AddColumn). string i.table ∷ string i.column ∷ column_fields i.def) (λ (i : AddColumn). IsName i.table × IsName i.column × (ColumnFits second) i.def) (λ i. instrs.AddColumn i) 2 (read_add_column second) (λ a. refl) (λ a. refl) (λ a h. ((h.0, h.1, h.2.0), h.2.1)) k x m h e
fields_take second opcodes.CreateObject k x m late h e = instr_taken second create_object_at (λ (i : CreateObject). string i.table ∷ key_fields i.key) (λ (i : CreateObject). IsName i.table × IsKey i.key) (λ i. instrs.CreateObject i) 3 (read_create_object second) (λ a. refl) (λ a. refl) (λ a h. (h, λ e. absurd cc)) k x m h e
fields_take second opcodes.EraseObject k x m late h e = instr_taken second erase_object_at (λ (i : EraseObject). string i.table ∷ key_fields i.key) (λ (i : EraseObject). IsName i.table × IsKey i.key) (λ i. instrs.EraseObject i) 4 (read_erase_object second) (λ a. refl) (λ a. refl) (λ a h. (h, λ e. absurd cc)) k x m h e
fields_take second opcodes.Update k x m late h e = instr_taken second update_at (λ (i : Update). cell_fields i.cell ++ value_fields i.value) (λ (i : Update). IsCell i.cell × IsValue i.value) (λ i. instrs.Update i) 5 (read_update second) (λ a. refl) (λ a. refl) (λ a h. (h, λ e. absurd cc)) k x m h e
fields_take second opcodes.AddInteger k x m late h e = instr_taken second add_integer_at (λ (i : AddInteger). cell_fields i.cell ++ number (zigzag i.amount) ∷ []) (λ (i : AddInteger). IsCell i.cell × (zigzag i.amount < 2 ^ 64)) (λ i. instrs.AddInteger i) 6 (read_add_integer second) (λ a. refl) (λ a. refl) (λ a h. (h, λ e. absurd cc)) k x m h e
fields_take second opcodes.ListUpdate k x m late h e = instr_taken second list_update_at (λ (i : ListUpdate). cell_fields i.cell ++ (spot_fields i.spot ++ value_fields i.value)) (λ (i : ListUpdate). IsCell i.cell × IsElement i.spot × IsValue i.value) (λ i. instrs.ListUpdate i) 7 (read_list_update second) (λ a. refl) (λ a. refl) (λ a h. (h, λ e. absurd cc)) k x m h e
fields_take second opcodes.ListInsert k x m late h e = instr_taken second list_insert_at (λ (i : ListInsert). cell_fields i.cell ++ (spot_fields i.spot ++ value_fields i.value)) (λ (i : ListInsert). IsCell i.cell × IsGap i.spot × IsValue i.value) (λ i. instrs.ListInsert i) 8 (read_list_insert second) (λ a. refl) (λ a. refl) (λ a h. (h, λ e. absurd cc)) k x m h e
fields_take second opcodes.ListErase k x m late h e = instr_taken second list_erase_at (λ (i : ListErase). cell_fields i.cell ++ spot_fields i.spot) (λ (i : ListErase). IsCell i.cell × IsElement i.spot) (λ i. instrs.ListErase i) 9 (read_list_erase second) (λ a. refl) (λ a. refl) (λ a h. (h, λ e. absurd cc)) k x m h e
fields_take second opcodes.SetInsert k x m late h e = instr_taken second set_insert_at (λ (i : SetInsert). cell_fields i.cell ++ value_fields i.value) (λ (i : SetInsert). IsCell i.cell × IsValue i.value) (λ i. instrs.SetInsert i) 10 (read_set_insert second) (λ a. refl) (λ a. refl) (λ a h. (h, λ e. absurd cc)) k x m h e
fields_take second opcodes.SetErase k x m late h e = instr_taken second set_erase_at (λ (i : SetErase). cell_fields i.cell ++ value_fields i.value) (λ (i : SetErase). IsCell i.cell × IsValue i.value) (λ i. instrs.SetErase i) 11 (read_set_erase second) (λ a. refl) (λ a. refl) (λ a h. (h, λ e. absurd cc)) k x m h e
fields_take second opcodes.DictUpdate k x m late h e = instr_taken second dict_update_at (λ (i : DictUpdate). cell_fields i.cell ++ string i.at ∷ binding_fields i.value) (λ (i : DictUpdate). IsCell i.cell × Always i.at × IsBinding i.value) (λ i. instrs.DictUpdate i) 12 (read_dict_update second) (λ a. refl) (λ a. refl) (λ a h. ((h.0, h.2), λ e. late refl)) k x m h e
fields_take second opcodes.Clear k x m late h e = instr_taken second clear_at (λ (i : Clear). cell_fields i.cell) (λ (i : Clear). IsCell i.cell) (λ i. instrs.Clear i) 13 (read_clear second) (λ a. refl) (λ a. refl) (λ a h. (h, λ e. late refl)) k x m h e

fields_again : (second : Bool) (x : Instr) (k m : Reading) → k.second ≡ second → InstrFits second x → Run k (instr_tail x) m → fields_at (opcode x) k ≡ Ok (x, m)
unfolding fields_at
fields_again second (instrs.AddTable i) k m v ok ran = instr_again second add_table_at (λ (i : AddTable). string i.table ∷ byte (key_kind_byte i.key) ∷ []) (λ (i : AddTable). IsName i.table × Always i.key) (λ i. instrs.AddTable i) 1 (read_add_table second) (λ a. refl) i k m v (ok.0, tt) ran
fields_again second (instrs.AddColumn i) k m v ok ran = instr_again second add_column_at (λ (i : AddColumn). string i.table ∷ string i.column ∷ column_fields i.def) (λ (i : AddColumn). IsName i.table × IsName i.column × (ColumnFits second) i.def) (λ i. instrs.AddColumn i) 2 (read_add_column second) (λ a. refl) i k m v (ok.0.0, ok.0.1, (ok.0.2, ok.1)) ran
fields_again second (instrs.CreateObject i) k m v ok ran = instr_again second create_object_at (λ (i : CreateObject). string i.table ∷ key_fields i.key) (λ (i : CreateObject). IsName i.table × IsKey i.key) (λ i. instrs.CreateObject i) 3 (read_create_object second) (λ a. refl) i k m v ok.0 ran
fields_again second (instrs.EraseObject i) k m v ok ran = instr_again second erase_object_at (λ (i : EraseObject). string i.table ∷ key_fields i.key) (λ (i : EraseObject). IsName i.table × IsKey i.key) (λ i. instrs.EraseObject i) 4 (read_erase_object second) (λ a. refl) i k m v ok.0 ran
fields_again second (instrs.Update i) k m v ok ran = instr_again second update_at (λ (i : Update). cell_fields i.cell ++ value_fields i.value) (λ (i : Update). IsCell i.cell × IsValue i.value) (λ i. instrs.Update i) 5 (read_update second) (λ a. refl) i k m v ok.0 ran
fields_again second (instrs.AddInteger i) k m v ok ran = instr_again second add_integer_at (λ (i : AddInteger). cell_fields i.cell ++ number (zigzag i.amount) ∷ []) (λ (i : AddInteger). IsCell i.cell × (zigzag i.amount < 2 ^ 64)) (λ i. instrs.AddInteger i) 6 (read_add_integer second) (λ a. refl) i k m v ok.0 ran
fields_again second (instrs.ListUpdate i) k m v ok ran = instr_again second list_update_at (λ (i : ListUpdate). cell_fields i.cell ++ (spot_fields i.spot ++ value_fields i.value)) (λ (i : ListUpdate). IsCell i.cell × IsElement i.spot × IsValue i.value) (λ i. instrs.ListUpdate i) 7 (read_list_update second) (λ a. refl) i k m v ok.0 ran
fields_again second (instrs.ListInsert i) k m v ok ran = instr_again second list_insert_at (λ (i : ListInsert). cell_fields i.cell ++ (spot_fields i.spot ++ value_fields i.value)) (λ (i : ListInsert). IsCell i.cell × IsGap i.spot × IsValue i.value) (λ i. instrs.ListInsert i) 8 (read_list_insert second) (λ a. refl) i k m v ok.0 ran
fields_again second (instrs.ListErase i) k m v ok ran = instr_again second list_erase_at (λ (i : ListErase). cell_fields i.cell ++ spot_fields i.spot) (λ (i : ListErase). IsCell i.cell × IsElement i.spot) (λ i. instrs.ListErase i) 9 (read_list_erase second) (λ a. refl) i k m v ok.0 ran
fields_again second (instrs.SetInsert i) k m v ok ran = instr_again second set_insert_at (λ (i : SetInsert). cell_fields i.cell ++ value_fields i.value) (λ (i : SetInsert). IsCell i.cell × IsValue i.value) (λ i. instrs.SetInsert i) 10 (read_set_insert second) (λ a. refl) i k m v ok.0 ran
fields_again second (instrs.SetErase i) k m v ok ran = instr_again second set_erase_at (λ (i : SetErase). cell_fields i.cell ++ value_fields i.value) (λ (i : SetErase). IsCell i.cell × IsValue i.value) (λ i. instrs.SetErase i) 11 (read_set_erase second) (λ a. refl) i k m v ok.0 ran
fields_again second (instrs.DictUpdate i) k m v ok ran = instr_again second dict_update_at (λ (i : DictUpdate). cell_fields i.cell ++ string i.at ∷ binding_fields i.value) (λ (i : DictUpdate). IsCell i.cell × Always i.at × IsBinding i.value) (λ i. instrs.DictUpdate i) 12 (read_dict_update second) (λ a. refl) i k m v (ok.0.0, tt, ok.0.1) ran
fields_again second (instrs.Clear i) k m v ok ran = instr_again second clear_at (λ (i : Clear). cell_fields i.cell) (λ (i : Clear). IsCell i.cell) (λ i. instrs.Clear i) 13 (read_clear second) (λ a. refl) i k m v ok.0 ran

pick_instr : ℕ → Reading → Reading → Result (Instr × Reading) Fault
pick_instr t k r = instr_behind (opcode_of r.second t) k r

behind_takes : (second : Bool) (r k : Reading) (t : ℕ) (o : Option Opcode) (x : Instr) (m : Reading) → opcode_of second t ≡ o → From second k → instr_behind o k r ≡ Ok (x, m) → (t ≡ opcode_byte x) × Run k (instr_tail x) m × InstrFits second x
behind_takes second r k t None x m is h e = absurd (no_tag r x m e)
behind_takes second r k t (Some o) x m is h e =
    let c = code_at second t o is in
    let f = fields_take second o k x m c.1 h e in
    (c.0 ∙ f.0, f.1, f.2)

instr_picks : (second : Bool) (r k : Reading) (t : ℕ) (x : Instr) (m : Reading) → r.second ≡ second → From second k → pick_instr t k r ≡ Ok (x, m) → (t ≡ opcode_byte x) × Run k (instr_tail x) m × InstrFits second x
unfolding pick_instr
instr_picks second r k t x m v h e = behind_takes second r k t (opcode_of r.second t) x m (ap (λ (b : Bool). opcode_of b t) (sym v)) h e

instr_picked : (second : Bool) (r k : Reading) (x : Instr) (m : Reading) → r.second ≡ second → k.second ≡ second → InstrFits second x → Run k (instr_tail x) m → pick_instr (opcode_byte x) k r ≡ Ok (x, m)
unfolding pick_instr
instr_picked second r k x m v w ok ran =
    let c : opcode_of r.second (opcode_byte x) ≡ Some (opcode x) = ap (λ (b : Bool). opcode_of b (opcode_byte x)) v ∙ code_again second x ok.1 in
    rw c (fields_again second x k m w ok ran)

pub read_instr : (second : Bool) → Reads second instr_at instr_fields (InstrFits second)
unfolding instr_at pick_instr
read_instr second = refield second instr_at (λ i. byte (opcode_byte i) ∷ instr_tail i) instr_fields (InstrFits second)
    (tagged second pick_instr opcode_byte instr_tail (InstrFits second) (read_byte second) (λ r k t x m v h e. instr_picks second r k t x m v h e) (λ r k x m v w ok p. instr_picked second r k x m v w ok p)) instr_fields_are
