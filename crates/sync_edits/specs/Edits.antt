-- An edit is an object whose field `op` names the instruction. Edits stand in a list.
use Rattle.std.specs.Prelude.{ℕ, List, codes, Option, Some, None, if◌then◌else◌}
use Rattle.std.specs.Str.{bytes_eq}
use Rattle.serde_json.specs.Data.{Data}
use Rattle.serde_json.specs.Find.{get, as_array}
use Rattle.sync_data.specs.declared.instr.Instr.{Instr}
use Rattle.sync_value_text.specs.Forms.{◌>>=◌}
use Rattle.sync_value_text.specs.Fields.{text_form}
use Rattle.sync_edits.specs.Items.{all_items}
use Rattle.sync_edits.specs.Objects.{add_table_form, add_column_form, create_object_form, erase_object_form, update_form, add_integer_form, list_update_form, list_insert_form, list_erase_form, set_insert_form, set_erase_form, dict_update_form, dict_erase_form, clear_form}

unfoldable pub list_or_dict_form : List ℕ → Data → Option Instr
list_or_dict_form word d =
    if bytes_eq word (codes "ListUpdate") then list_update_form d
    else if bytes_eq word (codes "ListInsert") then list_insert_form d
    else if bytes_eq word (codes "ListErase") then list_erase_form d
    else if bytes_eq word (codes "DictUpdate") then dict_update_form d
    else if bytes_eq word (codes "DictErase") then dict_erase_form d
    else if bytes_eq word (codes "Clear") then clear_form d
    else None

unfoldable pub edit_by_word : List ℕ → Data → Option Instr
edit_by_word word d =
    if bytes_eq word (codes "AddTable") then add_table_form d
    else if bytes_eq word (codes "AddColumn") then add_column_form d
    else if bytes_eq word (codes "CreateObject") then create_object_form d
    else if bytes_eq word (codes "EraseObject") then erase_object_form d
    else if bytes_eq word (codes "Update") then update_form d
    else if bytes_eq word (codes "AddInteger") then add_integer_form d
    else if bytes_eq word (codes "SetInsert") then set_insert_form d
    else if bytes_eq word (codes "SetErase") then set_erase_form d
    else list_or_dict_form word d

unfoldable pub edit_form : Data → Option Instr
edit_form d = do
  word ← text_form d (codes "op")
  edit_by_word word d

unfoldable pub edits_form : Data → Option (List Instr)
edits_form d = do
  found ← get (codes "edits") d
  items ← as_array found
  all_items edit_form items
