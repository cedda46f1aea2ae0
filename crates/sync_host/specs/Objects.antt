-- One object, by its table and key.
use Rattle.std.specs.Prelude.{◌≡◌, ◌∷◌, ℕ, List, codes, Option, Some, None, Bool, true, false}
use Rattle.serde_json.specs.Data.{Data}
use Rattle.sync_edits.specs.Lines.{line_data}
use Rattle.sync_value_text.specs.Forms.{◌>>=◌}
use Rattle.sync_value_text.specs.Fields.{exactly_form, name_form}
use Rattle.sync_value_text.specs.Keys.{key_field_form}
use Rattle.sync_base.specs.States.{State, has}
use Rattle.sync_dump.specs.Dump.{data_of_object, line}
use Rattle.sync_dump.specs.Walks.{columns_in}
use Rattle.sync_host.specs.Replies.{reply_bytes}
use Rattle.sync_host.specs.declared.object.ObjectName.{ObjectName}
use Rattle.sync_host.specs.declared.reply.Reply.{Reply}
use Rattle.sync_host.specs.declared.reply.Reply.TheVariants as replies

-- its table and its key, and no other field
unfoldable pub object_form : Data → Option ObjectName
object_form d = do
  all ← exactly_form 2 d
  table ← name_form d (codes "table")
  key ← key_field_form d (codes "key")
  Some (record { table = table; key = key })

-- the object that a line names
unfoldable pub object_form_of_line : List ℕ → Option ObjectName
object_form_of_line line = do
  data' ← line_data line
  object_form data'

-- its line, as in the dump, where it stands
abbrev pub ObjectIs : Bool → ObjectName → State → Reply → Type 0
ObjectIs true o s reply = reply_bytes reply ≡ 0 ∷ line (data_of_object s (columns_in s.tables o.table) (o.table, o.key))
ObjectIs false o s reply = reply ≡ replies.Absent

abbrev pub ObjectTold : Option ObjectName → State → Reply → Type 0
ObjectTold None s reply = reply ≡ replies.BadRequest
ObjectTold (Some o) s reply = ObjectIs (has s (o.table, o.key)) o s reply
