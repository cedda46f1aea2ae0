-- The form of each event and of each node line.
use Rattle.std.specs.Prelude.{ℕ, ◌==◌, ◌&&◌, nat_le, List, codes, Option, Some, None, if◌then◌else◌}
use Rattle.std.specs.Str.{bytes_eq}
use Rattle.serde_json.specs.Data.{Data}
use Rattle.sync_disk.specs.declared.leaves.Leaves.{Leaves}
use Rattle.sync_disk.specs.declared.leaves.Leaves.TheVariants as leavings
use Rattle.sync_value_text.specs.Forms.{◌>>=◌, provided}
use Rattle.sync_value_text.specs.Fields.{exactly_form, has, text_form, name_form, id_form, hex_form, number_form, place_form}
use Rattle.sync_edits.specs.declared.event.Event.{Event}
use Rattle.sync_edits.specs.declared.event.Event.TheVariants as events
use Rattle.sync_edits.specs.declared.event.NodeLine.{NodeLine}
use Rattle.sync_edits.specs.declared.event.NodeLine.TheVariants as node_lines
use Rattle.sync_edits.specs.Edits.{edits_form}
use Rattle.sync_edits.specs.Tables.{tables_form}

-- ---- one event each

unfoldable pub client_form : Data → Option Event
client_form d = do
  all ← exactly_form 3 d
  name ← name_form d (codes "name")
  id ← id_form d (codes "uuid")
  Some (events.Client name id)

unfoldable pub transaction_form : Data → Option Event
transaction_form d = do
  all ← exactly_form 4 d
  client ← name_form d (codes "client")
  ms ← number_form d (codes "ms")
  edits ← edits_form d
  Some (events.Edit client ms edits)

-- the client of an event that has no other field
unfoldable pub only_client : Data → Option (List ℕ)
only_client d = do
  all ← exactly_form 2 d
  name_form d (codes "client")

unfoldable pub bind_form : Data → Option Event
bind_form d = do
  client ← only_client d
  Some (events.Bind client)

unfoldable pub upload_form : Data → Option Event
upload_form d = do
  client ← only_client d
  Some (events.Upload client)

unfoldable pub ask_form : Data → Option Event
ask_form d = do
  client ← only_client d
  Some (events.Ask client)

unfoldable pub upgrade_form : Data → Option Event
upgrade_form d = do
  client ← only_client d
  Some (events.Upgrade client)

unfoldable pub subscribe_form : Data → Option Event
subscribe_form d = do
  all ← exactly_form 3 d
  client ← name_form d (codes "client")
  tables ← tables_form d
  Some (events.Subscribe client tables)

unfoldable pub deliver_form : Data → Option Event
deliver_form d = do
  all ← exactly_form 3 d
  message ← place_form d (codes "message")
  to ← name_form d (codes "to")
  Some (events.Deliver message to)

unfoldable pub restart_form : Data → Option Event
restart_form d = do
  all ← exactly_form 2 d
  node ← name_form d (codes "node")
  Some (events.Restart node)

-- the number of a write or sync at which a disk stops
unfoldable pub at_form : Data → Option ℕ
at_form d = do
  at ← place_form d (codes "at")
  provided (nat_le 1 at && nat_le at 1000000) at

unfoldable pub leaves_of_word : List ℕ → Option Leaves
leaves_of_word word =
    if bytes_eq word (codes "drop") then Some leavings.Drop
    else if bytes_eq word (codes "keep") then Some leavings.Keep
    else if bytes_eq word (codes "torn") then Some leavings.Torn
    else None

unfoldable pub stop_form : Data → Option Event
stop_form d = do
  all ← exactly_form 4 d
  node ← name_form d (codes "node")
  at ← at_form d
  word ← text_form d (codes "leaves")
  leaves ← leaves_of_word word
  Some (events.Stop node at leaves)

unfoldable pub inject_form : Data → Option Event
inject_form d = do
  all ← exactly_form 2 d
  message ← hex_form d (codes "message")
  Some (events.Inject message)

-- ---- an event is an object whose field `event` names it

unfoldable pub event_by_word : List ℕ → Data → Option Event
event_by_word word d =
    if bytes_eq word (codes "client") then client_form d
    else if bytes_eq word (codes "edit") then transaction_form d
    else if bytes_eq word (codes "bind") then bind_form d
    else if bytes_eq word (codes "upload") then upload_form d
    else if bytes_eq word (codes "ask") then ask_form d
    else if bytes_eq word (codes "deliver") then deliver_form d
    else if bytes_eq word (codes "restart") then restart_form d
    else if bytes_eq word (codes "stop") then stop_form d
    else if bytes_eq word (codes "inject") then inject_form d
    else if bytes_eq word (codes "upgrade") then upgrade_form d
    else if bytes_eq word (codes "subscribe") then subscribe_form d
    else None

unfoldable pub event_form : Data → Option Event
event_form d = do
  word ← text_form d (codes "event")
  event_by_word word d

-- ---- a node line is named by one of its fields

unfoldable pub born_form : Data → Option NodeLine
born_form d = do
  all ← exactly_form 1 d
  id ← id_form d (codes "uuid")
  Some (node_lines.Born id)

unfoldable pub commit_form : Data → Option NodeLine
commit_form d = do
  all ← exactly_form 2 d
  ms ← number_form d (codes "ms")
  edits ← edits_form d
  Some (node_lines.Commit ms edits)

unfoldable pub node_upgrade_form : Data → Option NodeLine
node_upgrade_form d = do
  all ← exactly_form 1 d
  form ← number_form d (codes "upgrade")
  provided (form == 2) node_lines.Upgrade

unfoldable pub node_subscribe_form : Data → Option NodeLine
node_subscribe_form d = do
  all ← exactly_form 1 d
  tables ← tables_form d
  Some (node_lines.Subscribe tables)

unfoldable pub node_line_form : Data → Option NodeLine
node_line_form d =
    if has d (codes "uuid") then born_form d
    else if has d (codes "upgrade") then node_upgrade_form d
    else if has d (codes "tables") then node_subscribe_form d
    else commit_form d
