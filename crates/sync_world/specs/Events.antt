-- The events of lines as those of the model of worlds.
use Rattle.std.specs.Prelude.{◌≤◌}
use Rattle.sync_data.specs.declared.instr.Instr.{Instr}
use Rattle.sync_disk.specs.declared.leaves.Leaves.{Leaves as CodeLeaves}
use Rattle.sync_disk.specs.declared.leaves.Leaves.TheVariants as leaves
use Rattle.sync_edits.specs.declared.event.Event.{Event as CodeEvent}
use Rattle.sync_edits.specs.declared.event.Event.TheVariants as events
use Rattle.sync_model.specs.Worlds.{Event, Leaves}
use Rattle.sync_words.specs.Messages.{message_read}

abbrev pub leaves_seen : CodeLeaves → Leaves
leaves_seen leaves.Drop = Leaves.Drop
leaves_seen leaves.Keep = Leaves.Keep
leaves_seen leaves.Torn = Leaves.Torn

abbrev pub event_seen : CodeEvent → Event Instr
event_seen (events.Client name id) = Event.Joins name id
event_seen (events.Edit client ms edits) = Event.Edits client ms edits
event_seen (events.Bind client) = Event.Binds client
event_seen (events.Upload client) = Event.Uploads client
event_seen (events.Ask client) = Event.Asks client
event_seen (events.Deliver message to) = Event.Delivers message to
event_seen (events.Restart node) = Event.Restarts node
event_seen (events.Stop node at leaves) = Event.Stops node at (leaves_seen leaves)
event_seen (events.Inject bytes) = Event.Injects (message_read bytes)
event_seen (events.Upgrade client) = Event.Upgrades client
event_seen (events.Subscribe client tables) = Event.Subscribes client tables

-- a stop is counted from 1
abbrev pub IsCounted : CodeEvent → Type 0
IsCounted (events.Stop node at leaves) = 1 ≤ at
IsCounted event = Unit {0}
