-- The messages and records of the code as those of the model, one line a kind.
use Rattle.std.specs.Prelude.{map, ◌==◌, Option}
use Rattle.std.specs.Option.{option_map}
use Rattle.sync_model.specs.Bytes.{Bytes}
use Rattle.sync_model.specs.Messages.{Change, Sent, Message}
use Rattle.sync_model.specs.Clients.{ClientRecord}
use Rattle.sync_model.specs.Servers.{ServerRecord}
use Rattle.sync_messages.specs.Parts.{ChangeParts, SentParts}
use Rattle.sync_messages.specs.declared.message.Message.{Message as CodeMessage}
use Rattle.sync_messages.specs.declared.message.Message.TheVariants as messages
use Rattle.sync_records.specs.declared.client.ClientRecord.{ClientRecord as CodeClientRecord}
use Rattle.sync_records.specs.declared.client.ClientRecord.TheVariants as clients
use Rattle.sync_records.specs.declared.server.ServerRecord.{ServerRecord as CodeServerRecord}
use Rattle.sync_records.specs.declared.server.ServerRecord.TheVariants as servers
use Rattle.sync_records.specs.Reading.{client_forms, server_forms, record_in}
use Rattle.sync_records.specs.Spelling.{client_spelling, server_spelling}

-- ---- messages
abbrev pub change_seen : ChangeParts → Change
change_seen h = record { number = h.number; base = h.base; ms = h.ms; body = h.body }

abbrev pub sent_seen : SentParts → Sent
sent_seen e = record { origin = e.origin; number = e.number; ms = e.ms; body = e.body }

abbrev pub message_seen : CodeMessage → Message
message_seen (messages.Bind uuid) = Message.Bind uuid
message_seen (messages.Ident given) = Message.Ident given.uuid given.ident
message_seen (messages.Upload upload) = Message.Upload upload.ident (map change_seen upload.changes)
message_seen (messages.Ask ask) = Message.Ask ask.ident ask.cursor ask.settled
message_seen (messages.Download download) = Message.Download download.ident download.from (map sent_seen download.entries)
message_seen (messages.Refused ident number code place) = Message.Refused ident number code place
message_seen (messages.Stored stored) = Message.Stored stored.ident stored.number
message_seen (messages.Ask2 ask) = Message.Ask2 ask.ident ask.cursor ask.settled
message_seen (messages.Retire retire) = Message.Retire retire.ident retire.by
message_seen (messages.Retired retired) = Message.Retired retired.ident retired.by retired.number
message_seen (messages.AskTables asked) = Message.AskTables asked.ask.ident asked.ask.cursor asked.ask.settled (asked.form == 2) asked.tables

-- ---- records of a client's file
abbrev pub client_seen : CodeClientRecord → ClientRecord
client_seen (clients.Born id) = ClientRecord.Born id
client_seen (clients.Named ident) = ClientRecord.Named ident
client_seen (clients.Made number ms body) = ClientRecord.Made number ms body
client_seen (clients.Took origin number ms body) = ClientRecord.Took origin number ms body
client_seen clients.Form = ClientRecord.Form
client_seen (clients.Subset tables) = ClientRecord.Subset tables
client_seen (clients.Part body) = ClientRecord.Part body
client_seen (clients.Floor version) = ClientRecord.Floor version
client_seen (clients.Resumed number waiting) = ClientRecord.Resumed number waiting
client_seen (clients.Waits number base ms body current) = ClientRecord.Waits number base ms body current

abbrev pub client_kept : ClientRecord → CodeClientRecord
client_kept (ClientRecord.Born id) = clients.Born id
client_kept (ClientRecord.Named ident) = clients.Named ident
client_kept (ClientRecord.Made number ms body) = clients.Made number ms body
client_kept (ClientRecord.Took origin number ms body) = clients.Took origin number ms body
client_kept ClientRecord.Form = clients.Form
client_kept (ClientRecord.Subset tables) = clients.Subset tables
client_kept (ClientRecord.Part body) = clients.Part body
client_kept (ClientRecord.Floor version) = clients.Floor version
client_kept (ClientRecord.Resumed number waiting) = clients.Resumed number waiting
client_kept (ClientRecord.Waits number base ms body current) = clients.Waits number base ms body current

-- a record as its bytes, and back
abbrev pub client_bytes : ClientRecord → Bytes
client_bytes r = client_spelling (client_kept r)

abbrev pub read_client : Bytes → Option ClientRecord
read_client bytes = option_map client_seen (record_in client_forms bytes)

-- ---- records of a server's file
abbrev pub server_seen : CodeServerRecord → ServerRecord
server_seen (servers.Client id) = ServerRecord.Client id
server_seen (servers.Entry origin number base ms body) = ServerRecord.Entry origin number base ms body
server_seen servers.Form = ServerRecord.Form
server_seen (servers.Retired ident by) = ServerRecord.Retired ident by
server_seen (servers.Settled ident settled) = ServerRecord.Settled ident settled
server_seen (servers.Part body) = ServerRecord.Part body
server_seen (servers.Floor version) = ServerRecord.Floor version
server_seen (servers.Count ident number base settled) = ServerRecord.Count ident number base settled
server_seen (servers.Carried origin number base ms body) = ServerRecord.Carried origin number base ms body
server_seen (servers.Past ident version ms body) = ServerRecord.Past ident version ms body

abbrev pub server_kept : ServerRecord → CodeServerRecord
server_kept (ServerRecord.Client id) = servers.Client id
server_kept (ServerRecord.Entry origin number base ms body) = servers.Entry origin number base ms body
server_kept ServerRecord.Form = servers.Form
server_kept (ServerRecord.Retired ident by) = servers.Retired ident by
server_kept (ServerRecord.Settled ident settled) = servers.Settled ident settled
server_kept (ServerRecord.Part body) = servers.Part body
server_kept (ServerRecord.Floor version) = servers.Floor version
server_kept (ServerRecord.Count ident number base settled) = servers.Count ident number base settled
server_kept (ServerRecord.Carried origin number base ms body) = servers.Carried origin number base ms body
server_kept (ServerRecord.Past ident version ms body) = servers.Past ident version ms body

abbrev pub server_bytes : ServerRecord → Bytes
server_bytes r = server_spelling (server_kept r)

abbrev pub read_server : Bytes → Option ServerRecord
read_server bytes = option_map server_seen (record_in server_forms bytes)
