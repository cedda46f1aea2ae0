-- What a node's request is replied, and the records that it adds, by the records of the node.
use Rattle.std.specs.Prelude.{◌≡◌, ◌⊎◌, ◌==◌, ◌&&◌, ℕ, true, false, List, [], ◌∷◌, ◌++◌, length, map, nat_lt, if◌then◌else◌, Option, None, Some, Result, Ok, Err}
use Rattle.std.specs.Int.{w32, from_le_bytes}
use Rattle.std.specs.Option.{option_map}
use Rattle.sync_data.specs.declared.instr.Instr.{Instr}
use Rattle.sync_base.specs.Effects.{CellPath}
use Rattle.sync_base.specs.Footprints.{Part, SameAt}
use Rattle.sync_base.specs.States.{State}
use Rattle.sync_changed.specs.Ends.{SameEndsAt, all_spare}
use Rattle.sync_changed.specs.Places.{is_told}
use Rattle.sync_changed.specs.declared.place.Place.{Place}
use Rattle.sync_disk.specs.Disk.{LeavesOnly}
use Rattle.sync_disk.specs.declared.disk.Disk.{Ghosts}
use Rattle.sync_journal.specs.Records.{StandsForPrefix}
use Rattle.sync_journal.specs.Stands.{disk_of}
use Rattle.sync_model.specs.Clients as clients
use Rattle.sync_model.specs.Clients.{Client as ModelClient, ClientRecord, ClientRefusal, ClientStep, NotNamed, answers, ask, bind, client_of, last, refuse, upload_from}
use Rattle.sync_model.specs.Messages.{Message, Retire}
use Rattle.sync_model.specs.Parts.{Served}
use Rattle.sync_model.specs.Servers.{ServerRecord}
use Rattle.sync_exchange.specs.Profile.{the_profile}
use Rattle.sync_exchange.specs.Seen.{client_bytes, message_seen, server_bytes}
use Rattle.sync_journal.specs.Several.{Asks}
use Rattle.sync_messages.specs.Reading.{message_in}
use Rattle.sync_messages.specs.Spelling.{message_spelling}
use Rattle.sync_messages.specs.declared.message.Message.{Message as CodeMessage}
use Rattle.sync_messages.specs.declared.message.Message.TheVariants as messages
use Rattle.sync_edits.specs.declared.event.NodeLine.{NodeLine}
use Rattle.sync_edits.specs.declared.event.NodeLine.TheVariants as node_lines
use Rattle.sync_client.specs.Clients as clients_code
use Rattle.sync_client.specs.Clients.{IsClientOf}
use Rattle.sync_client.specs.declared.client.Client.{Client}
use Rattle.sync_server.specs.Serving as servers_code
use Rattle.sync_server.specs.Serving.{IsServerOf}
use Rattle.sync_server.specs.declared.server.Server.{Server}
use Rattle.sync_host.specs.Refusals.{declined, declined_bytes}
use Rattle.sync_host.specs.Replies.{reply_bytes, word}
use Rattle.sync_host.specs.declared.reply.Reply.{Reply}
use Rattle.sync_host.specs.declared.reply.Reply.TheVariants as replies
use Rattle.sync_host.specs.declared.reply.Standing.{Standing}
use Rattle.sync_host.specs.declared.verb.Verb.{Verb}
use Rattle.sync_host.specs.declared.verb.Verb.TheVariants as verbs

-- ---- what is said of a reply
-- after a fault, out of memory and of a node that isn't open nothing is
abbrev pub IfTold : Reply → Type 0 → Type 0
IfTold replies.Closed P = Unit {0}
IfTold replies.NoMemory P = Unit {0}
IfTold reply P = P

-- ---- a client, by its records
-- the reply of a call as bytes, and the records that it adds
pub record Answer : Type 0 where
  pub reply : List ℕ
  pub records : List ClientRecord

abbrev pub nothing : {A : Type 0} → A → List ℕ
nothing a = []

abbrev pub answer_bytes : {A : Type 0} → (A → List ℕ) → Result A ClientRefusal → List ℕ
answer_bytes tell (Ok a) = 0 ∷ tell a
answer_bytes tell (Err why) = 1 ∷ declined_bytes (declined why)

abbrev pub said : {A : Type 0} → (A → List ℕ) → ClientStep A → Answer
said tell did = record { reply = answer_bytes tell did.answer; records = did.records }

-- a node line
abbrev pub line_answer : List ClientRecord → NodeLine → Answer
line_answer records (node_lines.Born id) = said nothing (clients.born (client_of the_profile records) id)
line_answer records (node_lines.Commit ms edits) = said word (clients.commit the_profile (client_of the_profile records) ms edits)
line_answer records node_lines.Upgrade = said nothing (clients.upgrade (client_of the_profile records))
line_answer records (node_lines.Subscribe tables) = said nothing (clients.subscribe (client_of the_profile records) tables)

-- a message; none where the bytes are none
abbrev pub message_read : List ℕ → Option Message
message_read bytes = option_map message_seen (message_in bytes)

-- up to which number the server says that it has a client's changes
abbrev pub stored_in : CodeMessage → Option ℕ
stored_in (messages.Stored stored) = Some stored.number
stored_in message = None

-- up to which number the server said that it has this client's changes, where a message was taken that says it
abbrev pub stored_after : Reply → Option CodeMessage → ℕ → ℕ
stored_after (replies.Number cursor) (Some (messages.Stored stored)) old = stored.number
stored_after reply message old = old

abbrev pub take_answer : List ClientRecord → Message → Answer
take_answer records message = said word (clients.take the_profile (client_of the_profile records) message)

-- the message to send next, where the server has said that it has the changes up to this number
abbrev pub next : ℕ → ModelClient Instr State → ClientStep Message
next stored c =
    if c.ident == 0 then bind c
    else if nat_lt stored (last c) && nat_lt 0 (length c.unsent) then upload_from the_profile c stored
    else ask c

-- a client with an ident gives another one up, whose changes it takes over
abbrev pub retire : ℕ → ModelClient Instr State → ClientStep Message
retire ident c = if c.ident == 0 then refuse NotNamed else answers (Retire ident c.ident)

-- the number that four bytes are, the lowest first
abbrev pub number_in : List ℕ → Option ℕ
number_in bytes = if length bytes == 4 then Some (from_le_bytes w32 bytes) else None

-- idents are counted from 1
abbrev pub retire_in : Option ℕ → ModelClient Instr State → Option (ClientStep Message)
retire_in None c = None
retire_in (Some ident) c = if ident == 0 then None else Some (retire ident c)

-- the message that a request asks for; none where it asks for none
abbrev pub errand : Verb → List ℕ → ℕ → ModelClient Instr State → Option (ClientStep Message)
errand verbs.Next body stored c = Some (next stored c)
errand verbs.Bind body stored c = Some (bind c)
errand verbs.Ask body stored c = Some (ask c)
errand verbs.Upload body stored c = option_map (λ after. upload_from the_profile c after) (number_in body)
errand verbs.Retire body stored c = retire_in (number_in body) c
errand verb body stored c = None

abbrev pub standing_of : ModelClient Instr State → Standing
standing_of c = record { ident = c.ident; cursor = c.cursor; last = last c; unsent = length c.unsent }

-- what none of these places covers is as it was before the records were added
abbrev pub Tells : List Place → List ClientRecord → Option Answer → Type 0
Tells places records None = Unit {0}
Tells places records (Some answer) = (x : Part) → is_told places x ≡ false → SameAt (client_of the_profile (records ++ answer.records)).objects (client_of the_profile records).objects x

-- and so are the ends of a list that each of them spares
abbrev pub Spares : List Place → List ClientRecord → Option Answer → Type 0
Spares places records None = Unit {0}
Spares places records (Some answer) =
    (front back : ℕ) (list : CellPath) → all_spare front back list places ≡ true → SameEndsAt front back list (client_of the_profile (records ++ answer.records)).objects (client_of the_profile records).objects

-- the message that a client makes, or why it makes none
abbrev pub SentSo : Result Message ClientRefusal → Reply → Type 0
SentSo (Ok message) reply = (sent : CodeMessage) × (message_seen sent ≡ message) × (reply_bytes reply ≡ 0 ∷ message_spelling sent)
SentSo (Err why) reply = reply ≡ replies.Declined (declined why)

-- a refusal that the model has; any other isn't told
abbrev pub Declines : Option ClientRefusal → Reply → Type 0
Declines None reply = (reply ≡ replies.Closed) ⊎ (reply ≡ replies.NoMemory)
Declines (Some why) reply = reply ≡ replies.Declined (declined why)

-- ---- what is left
module _ {D : Type 0} {G : Ghosts D} where
  -- an open client of these records, and its disk holds them
  pub record ClientStands (records : List ClientRecord) (c : Client D G) : Type 0 where
    pub client : IsClientOf records c
    pub stored : clients_code.IsStored records c

  pub record ServerStands (records : List ServerRecord) (s : Server D G) : Type 0 where
    pub server : IsServerOf records s
    pub stored : servers_code.IsStored records s

  -- it was replied so and added the records, and asked the disk for their strokes and no others
  pub record Did (answer : Answer) (records : List ClientRecord) (reply : Reply) (old new : Client D G) : Type 0 where
    pub replied : reply_bytes reply ≡ answer.reply
    pub stands : ClientStands (records ++ answer.records) new
    pub asked : Asks (map client_bytes answer.records) (clients_code.journal_of old) (clients_code.journal_of new)

  -- what is no request of this kind changes nothing
  abbrev pub Answers : Option Answer → List ClientRecord → Reply → Client D G → Client D G → Type 0
  Answers None records reply old new = (reply ≡ replies.BadRequest) × (new ≡ old)
  Answers (Some answer) records reply old new = Did answer records reply old new

  -- with what its disk began, on the disk
  abbrev pub start_of : Client D G → List ℕ
  start_of c = (G.origin (disk_of (clients_code.journal_of c))).start

  abbrev pub server_start_of : Server D G → List ℕ
  server_start_of s = (G.origin (disk_of (servers_code.journal_of s))).start

  -- a crash at any moment of a call left these records and some of the answer's, from the first on; what is no request of this kind
  -- leaves the client
  abbrev pub Lasts : Option Answer → List ClientRecord → Client D G → Client D G → Type 0
  Lasts None records old new = new ≡ old
  Lasts (Some answer) records old new = clients_code.Leaves records answer.records (clients_code.journal_of old) (clients_code.journal_of new)

  -- the same of a server
  pub record DidServe (did : Served Instr State) (records : List ServerRecord) (reply : Reply) (old new : Server D G) : Type 0 where
    pub replied : (sent : CodeMessage) × (message_seen sent ≡ did.answer) × (reply_bytes reply ≡ 0 ∷ message_spelling sent)
    pub stands : ServerStands (records ++ did.records) new
    pub asked : Asks (map server_bytes did.records) (servers_code.journal_of old) (servers_code.journal_of new)

  abbrev pub Serves : Option (Served Instr State) → List ServerRecord → Reply → Server D G → Server D G → Type 0
  Serves None records reply old new = (reply ≡ replies.BadRequest) × (new ≡ old)
  Serves (Some did) records reply old new = DidServe did records reply old new

  abbrev pub ServerLasts : Option (Served Instr State) → List ServerRecord → Server D G → Server D G → Type 0
  ServerLasts None records old new = new ≡ old
  ServerLasts (Some did) records old new =
      LeavesOnly G.moment G.images_since (disk_of (servers_code.journal_of old)) (disk_of (servers_code.journal_of new)) (StandsForPrefix (map server_bytes records) (map server_bytes did.records))

abbrev pub server_standing : ℕ → Standing
server_standing len = record { ident = 0; cursor = len; last = 0; unsent = 0 }
