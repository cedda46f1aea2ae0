-- The outbox of a node's disk, and the file of its host.
use Rattle.std.specs.Prelude.{◌≡◌, ℕ, List, [], map}
use Rattle.outbox_disk.specs.contracts.disk.OutboxDiskDisk.TheImpl.{ghosts as outbox}
use Rattle.sync_disk.specs.Images.{SinceStroke, state}
use Rattle.sync_disk.specs.Strokes.{Stroke}
use Rattle.sync_journal.specs.Records.{records_of}
use Rattle.sync_journal.specs.Records.Reading.{Good}
use Rattle.sync_journal.specs.Stands.{disk_of}
use Rattle.sync_exchange.specs.Seen.{client_bytes, server_bytes}
use Rattle.sync_model.specs.Clients.{ClientRecord}
use Rattle.sync_model.specs.Servers.{ServerRecord}
use Rattle.sync_client.specs.Clients as clients
use Rattle.sync_server.specs.Serving as servers
use Rattle.sync_host.specs.Steps.{ClientStands, ServerStands}
use Rattle.sync_host.specs.declared.hosted.HostedClient.{HostedClient}
use Rattle.sync_host.specs.declared.hosted.HostedServer.{HostedServer}
use Rattle.sync_host.specs.declared.node.Node.{Node}
use Rattle.sync_host.specs.declared.node.Node.TheVariants as nodes

-- what the disk was asked for since its outbox was emptied
abbrev pub client_strokes : HostedClient → List Stroke
client_strokes h = outbox.strokes (disk_of (clients.journal_of h.client))

abbrev pub server_strokes : HostedServer → List Stroke
server_strokes h = outbox.strokes (disk_of (servers.journal_of h.server))

abbrev pub strokes_in : Node → List Stroke
strokes_in nodes.None = []
strokes_in (nodes.Client h) = client_strokes h
strokes_in (nodes.Server h) = server_strokes h

-- what the host's file held when the outbox was begun: the bytes of the opening, and from each emptying on what it held then
abbrev pub client_start : HostedClient → List ℕ
client_start h = (outbox.origin (disk_of (clients.journal_of h.client))).start

abbrev pub server_start : HostedServer → List ℕ
server_start h = (outbox.origin (disk_of (servers.journal_of h.server))).start

-- what a file with these bytes holds once these strokes are done
abbrev pub file_after : List ℕ → List Stroke → List ℕ
file_after start strokes = (state start strokes).content

-- what the host's file holds once all that stands in the outbox is done
abbrev pub client_file : HostedClient → List ℕ
client_file h = file_after (client_start h) (client_strokes h)

abbrev pub server_file : HostedServer → List ℕ
server_file h = file_after (server_start h) (server_strokes h)

-- a crash leaves this of a file with these bytes, of whose strokes the first so many were done, and maybe some of the others
abbrev pub CrashLeaves : ℕ → List ℕ → List Stroke → (List ℕ → Type 0) → Type 0
CrashLeaves first start strokes P = (c : List ℕ) → SinceStroke start strokes first c → P c

-- the file of a host that has done all that stands in the outbox stands for the records of the node
abbrev pub FileStands : Node → Type 0
FileStands nodes.None = Unit {0}
FileStands (nodes.Client h) = (records : List ClientRecord) → ClientStands records h.client → records_of (client_file h) ≡ Good (map client_bytes records)
FileStands (nodes.Server h) = (records : List ServerRecord) → ServerStands records h.server → records_of (server_file h) ≡ Good (map server_bytes records)

-- its outbox is empty and begins with what the host's file holds now, and otherwise it is what it was
pub record EmptiedClient (old new : HostedClient) : Type 0 where
  pub none_left : client_strokes new ≡ []
  pub begins : (records : List ClientRecord) → ClientStands records old.client → client_start new ≡ client_file old
  pub stands : (records : List ClientRecord) → ClientStands records old.client → ClientStands records new.client
  pub others : new ≡ record old { client = new.client }

pub record EmptiedServer (old new : HostedServer) : Type 0 where
  pub none_left : server_strokes new ≡ []
  pub begins : (records : List ServerRecord) → ServerStands records old.server → server_start new ≡ server_file old
  pub stands : (records : List ServerRecord) → ServerStands records old.server → ServerStands records new.server

pub record Emptied (old new : Node) : Type 0 where
  pub client : (h : HostedClient) → old ≡ nodes.Client h → (h' : HostedClient) × (new ≡ nodes.Client h') × EmptiedClient h h'
  pub server : (h : HostedServer) → old ≡ nodes.Server h → (h' : HostedServer) × (new ≡ nodes.Server h') × EmptiedServer h h'
  pub none : old ≡ nodes.None → new ≡ nodes.None
