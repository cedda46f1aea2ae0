-- The nodes of an exchange by the records for which they stand.
use Rattle.std.specs.Prelude.{◌≡◌, ◌<◌, ◌≤◌, ◌+◌, ◌-◌, ◌^◌, ℕ, true, List, ◌++◌, length, map, Option, None, Some, IfSome, Ok}
use Rattle.std.specs.Option.{option_map}
use Rattle.sync_disk.specs.Origin.{Origin}
use Rattle.sync_disk.specs.declared.disk.Disk.{Ghosts}
use Rattle.sync_journal.specs.Stands.{disk_of}
use Rattle.sync_model.specs.Clients.{ClientRecord, no_client}
use Rattle.sync_model.specs.Each.{Each}
use Rattle.sync_model.specs.Files.{client_reads, server_opens}
use Rattle.sync_model.specs.Servers.{ServerRecord, no_server}
use Rattle.sync_model.specs.Worlds.{Stop}
use Rattle.sync_exchange.specs.Profile.{the_profile}
use Rattle.sync_exchange.specs.Seen.{client_bytes, read_client, read_server, server_bytes}
use Rattle.subset_bytes.specs.Spelling.{AreTables}
use Rattle.sync_client.specs.Clients as clients
use Rattle.sync_client.specs.declared.client.Client.{Client}
use Rattle.sync_server.specs.Serving as servers
use Rattle.sync_server.specs.declared.server.Server.{Server}
use Rattle.sync_world.specs.Events.{leaves_seen}
use Rattle.sync_world.specs.declared.stop.Stop.{Stop as CodeStop}

-- ---- stops
abbrev pub stop_seen : CodeStop → Stop
stop_seen s = record { at = s.at; leaves = leaves_seen s.leaves }

-- the stroke at which a disk stops that was armed after so many
abbrev pub stop_after : ℕ → Option Stop → Option ℕ
stop_after n None = None
stop_after n (Some s) = Some (n + (s.at - 1))

-- a disk of which no call is set to fail, and which is armed so after so many strokes
pub record IsArmed (s : Option Stop) (o : Origin) (n : ℕ) : Type 0 where
  pub listed : o.listed ≡ 0
  pub stop : o.stop ≡ stop_after n s
  pub leaves : IfSome s (λ s. leaves_seen o.leaves ≡ s.leaves)
  pub counted : IfSome s (λ s. 1 ≤ s.at)

-- ---- nodes
module _ {D : Type 0} {G : Ghosts D} where
  -- a client of these records, over a disk that holds them and is armed so
  pub record HoldsClient (records : List ClientRecord) (s : Option Stop) (kept : Option CodeStop) (c : Client D G) : Type 0 where
    pub client : clients.IsClientOf records c
    pub stored : clients.IsStored records c
    pub armed : IsArmed s (G.origin (disk_of (clients.journal_of c))) (length (G.strokes (disk_of (clients.journal_of c))))
    pub kept_is : option_map stop_seen kept ≡ s

  -- the same of a server
  pub record HoldsServer (records : List ServerRecord) (s : Option Stop) (kept : Option CodeStop) (c : Server D G) : Type 0 where
    pub server : servers.IsServerOf records c
    pub stored : servers.IsStored records c
    pub armed : IsArmed s (G.origin (disk_of (servers.journal_of c))) (length (G.strokes (disk_of (servers.journal_of c))))
    pub kept_is : option_map stop_seen kept ≡ s

-- ---- records, as far as the model says nothing of them: uuids have 16 bytes, times fit
abbrev pub FitsClient : ClientRecord → Type 0
FitsClient (ClientRecord.Born id) = length id ≡ 16
FitsClient (ClientRecord.Named ident) = Unit {0}
FitsClient (ClientRecord.Made number ms body) = ms < 2 ^ 64
FitsClient (ClientRecord.Took origin number ms body) = ms < 2 ^ 64
FitsClient ClientRecord.Form = Unit {0}
FitsClient (ClientRecord.Subset tables) = AreTables tables
FitsClient (ClientRecord.Part body) = Unit {0}
FitsClient (ClientRecord.Floor version) = Unit {0}
FitsClient (ClientRecord.Resumed number waiting) = Unit {0}
FitsClient (ClientRecord.Waits number base ms body current) = (ms < 2 ^ 64) × (length body < 2 ^ 32)

abbrev pub FitsServer : ServerRecord → Type 0
FitsServer (ServerRecord.Client id) = length id ≡ 16
FitsServer (ServerRecord.Entry origin number base ms body) = ms < 2 ^ 64
FitsServer ServerRecord.Form = Unit {0}
FitsServer (ServerRecord.Retired ident by) = Unit {0}
FitsServer (ServerRecord.Settled ident n) = Unit {0}
FitsServer (ServerRecord.Part body) = Unit {0}
FitsServer (ServerRecord.Floor version) = Unit {0}
FitsServer (ServerRecord.Count ident number base n) = Unit {0}
FitsServer (ServerRecord.Carried origin number base ms body) = ms < 2 ^ 64
FitsServer (ServerRecord.Past ident version ms body) = ms < 2 ^ 64

-- they are read back from their bytes
abbrev pub ReadsBack : List ClientRecord → Type 0
ReadsBack rs = client_reads the_profile read_client (no_client the_profile) (map client_bytes rs) ≡ Ok rs

-- and those of a server are a whole history
pub record ServerReadsBack (rs : List ServerRecord) : Type 0 where
  pub each : Each (λ r. read_server (server_bytes r) ≡ Some r) rs
  pub opens : server_opens the_profile no_server rs ≡ true

-- where the call stops, what it leaves is read back
abbrev pub StandReads : List ClientRecord → Option (List ClientRecord) → Type 0
StandReads records stand = IfSome stand (λ rs. ReadsBack (records ++ rs))

abbrev pub ServerStandReads : List ServerRecord → Option (List ServerRecord) → Type 0
ServerStandReads records stand = IfSome stand (λ rs. ServerReadsBack (records ++ rs))
