-- What the bytes of a node's file are, and how it is opened.
use Rattle.std.specs.Prelude.{◌≡◌, ℕ, List, [], ◌∷◌, map, Option, None, Some, Result, Ok, Err}
use Rattle.sync_disk.specs.Disk.{Only}
use Rattle.sync_disk.specs.declared.disk.Disk.{Ghosts}
use Rattle.sync_io.specs.declared.status.Status.{Status}
use Rattle.sync_io.specs.declared.status.Status.TheVariants as statuses
use Rattle.sync_journal.specs.Gates.{gate_of, told}
use Rattle.sync_journal.specs.Records.{Reading, records_of}
use Rattle.sync_journal.specs.Records.Reading.{Good, BadAt}
use Rattle.sync_journal.specs.declared.opening.OpenCause.{OpenCause}
use Rattle.sync_journal.specs.declared.opening.OpenCause.TheVariants as causes
use Rattle.sync_model.specs.Clients.{ClientRecord, no_client}
use Rattle.sync_base.specs.States.{State}
use Rattle.sync_data.specs.declared.instr.Instr.{Instr}
use Rattle.sync_model.specs.Files.{client_reads}
use Rattle.sync_model.specs.Fronts.{file_gives}
use Rattle.sync_model.specs.Parts.{Parts}
use Rattle.sync_model.specs.Servers.{ServerRecord}
use Rattle.sync_exchange.specs.Profile.{the_profile}
use Rattle.sync_exchange.specs.Seen.{client_bytes, read_client, read_server, server_bytes}
use Rattle.sync_client.specs.Clients as clients
use Rattle.sync_client.specs.declared.client.Client.{Client}
use Rattle.sync_server.specs.Serving as servers
use Rattle.sync_server.specs.declared.server.Server.{Server}

-- records, or the place of the gate of the first that isn't one
abbrev pub at_gate : {R : Type 0} → List (List ℕ) → Result (List R) ℕ → Result (List R) ℕ
at_gate file (Ok records) = Ok records
at_gate file (Err number) = Err (told (gate_of file number))

abbrev pub client_in : Reading → Result (List ClientRecord) ℕ
client_in (Good file) = at_gate file (client_reads the_profile read_client (no_client the_profile) file)
client_in (BadAt place) = Err place

-- those of them that are records
abbrev pub all_read : List (Option ServerRecord) → List ServerRecord
all_read [] = []
all_read (None ∷ os) = all_read os
all_read (Some r ∷ os) = r ∷ all_read os

-- the records, where a server would have written them all, its history from the first entry or from a floor on
abbrev pub if_given : List (List ℕ) → Result (Parts Instr State) ℕ → Result (List ServerRecord) ℕ
if_given file (Ok kept) = Ok (all_read (map read_server file))
if_given file (Err number) = Err number

abbrev pub server_in : Reading → Result (List ServerRecord) ℕ
server_in (Good file) = at_gate file (if_given file (file_gives the_profile (map read_server file)))
server_in (BadAt place) = Err place

-- the records of a client's file, or the place at which the bytes are no journal of a client
abbrev pub client_file : List ℕ → Result (List ClientRecord) ℕ
client_file bytes = client_in (records_of bytes)

-- the records of a server's file, or the place at which the bytes are no journal of a server
abbrev pub server_file : List ℕ → Result (List ServerRecord) ℕ
server_file bytes = server_in (records_of bytes)

-- ---- how a file is opened
-- the disk holds the records of these bytes, and nothing else after a crash
pub record HoldsThose {D : Type 0} (content : D → Option (List ℕ)) (images : D → List ℕ → Type 0) (bytes : List ℕ) (disk : D) : Type 0 where
  pub file : List ℕ
  pub told : content disk ≡ Some file
  pub reads : records_of file ≡ records_of bytes
  pub durable : Only file (images disk)

module _ {D : Type 0} {G : Ghosts D} where
  -- the client of the records of a file, whose disk holds them
  pub record OpenedClient (bytes : List ℕ) (c : Client D G) : Type 0 where
    pub records : List ClientRecord
    pub file : client_file bytes ≡ Ok records
    pub holds : records_of bytes ≡ Good (map client_bytes records)
    pub client : clients.IsClientOf records c
    pub stored : clients.IsStored records c

  -- the server of the records of a file, whose disk holds them
  pub record OpenedServer (bytes : List ℕ) (s : Server D G) : Type 0 where
    pub records : List ServerRecord
    pub file : server_file bytes ≡ Ok records
    pub holds : records_of bytes ≡ Good (map server_bytes records)
    pub server : servers.IsServerOf records s
    pub stored : servers.IsStored records s

-- the node of the records of a file, whose disk holds them
pub record OpensNode {R : Type 0} (file_of : List ℕ → Result (List R) ℕ) (Stands Holds : List R → Type 0) (bytes : List ℕ) : Type 0 where
  pub records : List R
  pub file : file_of bytes ≡ Ok records
  pub stands : Stands records
  pub holds : Holds records

-- ---- statuses
abbrev pub open_status : OpenCause → Status
open_status causes.DiskFault = statuses.DiskFault
open_status (causes.BadFile place) = statuses.BadFile place
open_status causes.NoMemory = statuses.NoMemory

-- those of a file that isn't opened
abbrev pub IsOpenStatus : Status → Type 0
IsOpenStatus (statuses.BadFile place) = Unit {0}
IsOpenStatus statuses.DiskFault = Unit {0}
IsOpenStatus statuses.NoMemory = Unit {0}
IsOpenStatus status = ⊥
