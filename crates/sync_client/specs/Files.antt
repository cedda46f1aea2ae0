-- How a file of a client is opened.
use Rattle.std.specs.Prelude.{◌≡◌, ℕ, List, map, Ok, Err}
use Rattle.sync_disk.specs.declared.disk.Disk.{Ghosts}
use Rattle.sync_journal.specs.Opening as journals
use Rattle.sync_journal.specs.Records.{records_of}
use Rattle.sync_journal.specs.Records.Reading.{Good}
use Rattle.sync_model.specs.Clients.{ClientRecord, no_client}
use Rattle.sync_model.specs.Files.{client_reads}
use Rattle.sync_exchange.specs.Profile.{the_profile}
use Rattle.sync_exchange.specs.Seen.{client_bytes, read_client}
use Rattle.sync_client.specs.declared.client.Client.{Client}
use Rattle.sync_client.specs.Clients.{IsClientOf, IsStored}

-- a client wouldn't have written the record of that number after those before it
abbrev pub Refuses : List (List ℕ) → ℕ → Type 0
Refuses file number = client_reads the_profile read_client (no_client the_profile) file ≡ Err number

-- the bytes are no journal, or a record in them is such a one
abbrev pub BadPlace : List ℕ → ℕ → Type 0
BadPlace = journals.BadPlace Refuses

module _ {D : Type 0} {G : Ghosts D} where
  -- the client of the records for which the bytes stand
  pub record Opened (bytes : List ℕ) (c : Client D G) : Type 0 where
    pub file : List (List ℕ)
    pub holds : records_of bytes ≡ Good file
    pub records : List ClientRecord
    pub reads : client_reads the_profile read_client (no_client the_profile) file ≡ Ok records
    pub spelled : map client_bytes records ≡ file
    pub client : IsClientOf records c
    pub stored : IsStored records c
