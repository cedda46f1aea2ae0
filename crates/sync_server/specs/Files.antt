-- How a file of a server is opened.
use Rattle.std.specs.Prelude.{◌≡◌, ℕ, List, map, Err}
use Rattle.sync_disk.specs.declared.disk.Disk.{Ghosts}
use Rattle.sync_journal.specs.Opening as journals
use Rattle.sync_journal.specs.Records.{records_of}
use Rattle.sync_journal.specs.Records.Reading.{Good}
use Rattle.sync_model.specs.Servers.{ServerRecord}
use Rattle.sync_model.specs.Fronts.{file_gives}
use Rattle.sync_exchange.specs.Profile.{the_profile}
use Rattle.sync_exchange.specs.Seen.{read_server}
use Rattle.sync_server.specs.declared.server.Server.{Server}
use Rattle.server_memory.specs.Opening.{AreRecords}
use Rattle.sync_server.specs.Serving.{IsServerOf, IsStored}

-- a server wouldn't have written the record of that number after those before it
abbrev pub Refuses : List (List ℕ) → ℕ → Type 0
Refuses file number = file_gives the_profile (map read_server file) ≡ Err number

-- the bytes are no journal, or a record in them is such a one
abbrev pub BadPlace : List ℕ → ℕ → Type 0
BadPlace = journals.BadPlace Refuses

module _ {D : Type 0} {G : Ghosts D} where
  -- the server of the records for which the bytes stand
  pub record Opened (bytes : List ℕ) (s : Server D G) : Type 0 where
    pub file : List (List ℕ)
    pub holds : records_of bytes ≡ Good file
    pub records : List ServerRecord
    pub are : AreRecords file records
    pub server : IsServerOf records s
    pub stored : IsStored records s
