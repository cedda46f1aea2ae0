-- A journal over a disk that gathers, and what it has on the disk below.
use Rattle.std.specs.Prelude.{◌≡◌, ◌⊎◌, ℕ, List, [], false}
use Rattle.sync_disk.specs.declared.disk.Disk.{Ghosts}
use Rattle.gathered_disk.specs.declared.gathered.GatheredDisk.{GatheredDisk}
use Rattle.gathered_disk.specs.Below.{below, gate_of, pending}
use Rattle.gathered_disk.specs.Below as disks
use Rattle.sync_journal.specs.declared.journal.Journal.{Journal}
use Rattle.sync_journal.specs.Journal.{IsSettled}
use Rattle.sync_journal.specs.Records.{records_of}
use Rattle.sync_journal.specs.Records.Reading.{Good}
use Rattle.sync_journal.specs.Stands.{Stands, disk_of, end_of}

-- the bytes stand for the records before or for all of them
abbrev pub StandsForEither : List (List ℕ) → List (List ℕ) → List ℕ → Type 0
StandsForEither olds all bytes = (records_of bytes ≡ Good olds) ⊎ (records_of bytes ≡ Good all)

module _ {D : Type 0} {G : Ghosts D} where
  -- the disk below holds these records and nothing else after a crash, and the gate behind them is where it gathers
  abbrev pub HoldsBelow : List (List ℕ) → GatheredDisk D G → Type 0
  HoldsBelow records g = IsSettled G.content G.images records (gate_of g) (below g)

  -- it stands for these records, and so does the disk below, with nothing gathered
  pub record IsLanded {H : Ghosts (GatheredDisk D G)} (records : List (List ℕ)) (journal : Journal (GatheredDisk D G) H) : Type 0 where
    pub stands : Stands records journal
    pub takes : disks.is_closed (disk_of journal) ≡ false
    pub idle : pending (disk_of journal) ≡ []
    pub gate : gate_of (disk_of journal) ≡ end_of journal
    pub holds : HoldsBelow records (disk_of journal)
