-- How a call of a journal, or of what stands on one, uses its disk.
use Rattle.std.specs.Prelude.{◌≡◌, ◌≤◌, ℕ, List, Some}
use Rattle.sync_disk.specs.declared.disk.Disk.{Ghosts}
use Rattle.sync_disk.specs.Disk.{Rose, Told}
use Rattle.sync_journal.specs.declared.journal.Journal.{Journal}
use Rattle.sync_journal.specs.Stands.{disk_of}

-- what no call of the disk changes, and the cause of a failure
pub record UsesDisk {D : Type 0} {G : Ghosts D} (failed : Type 0) (old new : Journal D G) : Type 0 where
  pub same_origin : G.origin (disk_of new) ≡ G.origin (disk_of old)
  pub told : Told (G.content (disk_of old)) (λ b. (c : List ℕ) × (G.content (disk_of new) ≡ Some c))
  pub later : G.faults (disk_of old) ≤ G.faults (disk_of new)
  pub fault : failed → Rose (G.faults (disk_of old)) (G.faults (disk_of new))
