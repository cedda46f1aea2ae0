-- What a call that appends several records asks of the disk.
use Rattle.std.specs.Prelude.{◌≡◌, ℕ, ◌+◌, ◌≤◌, List, length, take}
use Rattle.sync_disk.specs.declared.disk.Disk.{Ghosts}
use Rattle.sync_disk.specs.Strokes.{Stroke, AllDone, CutByFault}
use Rattle.sync_journal.specs.declared.journal.Journal.{Journal}
use Rattle.sync_journal.specs.Journal.{strokes_of_all, size_of_all}
use Rattle.sync_journal.specs.Stands.{disk_of, end_of}
use Rattle.sync_journal.specs.Stopping.{CanAllStand}

-- the strokes of the appends of these records, in order: all were asked for and done
pub record AsksAll (next : List (List ℕ)) (end now : ℕ) (old new : List Stroke) : Type 0 where
  pub place : now ≡ end + size_of_all next
  pub done : AllDone (strokes_of_all end next) old new
  pub can : CanAllStand next

-- those of the first so many records were, up to one that failed
pub record AsksPart (next : List (List ℕ)) (end : ℕ) (old new : List Stroke) : Type 0 where
  pub count : ℕ
  pub within : count ≤ length next
  pub cut : CutByFault (strokes_of_all end (take count next)) old new
  pub can : CanAllStand (take count next)

-- of journals
module _ {D : Type 0} {G : Ghosts D} where
  abbrev pub Asks : List (List ℕ) → Journal D G → Journal D G → Type 0
  Asks next old new = AsksAll next (end_of old) (end_of new) (G.strokes (disk_of old)) (G.strokes (disk_of new))

  abbrev pub AsksSome : List (List ℕ) → Journal D G → Journal D G → Type 0
  AsksSome next old new = AsksPart next (end_of old) (G.strokes (disk_of old)) (G.strokes (disk_of new))
