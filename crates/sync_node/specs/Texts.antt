-- What is written of a text, and how that ends.
use Rattle.std.specs.Prelude.{◌≡◌, ℕ, List, Option}
use Rattle.sync_io.specs.Devices.{Took, TookSome}
use Rattle.sync_io.specs.declared.sink.SinkRefusal.{SinkRefusal}
use Rattle.sync_io.specs.declared.sink.SinkRefusal.TheVariants as sinks
use Rattle.sync_io.specs.declared.status.Status.{Status}
use Rattle.sync_io.specs.declared.status.Status.TheVariants as statuses

-- a command that is done wrote the text, and any other a part of it, from its front
abbrev pub Writes : Status → List ℕ → Option (List ℕ) → Option (List ℕ) → Type 0
Writes statuses.Done text old new = Took text old new
Writes status text old new = TookSome text old new

-- the status of a refused write
abbrev pub write_status : SinkRefusal → Status
write_status sinks.Failed = statuses.WriteFault
write_status sinks.NoMemory = statuses.NoMemory

-- the ends of a text that is written
abbrev pub IsTextStatus : Status → Type 0
IsTextStatus statuses.Done = Unit {0}
IsTextStatus statuses.WriteFault = Unit {0}
IsTextStatus statuses.NoMemory = Unit {0}
IsTextStatus status = ⊥

-- ---- a command that writes a text of a node's records, and appends none
-- its ends
abbrev pub IsTellStatus : Status → Type 0
IsTellStatus statuses.Done = Unit {0}
IsTellStatus statuses.WriteFault = Unit {0}
IsTellStatus statuses.DiskFault = Unit {0}
IsTellStatus (statuses.BadFile place) = Unit {0}
IsTellStatus statuses.NoMemory = Unit {0}
IsTellStatus status = ⊥

-- those after which the text was made
abbrev pub IsMade : Status → Type 0
IsMade statuses.Done = Unit {0}
IsMade statuses.WriteFault = Unit {0}
IsMade status = ⊥

-- the ends of a run in which nothing failed
abbrev pub IsDoneOrNoMemory : Status → Type 0
IsDoneOrNoMemory statuses.Done = Unit {0}
IsDoneOrNoMemory statuses.NoMemory = Unit {0}
IsDoneOrNoMemory status = ⊥

-- a file that is bad at this place is told so, unless the disk fails or memory runs out before
abbrev pub TellsBad : ℕ → Status → Type 0
TellsBad place (statuses.BadFile told) = told ≡ place
TellsBad place statuses.DiskFault = Unit {0}
TellsBad place statuses.NoMemory = Unit {0}
TellsBad place status = ⊥
