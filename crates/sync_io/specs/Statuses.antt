-- The exit number of a status.
use Rattle.std.specs.Prelude.{ℕ}
use Rattle.sync_io.specs.declared.status.Status.{Status}
use Rattle.sync_io.specs.declared.status.Status.TheVariants as statuses

abbrev pub exit_of : Status → ℕ
exit_of statuses.Done = 0
exit_of statuses.BadWords = 1
exit_of (statuses.BadInput place) = 2
exit_of statuses.ReadFault = 3
exit_of statuses.WriteFault = 4
exit_of statuses.DiskFault = 5
exit_of (statuses.BadFile place) = 6
exit_of statuses.NoMemory = 7
exit_of statuses.InputTooLong = 8
