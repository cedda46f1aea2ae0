use Rattle.std.proofs.Common.{◌≤◌, take}
use Rattle.sync_disk.specs.Memory.{IsLastSync}
use Rattle.sync_disk.proofs.crash.synced_strokes.Given as goal

abbrev pub invariant-loop-i : goal.invariant-loop-i
invariant-loop-i l = record { within : l.synced ≤ l.i; last : IsLastSync l.synced (take l.i l.strokes) }
