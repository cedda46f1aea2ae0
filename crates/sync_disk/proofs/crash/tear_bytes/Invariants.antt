use Rattle.std.proofs.Common.{◌≡◌, ◌/◌, ◌++◌, ℕ, List, take, drop, length}
use Rattle.sync_disk.specs.Images.{is_written}
use Rattle.sync_disk.specs.Leaving.{count_written, tear}
use Rattle.sync_disk.specs.Memory.{writes_over}
use Rattle.sync_disk.proofs.crash.tear_bytes.Given as goal

abbrev pub invariant-loop-k : goal.invariant-loop-k
invariant-loop-k l = (ranges : List (ℕ × ℕ)) → ((k : ℕ) → is_written k ranges ≡ writes_over k l.strokes)
    → tear 0 (count_written 0 (length l.initial.bytes) ranges / 2) ranges l.initial.bytes ≡ take l.k l.bytes ++ tear l.k l.left ranges (drop l.k l.bytes)
