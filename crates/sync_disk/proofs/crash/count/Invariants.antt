use Rattle.std.proofs.Common.{◌≡◌, ◌+◌, ◌-◌, ◌≤◌, ℕ, List}
use Rattle.sync_disk.specs.Images.{is_written}
use Rattle.sync_disk.specs.Leaving.{count_written}
use Rattle.sync_disk.specs.Memory.{writes_over}
use Rattle.sync_disk.proofs.crash.count.Given as goal

abbrev pub invariant-loop-k : goal.invariant-loop-k
invariant-loop-k l = record {
  few : l.written ≤ l.k;
  so_far : (ranges : List (ℕ × ℕ)) → ((k : ℕ) → is_written k ranges ≡ writes_over k l.strokes) → count_written 0 l.len ranges ≡ l.written + count_written l.k (l.len - l.k) ranges;
}
