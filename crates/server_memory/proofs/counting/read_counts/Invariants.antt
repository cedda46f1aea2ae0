use Rattle.std.proofs.Common.{◌≡◌, ◌≤◌, [], length, map}
use Rattle.sync_model.specs.Fronts.{count_is, count_step, counted_sum}
use Rattle.server_memory.specs.Fronting.{counted_seen}
use Rattle.server_memory.proofs.Walking.{LoopSoFar}
use Rattle.server_memory.proofs.counting.read_counts.Given as goal

abbrev pub invariant-loop-place : goal.invariant-loop-place
invariant-loop-place l = record {
  so_far : LoopSoFar count_is (count_step 4294967295) l.most l.records l.first l.place [] (map counted_seen l.counts.items) (length l.counts.items);
  sum : l.sum ≡ counted_sum (map counted_seen l.counts.items);
  few : length l.counts.items ≤ l.most;
}
