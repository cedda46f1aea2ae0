use Rattle.std.proofs.Common.{◌≤◌, length}
use Rattle.sync_exchange.specs.Profile.{the_profile}
use Rattle.sync_model.specs.Fronts.{entry_is, entry_step}
use Rattle.server_memory.specs.Fronting.{IsGrown, begun_on, grown_seen}
use Rattle.server_memory.proofs.Walking.{LoopSoFar}
use Rattle.server_memory.proofs.carried.read_entries.Given as goal

abbrev pub invariant-loop-place : goal.invariant-loop-place
invariant-loop-place l = record {
  so_far : LoopSoFar entry_is (entry_step the_profile l.second l.idents) l.most l.records l.first l.place (begun_on l.fn.objects) (grown_seen l.grown) (length l.grown.entries.items);
  few : length l.grown.entries.items ≤ l.most;
  grown : IsGrown (length l.idents) (grown_seen l.grown);
}
