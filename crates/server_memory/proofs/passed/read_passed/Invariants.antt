use Rattle.std.proofs.Common.{[], length, map}
use Rattle.sync_exchange.specs.Profile.{the_profile}
use Rattle.sync_recip.specs.Lists.{entry_of}
use Rattle.sync_model.specs.Fronts.{crossed_is, crossed_step}
use Rattle.server_memory.specs.Crossing.{ArePassed, IsSorted, passed_seen}
use Rattle.server_memory.proofs.Walking.{KeptSoFar}
use Rattle.server_memory.proofs.passed.read_passed.Given as goal

abbrev pub invariant-loop-place : goal.invariant-loop-place
invariant-loop-place l = record {
  so_far : KeptSoFar crossed_is (crossed_step the_profile l.second l.floor l.idents (map entry_of l.entries)) l.records l.first l.place [] (map passed_seen l.passed.items) (length l.passed.items);
  sorted : IsSorted (map passed_seen l.passed.items);
  each : ArePassed l.floor (map entry_of l.entries) l.passed.items;
}
