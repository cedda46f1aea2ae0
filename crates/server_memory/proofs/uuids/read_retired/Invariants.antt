use Rattle.std.proofs.Common.{[], length}
use Rattle.sync_model.specs.Fronts.{retired_is, retired_step}
use Rattle.server_memory.proofs.Walking.{KeptSoFar}
use Rattle.server_memory.proofs.uuids.read_retired.Given as goal

abbrev pub invariant-loop-place : goal.invariant-loop-place
invariant-loop-place l = KeptSoFar retired_is (retired_step l.given) l.records l.first l.place [] l.retired.items (length l.retired.items)
