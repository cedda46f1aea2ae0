use Rattle.sync_model.specs.Fronts.{retired_is}
use Rattle.server_memory.proofs.Walking.{PassedSoFar}
use Rattle.server_memory.proofs.uuids.skip_retired.Given as goal

abbrev pub invariant-loop-place : goal.invariant-loop-place
invariant-loop-place l = PassedSoFar retired_is l.records l.first l.place
