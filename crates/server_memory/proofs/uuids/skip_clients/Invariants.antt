use Rattle.sync_model.specs.Fronts.{uuid_is}
use Rattle.server_memory.proofs.Walking.{PassedSoFar}
use Rattle.server_memory.proofs.uuids.skip_clients.Given as goal

abbrev pub invariant-loop-place : goal.invariant-loop-place
invariant-loop-place l = PassedSoFar uuid_is l.records l.first l.place
