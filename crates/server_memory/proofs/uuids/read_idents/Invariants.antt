use Rattle.std.proofs.Common.{[], length}
use Rattle.sync_model.specs.Fronts.{uuid_is, uuid_step}
use Rattle.server_memory.specs.Fronting.{uuids_of}
use Rattle.server_memory.proofs.Walking.{KeptSoFar}
use Rattle.server_memory.proofs.uuids.read_idents.Given as goal

abbrev pub invariant-loop-place : goal.invariant-loop-place
invariant-loop-place l = KeptSoFar uuid_is uuid_step l.records l.first l.place [] (uuids_of l.idents.items) (length l.idents.items)
