use Rattle.std.proofs.Common.{◌-◌, drop, length}
use Rattle.sync_client.proofs.Records.{ReadSoFar}
use Rattle.sync_client.proofs.replica.Replica.of.Given as goal

abbrev pub invariant-loop-place : goal.invariant-loop-place
invariant-loop-place l = ReadSoFar l.records l.place (drop l.place l.records) l.replica

abbrev pub decreases-loop-place : goal.decreases-loop-place
decreases-loop-place l = length l.records - l.place
