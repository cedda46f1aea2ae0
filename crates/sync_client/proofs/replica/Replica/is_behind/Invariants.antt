use Rattle.sync_client.proofs.Behinds.{BehindSoFar}
use Rattle.sync_client.proofs.replica.Replica.is_behind.Given as goal

abbrev pub invariant-loop-place : goal.invariant-loop-place
invariant-loop-place l = BehindSoFar l.version l.self.unsent l.place
