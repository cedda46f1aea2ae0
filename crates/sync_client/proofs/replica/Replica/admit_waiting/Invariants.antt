use Rattle.sync_client.specs.Fronts.{WithinFront}
use Rattle.sync_client.specs.Seen.{Past}
use Rattle.sync_client.proofs.Fronts.{WaitsSoFar}
use Rattle.sync_client.proofs.replica.Replica.admit_waiting.Given as goal

abbrev pub invariant-loop-next : goal.invariant-loop-next
invariant-loop-next l = (past : Past) → WithinFront l.waiting past l.fn.self → WaitsSoFar past l.fn.self l.self l.owed l.records l.place l.next
