use Rattle.server_memory.proofs.Fronted.{PartsSoFar}
use Rattle.server_memory.proofs.front.read_parts.Given as goal

abbrev pub invariant-loop-place : goal.invariant-loop-place
invariant-loop-place l = PartsSoFar l.records l.first l.second l.place l.parts.items
