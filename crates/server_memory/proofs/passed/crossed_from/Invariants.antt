use Rattle.server_memory.proofs.Passing.{PairsSoFar}
use Rattle.server_memory.proofs.passed.crossed_from.Given as goal

abbrev pub invariant-loop-place : goal.invariant-loop-place
invariant-loop-place l = PairsSoFar l.floor l.first l.ident l.entries l.passed l.place l.made
