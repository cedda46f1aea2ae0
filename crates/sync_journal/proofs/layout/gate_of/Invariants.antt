use Rattle.std.proofs.Common.{drop}
use Rattle.sync_journal.proofs.Gates.{GateSoFar}
use Rattle.sync_journal.proofs.layout.gate_of.Given as goal

abbrev pub invariant-loop-index : goal.invariant-loop-index
invariant-loop-index l = GateSoFar l.records l.number l.place l.index (drop l.index l.records)
