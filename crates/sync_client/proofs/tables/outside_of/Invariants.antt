use Rattle.sync_client.proofs.Outside.{AllBefore}
use Rattle.sync_client.proofs.tables.outside_of.Given as goal

abbrev pub invariant-loop-instr : goal.invariant-loop-instr
invariant-loop-instr l = AllBefore l.tables l.instrs l.place l.instr-index
