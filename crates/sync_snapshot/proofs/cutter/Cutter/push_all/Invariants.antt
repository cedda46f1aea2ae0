use Rattle.sync_snapshot.specs.Parts.{Leaves}
use Rattle.sync_snapshot.proofs.cutter.Cutter.push_all.Given as goal

-- the instructions of the iterator are left
abbrev pub invariant-loop-instr : goal.invariant-loop-instr
invariant-loop-instr l = Leaves l.fn.self l.self l.fn.instrs.items l.instr-iterator.rest.items
