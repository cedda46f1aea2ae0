use Rattle.std.proofs.Common.{take}
use Rattle.sync_index.specs.Spots.{Misses}
use Rattle.sync_transform.proofs.sets.touches_nothing.Given as goal

abbrev pub invariant-loop-instr : goal.invariant-loop-instr
invariant-loop-instr l = Misses l.index (take l.instr-index l.instr-items)
