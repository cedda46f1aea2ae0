use Rattle.std.proofs.Common.{take}
use Rattle.sync_index.specs.Spots.{AllAt}
use Rattle.sync_index.proofs.spot.shared_spot.Given as goal

abbrev pub invariant-loop-instr : goal.invariant-loop-instr
invariant-loop-instr l = AllAt l.spot (take l.instr-index l.instrs)
