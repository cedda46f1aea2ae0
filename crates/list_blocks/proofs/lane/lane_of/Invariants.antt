use Rattle.std.proofs.Common.{take}
use Rattle.list_blocks.specs.Blocks.{Tells}
use Rattle.list_blocks.proofs.lane.lane_of.Given as goal

abbrev pub invariant-loop-instr : goal.invariant-loop-instr
invariant-loop-instr l = Tells l.cell l.stamp (take l.instr-index l.instrs) l.lane
