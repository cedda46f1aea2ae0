use Rattle.std.proofs.Common.{◌≡◌, length, take}
use Rattle.list_blocks.specs.Blocks.{CrossesBlock}
use Rattle.list_blocks.proofs.lane.cross_lane.Given as goal

abbrev pub invariant-loop-instr : goal.invariant-loop-instr
invariant-loop-instr l = CrossesBlock l.cell l.stamp (take l.instr-index l.instrs) l.left.items l.initial.lane l.lane × (length l.left.items ≡ l.instr-index)
