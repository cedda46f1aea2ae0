use Rattle.std.proofs.Common.{take}
use Rattle.long_sets.specs.Lists.{TellsList}
use Rattle.long_sets.proofs.lane.lane_of.Given as goal

abbrev pub invariant-loop-slot : goal.invariant-loop-slot
invariant-loop-slot l = TellsList l.cell l.stamp (take l.slot-index l.slots) l.lane
