use Rattle.std.proofs.Common.{take}
use Rattle.sync_base.specs.Effects.{path_of}
use Rattle.long_sets.specs.Parts.{list_of}
use Rattle.long_sets.specs.Lists.{GoesAll}
use Rattle.long_sets.proofs.lane.cross_lane.Given as goal

abbrev pub invariant-loop-slot : goal.invariant-loop-slot
invariant-loop-slot l = GoesAll l.cell l.stamp (list_of (path_of l.cell) (take l.slot-index l.slots)) l.left.items l.initial.lane l.lane
