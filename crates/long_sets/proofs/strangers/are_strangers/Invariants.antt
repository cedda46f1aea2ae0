use Rattle.std.proofs.Common.{take}
use Rattle.sync_base.specs.Effects.{path_of}
use Rattle.long_sets.specs.Parts.{others_of, AllStrangers}
use Rattle.long_sets.proofs.strangers.are_strangers.Given as goal

abbrev pub invariant-loop-slot : goal.invariant-loop-slot
invariant-loop-slot l = AllStrangers (path_of l.cell) (others_of (path_of l.cell) (take l.slot-index l.slots))
