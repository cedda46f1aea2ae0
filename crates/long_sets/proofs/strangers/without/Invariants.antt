use Rattle.std.proofs.Common.{◌≡◌}
use Rattle.sync_base.specs.Effects.{path_of}
use Rattle.long_sets.specs.Parts.{others_of}
use Rattle.long_sets.proofs.strangers.without.Given as goal

abbrev pub invariant-loop-slot : goal.invariant-loop-slot
invariant-loop-slot l = l.others.items ≡ others_of (path_of l.cell) l.yielded
