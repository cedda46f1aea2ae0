use Rattle.std.proofs.Common.{◌≡◌}
use Rattle.slot_law.specs.Slots.{alive}
use Rattle.long_sets.proofs.instrs.alive_of.Given as goal

abbrev pub invariant-loop-slot : goal.invariant-loop-slot
invariant-loop-slot l = l.instrs.items ≡ alive l.yielded
