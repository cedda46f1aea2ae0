use Rattle.std.proofs.Common.{◌≡◌, ◌+◌, drop}
use Rattle.list_regions.specs.Regions.{moved_on, look, lengths_to}
use Rattle.list_regions.proofs.walk.slot_in.Given as goal

abbrev pub invariant-loop-i : goal.invariant-loop-i
invariant-loop-i l = record { so_far : look l.number l.items ≡ moved_on l.passed (look l.number (drop l.i l.items)); sum : l.passed + lengths_to l.number (drop l.i l.items) ≡ lengths_to l.number l.items }
