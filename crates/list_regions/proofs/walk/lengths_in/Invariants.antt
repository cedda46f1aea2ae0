use Rattle.std.proofs.Common.{◌≡◌, ◌+◌, drop}
use Rattle.list_regions.specs.Regions.{lengths_to}
use Rattle.list_regions.proofs.walk.lengths_in.Given as goal

abbrev pub invariant-loop-i : goal.invariant-loop-i
invariant-loop-i l = l.passed + lengths_to l.number (drop l.i l.items) ≡ lengths_to l.number l.items
