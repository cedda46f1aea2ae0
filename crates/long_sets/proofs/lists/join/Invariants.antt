use Rattle.std.proofs.Common.{◌≡◌, take}
use Rattle.long_sets.specs.Parts.{together}
use Rattle.long_sets.proofs.lists.join.Given as goal

abbrev pub invariant-loop-place : goal.invariant-loop-place
invariant-loop-place l = l.both.items ≡ together (take l.place l.first) (take l.place l.second)
