use Rattle.list_regions.specs.Cuts.{Cutting}
use Rattle.list_regions.proofs.cut.cut.Given as goal

abbrev pub invariant-loop-i : goal.invariant-loop-i
invariant-loop-i l = Cutting l.region l.i l.halves.front l.halves.back
