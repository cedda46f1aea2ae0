use Rattle.std.proofs.Common.{take}
use Rattle.list_lane.specs.Bursts.{Bounded}
use Rattle.list_lane.proofs.bounds.bounds_of.Given as goal

abbrev pub invariant-loop-i : goal.invariant-loop-i
invariant-loop-i l = Bounded l.result (take l.i l.slots)
