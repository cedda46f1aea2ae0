use Rattle.std.proofs.Common.{◌≡◌, ◌++◌, drop}
use Rattle.list_lane.proofs.burst.Burst.append_to.Given as goal

abbrev pub invariant-loop-i : goal.invariant-loop-i
invariant-loop-i l = l.slots.items ++ drop l.i l.self ≡ l.fn.slots.items ++ l.self
