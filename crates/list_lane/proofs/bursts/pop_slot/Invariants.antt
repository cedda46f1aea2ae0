use Rattle.std.proofs.Common.{◌≡◌, length}
use Rattle.list_lane.specs.Flat.{joined}
use Rattle.list_lane.proofs.bursts.pop_slot.Given as goal

-- the first ones were empty
abbrev pub invariant-loop-bursts : goal.invariant-loop-bursts
invariant-loop-bursts l = joined l.bursts.items ≡ joined l.fn.bursts.items

abbrev pub decreases-loop-bursts : goal.decreases-loop-bursts
decreases-loop-bursts l = length l.bursts.items
