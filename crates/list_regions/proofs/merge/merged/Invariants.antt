use Rattle.std.proofs.Common.{◌+◌, ◌-◌, length}
use Rattle.list_regions.specs.Merges.{Merging}
use Rattle.list_regions.proofs.merge.merged.Given as goal

abbrev pub invariant-loop-turn : goal.invariant-loop-turn
invariant-loop-turn l = Merging l.left l.right l.turn l.region

abbrev pub decreases-loop-turn : goal.decreases-loop-turn
decreases-loop-turn l = length l.left.lane.slots + length l.right.lane.slots - (l.turn.left + l.turn.right)
