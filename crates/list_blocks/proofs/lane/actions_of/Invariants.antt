use Rattle.std.proofs.Common.{◌≡◌, ◌++◌, length}
use Rattle.list_blocks.specs.Blocks.{slot_actions}
use Rattle.list_blocks.proofs.lane.actions_of.Given as goal

abbrev pub invariant-loop-lane : goal.invariant-loop-lane
invariant-loop-lane l = l.actions.items ++ slot_actions l.lane.first l.lane.slots ≡ slot_actions l.initial.lane.first l.initial.lane.slots

abbrev pub decreases-loop-lane : goal.decreases-loop-lane
decreases-loop-lane l = length l.lane.slots
