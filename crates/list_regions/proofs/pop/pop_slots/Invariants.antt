use Rattle.std.proofs.Common.{List, ◌∷◌, Option}
use Rattle.list_lane.specs.declared.op.Op.{Op}
use Rattle.list_regions.specs.Regions.{Whole}
use Rattle.list_regions.proofs.Popping.{Popping, slots_in}
use Rattle.list_regions.proofs.pop.pop_slots.Given as goal

abbrev pub invariant-loop-place : goal.invariant-loop-place
invariant-loop-place l = (s : Option Op) (ss : List (Option Op)) → Whole l.number l.fn.items (s ∷ ss) → Popping l.number l.fn.items l.items l.popped s ss

abbrev pub decreases-loop-place : goal.decreases-loop-place
decreases-loop-place l = slots_in l.items
