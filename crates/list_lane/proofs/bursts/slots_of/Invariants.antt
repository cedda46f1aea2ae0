use Rattle.std.proofs.Common.{◌≡◌, ◌++◌, drop}
use Rattle.list_lane.specs.Flat.{joined, Placed}
use Rattle.list_lane.proofs.bursts.slots_of.Given as goal

abbrev pub invariant-loop-i : goal.invariant-loop-i
invariant-loop-i l = record {
  so_far : l.slots.items ++ joined (drop l.i l.bursts.items) ≡ joined l.bursts.items;
  placed : Placed (joined (drop l.i l.bursts.items));
}
