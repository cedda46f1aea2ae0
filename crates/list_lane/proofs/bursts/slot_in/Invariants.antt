use Rattle.std.proofs.Common.{◌≡◌, drop}
use Rattle.list_lane.specs.Lanes.{slot_at}
use Rattle.list_lane.specs.Flat.{joined, Placed}
use Rattle.list_lane.proofs.bursts.slot_in.Given as goal

abbrev pub invariant-loop-i : goal.invariant-loop-i
invariant-loop-i l = record {
  so_far : slot_at l.fn.place (joined l.bursts.items) ≡ slot_at l.rest (joined (drop l.i l.bursts.items));
  placed : Placed (joined (drop l.i l.bursts.items));
}
