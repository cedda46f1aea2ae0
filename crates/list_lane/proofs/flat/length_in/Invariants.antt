use Rattle.std.proofs.Common.{◌≡◌, ◌≤◌, ◌+◌, ◌-◌, drop}
use Rattle.list_lane.specs.Lanes.{length_before}
use Rattle.list_lane.proofs.flat.length_in.Given as goal

abbrev pub invariant-loop-i : goal.invariant-loop-i
invariant-loop-i l = record {
  so_far : length_before l.at l.fn.first l.slots ≡ length_before (l.at - l.i) l.result (drop l.i l.slots);
  most : l.result ≤ l.fn.first + l.i;
}
