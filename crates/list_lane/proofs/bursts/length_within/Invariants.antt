use Rattle.std.proofs.Common.{◌≡◌, ◌≤◌, ◌+◌, drop}
use Rattle.list_lane.specs.Lanes.{length_before}
use Rattle.list_lane.specs.Flat.{joined}
use Rattle.list_lane.proofs.bursts.length_within.Given as goal

abbrev pub invariant-loop-i : goal.invariant-loop-i
invariant-loop-i l = record {
  so_far : length_before l.fn.place l.fn.first (joined l.bursts.items) ≡ length_before l.rest l.result (joined (drop l.i l.bursts.items));
  most : l.result + l.rest ≤ l.fn.first + l.fn.place;
}
