use Rattle.std.proofs.Common.{◌≡◌, ◌≤◌, ◌+◌, Some, length, take, drop}
use Rattle.sync_base.specs.Rules.{top}
use Rattle.list_lane.specs.Lanes.{crossed as crosses}
use Rattle.list_lane.specs.Ops.{lane_later as later}
use Rattle.list_lane.specs.Flat.{done, joined, Placed}
use Rattle.list_lane.proofs.bursts.cross_bursts.Given as goal

abbrev pub invariant-loop-i : goal.invariant-loop-i
invariant-loop-i l = record {
  so_far : crosses (later l.lane_left) (joined l.fn.bursts.items) (Some l.fn.traveller) ≡ done (joined (take l.i l.bursts.items)) (crosses (later l.lane_left) (joined (drop l.i l.bursts.items)) (Some l.now));
  room : l.now.place + length (joined (drop l.i l.bursts.items)) ≤ top;
  placed : Placed (joined (drop l.i l.bursts.items));
  size : length l.bursts.items ≡ length l.fn.bursts.items;
}
