use Rattle.std.proofs.Common.{◌≡◌, ◌≤◌, ◌+◌, ◌-◌, Some, length, drop}
use Rattle.sync_base.specs.Rules.{top}
use Rattle.list_lane.specs.Lanes.{crossed as crosses}
use Rattle.list_lane.specs.Ops.{lane_later as later}
use Rattle.list_lane.specs.Bursts.{lift_all}
use Rattle.list_lane.proofs.flat.left_behind.Given as goal

abbrev pub invariant-loop-i : goal.invariant-loop-i
invariant-loop-i l = record {
  so_far : (crosses (later l.lane_left) (lift_all l.up l.down l.slots) (Some l.fn.traveller)).left ≡ (crosses (later l.lane_left) (lift_all l.up l.down (drop l.i l.slots)) (Some l.now)).left;
  room : l.now.place + (length l.slots - l.i) ≤ top;
}
