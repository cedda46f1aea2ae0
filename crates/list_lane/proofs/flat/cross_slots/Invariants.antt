use Rattle.std.proofs.Common.{◌≡◌, ◌≤◌, ◌+◌, ◌-◌, Some, length, take, drop}
use Rattle.sync_base.specs.Rules.{top}
use Rattle.list_lane.specs.Lanes.{crossed as crosses}
use Rattle.list_lane.specs.Ops.{lane_later as later}
use Rattle.list_lane.specs.Flat.{done, Placed}
use Rattle.list_lane.proofs.flat.cross_slots.Given as goal

abbrev pub invariant-loop-i : goal.invariant-loop-i
invariant-loop-i l = record {
  so_far : crosses (later l.lane_left) l.fn.slots (Some l.fn.traveller) ≡ done (take l.i l.slots) (crosses (later l.lane_left) (drop l.i l.slots) (Some l.now));
  room : l.now.place + (length l.slots - l.i) ≤ top;
  placed : Placed (drop l.i l.slots);
  size : length l.slots ≡ length l.fn.slots;
}
