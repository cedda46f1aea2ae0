use Rattle.std.proofs.Common.{◌≡◌, ◌++◌, length, take, drop}
use Rattle.list_lane.specs.Bursts.{lift_all}
use Rattle.list_lane.proofs.flat.lift_slots.Given as goal

abbrev pub invariant-loop-i : goal.invariant-loop-i
invariant-loop-i l = record {
  so_far : lift_all l.up l.down l.fn.slots ≡ take l.i l.slots ++ lift_all l.up l.down (drop l.i l.slots);
  rest : drop l.i l.slots ≡ drop l.i l.fn.slots;
  size : length l.slots ≡ length l.fn.slots;
}
