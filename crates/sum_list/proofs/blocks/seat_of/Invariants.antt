use Rattle.std.proofs.Common.{◌≡◌, ◌+◌, ◌<◌, length, take}
use Rattle.sum_list.specs.Blocks.{joined}
use Rattle.sum_list.proofs.blocks.seat_of.Given as goal

abbrev pub invariant-loop-i : goal.invariant-loop-i
invariant-loop-i g l = record {
  place : l.place ≡ length (joined (take l.i l.blocks)) + l.within;
  left : l.i < length l.blocks;
}
