use Rattle.std.proofs.Common.{◌≡◌, ◌≤◌, length, take, vec_capacity}
use Rattle.sum_list.proofs.blocks.copy.Given as goal

abbrev pub invariant-loop-block : goal.invariant-loop-block
invariant-loop-block g l = record {
  copied : l.copy.items ≡ take l.block-index l.blocks;
  room : length l.blocks ≤ vec_capacity l.copy;
}
