use Rattle.std.proofs.Common.{◌≡◌, ◌+◌, ◌-◌, ◌≤◌, ◌++◌, length, min, reverse, vec_capacity}
use Rattle.sum_list.proofs.block.split.Given as goal

abbrev pub invariant-loop-upper : goal.invariant-loop-upper
invariant-loop-upper g l = record {
  whole : l.items.items ++ reverse l.upper.items ≡ l.fn.items.items;
  half : min 64 (length l.fn.items.items) ≤ length l.items.items;
  room : length l.items.items ≤ vec_capacity l.upper - length l.upper.items + 64;
  lower_kept : vec_capacity l.fn.items ≤ vec_capacity l.items;
  upper_kept : vec_capacity l.fn.upper ≤ vec_capacity l.upper;
}

abbrev pub decreases-loop-upper : goal.decreases-loop-upper
decreases-loop-upper g l = length l.items.items
