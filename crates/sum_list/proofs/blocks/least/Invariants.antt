use Rattle.std.proofs.Common.{◌≡◌, ℕ, ◌<◌, ◌≤◌, List, length, get_or, take}
use Rattle.sum_list.specs.Block.{least}
use Rattle.sum_list.specs.Blocks.{joined}
use Rattle.sum_list.proofs.blocks.least.Given as goal

abbrev pub invariant-loop-i : goal.invariant-loop-i
invariant-loop-i g l = record {
  front : l.front ≡ length (joined (take l.i l.blocks));
  none : l.i ≡ 0 → l.first ≡ 18446744073709551615;
  within : 0 < l.i → l.seat.block < l.i;
  place : l.seat.within ≡ length (joined (take l.seat.block l.blocks));
  first : (d : List g.row.T.Denot) → 0 < l.i → least g.T.Measured.first (get_or l.blocks l.seat.block d) ≡ l.first;
  low : (k : ℕ) (d : List g.row.T.Denot) → k < l.i → l.first ≤ least g.T.Measured.first (get_or l.blocks k d);
}
