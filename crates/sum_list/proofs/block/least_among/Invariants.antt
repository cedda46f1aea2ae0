use Rattle.std.proofs.Common.{◌≡◌, ◌<◌, get_or, take}
use Rattle.sum_list.specs.Block.{least}
use Rattle.sum_list.proofs.block.least_among.Given as goal

abbrev pub invariant-loop-i : goal.invariant-loop-i
invariant-loop-i g l = record {
  first : l.first ≡ least g.T.Measured.first (take l.i l.items);
  within : 0 < l.i → l.place < l.i;
  least : (d : g.row.T.Denot) → 0 < l.i → g.T.Measured.first (get_or l.items l.place d) ≡ l.first;
}
