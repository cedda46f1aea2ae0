use Rattle.std.proofs.Common.{take}
use Rattle.sum_list.proofs.Walks.{Walk}
use Rattle.sum_list.proofs.block.find_among.Given as goal

abbrev pub invariant-loop-item : goal.invariant-loop-item
invariant-loop-item g l = Walk g.T.Measured.before g.T.Measured.after l.measure l.sum (take l.item-index l.items) l.at
