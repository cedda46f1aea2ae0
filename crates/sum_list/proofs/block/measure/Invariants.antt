use Rattle.std.proofs.Common.{take}
use Rattle.sum_list.specs.Block.{Keeps}
use Rattle.sum_list.proofs.block.measure.Given as goal

abbrev pub invariant-loop-item : goal.invariant-loop-item
invariant-loop-item g l = Keeps g.T.Measured.before g.T.Measured.after g.T.Measured.first (take l.item-index l.items) l.measures
