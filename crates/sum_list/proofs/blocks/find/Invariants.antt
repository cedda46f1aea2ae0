use Rattle.std.proofs.Common.{take}
use Rattle.sum_list.specs.Blocks.{joined}
use Rattle.sum_list.proofs.Walks.{Walk}
use Rattle.sum_list.proofs.blocks.find.Given as goal

abbrev pub invariant-loop-block : goal.invariant-loop-block
invariant-loop-block g l = Walk g.T.Measured.before g.T.Measured.after l.measure l.sum (joined (take l.block-index l.blocks)) l.at
