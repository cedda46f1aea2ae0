use Rattle.std.proofs.Common.{arith}
use Rattle.list_regions.proofs.Turned.{merge_starts, merge_ends}
use Rattle.list_regions.proofs.merge.merged.Goals as goal

pub loop-turn-init : goal.loop-turn-init
loop-turn-init c = merge_starts c.args.left.now c.args.right.now _ _ (cc) (cc)

pub returns : goal.returns
returns c = merge_ends c.args.left.now c.args.right.now c.loop-turn.region c.loop-turn.turn c.requires.left c.requires.right c.loop-turn.invariant (omega arith) (omega arith)
