use Rattle.sum_list.proofs.Kept.{keeps_more}
use Rattle.sum_list.proofs.block.measure.Goals as goal

pub loop-item-preserved : goal.loop-item-preserved
loop-item-preserved g c =
    let t = g.T.Measured in let one = c.with_one-measures.ensures in
    keeps_more t.before t.after t.first c.args.items.now c.loop-item.item-index c.loop-item.measures c.with_one-measures.result c.item-item.result c.loop-item-test.true c.item-item.is c.loop-item.invariant one.before one.after one.first one.short.0 one.short.1
