use Rattle.sync_host.specs.Heads.{change_bytes}
use Rattle.sync_host.proofs.Pieces.{item_told}
use Rattle.sync_host.proofs.head.put_changes.Goals as goal

pub loop-change-preserved : goal.loop-change-preserved
loop-change-preserved c = item_told change_bytes c.loop-change.out.items c.put_change.new.out.items _ c.args.changes.now c.loop-change.change-index c.change-item.result c.loop-change-test.true c.change-item.is c.in_ok-put_change.ensures c.loop-change.invariant
