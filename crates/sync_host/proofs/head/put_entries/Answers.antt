use Rattle.sync_host.specs.Heads.{entry_bytes}
use Rattle.sync_host.proofs.Pieces.{item_told}
use Rattle.sync_host.proofs.head.put_entries.Goals as goal

pub loop-entry-preserved : goal.loop-entry-preserved
loop-entry-preserved c = item_told entry_bytes c.loop-entry.out.items c.put_sent.new.out.items _ c.args.entries.now c.loop-entry.entry-index c.entry-item.result c.loop-entry-test.true c.entry-item.is c.in_ok-put_sent.ensures c.loop-entry.invariant
