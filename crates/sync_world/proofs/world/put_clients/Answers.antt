use Rattle.sync_world.proofs.Lines.{all_lines, one_line}
use Rattle.sync_world.proofs.world.put_clients.Goals as goal

pub loop-node-preserved : goal.loop-node-preserved
loop-node-preserved c stops ns h =
    one_line stops ns c.args.clients.now c.loop-node.node-index c.node-item.result c.loop-node.out.items c.put_client.new.out.items _ h c.loop-node-test.true c.node-item.is (λ records is. c.in_ok-put_client.ensures records is) (c.loop-node.invariant stops ns h)

pub returns : goal.returns
returns c stops ns h = all_lines stops ns c.args.clients.now c.loop-node.node-index c.loop-node.out.items _ h c.loop-node-test.false (c.loop-node.invariant stops ns h)
