use Rattle.sync_world.proofs.node.Node.ask.Goals as goal

pub returns-clause-client : goal.returns-clause-client
returns-clause-client c records s h = c.disarm.ensures.client records h.client h.stored h.armed.listed
