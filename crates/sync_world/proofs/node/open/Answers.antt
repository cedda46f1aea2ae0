use Rattle.sync_world.proofs.Opening.{opened_client}
use Rattle.sync_world.proofs.node.open.Goals as goal

pub returns-in-Ok-clause-client : goal.returns-in-Ok-clause-client
returns-in-Ok-clause-client c records b told holds back = (opened_client b records c.in-Ok.client (c.in-Ok.ensures.opened b told) holds back).0

pub returns-in-Ok-clause-stored : goal.returns-in-Ok-clause-stored
returns-in-Ok-clause-stored c records b told holds back = (opened_client b records c.in-Ok.client (c.in-Ok.ensures.opened b told) holds back).1
