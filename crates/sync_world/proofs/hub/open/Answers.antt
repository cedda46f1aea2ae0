use Rattle.sync_world.proofs.Opening.{opened_server}
use Rattle.sync_world.proofs.hub.open.Goals as goal

pub returns-in-Ok-clause-server : goal.returns-in-Ok-clause-server
returns-in-Ok-clause-server c records b told holds back = (opened_server b records c.in-Ok.server (c.in-Ok.ensures.opened b told) holds back).0

pub returns-in-Ok-clause-stored : goal.returns-in-Ok-clause-stored
returns-in-Ok-clause-stored c records b told holds back = (opened_server b records c.in-Ok.server (c.in-Ok.ensures.opened b told) holds back).1
