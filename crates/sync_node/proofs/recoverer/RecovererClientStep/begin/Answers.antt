use Rattle.sync_node.proofs.Recoverers.{nothing_heard}
use Rattle.sync_node.proofs.recoverer.RecovererClientStep.begin.Goals as goal

pub returns : goal.returns
returns c records = nothing_heard records c.new.result.items c.new.ensures.items
