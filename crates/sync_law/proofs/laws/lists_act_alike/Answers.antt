use Rattle.sync_law.specs.Law.{act_all-run}
use Rattle.sync_law.proofs.laws.lists_act_alike.Goals as goal

pub returns : goal.returns
returns c = act_all-run
