use Rattle.sync_exchange.specs.Lemmas.Roomy.{real_roomy}
use Rattle.sync_exchange.proofs.laws.messages_bear_each_changeset.Goals as goal

pub returns : goal.returns
returns c = real_roomy
