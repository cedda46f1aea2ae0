use Rattle.sync_base.specs.Lemmas.Whole.{definitions_differ}
use Rattle.sync_base.proofs.laws.definitions_differ.Goals as goal

pub returns : goal.returns
returns c = definitions_differ
