use Rattle.sync_exchange.specs.Lemmas.Parts.{lawful_parts}
use Rattle.sync_exchange.proofs.laws.parts_are_lawful.Goals as goal

pub returns : goal.returns
returns c = lawful_parts
