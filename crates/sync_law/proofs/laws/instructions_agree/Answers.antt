use Rattle.sync_law.specs.Law.{two_sided}
use Rattle.sync_law.proofs.laws.instructions_agree.Goals as goal

pub returns : goal.returns
returns c = two_sided
