use Rattle.std.proofs.Common.{ap}
use Rattle.sync_model.specs.Cuts.{cut}
use Rattle.snapshot_law.specs.Lemmas.Runs.{built-no_state}
use Rattle.snapshot_law.proofs.laws.nothing_is_built_of_nothing.Goals as goal

pub returns : goal.returns
returns c = λ small. ap (cut small) built-no_state
