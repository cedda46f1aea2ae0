use Rattle.snapshot_law.specs.Lemmas.Runs.{built_runs}
use Rattle.snapshot_law.proofs.laws.every_state_is_built.Goals as goal

pub returns : goal.returns
returns c = built_runs
