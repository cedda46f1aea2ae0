use Rattle.sync_base.specs.Lemmas.Whole.{sizes_fit}
use Rattle.sync_base.proofs.laws.sizes_fit.Goals as goal

pub returns : goal.returns
returns c = sizes_fit
