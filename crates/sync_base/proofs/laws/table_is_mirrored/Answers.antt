use Rattle.sync_base.specs.Lemmas.Whole.{meeting_turned}
use Rattle.sync_base.proofs.laws.table_is_mirrored.Goals as goal

pub returns : goal.returns
returns c = meeting_turned
