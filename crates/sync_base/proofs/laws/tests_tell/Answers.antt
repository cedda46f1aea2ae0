use Rattle.sync_base.specs.Lemmas.Equal.{one_key_kind, one_column}
use Rattle.sync_base.proofs.laws.tests_tell.Goals as goal

pub returns : goal.returns
returns c = record { keys = one_key_kind; columns = one_column }
