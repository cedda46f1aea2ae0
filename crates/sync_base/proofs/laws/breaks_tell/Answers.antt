use Rattle.sync_base.specs.Lemmas.Runs.{act_or_break, act_all_or_break}
use Rattle.sync_base.proofs.laws.breaks_tell.Goals as goal

pub returns : goal.returns
returns c = record { one = act_or_break; all = act_all_or_break }
