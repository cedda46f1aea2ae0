use Rattle.sync_base.specs.Lemmas.Whole.{empty_is_state, keeps_state}
use Rattle.sync_base.proofs.laws.states_stay.Goals as goal

pub returns : goal.returns
returns c = record { empty = empty_is_state; kept = keeps_state }
