use Rattle.slot_law.proofs.Rivals.{pass_on_left, pass_on_right}
use Rattle.slot_law.proofs.rules.strangers_pass_slots.Goals as goal

pub returns-clause-left : goal.returns-clause-left
returns-clause-left c = pass_on_left

pub returns-clause-right : goal.returns-clause-right
returns-clause-right c = pass_on_right
