use Rattle.slot_law.proofs.Steps.{left_steps, right_steps, left_steps_on, right_steps_on, left_steps_to, right_steps_to}
use Rattle.slot_law.proofs.rules.lanes_suffice.Goals as goal

pub returns-clause-left : goal.returns-clause-left
returns-clause-left c = left_steps

pub returns-clause-right : goal.returns-clause-right
returns-clause-right c = right_steps

pub returns-clause-to_left : goal.returns-clause-to_left
returns-clause-to_left c = left_steps_to

pub returns-clause-to_right : goal.returns-clause-to_right
returns-clause-to_right c = right_steps_to

pub returns-clause-behind_left : goal.returns-clause-behind_left
returns-clause-behind_left c = left_steps_on

pub returns-clause-behind_right : goal.returns-clause-behind_right
returns-clause-behind_right c = right_steps_on
