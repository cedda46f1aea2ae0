use Rattle.slot_law.proofs.Going.{goes_left, goes_right, still_owned}
use Rattle.slot_law.proofs.rules.lanes_cross_their_slots.Goals as goal

pub returns-clause-left : goal.returns-clause-left
returns-clause-left c = goes_left

pub returns-clause-right : goal.returns-clause-right
returns-clause-right c = goes_right

pub returns-clause-owned : goal.returns-clause-owned
returns-clause-owned c = still_owned
