use Rattle.slot_law.proofs.Barriers.{stops_left, stops_right, sweeps_left, sweeps_right}
use Rattle.slot_law.proofs.rules.barriers_drop_lanes.Goals as goal

pub returns-clause-stops_left : goal.returns-clause-stops_left
returns-clause-stops_left c = stops_left

pub returns-clause-stops_right : goal.returns-clause-stops_right
returns-clause-stops_right c = stops_right

pub returns-clause-sweeps_left : goal.returns-clause-sweeps_left
returns-clause-sweeps_left c = sweeps_left

pub returns-clause-sweeps_right : goal.returns-clause-sweeps_right
returns-clause-sweeps_right c = sweeps_right
