use Rattle.slot_law.specs.Slots.{on_left, on_right}
use Rattle.slot_law.proofs.Through.{picks, both_parts, ends}
use Rattle.slot_law.proofs.Skipping.{skips}
use Rattle.slot_law.proofs.laws.some_slots_suffice.Goals as goal

pub returns-clause-picks_left : goal.returns-clause-picks_left
returns-clause-picks_left g c = λ e. picks (on_left g.M.Merge.meet e)

pub returns-clause-picks_right : goal.returns-clause-picks_right
returns-clause-picks_right g c = λ e. picks (on_right g.M.Merge.meet e)

pub returns-clause-parts_left : goal.returns-clause-parts_left
returns-clause-parts_left g c = λ e. both_parts (on_left g.M.Merge.meet e)

pub returns-clause-parts_right : goal.returns-clause-parts_right
returns-clause-parts_right g c = λ e. both_parts (on_right g.M.Merge.meet e)

pub returns-clause-ends_left : goal.returns-clause-ends_left
returns-clause-ends_left g c = λ e. ends (on_left g.M.Merge.meet e)

pub returns-clause-ends_right : goal.returns-clause-ends_right
returns-clause-ends_right g c = λ e. ends (on_right g.M.Merge.meet e)

pub returns-clause-skips : goal.returns-clause-skips
returns-clause-skips g c = skips g.M.Merge.meet
