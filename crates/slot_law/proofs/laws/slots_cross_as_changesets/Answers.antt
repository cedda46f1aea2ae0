use Rattle.slot_law.proofs.Items.{rebases, carries}
use Rattle.slot_law.proofs.Whole.{gives_up_left, gives_up_right}
use Rattle.slot_law.proofs.laws.slots_cross_as_changesets.Goals as goal

pub returns-clause-left : goal.returns-clause-left
returns-clause-left g c = rebases g.M.Merge.meet

pub returns-clause-right : goal.returns-clause-right
returns-clause-right g c = carries g.M.Merge.meet

pub returns-clause-stuck_left : goal.returns-clause-stuck_left
returns-clause-stuck_left g c = gives_up_left g.M.Merge.meet

pub returns-clause-stuck_right : goal.returns-clause-stuck_right
returns-clause-stuck_right g c = gives_up_right g.M.Merge.meet
