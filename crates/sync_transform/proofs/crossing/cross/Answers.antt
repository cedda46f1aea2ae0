use Rattle.sync_transform.proofs.Agreed.{lists_agreed}
use Rattle.sync_transform.proofs.crossing.cross.Goals as goal

pub returns-clause-agree : goal.returns-clause-agree
returns-clause-agree c = lists_agreed (λ p. (p.0.items, p.1.items)) c.args.left_later c.args.left.items c.args.right.items c.cross_all.result c.cross_all.ensures.ok
