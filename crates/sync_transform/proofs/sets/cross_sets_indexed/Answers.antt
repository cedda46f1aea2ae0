use Rattle.sync_transform.proofs.Agreed.{sets_agreed}
use Rattle.sync_transform.proofs.sets.cross_sets_indexed.Goals as goal

pub returns-clause-agree : goal.returns-clause-agree
returns-clause-agree c = sets_agreed c.args.left_ident c.args.right_ident c.args.left c.args.right c.cross_changes.result c.cross_changes.ensures.ok
