use Rattle.std.proofs.Common.{ℕ, Ok}
use Rattle.sync_transform.proofs.Agreed.{sets_agreed}
use Rattle.long_sets.proofs.sets.cross_long.Goals as goal

pub returns-in-Some-clause-agree : goal.returns-in-Some-clause-agree
returns-in-Some-clause-agree c = sets_agreed {E = ℕ} c.args.left_ident c.args.right_ident c.args.left c.args.right (Ok c.in-Some.crossed) c.in-Some.ensures
