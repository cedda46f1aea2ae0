use Rattle.std.proofs.Common.{ℕ, Ok}
use Rattle.sync_transform.proofs.Agreed.{sets_agreed}
use Rattle.long_sets.proofs.Whole.{sets_covered}
use Rattle.long_sets.proofs.sets.cross_long_indexed.Goals as goal

pub returns-in-Some-clause-agree : goal.returns-in-Some-clause-agree
returns-in-Some-clause-agree c = sets_agreed {E = ℕ} c.args.left_ident c.args.right_ident c.args.left c.args.right (Ok c.in-Some.crossed) c.in-Some.ensures

pub returns-in-Some-clause-indexed : goal.returns-in-Some-clause-indexed
returns-in-Some-clause-indexed c = sets_covered c.args.index.now c.args.left_ident c.args.right_ident c.args.left c.args.right c.in-Some.crossed.0 c.in-Some.crossed.1 c.in-Some.ensures c.requires.indexed
