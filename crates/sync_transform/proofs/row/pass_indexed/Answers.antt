use Rattle.sync_transform.proofs.Covered.{apart_row}
use Rattle.sync_transform.proofs.row.pass_indexed.Goals as goal

pub returns-then-is_apart-clause-ok : goal.returns-then-is_apart-clause-ok
returns-then-is_apart-clause-ok c = apart_row c.args.left_later c.args.left c.args.rights.now (c.is_apart.ensures c.if-is_apart.true c.args.rights.now c.requires)
