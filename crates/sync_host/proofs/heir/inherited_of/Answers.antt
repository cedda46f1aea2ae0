use Rattle.sync_host.specs.Heirs.{change_in, retired_in}
use Rattle.sync_host.proofs.Inheriting.{both_given}
use Rattle.sync_host.proofs.heir.inherited_of.Goals as goal

pub returns : goal.returns
returns c = both_given retired_in change_in c.args.bytes.now _ _ _ _ c.in_ok-retired.ensures c.in_ok-change.ensures
