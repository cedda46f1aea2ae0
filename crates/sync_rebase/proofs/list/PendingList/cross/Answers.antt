use Rattle.std.proofs.Common.{sym, subst}
use Rattle.sync_rivals.specs.Lists.{Lists}
use Rattle.sync_rebase.specs.Settling.{currents}
use Rattle.sync_rebase.proofs.Indexed.{across_listed}
use Rattle.sync_rebase.proofs.list.PendingList.cross.Goals as goal

pub invariant_of-self : goal.invariant_of-self
invariant_of-self c = subst (λ ws. Lists c.self.inside.index (currents ws)) (sym c.cross.ensures) (across_listed c.self.inside.index c.args.across c.self.inside.items c.self.invariant)
