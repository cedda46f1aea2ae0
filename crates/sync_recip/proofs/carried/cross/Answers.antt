use Rattle.std.proofs.Common.{map, sym, subst}
use Rattle.sync_rivals.specs.Lists.{Lists}
use Rattle.sync_recip.specs.Lists.{kept_entry, lists_in}
use Rattle.sync_recip.proofs.Indexed.{across_listed}
use Rattle.sync_recip.proofs.carried.cross.Goals as goal

pub returns-clause-listed : goal.returns-clause-listed
returns-clause-listed c =
    subst (λ l. Lists c.args.rivals.now (lists_in l)) (sym c.cross.ensures.entries)
    (across_listed c.args.rivals.now c.args.across (map kept_entry c.args.items.now) c.requires.listed)
