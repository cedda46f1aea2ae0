use Rattle.std.proofs.Common.{map, sym, subst}
use Rattle.sync_rivals.specs.Lists.{Lists}
use Rattle.sync_recip.specs.declared.carried.Became.TheVariants.{Moved}
use Rattle.sync_recip.specs.Lists.{kept_entry, lists_in}
use Rattle.sync_recip.proofs.Indexed.{one_listed}
use Rattle.sync_recip.proofs.carried.shift_one.Goals as goal

pub returns-clause-listed : goal.returns-clause-listed
returns-clause-listed c =
    subst (λ l. Lists c.args.rivals.now (lists_in l)) (sym c.put.ensures.entries)
    (one_listed c.args.rivals.now c.args.place (Moved c.args.action) (map kept_entry c.args.items.now) c.requires.left c.requires.listed)
