use Rattle.std.proofs.Common.{◌≡◌, true, Option, sym, subst}
use Rattle.sync_model.specs.Profile.{all_admitted}
use Rattle.sync_exchange.specs.Profile.{the_profile}
use Rattle.sync_subset.specs.Tables.{Tables}
use Rattle.sync_client.proofs.Outside.{all_free}
use Rattle.sync_client.proofs.replica.Replica.outside.Goals as goal

pub returns-in-None-clause-none : goal.returns-in-None-clause-none
returns-in-None-clause-none c = λ none. subst (λ (o : Option Tables). all_admitted the_profile o c.args.changes.now.instrs ≡ true) (sym c.in-None.is) (all_free c.args.changes.now.instrs)
