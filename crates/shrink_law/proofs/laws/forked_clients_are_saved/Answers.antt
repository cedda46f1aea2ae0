use Rattle.shrink_law.proofs.Forked.{forked_saved}
use Rattle.shrink_law.proofs.Verified.{reached_verified}
use Rattle.shrink_law.proofs.laws.forked_clients_are_saved.Goals as goal

pub returns : goal.returns
returns g c =
    let p = g.E.Exchange.profile in
    record {
      saved = forked_saved p g.E.Exchange.lawful;
      honest = reached_verified p g.E.Exchange.lawful g.E.Exchange.buildable;
    }
