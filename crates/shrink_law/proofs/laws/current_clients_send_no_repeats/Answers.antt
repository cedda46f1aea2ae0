use Rattle.sync_model.specs.Servers.{server_of}
use Rattle.shrink_law.proofs.Empty.{empty_tells}
use Rattle.shrink_law.proofs.Current.{has_told, part_told, probe, probed}
use Rattle.shrink_law.proofs.laws.current_clients_send_no_repeats.Goals as goal

pub returns : goal.returns
returns g c =
    let p = g.E.Exchange.profile in
    record {
      current = has_told p g.E.Exchange.lawful;
      empty = empty_tells p g.E.Exchange.lawful;
      probe = λ rs i e. probe p (server_of p rs) i e;
      probed_part = part_told p g.E.Exchange.lawful;
      probed = probed p;
    }
