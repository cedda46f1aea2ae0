use Rattle.std.proofs.Common.{map, refl}
use Rattle.sync_exchange.specs.Seen.{client_bytes}
use Rattle.sync_world.proofs.Arming.{client_kept, opened_client}
use Rattle.sync_world.proofs.node.Node.disarm.Goals as goal

pub returns-clause-client : goal.returns-clause-client
returns-clause-client c records is stored listed =
    let e = c.begin_anew.ensures in
    let old = c.args.self.now.client in
    let new = record old { journal = c.begin_anew.new.self } in
    let holds = e.stands (map client_bytes records) stored in
    opened_client records new _ (client_kept records old new is e.closed refl) holds (e.origin _ holds.settled.told) refl listed
