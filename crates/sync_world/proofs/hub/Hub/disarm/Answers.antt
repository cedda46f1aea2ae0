use Rattle.std.proofs.Common.{map, refl}
use Rattle.sync_exchange.specs.Seen.{server_bytes}
use Rattle.sync_world.proofs.Arming.{opened_server, server_kept}
use Rattle.sync_world.proofs.hub.Hub.disarm.Goals as goal

pub returns : goal.returns
returns c records is stored listed =
    let e = c.begin_anew.ensures in
    let old = c.args.self.now.server in
    let new = record old { journal = c.begin_anew.new.self } in
    let holds = e.stands (map server_bytes records) stored in
    opened_server records new _ (server_kept records old new is e.closed refl) holds (e.origin _ holds.settled.told) refl listed
