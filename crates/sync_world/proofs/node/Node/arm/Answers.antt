use Rattle.std.proofs.Common.{map, refl}
use Rattle.sync_exchange.specs.Seen.{client_bytes}
use Rattle.sync_world.proofs.Arming.{armed_client, client_kept}
use Rattle.sync_world.proofs.node.Node.arm.Goals as goal

pub returns-clause-client : goal.returns-clause-client
returns-clause-client c records s h =
    let e = c.arm.ensures in
    let old = c.args.self.now.client in
    let new = record old { journal = c.arm.new.self } in
    armed_client records s c.args.self.now.stop c.args.stop old new h (client_kept records old new h.client e.closed refl) (e.stands (map client_bytes records) h.stored) e.origin e.same.same_strokes c.args.stop.counted
