use Rattle.std.proofs.Common.{map, refl}
use Rattle.sync_exchange.specs.Seen.{server_bytes}
use Rattle.sync_world.proofs.Arming.{armed_server, server_kept}
use Rattle.sync_world.proofs.hub.Hub.arm.Goals as goal

pub returns : goal.returns
returns c records s h =
    let e = c.arm.ensures in
    let old = c.args.self.now.server in
    let new = record old { journal = c.arm.new.self } in
    armed_server records s c.args.self.now.stop c.args.stop old new h (server_kept records old new h.server e.closed refl) (e.stands (map server_bytes records) h.stored) e.origin e.same.same_strokes c.args.stop.counted
