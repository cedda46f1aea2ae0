use Rattle.sync_model.specs.Worlds.{has_name}
use Rattle.sync_model.proofs.Lists.{seek_found}
use Rattle.sync_world.proofs.Moves.{held_at}
use Rattle.sync_world.proofs.world.World.client.Goals as goal

pub returns-in-Some-clause-some : goal.returns-in-Some-clause-some
returns-in-Some-clause-some c w h =
    let f = c.in-Some.ensures.found w h.stands in
    let here = (seek_found (has_name c.args.name.now) w.clients (c.in-Some.place, f.0) f.1).here in
    let held = held_at w.stops w.clients c.args.self.now.clients.items c.in-Some.place f.0 c.index.result.now h.stands.clients here c.index.ensures c.in-Some.ensures.within in
    record { place = c.in-Some.place; node = f.0; sought = f.1; client = held.client.client; stored = held.client.stored }
