use Rattle.std.proofs.Common.{Ok, Some, refl}
use Rattle.sync_model.specs.Worlds.{Armed, Stops, arm, server_name}
use Rattle.sync_words.specs.declared.outcome.Outcome.TheVariants as outcomes
use Rattle.sync_world.specs.Events.{leaves_seen}
use Rattle.sync_world.specs.Nodes.{stop_seen}
use Rattle.sync_world.specs.declared.world.World.{World}
use Rattle.sync_world.proofs.Happening.{said_all}
use Rattle.sync_world.proofs.Serving.{hub_armed}
use Rattle.sync_world.proofs.world.World.arm_server.Goals as goal

pub returns : goal.returns
returns c w h =
    let old = c.args.self.now in
    let s = stop_seen c.args.stop in
    let self : World = record { alloc = old.alloc; hub = c.arm.new.self; clients = old.clients; messages = old.messages; injected = old.injected } in
    said_all (record w { stops = arm server_name (Some s) w.stops }) Armed (Ok outcomes.Armed) self refl
    (record { reached = c.worlds_read_back.ensures.steps w (Stops server_name c.args.stop.at (leaves_seen c.args.stop.leaves)) h.reached; stands = hub_armed w old h.stands (Some s) self refl refl refl (c.arm.ensures w.server (w.stops server_name) h.stands.server) })
