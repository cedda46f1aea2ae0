use Rattle.std.proofs.Common.{Ok, refl}
use Rattle.sync_model.specs.Worlds.{Opened, server_name}
use Rattle.sync_words.specs.declared.outcome.Outcome.TheVariants as outcomes
use Rattle.sync_world.specs.declared.world.World.{World}
use Rattle.sync_world.proofs.Happening.{said_all}
use Rattle.sync_world.proofs.world.World.restart_server.Goals as goal

pub returns-in-Ok : goal.returns-in-Ok
returns-in-Ok c w h =
    let old = c.args.self.now in
    let s = h.stands in
    let self : World = record { alloc = old.alloc; hub = c.restart.new.self; clients = old.clients; messages = old.messages; injected = old.injected } in
    let again = c.in-Ok.ensures w.server (w.stops server_name) s.server (c.worlds_read_back.ensures.server w h.reached s.server_fits) in
    said_all w Opened (Ok outcomes.Opened) self refl
    (record {
      reached = h.reached;
      stands = record { server = again; clients = s.clients; named = s.named; server_fits = s.server_fits; clients_fit = s.clients_fit; messages = s.messages; injected = s.injected; unarmed = s.unarmed };
    })
