use Rattle.std.proofs.Common.{refl, ◌∙◌}
use Rattle.sync_model.specs.Clients.{bind, client_of}
use Rattle.sync_model.specs.Worlds.{Binds, has_name, message_words}
use Rattle.sync_model.proofs.Lists.{seek_found}
use Rattle.sync_exchange.specs.Profile.{the_profile}
use Rattle.sync_model.specs.Worlds.{IsReached}
use Rattle.sync_world.specs.Holding.{Happens}
use Rattle.sync_world.proofs.Happening.{called_one, one_called}
use Rattle.sync_world.proofs.Messaging.{bind_quiet, sends}
use Rattle.sync_world.proofs.Moves.{held_at}
use Rattle.sync_world.proofs.world.World.bind.Goals as goal

pub returns : goal.returns
returns c w h =
    let name = c.args.name.now in
    let place = c.in-Some.place in
    let f = c.in-Some.ensures.found w h.stands in
    let here = (seek_found (has_name name) w.clients (place, f.0) f.1).here in
    let held = held_at w.stops w.clients c.args.self.now.clients.items place f.0 c.index_mut.result.now h.stands.clients here c.index_mut.ensures.value c.in-Some.ensures.within in
    let e = c.bind-sent.ensures in
    let reached = called_one w name bind message_words place f.0 f.1 (λ o. IsReached the_profile o.world) (c.worlds_read_back.ensures.steps w (Binds name) h.reached) in
    one_called w name bind message_words place f.0 f.1 (λ o. Happens o c.sent.result c.sent.new.self)
    (sends w c.args.self.now h.stands place f.0 here (bind (client_of the_profile f.0.records)) (bind_quiet (client_of the_profile f.0.records)) held.client.armed.counted _ c.sent.new.self c.bind-sent.new.self c.bind-sent.result c.sent.result
    (record { clients = refl; hub = refl; messages = refl; injected = refl }) (e.name ∙ held.name) (e.client f.0.records (w.stops f.0.name) held.client) (e.sends f.0.records (w.stops f.0.name) held.client) c.sent.ensures reached)
