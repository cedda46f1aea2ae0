use Rattle.std.proofs.Common.{refl, ◌∙◌}
use Rattle.sync_model.specs.Clients.{upgrade}
use Rattle.sync_model.specs.Worlds.{Upgrades, has_name, upgrade_words}
use Rattle.sync_model.proofs.Lists.{seek_found}
use Rattle.sync_world.specs.Holding.{upgrade_said}
use Rattle.sync_world.proofs.Fits.{upgrade_fits}
use Rattle.sync_world.proofs.Happening.{call_happens}
use Rattle.sync_world.proofs.Moves.{held_at}
use Rattle.sync_world.proofs.world.World.upgrade.Goals as goal

pub returns-in-Ok : goal.returns-in-Ok
returns-in-Ok c w h =
    let name = c.args.name.now in
    let place = c.in-Some.place in
    let f = c.in-Some.ensures.found w h.stands in
    let here = (seek_found (has_name name) w.clients (place, f.0) f.1).here in
    let held = held_at w.stops w.clients c.args.self.now.clients.items place f.0 c.index_mut.result.now h.stands.clients here c.index_mut.ensures.value c.in-Some.ensures.within in
    call_happens w c.args.self.now h name (λ k. upgrade k) upgrade_words upgrade_said (λ v a. refl) (λ v why. refl) (λ k. upgrade_fits k)
    (c.worlds_read_back.ensures.steps w (Upgrades name) h.reached) c.worlds_read_back.ensures.client place f.0 f.1 c.in-Ok.called c.upgraded.result _ c.upgrade.new.self
    (record { clients = refl; hub = refl; messages = refl; injected = refl }) (c.in-Ok.ensures.name ∙ held.name) (λ reads. c.in-Ok.ensures.ends f.0.records (w.stops f.0.name) held.client reads) c.upgraded.ensures
