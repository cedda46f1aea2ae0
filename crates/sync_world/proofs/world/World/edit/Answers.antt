use Rattle.std.proofs.Common.{Ok, refl, ◌∙◌, subst, arith}
use Rattle.sync_model.specs.Clients.{commit}
use Rattle.sync_model.specs.Worlds.{Edits, Made, client_calls, has_name, made_words}
use Rattle.sync_model.proofs.Lists.{seek_found}
use Rattle.sync_exchange.specs.Profile.{the_profile}
use Rattle.sync_world.specs.Holding.{Happens}
use Rattle.sync_world.proofs.Fits.{commit_fits}
use Rattle.sync_world.proofs.Happening.{call_happens}
use Rattle.sync_world.proofs.Moves.{held_at}
use Rattle.std.specs.Vec.{with_item}
use Rattle.sync_world.specs.declared.world.World.{World}
use Rattle.sync_world.proofs.world.World.edit.Goals as goal

pub returns-in-Ok : goal.returns-in-Ok
returns-in-Ok c w h =
    let name = c.args.name.now in
    let place = c.in-Some.place in
    let edits = c.into_vec.result.items in
    let f = c.in-Some.ensures.found w h.stands in
    let here = (seek_found (has_name name) w.clients (place, f.0) f.1).here in
    let held = held_at w.stops w.clients c.args.self.now.clients.items place f.0 c.index_mut.result.now h.stands.clients here c.index_mut.ensures.value c.in-Some.ensures.within in
    let new : World = record { alloc = c.args.self.now.alloc; hub = c.args.self.now.hub; clients = with_item c.args.self.now.clients place c.commit.new.self; messages = c.args.self.now.messages; injected = c.args.self.now.injected } in
    subst (λ es. Happens (client_calls the_profile w name (λ k. commit the_profile k c.args.ms es) made_words) (Ok c.made.result) new) c.into_vec.ensures
    (call_happens w c.args.self.now h name (λ k. commit the_profile k c.args.ms edits) made_words (λ n. Made n) (λ v a. refl) (λ v why. refl) (λ k. commit_fits k c.args.ms edits (omega (arith, c.ranges.ms.fits)))
    (c.worlds_read_back.ensures.steps w (Edits name c.args.ms edits) h.reached) c.worlds_read_back.ensures.client place f.0 f.1 c.in-Ok.called c.made.result new c.commit.new.self
    (record { clients = refl; hub = refl; messages = refl; injected = refl }) (c.in-Ok.ensures.name ∙ held.name) (λ reads. c.in-Ok.ensures.ends f.0.records (w.stops f.0.name) held.client reads) c.made.ensures)
