use Rattle.std.proofs.Common.{Bool, if◌then◌else◌, Ok, refl, sym, ◌∙◌, subst}
use Rattle.std.specs.Vec.{with_item}
use Rattle.sync_model.specs.Worlds.{NoNode, Opened, has_name, says}
use Rattle.sync_model.proofs.Lists.{seek_found}
use Rattle.sync_words.specs.declared.outcome.Outcome.TheVariants as outcomes
use Rattle.sync_world.specs.Holding.{Happens, HoldsNode}
use Rattle.sync_world.specs.declared.world.World.{World}
use Rattle.sync_world.proofs.Happening.{again, is_one, said_all}
use Rattle.sync_world.proofs.Moves.{each_at, held_at}
use Rattle.sync_world.proofs.world.World.restart.Goals as goal

pub returns-in-Ok : goal.returns-in-Ok
returns-in-Ok c w h =
    let old = c.args.self.now in
    let name = c.args.name.now in
    let place = c.in-Some.place in
    let f = c.in-Some.ensures.found w h.stands in
    let here = (seek_found (has_name name) w.clients (place, f.0) f.1).here in
    let held = held_at w.stops w.clients old.clients.items place f.0 c.index_mut.result.now h.stands.clients here c.index_mut.ensures.value c.in-Some.ensures.within in
    let self : World = record { alloc = old.alloc; hub = old.hub; clients = with_item old.clients place c.restart.new.self; messages = old.messages; injected = old.injected } in
    let back = c.worlds_read_back.ensures.client w place f.0 h.reached here (each_at w.clients place f.0 h.stands.clients_fit here) in
    let one : HoldsNode f.0 (w.stops f.0.name) c.restart.new.self = record { name = c.in-Ok.ensures.name ∙ held.name; client = c.in-Ok.ensures.client f.0.records (w.stops f.0.name) held.client back } in
    subst (λ (b : Bool). Happens (says w (if b then Opened else NoNode)) (Ok outcomes.Opened) self) (sym (is_one w name (place, f.0) f.1))
    (said_all w Opened (Ok outcomes.Opened) self refl
    (record { reached = h.reached; stands = again w old h.stands place f.0 here self c.restart.new.self (record { clients = refl; hub = refl; messages = refl; injected = refl }) one }))
