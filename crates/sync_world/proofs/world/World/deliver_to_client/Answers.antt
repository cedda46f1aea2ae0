use Rattle.std.proofs.Common.{◌≡◌, Bool, Option, Ok, if◌then◌else◌, refl, sym, ◌∙◌, ap, subst}
use Rattle.std.specs.Vec.{with_item}
use Rattle.sync_messages.specs.declared.message.Message.{Message as CodeMessage}
use Rattle.sync_model.specs.Clients.{take as take_message}
use Rattle.sync_model.specs.Worlds.{Delivers, IsReached, NoNode, Outcome, Took, client_calls, delivers, has_name, is_node, message_at, says, server_called, took_words}
use Rattle.sync_model.proofs.Lists.{seek_found}
use Rattle.sync_exchange.specs.Profile.{the_profile}
use Rattle.sync_exchange.specs.Seen.{message_seen}
use Rattle.sync_world.specs.Holding.{Happens}
use Rattle.sync_world.specs.Messages.{AreSpelled, IsIt, numbered}
use Rattle.sync_world.specs.declared.world.World.{World}
use Rattle.sync_world.proofs.Fits.{message_fits, take_fits}
use Rattle.sync_world.proofs.Happening.{call_happens, is_one}
use Rattle.sync_world.proofs.Moves.{held_at}
use Rattle.sync_world.proofs.Spelled.{message_numbered}
use Rattle.sync_world.proofs.world.World.deliver_to_client.Goals as goal

pub returns-in-Ok : goal.returns-in-Ok
returns-in-Ok c w h other =
    let old = c.args.self.now in
    let n = c.args.number in
    let to = c.args.to.now in
    let place = c.in-Some.place in
    let m = message_seen c.in-Ok-Some.message in
    let it = subst (λ (o : Option CodeMessage). IsIt (numbered w.messages n) o) c.in-Ok-Some.field-0-is (c.in-Ok-Some.ensures w.messages h.stands.messages) in
    let f = c.in-Some.ensures.found w h.stands in
    let here = (seek_found (has_name to) w.clients (place, f.0) f.1).here in
    let held = held_at w.stops w.clients old.clients.items place f.0 c.index_mut.result.now h.stands.clients here c.index_mut.ensures.value c.in-Some.ensures.within in
    let self : World = record { alloc = old.alloc; hub = old.hub; clients = with_item old.clients place c.take.new.self; messages = old.messages; injected = old.injected } in
    let calls = client_calls the_profile w to (λ k. take_message the_profile k m) took_words in
    let is : (if is_node w to then delivers the_profile w to (message_at w n) else says w NoNode) ≡ calls =
    ap (λ (b : Bool). if b then delivers the_profile w to (message_at w n) else says w NoNode) (is_one w to (place, f.0) f.1)
    ∙ ap (delivers the_profile w to) (message_numbered w n ∙ it.0)
    ∙ ap (λ (b : Bool). if b then server_called the_profile w m else calls) other in
    let reached = subst (λ (o : Outcome). IsReached the_profile o.world) is (c.worlds_read_back.ensures.steps w (Delivers n to) h.reached) in
    subst (λ (o : Outcome). Happens o (Ok c.took.result) self) (sym is)
    (call_happens w old h to (λ k. take_message the_profile k m) took_words (λ k. Took k) (λ v a. refl) (λ v why. refl) (λ k. take_fits k m (message_fits c.in-Ok-Some.message it.1)) reached c.worlds_read_back.ensures.client place f.0 f.1
    c.in-Ok.called c.took.result self c.take.new.self (record { clients = refl; hub = refl; messages = refl; injected = refl }) (c.in-Ok.ensures.name ∙ held.name) (λ reads. c.in-Ok.ensures.ends f.0.records (w.stops f.0.name) held.client reads) c.took.ensures)
