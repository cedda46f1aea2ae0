use Rattle.std.proofs.Common.{◌≡◌, Option, sym, ◌∙◌, subst, rules}
use Rattle.sync_messages.specs.declared.message.Message.{Message as CodeMessage}
use Rattle.sync_model.specs.Bytes.{Name}
use Rattle.sync_model.specs.Messages.{Message}
use Rattle.sync_model.specs.Worlds.{Delivers, IsReached, delivers, happens, server_name}
use Rattle.sync_exchange.specs.Profile.{the_profile}
use Rattle.sync_world.specs.Holding.{Happens}
use Rattle.sync_world.specs.Messages.{AreSpelled, IsIt, numbered}
use Rattle.sync_world.proofs.Spelled.{message_numbered}
use Rattle.sync_world.proofs.world.World.deliver.Goals as goal

pub returns-in-Ok-Some : goal.returns-in-Ok-Some
returns-in-Ok-Some c w h =
    let n = c.args.number in
    let it = subst (λ (o : Option CodeMessage). IsIt (numbered w.messages n) o) c.in-Ok-Some.field-0-is (c.in-Ok-Some.ensures w.messages h.stands.messages) in
    let is = message_numbered w n ∙ it.0 in
    let reached = subst (λ (o : Option Message). IsReached the_profile (delivers the_profile w server_name o).world) is (c.worlds_read_back.ensures.steps w (Delivers n server_name) h.reached) in
    let served = subst (λ (o : Option Message). Happens (delivers the_profile w server_name o) c.serve.result c.serve.new.self) (sym is) (c.serve.ensures w h.stands (c.worlds_read_back.ensures.opens w h.reached) it.1 reached) in
    let same : c.args.to.now ≡ server_name = search rules in
    subst (λ (to : Name). Happens (happens the_profile w (Delivers n to)) c.serve.result c.serve.new.self) (sym same) served
