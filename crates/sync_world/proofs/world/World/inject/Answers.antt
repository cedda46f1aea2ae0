use Rattle.std.proofs.Common.{Bool, Ok, Option, if◌then◌else◌, refl, sym, ◌∙◌, ap, subst}
use Rattle.sync_messages.specs.declared.message.Message.{Message as CodeMessage}
use Rattle.sync_model.specs.Files.{server_opens}
use Rattle.sync_model.specs.Messages.{Message}
use Rattle.sync_model.specs.Servers.{no_server}
use Rattle.sync_model.specs.Worlds.{Injects, IsReached, OwnIdent, injects, named_by, says, server_called}
use Rattle.sync_exchange.specs.Profile.{the_profile}
use Rattle.sync_exchange.specs.Seen.{message_seen}
use Rattle.sync_world.specs.Holding.{Happens}
use Rattle.sync_world.specs.Messages.{IsIt}
use Rattle.sync_words.specs.Messages.{message_read}
use Rattle.sync_words.specs.declared.outcome.Outcome.TheVariants as outcomes
use Rattle.sync_world.proofs.Serving.{named_server}
use Rattle.sync_world.proofs.world.World.inject.Goals as goal

pub returns : goal.returns
returns c w h =
    let m = message_seen c.in-Ok-Some.message in
    let it = subst (λ (o : Option CodeMessage). IsIt (message_read c.bytes.result.now) o) c.in-Ok-Some.field-0-is c.in-Ok-Some.ensures in
    let is = sym (ap message_read c.bytes.ensures) ∙ it.0 in
    let open_ = c.worlds_read_back.ensures.opens w h.reached in
    let other = sym (c.names_own.ensures w h.stands open_) ∙ c.if-names_own.false in
    let opens = ap (server_opens the_profile no_server) (named_server w m) ∙ open_ in
    let reached = subst (λ (b : Bool). IsReached the_profile (if b then says w OwnIdent else server_called the_profile (named_by w m) m).world) other
    (subst (λ (o : Option Message). IsReached the_profile (injects the_profile w o).world) is (c.worlds_read_back.ensures.steps w (Injects (message_read c.args.bytes.now)) h.reached)) in
    subst (λ (o : Option Message). Happens (injects the_profile w o) c.serve.result c.serve.new.self) (sym is)
    (subst (λ (b : Bool). Happens (if b then says w OwnIdent else server_called the_profile (named_by w m) m) c.serve.result c.serve.new.self) (sym other)
    (c.serve.ensures (named_by w m) (c.in-Ok.ensures w h.stands) opens it.1 reached))

pub returns-then-names_own : goal.returns-then-names_own
returns-then-names_own c w h =
    let self = c.args.self.now in
    let m = message_seen c.in-Ok-Some.message in
    let it = subst (λ (o : Option CodeMessage). IsIt (message_read c.bytes.result.now) o) c.in-Ok-Some.field-0-is c.in-Ok-Some.ensures in
    let is = sym (ap message_read c.bytes.ensures) ∙ it.0 in
    let own = sym (c.names_own.ensures w h.stands (c.worlds_read_back.ensures.opens w h.reached)) ∙ c.if-names_own.true in
    subst (λ (o : Option Message). Happens (injects the_profile w o) (Ok outcomes.OwnIdent) self) (sym is)
    (subst (λ (b : Bool). Happens (if b then says w OwnIdent else server_called the_profile (named_by w m) m) (Ok outcomes.OwnIdent) self) (sym own) (refl, h))
