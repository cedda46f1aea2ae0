use Rattle.std.proofs.Common.{ℕ, Option, Ok, Some, ap, refl, subst}
use Rattle.sync_messages.specs.declared.message.Message.{Message}
use Rattle.sync_model.specs.Servers.{serve, server_of}
use Rattle.sync_model.specs.Worlds.{Replied, server_name, stopped}
use Rattle.sync_exchange.specs.Profile.{the_profile}
use Rattle.sync_exchange.specs.Seen.{message_seen}
use Rattle.sync_words.specs.declared.outcome.Outcome.TheVariants as outcomes
use Rattle.sync_world.specs.Serves.{ServeDone}
use Rattle.sync_world.proofs.Fits.{message_fits, serve_fits}
use Rattle.sync_world.proofs.Serving.{replied, server_stand_reads, stops}
use Rattle.sync_world.proofs.world.World.serve.Goals as goal

pub returns-in_ok-place-in-Ok-Some : goal.returns-in_ok-place-in-Ok-Some
returns-in_ok-place-in-Ok-Some c w s opens is reached =
    let old = c.args.self.now in
    let did = serve the_profile (server_of the_profile w.server) (message_seen c.args.message) in
    let stand = stopped (w.stops server_name) did.records in
    let fit = serve_fits (server_of the_profile w.server) (message_seen c.args.message) (message_fits c.args.message is) in
    let back = server_stand_reads w old s did fit c.worlds_read_back.ensures.server stand refl reached in
    let done = subst (λ (o : Option Message). ServeDone did w.server stand o c.take.new.self) c.in-Ok-Some.field-0-is (c.in-Ok-Some.ensures w.server (w.stops server_name) opens s.server back) in
    let outcome = outcomes.Replied c.in_ok-place-in-Ok-Some.place c.in-Ok-Some.reply in
    let text = ap (λ (n : ℕ). Some (Replied n (message_seen c.in-Ok-Some.reply))) (c.in_ok-place-in-Ok-Some.ensures.number w.messages s.messages) in
    replied w old s did fit stand c.in-Ok-Some.reply (Ok outcome) _ done refl refl (c.in_ok-place-in-Ok-Some.ensures.kept w.messages s.messages) text reached

pub returns-in-Ok-None : goal.returns-in-Ok-None
returns-in-Ok-None c w s opens is reached =
    let old = c.args.self.now in
    let did = serve the_profile (server_of the_profile w.server) (message_seen c.args.message) in
    let stand = stopped (w.stops server_name) did.records in
    let fit = serve_fits (server_of the_profile w.server) (message_seen c.args.message) (message_fits c.args.message is) in
    let back = server_stand_reads w old s did fit c.worlds_read_back.ensures.server stand refl reached in
    let done = subst (λ (o : Option Message). ServeDone did w.server stand o c.take.new.self) c.in-Ok-None.field-0-is (c.in-Ok-None.ensures w.server (w.stops server_name) opens s.server back) in
    stops w old s did fit stand refl (Ok outcomes.Stopped) _ done refl refl refl refl reached
