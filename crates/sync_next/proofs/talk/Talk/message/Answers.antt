use Rattle.std.proofs.Common.{sym, subst}
use Rattle.sync_exchange.specs.Profile.{the_profile}
use Rattle.sync_model.specs.Clients.{client_of}
use Rattle.sync_client.specs.Sending.{Sends}
use Rattle.sync_next.proofs.Talking.{verified_next}
use Rattle.sync_next.proofs.talk.Talk.message.Goals as goal

pub returns-then-self : goal.returns-then-self
returns-then-self g c records is =
    subst (λ did. Sends did c.message_above.result) (sym (verified_next c.args.self.now (client_of the_profile records) c.if-self.true)) (c.message_above.ensures.step records is)
