use Rattle.std.proofs.Common.{Err, ◌∙◌, sym, subst}
use Rattle.sync_exchange.specs.Profile.{the_profile}
use Rattle.sync_model.specs.Clients.{client_of}
use Rattle.sync_client.specs.Sending.{Sends}
use Rattle.sync_next.specs.Talks.{next_of}
use Rattle.sync_next.proofs.Talking.{refused_next}
use Rattle.sync_next.proofs.talk.Talk.next.Goals as goal

pub returns-in-Err-clause-step : goal.returns-in-Err-clause-step
returns-in-Err-clause-step g c records is =
    refused_next c.args.self.now.stale c.args.self.now c.args.self.now (client_of the_profile records) c.in-Err.refusal (sym c.is_some.ensures ∙ c.if-is_some.false)
    (subst (Sends (next_of c.args.self.now (client_of the_profile records))) c.in-Err.is (c.message.ensures records is))
