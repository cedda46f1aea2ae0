use Rattle.std.proofs.Common.{refl, ap}
use Rattle.sync_disk.specs.Origin.{Origin}
use Rattle.sync_model.specs.Clients.{client_of, upgrade}
use Rattle.sync_exchange.specs.Profile.{the_profile}
use Rattle.sync_client.specs.Refusals.{refusal_seen}
use Rattle.sync_host.specs.Steps.{nothing}
use Rattle.sync_host.specs.declared.reply.Reply.TheVariants as replies
use Rattle.sync_client.specs.Clients.{journal_of}
use Rattle.sync_host.proofs.Said.{asked_where, said_ok, said_err}
use Rattle.sync_host.proofs.client.upgrade.Goals as goal

pub returns-in-Ok-clause-step : goal.returns-in-Ok-clause-step
returns-in-Ok-clause-step g c = λ records is.
    said_ok nothing (upgrade (client_of the_profile records)) records c.args.client.now c.upgrade.new.self c.in-Ok.field-0 replies.Done (c.in-Ok.ensures.does records is.client) (c.in-Ok.ensures.survives records is.client is.stored).stored (c.in-Ok.ensures.survives records is.client is.stored).asked refl

pub returns-in-Err-clause-step : goal.returns-in-Err-clause-step
returns-in-Err-clause-step g c = λ records is.
    said_err nothing (upgrade (client_of the_profile records)) records c.args.client.now c.upgrade.new.self (refusal_seen c.in-Err.refusal) c.decline.result (c.in-Err.ensures.does records is.client) (c.in-Err.ensures.survives records is.client is.stored).stored
    (asked_where (upgrade (client_of the_profile records)).records (journal_of c.args.client.now) (journal_of c.upgrade.new.self) c.in-Err.refusal (c.in-Err.ensures.survives records is.client is.stored).asked) c.decline.ensures

pub returns-in-Ok-clause-lasts : goal.returns-in-Ok-clause-lasts
returns-in-Ok-clause-lasts g c = λ records is. (c.in-Ok.ensures.survives records is.client is.stored).any_moment

pub returns-in-Ok-clause-begun : goal.returns-in-Ok-clause-begun
returns-in-Ok-clause-begun g c = ap (λ (o : Origin). o.start) c.in-Ok.ensures.disk.same_origin

pub returns-in-Err-clause-lasts : goal.returns-in-Err-clause-lasts
returns-in-Err-clause-lasts g c = λ records is. (c.in-Err.ensures.survives records is.client is.stored).any_moment

pub returns-in-Err-clause-begun : goal.returns-in-Err-clause-begun
returns-in-Err-clause-begun g c = ap (λ (o : Origin). o.start) c.in-Err.ensures.disk.same_origin
