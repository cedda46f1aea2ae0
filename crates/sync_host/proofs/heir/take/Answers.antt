use Rattle.std.proofs.Common.{ap}
use Rattle.sync_disk.specs.Origin.{Origin}
use Rattle.sync_heir.specs.Heirs.{heir_seen, heir_step, reset_seen}
use Rattle.sync_host.proofs.Inheriting.{heir_err, heir_ok, reset_asked}
use Rattle.sync_host.proofs.heir.take.Goals as goal

pub returns-in-Ok-clause-step : goal.returns-in-Ok-clause-step
returns-in-Ok-clause-step g c = λ records is.
    heir_ok (heir_step records c.args.retired.now c.args.change.now) records c.args.client.now c.heir.new.client (heir_seen c.in-Ok.answer) c.tell.result (c.in-Ok.ensures.does records is.client) (c.in-Ok.ensures.survives records is.client is.stored).stored
    (c.in-Ok.ensures.survives records is.client is.stored).asked c.tell.ensures

pub returns-in-Err-clause-step : goal.returns-in-Err-clause-step
returns-in-Err-clause-step g c = λ records is. let did = heir_step records c.args.retired.now c.args.change.now in
    heir_err did records c.args.client.now c.heir.new.client (reset_seen c.in-Err.refusal) c.decline_reset.result (c.in-Err.ensures.does records is.client) (c.in-Err.ensures.survives records is.client is.stored).stored
    (reset_asked did records c.args.client.now c.heir.new.client c.in-Err.refusal (c.in-Err.ensures.survives records is.client is.stored).asked) c.decline_reset.ensures

pub returns-in-Ok-clause-lasts : goal.returns-in-Ok-clause-lasts
returns-in-Ok-clause-lasts g c = λ records is. (c.in-Ok.ensures.survives records is.client is.stored).any_moment

pub returns-in-Err-clause-lasts : goal.returns-in-Err-clause-lasts
returns-in-Err-clause-lasts g c = λ records is. (c.in-Err.ensures.survives records is.client is.stored).any_moment

pub returns-in-Ok-clause-begun : goal.returns-in-Ok-clause-begun
returns-in-Ok-clause-begun g c = ap (λ (o : Origin). o.start) c.in-Ok.ensures.disk.same_origin

pub returns-in-Err-clause-begun : goal.returns-in-Err-clause-begun
returns-in-Err-clause-begun g c = ap (λ (o : Origin). o.start) c.in-Err.ensures.disk.same_origin
