use Rattle.std.proofs.Common.{sym}
use Rattle.sync_base.specs.Footprints.{SameAt}
use Rattle.sync_exchange.specs.Profile.{the_profile}
use Rattle.sync_exchange.specs.Seen.{message_seen}
use Rattle.sync_model.specs.Clients.{client_of, take}
use Rattle.sync_changed.specs.Ends.{SameEndsAt}
use Rattle.sync_next.proofs.Telling.{told_so}
use Rattle.sync_next.proofs.taking.take.Goals as goal

pub returns-clause-told : goal.returns-clause-told
returns-clause-told g c = λ records after was now x untold.
    told_so (λ s. SameAt s (client_of the_profile records).objects x) (take the_profile (client_of the_profile records) (message_seen c.args.message)) records after c.args.client.now c.take-answer.new.self c.take-answer.result c.objects.result.now
    (c.take-answer.ensures.does records was) was now c.take-answer.ensures.closes c.objects.ensures (c.in-Ok.ensures.told records x untold)

pub returns-clause-ends : goal.returns-clause-ends
returns-clause-ends g c = λ records after was now front back list spared.
    told_so (λ s. SameEndsAt front back list s (client_of the_profile records).objects) (take the_profile (client_of the_profile records) (message_seen c.args.message)) records after c.args.client.now c.take-answer.new.self c.take-answer.result c.objects.result.now
    (c.take-answer.ensures.does records was) was now c.take-answer.ensures.closes c.objects.ensures
    (c.in-Ok.ensures.ends records front back list (sym (c.unsent-unsent.ensures records was)) spared)
