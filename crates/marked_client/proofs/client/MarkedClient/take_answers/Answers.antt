use Rattle.std.proofs.Common.{sym, subst, ◌∙◌}
use Rattle.sync_model.specs.Clients.{client_of, take}
use Rattle.sync_exchange.specs.Profile.{the_profile}
use Rattle.sync_exchange.specs.Seen.{message_seen}
use Rattle.sync_messages.specs.declared.message.Message.{Message}
use Rattle.marked_client.specs.Marked.{TookAsEver}
use Rattle.marked_client.proofs.Passing.{same_message}
use Rattle.marked_client.proofs.client.MarkedClient.take_answers.Goals as goal

pub returns-in-Message-clause-does : goal.returns-in-Message-clause-does
returns-in-Message-clause-does g c = λ records message k inner passes.
    let is = sym c.inner.ensures ∙ c.in-Message.is in
    subst (λ (m : Message). TookAsEver (take the_profile (client_of the_profile records) (message_seen m)) records c.take_message.new.self c.take_message.result)
    (same_message c.in-Message.message message (sym is ∙ inner)) (c.take_message.ensures.does records k is passes)
