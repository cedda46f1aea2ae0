use Rattle.sync_model.specs.Clients.{client_of, take}
use Rattle.sync_exchange.specs.Profile.{the_profile}
use Rattle.sync_exchange.specs.Seen.{message_seen}
use Rattle.sync_client.specs.Refusals.{refusal_seen}
use Rattle.sync_node.specs.Steps.{took_words}
use Rattle.sync_node.proofs.Told.{said_err, said_ok}
use Rattle.sync_node.proofs.calls.take.Goals as goal

pub returns-in-Ok-clause-done : goal.returns-in-Ok-clause-done
returns-in-Ok-clause-done g c = λ records stands.
    let did = take the_profile (client_of the_profile records) (message_seen c.args.message) in
    said_ok took_words c.args.number did records c.take.new.self c.in-Ok.cursor c.say.result (c.in-Ok.ensures.does records stands.client) (c.in-Ok.ensures.survives records stands.client stands.stored).stored
    c.say.ensures.said

pub returns-in-Err-clause-done : goal.returns-in-Err-clause-done
returns-in-Err-clause-done g c = λ records stands.
    let did = take the_profile (client_of the_profile records) (message_seen c.args.message) in
    said_err took_words c.args.number did records c.take.new.self (refusal_seen c.in-Err.refusal) c.decline.result (c.in-Err.ensures.does records stands.client) (c.in-Err.ensures.survives records stands.client stands.stored).stored c.decline.ensures.seen
