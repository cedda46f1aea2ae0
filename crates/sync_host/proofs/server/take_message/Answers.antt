use Rattle.std.proofs.Common.{◌≡◌, ◌∷◌}
use Rattle.sync_model.specs.Parts.{serve_by}
use Rattle.sync_exchange.specs.Profile.{the_profile}
use Rattle.sync_exchange.specs.Seen.{message_seen}
use Rattle.sync_messages.specs.Spelling.{message_spelling}
use Rattle.server_memory.specs.Kept.{parts}
use Rattle.sync_server.specs.Serving.{kept_of}
use Rattle.sync_host.specs.Replies.{reply_bytes}
use Rattle.sync_host.specs.Steps.{DidServe}
use Rattle.sync_host.proofs.Said.{told_then}
use Rattle.sync_host.proofs.server.take_message.Goals as goal

pub returns-in-Ok-clause-step : goal.returns-in-Ok-clause-step
returns-in-Ok-clause-step g c = λ records is.
    let did = c.in-Ok.ensures.does records is.server in
    told_then c.spell.result (reply_bytes c.spell.result ≡ 0 ∷ message_spelling c.in-Ok.reply)
    (DidServe (serve_by the_profile (parts (kept_of c.args.server.now)) (message_seen c.args.message)) records c.spell.result c.args.server.now c.take.new.self)
    (λ spelled. record {
      replied = (c.in-Ok.reply, did.reply_is, spelled);
      stands = record { server = did.server; stored = (c.in-Ok.ensures.survives records is.server is.stored).stored };
      asked = (c.in-Ok.ensures.survives records is.server is.stored).asked;
    }) c.spell.ensures

pub returns-in-Ok-clause-lasts : goal.returns-in-Ok-clause-lasts
returns-in-Ok-clause-lasts g c = λ records is. (c.in-Ok.ensures.survives records is.server is.stored).any_moment
