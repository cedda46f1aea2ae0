use Rattle.sync_model.specs.Parts.{serve_by}
use Rattle.sync_exchange.specs.Profile.{the_profile}
use Rattle.sync_exchange.specs.Seen.{message_seen}
use Rattle.server_memory.specs.Kept.{parts}
use Rattle.sync_server.specs.Serving.{kept_of}
use Rattle.sync_node.proofs.Told.{replied_ok}
use Rattle.sync_node.proofs.waiter.reply.Goals as goal

pub returns-in-Ok-frame_of-clause-done : goal.returns-in-Ok-frame_of-clause-done
returns-in-Ok-frame_of-clause-done g c = λ records stands.
    replied_ok (serve_by the_profile (parts (kept_of c.args.server.now)) (message_seen c.args.message)) records c.take.new.self c.in-Ok.reply c.in-Ok-frame_of.frame.items
    (c.in-Ok.ensures.does records stands.server) (c.in-Ok.ensures.survives records stands.server stands.stored).stored c.in-Ok-frame_of.ensures
