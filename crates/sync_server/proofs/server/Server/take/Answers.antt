use Rattle.sync_exchange.specs.Profile.{the_profile}
use Rattle.sync_exchange.specs.Seen.{message_seen}
use Rattle.sync_model.specs.Parts.{serve_by}
use Rattle.server_memory.specs.Kept.{parts}
use Rattle.sync_server.proofs.Appending.{survives}
use Rattle.server_memory.proofs.Keeps.{on_both}
use Rattle.sync_server.proofs.Records.{did}
use Rattle.sync_server.proofs.server.Server.take.Goals as goal

pub returns-clause-does : goal.returns-clause-does
returns-clause-does g c = λ records is.
    on_both c.serve.result _ _ _ c.serve.ensures.served c.serve.ensures.stays.stays_open
    (λ reply served still. did records (message_seen c.args.message) c.args.self.now c.serve.new.self is reply served still)

pub returns-clause-survives : goal.returns-clause-survives
returns-clause-survives g c = λ records is stored. survives (serve_by the_profile (parts c.args.self.now.kept) (message_seen c.args.message)) records c.args.self.now c.serve.new.self c.serve.result c.serve.ensures.appends stored
