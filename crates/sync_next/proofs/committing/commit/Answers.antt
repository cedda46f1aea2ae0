use Rattle.sync_exchange.specs.Profile.{the_profile}
use Rattle.sync_model.specs.Clients.{client_of, commit}
use Rattle.sync_next.proofs.Acting.{never_told, unbroken}
use Rattle.sync_next.proofs.committing.commit.Goals as goal

pub returns-clause-never_breaks : goal.returns-clause-never_breaks
returns-clause-never_breaks g c = λ records after is acts.
    never_told (commit the_profile (client_of the_profile records) c.args.ms c.args.edits.items) records c.commit.new.self c.commit.result (c.commit.ensures.does records is)
    (unbroken (client_of the_profile records) c.args.ms c.args.edits.items after acts)
