use Rattle.sync_changed.proofs.Sparing.{edits_spare}
use Rattle.sync_changed.proofs.Taking.{edits_tell}
use Rattle.sync_changed.proofs.edits.changed_by_edits.Goals as goal

pub returns-clause-told : goal.returns-clause-told
returns-clause-told c = edits_tell (λ places. places.items) c.args.edits.now c.places_of.result c.places_of.ensures

pub returns-clause-ends : goal.returns-clause-ends
returns-clause-ends c = edits_spare (λ places. places.items) c.args.edits.now c.places_of.result c.places_of.ensures
