use Rattle.std.specs.Prelude.{◌==◌}
use Rattle.sync_exchange.specs.Seen.{message_seen}
use Rattle.sync_changed.proofs.Sparing.{message_spares}
use Rattle.sync_changed.proofs.Taking.{message_tells}
use Rattle.sync_changed.proofs.message.changed_by_message.Goals as goal

pub returns-clause-told : goal.returns-clause-told
returns-clause-told c = message_tells (λ places. places.items) (c.args.unsent == 0) (message_seen c.args.message.now) c.places_of.result c.places_of.ensures

pub returns-clause-ends : goal.returns-clause-ends
returns-clause-ends c = message_spares (λ places. places.items) c.args.unsent (message_seen c.args.message.now) c.places_of.result c.places_of.ensures
