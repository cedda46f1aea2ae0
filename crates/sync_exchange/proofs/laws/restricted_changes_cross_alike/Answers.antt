use Rattle.sync_subset.specs.Tables.{admits}
use Rattle.sync_exchange.specs.Lemmas.Parts.{separates}
use Rattle.sync_exchange.proofs.laws.restricted_changes_cross_alike.Goals as goal

pub returns : goal.returns
returns c = λ tables. c.restricted_lists_cross_alike.ensures (admits tables) (separates tables)
