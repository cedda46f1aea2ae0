use Rattle.sync_exchange.specs.Lemmas.Adapting.{lighter, same_form, same_tables}
use Rattle.sync_exchange.proofs.laws.adapted_instructions_fit.Goals as goal

pub returns : goal.returns
returns c = record { lighter = lighter; tables = same_tables; form = same_form }
