use Rattle.sync_index.specs.Filters.{spot_of}
use Rattle.sync_index.proofs.Filtered.{unmarked}
use Rattle.sync_index.proofs.filter.Filter.new.Goals as goal

pub returns : goal.returns
returns c = λ key. unmarked 256 (spot_of key)
