use Rattle.std.proofs.Common.{◌∙◌}
use Rattle.std.specs.FinMap as map
use Rattle.sync_store.specs.Flat.{flat, flat_empty}
use Rattle.sync_store.proofs.objects.Objects.new.Goals as goal

pub returns : goal.returns
returns c = (λ i. flat (map.from_entries (c.new-tables.ensures.empty i))) ∙ flat_empty
