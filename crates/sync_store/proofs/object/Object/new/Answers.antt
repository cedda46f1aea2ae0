use Rattle.sync_base.specs.Lemmas.Looks.{name_total, name_exact}
use Rattle.sync_store.proofs.Ordered.{seen_empty}
use Rattle.sync_store.proofs.object.Object.new.Goals as goal

pub returns : goal.returns
returns c = seen_empty name_total name_exact c.new.result.items c.new.ensures.items
