use Rattle.sync_base.specs.Lemmas.Looks.{name_total, name_exact}
use Rattle.sync_store.proofs.Ordered.{seen_empty}
use Rattle.sync_store.proofs.object.Object.with_room.Goals as goal

pub returns-in-Ok : goal.returns-in-Ok
returns-in-Ok c = seen_empty name_total name_exact c.in-Ok.cells.items c.in-Ok.ensures.items
