use Rattle.std.proofs.Common.{[], refl, ◌∙◌}
use Rattle.sync_world.proofs.Arming.{opened_client}
use Rattle.sync_world.proofs.Opening.{no_records}
use Rattle.sync_world.proofs.node.Node.new.Goals as goal

pub returns-in-Ok-clause-client : goal.returns-in-Ok-clause-client
returns-in-Ok-clause-client c =
    let d = c.in_ok-empty_disk.ensures in
    let e = c.in_ok-client.ensures in
    let is = e.client [] [] d.content no_records refl in
    let stored = e.stored [] [] d.content no_records refl in
    let b = c.in-Ok.ensures in
    opened_client _ c.born.new.self _ (b.does [] is).client (b.survives [] is stored).stored (b.disk.same_origin ∙ e.origin) d.stop d.listed
