use Rattle.std.proofs.Common.{[], refl}
use Rattle.sync_model.specs.Each.{no_more}
use Rattle.sync_world.specs.Nodes.{ServerReadsBack}
use Rattle.sync_world.proofs.Arming.{opened_server}
use Rattle.sync_world.proofs.Opening.{no_records}
use Rattle.sync_world.proofs.hub.Hub.new.Goals as goal

pub returns : goal.returns
returns c =
    let d = c.in_ok-empty_disk.ensures in
    let e = c.in_ok-server.ensures in
    let none : ServerReadsBack [] = record { each = no_more; opens = refl } in
    opened_server [] c.in_ok-server.server _ (e.server [] [] d.content no_records none) (e.stored [] [] d.content no_records none) e.origin d.stop d.listed
