use Rattle.sync_model.specs.Clients as model
use Rattle.sync_model.specs.Worlds.{stopped}
use Rattle.sync_exchange.specs.Profile.{the_profile}
use Rattle.sync_disk.specs.contracts.memory.MemoryDiskDisk.TheImpl.{ghosts}
use Rattle.sync_world.proofs.Stops.{StopsTell}
use Rattle.sync_world.proofs.Calls.{after_call}
use Rattle.sync_world.proofs.node.Node.commit.Goals as goal

pub returns-clause-ends : goal.returns-clause-ends
returns-clause-ends c records s h reads =
    let tell : StopsTell ghosts = record { never = c.stops_tell.ensures.never; passed = c.stops_tell.ensures.passed; stopped = c.stops_tell.ensures.stopped } in
    let e = c.commit-answer.ensures in
    let did = model.commit the_profile (model.client_of the_profile records) c.args.ms c.args.edits.items in
    c.end.ensures.ends did records (stopped s did.records)
    (after_call did c.args.self.now.client c.commit-answer.new.self tell records s c.args.self.now.stop c.commit-answer.result h (e.does records h.client) (e.survives records h.client h.stored) e.disk) reads
