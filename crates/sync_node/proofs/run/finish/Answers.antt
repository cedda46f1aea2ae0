use Rattle.std.proofs.Common.{◌++◌, refl}
use Rattle.std.specs.Option.{option_map}
use Rattle.sync_node.specs.Runs.{added, onto}
use Rattle.sync_node.proofs.Exits.{exits_stopped, exits_told, stops_behind}
use Rattle.sync_node.proofs.Landed.{kept_by}
use Rattle.sync_node.proofs.run.finish.Goals as goal

pub returns-in-Ok-clause-exits : goal.returns-in-Ok-clause-exits
returns-in-Ok-clause-exits g c = λ notes records waiting holds stands is told rest stops.
    let command = c.flush.new.command in
    let all = records ++ added waiting in
    let old = g.K.Sink.taken c.args.sink.now in
    let new = g.K.Sink.taken c.flush.new.sink in
    let did = c.in-Ok.ensures.ok notes records waiting stands is in
    exits_told g.C.Command.bytes_of (g.C.Command.Holds command) (g.D.Disk.images (g.C.Command.disk_below command)) records waiting (option_map (onto waiting) rest) rest c.args.status old new new refl did.0
    (exits_stopped g.C.Command.bytes_of (g.C.Command.Holds command) (g.D.Disk.images (g.C.Command.disk_below command)) all c.args.status rest new stops did.2
    (kept_by g.D.Disk.content g.D.Disk.images g.C.Command.bytes_of all (g.C.Command.disk_below command) (g.met.C.Command.held command all did.2)))

pub returns-in-Err-clause-exits : goal.returns-in-Err-clause-exits
returns-in-Err-clause-exits g c = λ notes records waiting holds stands is told rest stops.
    let command = c.flush.new.command in
    stops_behind g.C.Command.bytes_of (g.C.Command.Holds command) (g.D.Disk.images (g.C.Command.disk_below command)) records waiting c.in-Err.fault c.args.status (g.K.Sink.taken c.args.sink.now) (g.K.Sink.taken c.flush.new.sink)
    rest told stops (c.in-Err.ensures.err notes records waiting holds stands is)
