use Rattle.std.proofs.Common.{◌++◌, ◌∙◌, refl, ap, subst}
use Rattle.sync_io.specs.Devices.{Took, TookSome}
use Rattle.sync_io.specs.declared.status.Status.TheVariants as statuses
use Rattle.sync_node.specs.Runs.{added, is_fault}
use Rattle.sync_node.proofs.Exits.{exits_landing, exits_part}
use Rattle.sync_node.proofs.Landed.{kept_by}
use Rattle.sync_node.proofs.Runs.{is_write_fault}
use Rattle.sync_node.proofs.run.flush.Goals as goal

pub returns-in-Err-Failed-clause-err : goal.returns-in-Err-Failed-clause-err
returns-in-Err-Failed-clause-err g c = λ notes records waiting holds stands is rest first then.
    let command = c.land_records.new.self in
    exits_landing g.C.Command.bytes_of (g.C.Command.Holds command) (g.D.Disk.images (g.C.Command.disk_below command)) records waiting rest statuses.DiskFault (g.K.Sink.taken c.args.sink.now) refl first then
    (c.land_records.ensures.leaves notes records (records ++ added waiting) holds stands)

pub returns-in-Err-NoMemory-clause-err : goal.returns-in-Err-NoMemory-clause-err
returns-in-Err-NoMemory-clause-err g c = λ notes records waiting holds stands is rest first then.
    let command = c.land_records.new.self in
    exits_landing g.C.Command.bytes_of (g.C.Command.Holds command) (g.D.Disk.images (g.C.Command.disk_below command)) records waiting rest statuses.NoMemory (g.K.Sink.taken c.args.sink.now) refl first then
    (c.land_records.ensures.leaves notes records (records ++ added waiting) holds stands)

pub returns-in-Err-clause-err : goal.returns-in-Err-clause-err
returns-in-Err-clause-err g c = λ notes records waiting holds stands is rest first then.
    let command = c.land_records.new.self in
    let all = records ++ added waiting in
    let old = g.K.Sink.taken c.args.sink.now in
    let new = g.K.Sink.taken c.write_all.new.sink in
    let landed = c.in-Ok.ensures.landed notes all stands in
    exits_part g.C.Command.bytes_of (g.C.Command.Holds command) (g.D.Disk.images (g.C.Command.disk_below command)) records waiting rest c.write_status.result old new (ap is_fault c.write_status.ensures ∙ is_write_fault c.in-Err.refusal) then
    (subst (λ t. TookSome t old new) (c.deref.ensures.value ∙ is) c.in-Err.ensures.err)
    (kept_by g.D.Disk.content g.D.Disk.images g.C.Command.bytes_of all (g.C.Command.disk_below command) (g.met.C.Command.held command all landed.1))

pub returns-clause-ok : goal.returns-clause-ok
returns-clause-ok g c = λ notes records waiting stands is.
    let landed = c.in-Ok.ensures.landed notes (records ++ added waiting) stands in
    (subst (λ t. Took t (g.K.Sink.taken c.args.sink.now) (g.K.Sink.taken c.write_all.new.sink)) (c.deref.ensures.value ∙ is) c.in-Ok-write_all.ensures.ok, landed.0, landed.1)
