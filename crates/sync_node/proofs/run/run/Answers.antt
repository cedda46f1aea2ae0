use Rattle.std.proofs.Common.{◌∙◌, ap, subst, sym}
use Rattle.sync_io.specs.declared.status.Status.TheVariants as statuses
use Rattle.sync_node.specs.Runs.{ExitsTold, is_fault, noting_runs}
use Rattle.sync_node.proofs.Exits.{exits_cut_told, exits_stopped}
use Rattle.sync_node.proofs.Landed.{kept_by}
use Rattle.sync_node.proofs.Runs.{is_write_fault}
use Rattle.sync_node.proofs.Waiting.{reading_stops}
use Rattle.sync_node.proofs.run.run.Goals as goal

pub returns-in-Ok-flush-clause-exits : goal.returns-in-Ok-flush-clause-exits
returns-in-Ok-flush-clause-exits g c = λ notes records stands holds.
    let ran = c.answer_items-status in
    let last = ran.new.command in
    let old = g.K.Sink.taken c.args.sink.now in
    subst (λ new. ExitsTold g.C.Command.bytes_of (g.C.Command.Holds last) (g.D.Disk.images (g.C.Command.disk_below last)) records (noting_runs g.C.Command.step g.C.Command.noted notes records (g.I.ItemReader.items_of (g.S.Source.left c.args.source.now))) ran.result old new)
    (sym c.flush.ensures.bytes)
    (subst (λ ahead. ExitsTold g.C.Command.bytes_of (g.C.Command.Holds last) (g.D.Disk.images (g.C.Command.disk_below last)) records (noting_runs g.C.Command.step g.C.Command.noted notes records ahead) ran.result old (g.K.Sink.taken ran.new.sink))
    (c.in-Ok.ensures.ahead (g.S.Source.left c.args.source.now)) (ran.ensures.exits notes records stands holds))

pub returns-clause-exits : goal.returns-clause-exits
returns-clause-exits g c = λ notes records stands holds.
    let ran = c.answer_items-status in
    let last = ran.new.command in
    let old = g.K.Sink.taken c.args.sink.now in
    let mid = g.K.Sink.taken ran.new.sink in
    exits_cut_told g.C.Command.bytes_of (g.C.Command.Holds last) (g.D.Disk.images (g.C.Command.disk_below last)) records ran.result c.write_status.result _ old mid (g.K.Sink.taken c.flush.new.self)
    (ap is_fault c.write_status.ensures ∙ is_write_fault c.in-Err-flush.refusal) c.flush.ensures.bytes
    (subst (λ ahead. ExitsTold g.C.Command.bytes_of (g.C.Command.Holds last) (g.D.Disk.images (g.C.Command.disk_below last)) records (noting_runs g.C.Command.step g.C.Command.noted notes records ahead) ran.result old mid)
    (c.in-Ok.ensures.ahead (g.S.Source.left c.args.source.now)) (ran.ensures.exits notes records stands holds))

pub returns-in-Err-clause-exits : goal.returns-in-Err-clause-exits
returns-in-Err-clause-exits g c = λ notes records stands holds.
    let command = c.args.command.now in
    exits_stopped g.C.Command.bytes_of (g.C.Command.Holds command) (g.D.Disk.images (g.C.Command.disk_below command)) records statuses.NoMemory _ (g.K.Sink.taken c.args.sink.now)
    (reading_stops g.C.Command.step g.C.Command.noted (λ ns rs n i a e. g.met.C.Command.says ns rs n i a e) notes records statuses.NoMemory (g.I.ItemReader.items_of (g.S.Source.left c.args.source.now)) tt)
    holds (kept_by g.D.Disk.content g.D.Disk.images g.C.Command.bytes_of records (g.C.Command.disk_below command) (g.met.C.Command.held command records holds))
