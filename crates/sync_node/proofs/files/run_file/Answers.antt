use Rattle.std.proofs.Common.{◌≡◌, ◌∙◌, ap, rules}
use Rattle.sync_disk.specs.Disk.{Rose}
use Rattle.sync_io.specs.declared.status.Status.TheVariants as statuses
use Rattle.sync_node.specs.declared.lent.Lent.{Lent}
use Rattle.sync_node.proofs.FileCommands.{does_all, lent_does}
use Rattle.sync_node.proofs.files.run_file.Goals as goal

pub returns-clause-does : goal.returns-clause-does
returns-clause-does g c =
    let D = g.D.Disk in
    let ran = c.run_over in
    lent_does (λ (l : Lent g.row.D.Denot). l.disk.now) D.content D.images D.moment D.images_since (g.S.Source.left c.args.source.now) ran.result.status c.of.result ran.result.disk _ _ _ _ c.of.ensures.same (search rules) c.args.command
    ran.ensures.does

pub returns-clause-complete : goal.returns-clause-complete
returns-clause-complete g c = λ b told file valid no_read no_write no_disk.
    let D = g.D.Disk in
    let ran = c.run_over in
    let cause : ran.result.status ≡ statuses.DiskFault → Rose (D.faults c.args.disk.now) (D.faults c.disk-1.given.0) = search rules in
    does_all (λ (l : Lent g.row.D.Denot). D.content l.disk.now) (λ (l : Lent g.row.D.Denot). D.images l.disk.now) (λ (l : Lent g.row.D.Denot). D.moment l.disk.now) (λ (l : Lent g.row.D.Denot). D.images_since l.disk.now) (g.S.Source.left c.args.source.now) ran.result.status c.of.result ran.result.disk (g.K.Sink.taken c.args.sink.now) (g.K.Sink.taken ran.new.sink) b (ap D.content c.of.ensures.same ∙ told)
    (λ is. no_read (ran.ensures.read_cause is)) (λ is. no_write (ran.ensures.write_cause is)) (λ is. no_disk (cause is))
    c.args.command ran.ensures.does ran.ensures.only file valid
