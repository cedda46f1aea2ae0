use Rattle.std.proofs.Common.{◌≡◌, sym, subst}
use Rattle.sync_disk.specs.Disk.{LeavesOnly}
use Rattle.sync_journal.specs.Records.{records_of}
use Rattle.sync_journal.specs.Records.Reading.{Good}
use Rattle.sync_node.proofs.showing.sort.Goals as goal

pub returns-in-Err-clause-any_moment_err : goal.returns-in-Err-clause-any_moment_err
returns-in-Err-clause-any_moment_err g c = λ records b told crash.
    subst (λ disk. LeavesOnly g.D.Disk.moment g.D.Disk.images_since c.args.disk disk (λ f. records_of f ≡ Good records)) (sym c.unopened.ensures.disk) (c.in-Err.ensures.any_moment_err records b told crash)

pub returns-in-Ok-starts_born-clause-any_moment : goal.returns-in-Ok-starts_born-clause-any_moment
returns-in-Ok-starts_born-clause-any_moment g c = λ records b told crash.
    subst (λ disk. LeavesOnly g.D.Disk.moment g.D.Disk.images_since c.args.disk disk (λ f. records_of f ≡ Good records)) (sym c.into_disk.ensures) (c.in-Ok.ensures.any_moment records b told crash)

pub returns-clause-any_moment_err : goal.returns-clause-any_moment_err
returns-clause-any_moment_err g c = λ records b told crash.
    subst (λ disk. LeavesOnly g.D.Disk.moment g.D.Disk.images_since c.args.disk disk (λ f. records_of f ≡ Good records)) (sym c.into_disk-in-Err-starts_born.ensures) (c.in-Ok.ensures.any_moment records b told crash)
