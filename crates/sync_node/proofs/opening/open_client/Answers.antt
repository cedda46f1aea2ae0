use Rattle.std.proofs.Common.{◌≡◌, sym, ap, subst, ◌∙◌}
use Rattle.sync_disk.specs.Disk.{LeavesOnly}
use Rattle.sync_journal.specs.Records.{records_of}
use Rattle.sync_journal.specs.Records.Reading.{Good}
use Rattle.sync_node.proofs.Opened.{bad_cause, bad_client, opened_client}
use Rattle.sync_node.proofs.opening.open_client.Goals as goal

pub returns-in-Ok-clause-opened : goal.returns-in-Ok-clause-opened
returns-in-Ok-clause-opened g c = λ b told. opened_client b c.in-Ok.client (c.in-Ok.ensures.opened b told)

pub returns-in-Err-clause-bad_file : goal.returns-in-Err-clause-bad_file
returns-in-Err-clause-bad_file g c = λ b told place is. bad_client b place (c.in-Err.ensures.bad b told place (bad_cause c.in-Err.refusal.cause place (sym c.unopened.ensures.status ∙ is)))

pub returns-in-Err-clause-kept : goal.returns-in-Err-clause-kept
returns-in-Err-clause-kept g c = λ b told place is. ap g.D.Disk.content c.unopened.ensures.disk ∙ c.in-Err.ensures.kept b told place (bad_cause c.in-Err.refusal.cause place (sym c.unopened.ensures.status ∙ is))

pub returns-in-Err-clause-any_moment_err : goal.returns-in-Err-clause-any_moment_err
returns-in-Err-clause-any_moment_err g c = λ records b told crash.
    subst (λ disk. LeavesOnly g.D.Disk.moment g.D.Disk.images_since c.args.disk disk (λ f. records_of f ≡ Good records)) (sym c.unopened.ensures.disk) (c.in-Err.ensures.any_moment_err records b told crash)
