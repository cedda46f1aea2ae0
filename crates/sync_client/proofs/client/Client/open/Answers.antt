use Rattle.std.proofs.Common.{false, List, ℕ, ◌≡◌, ◌∙◌, Err, ap, inr, sym, subst}
use Rattle.std.proofs.lemmas.Result.{err_from_is_err_and}
use Rattle.sync_disk.specs.Disk.{LeavesOnly}
use Rattle.sync_journal.specs.Opening.{unread_cause}
use Rattle.sync_journal.specs.Records.{records_of}
use Rattle.sync_journal.specs.Records.Reading.{Good}
use Rattle.sync_journal.proofs.Reading.{not_small}
use Rattle.sync_client.specs.Reading.{ReadsFile}
use Rattle.sync_client.proofs.BadFiles.{bad_at, some_record}
use Rattle.sync_client.proofs.client.Client.open.Goals as goal

pub returns-clause-bad : goal.returns-clause-bad
returns-clause-bad g c = λ b told place is.
    let file = c.in_ok-journal.records in
    let read = c.in-Err.ensures in
    let cause = sym c.unread.ensures.cause ∙ is in
    inr (record { file = file; holds = c.in_ok-journal.ensures.records b told; bad = bad_at file c.in-Err.why place read cause })

pub returns-clause-kept : goal.returns-clause-kept
returns-clause-kept g c = λ b told place is.
    let D = g.D.Disk in
    let file = c.in_ok-journal.records in
    let read = c.in-Err.ensures in
    let cause = sym c.unread.ensures.cause ∙ is in
    let some = some_record file place (bad_at file c.in-Err.why place read cause) in
    ap D.content c.unread.ensures.disk ∙ c.in_ok-journal.ensures.untouched b told (not_small false b file (c.in_ok-journal.ensures.records b told) some)

pub returns-clause-any_moment_err : goal.returns-clause-any_moment_err
returns-clause-any_moment_err g c = λ records b told crash.
    let D = g.D.Disk in
    let holds : List ℕ → Type 0 = λ f. records_of f ≡ Good records in
    subst (λ disk. LeavesOnly D.moment D.images_since c.args.disk disk holds) (sym c.unread.ensures.disk) (c.in_ok-journal.ensures.any_moment records b told crash)

pub returns-in_err-journal-clause-any_moment_err : goal.returns-in_err-journal-clause-any_moment_err
returns-in_err-journal-clause-any_moment_err g c = λ records b told crash.
    let p = err_from_is_err_and c.from_residual.result c.from_residual.ensures.1 in
    rw (p.1, p.2) (c.in_err-journal.ensures.any_moment_err records b told crash)
