use Rattle.std.proofs.Common.{Some, None, sym, ◌∙◌, subst}
use Rattle.std.proofs.lemmas.Result.{err_from_is_err_and}
use Rattle.sync_journal.proofs.Prefixes.{disk_stays}
use Rattle.server_memory.specs.Kept.{parts}
use Rattle.server_memory.specs.Retiring.{retiring}
use Rattle.sync_server.specs.Serving.{JournalAppends}
use Rattle.server_memory.proofs.Admitting.{retired_records}
use Rattle.server_memory.proofs.Keeps.{not_false}
use Rattle.sync_server.proofs.server.Server.take_retire.Goals as goal

pub returns-clause-appends : goal.returns-clause-appends
returns-clause-appends g c =
    let kept = parts c.args.self.now.kept in
    let one = sym (retired_records kept c.ident-ident.result c.by-by.result c.in-Ok.retirement (not_false c.in-Ok.retirement.is_new c.if-not-retirement.false) c.in-Ok.ensures.says) ∙ (λ i. (retiring kept (c.ident-ident.ensures.value i) (c.by-by.ensures.value i)).records) in
    subst (λ l. JournalAppends l c.args.self.now.journal c.append.new.self.journal None) one c.in_ok-append.ensures.appends

pub returns-in_err-append-clause-appends : goal.returns-in_err-append-clause-appends
returns-in_err-append-clause-appends g c =
    let p = err_from_is_err_and c.from_residual.result c.from_residual.ensures.1 in
    let kept = parts c.args.self.now.kept in
    let one = sym (retired_records kept c.ident-ident.result c.by-by.result c.in-Ok.retirement (not_false c.in-Ok.retirement.is_new c.if-not-retirement.false) c.in-Ok.ensures.says) ∙ (λ i. (retiring kept (c.ident-ident.ensures.value i) (c.by-by.ensures.value i)).records) in
    rw (p.1, p.2) (subst (λ l. JournalAppends l c.args.self.now.journal c.append.new.self.journal (Some c.in_err-append.field-0.0)) one c.in_err-append.ensures.appends)

pub returns-in-Err-retire-clause-disk : goal.returns-in-Err-retire-clause-disk
returns-in-Err-retire-clause-disk g c = disk_stays _ c.args.self.now.journal c.close.new.self (λ e. cc) c.close.ensures.disk
