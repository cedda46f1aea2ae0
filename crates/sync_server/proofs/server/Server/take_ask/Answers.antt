use Rattle.std.proofs.Common.{◌≡◌, ◌∷◌, [], Some, None, if◌then◌else◌, sym, ap, ◌∙◌, subst}
use Rattle.std.proofs.lemmas.Result.{err_from_is_err_and}
use Rattle.std.specs.Option.{option_copied}
use Rattle.sync_data.specs.declared.instr.Instr.{Instr}
use Rattle.sync_model.specs.Parts.{Given, at_ident}
use Rattle.sync_model.specs.Servers.{ServerRecord}
use Rattle.server_memory.specs.Kept.{parts}
use Rattle.server_memory.specs.Sending.{asked}
use Rattle.sync_server.specs.Serving.{JournalAppends}
use Rattle.sync_journal.proofs.Prefixes.{disk_stays}
use Rattle.sync_server.proofs.server.Server.take_ask.Goals as goal

pub settle_at-requires : goal.settle_at-requires
settle_at-requires g c =
    subst (λ n. (x : Given Instr) × (at_ident n c.args.self.now.kept.history.idents ≡ Some x)) (sym c.ident-ident.ensures.value) (c.settles.ensures.given c.if-not-settles.false)

pub returns-clause-appends : goal.returns-clause-appends
returns-clause-appends g c =
    let kept = parts c.args.self.now.kept in
    let fresh = c.if-not-settles.false in
    let says = c.settles.ensures.says (option_copied c.args.tables) c.args.second c.in-Ok.ensures in
    let one : ServerRecord.Settled c.ident-ident.result c.settled-settled.result ∷ [] ≡ (asked kept c.args.ask.now.ident c.args.ask.now.cursor c.args.ask.now.settled (option_copied c.args.tables) c.args.second).records =
    (λ i. ServerRecord.Settled (c.ident-ident.ensures.value i) (c.settled-settled.ensures.value i) ∷ [])
    ∙ sym (says.records ∙ ap (λ b. if b then ServerRecord.Settled c.args.ask.now.ident c.args.ask.now.settled ∷ [] else []) fresh)
    in
    subst (λ l. JournalAppends l c.args.self.now.journal c.append.new.self.journal None) one c.in_ok-append.ensures.appends

pub returns-in_err-append-clause-appends : goal.returns-in_err-append-clause-appends
returns-in_err-append-clause-appends g c =
    let p = err_from_is_err_and c.from_residual.result c.from_residual.ensures.1 in
    let kept = parts c.args.self.now.kept in
    let fresh = c.if-not-settles.false in
    let says = c.settles.ensures.says (option_copied c.args.tables) c.args.second c.in-Ok.ensures in
    let one : ServerRecord.Settled c.ident-ident.result c.settled-settled.result ∷ [] ≡ (asked kept c.args.ask.now.ident c.args.ask.now.cursor c.args.ask.now.settled (option_copied c.args.tables) c.args.second).records =
    (λ i. ServerRecord.Settled (c.ident-ident.ensures.value i) (c.settled-settled.ensures.value i) ∷ [])
    ∙ sym (says.records ∙ ap (λ b. if b then ServerRecord.Settled c.args.ask.now.ident c.args.ask.now.settled ∷ [] else []) fresh)
    in
    rw (p.1, p.2) (subst (λ l. JournalAppends l c.args.self.now.journal c.append.new.self.journal (Some c.in_err-append.field-0.0)) one c.in_err-append.ensures.appends)

pub returns-in-Err-clause-disk : goal.returns-in-Err-clause-disk
returns-in-Err-clause-disk g c = disk_stays _ c.args.self.now.journal c.close.new.self (λ e. cc) c.close.ensures.disk
