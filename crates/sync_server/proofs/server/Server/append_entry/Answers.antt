use Rattle.std.proofs.Common.{◌≡◌, ℕ, List, ◌∷◌, [], Some, None, ◌∙◌, sym, ap, subst, rules}
use Rattle.std.proofs.lemmas.Result.{err_from_is_err_and}
use Rattle.std.specs.Result.{result_err}
use Rattle.sync_journal.specs.Stands.{disk_of}
use Rattle.sync_exchange.specs.Seen.{change_seen}
use Rattle.sync_model.specs.Servers.{ServerRecord}
use Rattle.server_memory.specs.Merging.{records_of}
use Rattle.sync_server.specs.Serving.{Appends, JournalAppends}
use Rattle.sync_server.specs.declared.refusal.ServerRefusal.TheVariants as causes
use Rattle.sync_server.proofs.Appending.{appends_lost, appends_more, appends_none, appends_part}
use Rattle.sync_server.proofs.server.Server.append_entry.Goals as goal
use Rattle.sync_server.proofs.server.Server.append_entry.Goals.{then-form+in_ok-append, else-form}

pub returns-in_err-append-clause-appends : goal.returns-in_err-append-clause-appends
returns-in_err-append-clause-appends g c =
    let p = err_from_is_err_and c.from_residual.result c.from_residual.ensures.1 in
    let h = change_seen c.args.change.now in
    let old = c.args.self.now.journal in
    let new = c.append.new.self.journal in
    rw (p.1, p.2) (subst (λ f. JournalAppends (records_of f c.args.ident h) old new (Some c.in_err-append.field-0.0)) (sym c.if-form.true)
    (appends_part (ServerRecord.Form ∷ []) (ServerRecord.Entry c.args.ident h.number h.base h.ms h.body ∷ []) old new c.in_err-append.field-0.0 c.in_err-append.ensures.appends))

pub returns-in-Ok-clause-appends : goal.returns-in-Ok-clause-appends
returns-in-Ok-clause-appends g c =
    let D = g.D.Disk in
    let h = change_seen c.args.change.now in
    let old = c.args.self.now in
    let mid = c.if-form.self in
    let new = c.append-in-Ok.new.self in
    let result = c.append-in-Ok.result in
    let last = ServerRecord.Entry c.args.ident h.number h.base h.ms h.body ∷ [] in
    let one = subst (λ r. Appends (r ∷ []) mid new result) c.in-Ok.ensures c.append-in-Ok.ensures.appends in
    elim c.if-form.branch [
      | then-form+in_ok-append w ↦
          let first = subst (λ s. JournalAppends (ServerRecord.Form ∷ []) old.journal s.journal None) (sym w.self-is) w.in_ok-append.ensures.appends in
          subst (λ f. Appends (records_of f c.args.ident h) old new result) (sym w.if-form.true) (appends_more (ServerRecord.Form ∷ []) last old.journal mid.journal new.journal (result_err result) first
          (λ b told. subst (λ s. (bytes : List ℕ) × (D.content (disk_of s.journal) ≡ Some bytes)) (sym w.self-is) (w.in_ok-append.ensures.disk.told b told)) one)
      | else-form w ↦ subst (λ f. Appends (records_of f c.args.ident h) old new result) (sym w.if-form.false) (subst (λ s. Appends last s new result) w.self-is one)
    ]

pub returns-in-Err-clause-appends : goal.returns-in-Err-clause-appends
returns-in-Err-clause-appends g c =
    let h = change_seen c.args.change.now in
    let old = c.args.self.now.journal in
    let mid = c.if-form.self.journal in
    let new = c.close.new.self in
    let last = ServerRecord.Entry c.args.ident h.number h.base h.ms h.body ∷ [] in
    elim c.if-form.branch [
      | then-form+in_ok-append w ↦ subst (λ f. JournalAppends (records_of f c.args.ident h) old new (Some causes.NoMemory)) (sym w.if-form.true)
          (appends_lost (ServerRecord.Form ∷ []) last old mid new c.close.ensures.disk (subst (λ s. JournalAppends (ServerRecord.Form ∷ []) old s.journal None) (sym w.self-is) w.in_ok-append.ensures.appends))
      | else-form w ↦ appends_lost [] (records_of c.args.form c.args.ident h) old mid new c.close.ensures.disk (appends_none old mid g.met.D.Disk.only_now (ap (λ s. s.journal) w.self-is))
    ]

pub returns-in-Err-clause-disk : goal.returns-in-Err-clause-disk
returns-in-Err-clause-disk g c =
    let D = g.D.Disk in
    record {
      same_origin = search rules;
      told = λ b told. elim c.if-form.branch [
        | then-form+in_ok-append w ↦ let is = w.in_ok-append.ensures.disk.told b told in (is.0, ap D.content c.close.ensures.disk ∙ subst (λ s. D.content (disk_of s.journal) ≡ Some is.0) (sym w.self-is) is.1)
        | else-form w ↦ (b, ap D.content c.close.ensures.disk ∙ subst (λ s. D.content (disk_of s.journal) ≡ Some b) (sym w.self-is) told)
      ];
      later = search rules;
      fault = search rules;
    }
