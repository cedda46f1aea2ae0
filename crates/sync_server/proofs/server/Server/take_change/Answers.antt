use Rattle.std.proofs.Common.{◌≡◌, ◌<◌, length, None, Some, Err, refl, sym, ap, ◌∙◌, subst, arith}
use Rattle.std.proofs.lemmas.Result.{err_from_is_err_and}
use Rattle.std.proofs.lemmas.Bool.{lt-leb}
use Rattle.sync_data.specs.declared.instr.Instr.{Instr}
use Rattle.sync_base.specs.States.{State}
use Rattle.sync_exchange.specs.Seen.{change_seen}
use Rattle.sync_exchange.specs.Profile.{the_profile}
use Rattle.sync_model.specs.Messages.{Change}
use Rattle.sync_model.specs.Parts.{Parts, merge_by}
use Rattle.server_memory.specs.Kept.{parts}
use Rattle.server_memory.specs.Merging.{Merges, change_of, records_of}
use Rattle.server_memory.specs.Refusals.{refusal_seen}
use Rattle.sync_server.specs.Serving.{JournalAppends}
use Rattle.server_memory.specs.declared.kept.Kept.{Kept}
use Rattle.sync_server.proofs.Appending.{appends_none}
use Rattle.server_memory.proofs.Keeps.{the_same}
use Rattle.sync_server.proofs.Uploading.{is_taken, merged_change, refused_change}
use Rattle.sync_server.proofs.server.Server.take_change.Goals as goal

pub merge-requires-clause-fresh : goal.merge-requires-clause-fresh
merge-requires-clause-fresh g c =
    let d = c.requires.given in
    let same : c.in-Some.given.now ≡ d.0 = the_same (c.in-Some.ensures.given ∙ d.1) in
    let head : change_of c.of-head.result c.body.result.now ≡ change_seen c.args.change.now = λ i. change_of (c.of-head.ensures i) (c.body.ensures.value i) in
    record {
      given = d.0;
      is_given = d.1;
      above = omega (arith, c.count.ensures, ap (λ g. g.count) same, c.number.ensures.value, ap (λ (h : Change). h.number) head, c.if-number-count.false);
    }

-- where it is refused
pub returns-in-Err-Refused-clause-taken : goal.returns-in-Err-Refused-clause-taken
returns-in-Err-Refused-clause-taken g c = λ d is.
    let old = c.args.self.now.kept in
    let ident = c.args.ident in
    let h = change_seen c.args.change.now in
    let k = change_of c.of-head.result c.body.result.now in
    let why = c.in-Err-Refused.why in
    let same : c.in-Some.given.now ≡ d = the_same (c.in-Some.ensures.given ∙ is) in
    let above : d.count < h.number = omega (arith, c.count.ensures, ap (λ g. g.count) same, c.number.ensures.value, c.if-number-count.false) in
    let both = subst (λ e. Merges (Err e) (merge_by the_profile (parts old) ident d k) ident k (parts old) (parts c.merge.new.self)) c.in-Err-Refused.field-0-is (c.in-Err-Refused.ensures.merged d is) in
    let refused = refused_change old ident d h k above (λ i. change_of (c.of-head.ensures i) (c.body.ensures.value i)) (refusal_seen why) both.0 in
    is_taken (Some why) ident d h old c.merge.new.self (lt-leb h.number d.count above) (refused.0, both.1)

pub returns-in-Err-Refused-clause-appends : goal.returns-in-Err-Refused-clause-appends
returns-in-Err-Refused-clause-appends g c = λ d is.
    let self = c.args.self.now in
    let old = self.kept in
    let ident = c.args.ident in
    let h = change_seen c.args.change.now in
    let k = change_of c.of-head.result c.body.result.now in
    let same : c.in-Some.given.now ≡ d = the_same (c.in-Some.ensures.given ∙ is) in
    let above : d.count < h.number = omega (arith, c.count.ensures, ap (λ g. g.count) same, c.number.ensures.value, c.if-number-count.false) in
    let both = subst (λ e. Merges (Err e) (merge_by the_profile (parts old) ident d k) ident k (parts old) (parts c.merge.new.self)) c.in-Err-Refused.field-0-is (c.in-Err-Refused.ensures.merged d is) in
    let refused = refused_change old ident d h k above (λ i. change_of (c.of-head.ensures i) (c.body.ensures.value i)) (refusal_seen c.in-Err-Refused.why) both.0 in
    subst (λ l. JournalAppends l self.journal self.journal None) (sym refused.1) (appends_none self.journal self.journal g.met.D.Disk.only_now refl)

pub returns-in-Err-Refused-clause-given : goal.returns-in-Err-Refused-clause-given
returns-in-Err-Refused-clause-given g c =
    let old = c.args.self.now.kept in
    let ident = c.args.ident in
    let d = c.requires.given in
    let k = change_of c.of-head.result c.body.result.now in
    let both = subst (λ e. Merges (Err e) (merge_by the_profile (parts old) ident d.0 k) ident k (parts old) (parts c.merge.new.self)) c.in-Err-Refused.field-0-is (c.in-Err-Refused.ensures.merged d.0 d.1) in
    ap (λ (p : Parts Instr State). length p.idents) both.1

-- where it is merged
pub returns-clause-taken : goal.returns-clause-taken
returns-clause-taken g c = λ d is.
    let old = c.args.self.now.kept in
    let ident = c.args.ident in
    let h = change_seen c.args.change.now in
    let k = change_of c.of-head.result c.body.result.now in
    let same : c.in-Some.given.now ≡ d = the_same (c.in-Some.ensures.given ∙ is) in
    let above : d.count < h.number = omega (arith, c.count.ensures, ap (λ g. g.count) same, c.number.ensures.value, c.if-number-count.false) in
    let merged = merged_change old ident d h k above (λ i. change_of (c.of-head.ensures i) (c.body.ensures.value i)) c.in-Ok.form (parts c.merge.new.self) (c.in-Ok.ensures.merged d is) in
    is_taken None ident d h old c.append_entry.new.self.kept (lt-leb h.number d.count above)
    (record { records = records_of c.in-Ok.form ident h; parts = parts c.merge.new.self }, merged.0, ap parts c.append_entry.ensures.kept)

pub returns-clause-appends : goal.returns-clause-appends
returns-clause-appends g c = λ d is.
    let old = c.args.self.now.kept in
    let ident = c.args.ident in
    let h = change_seen c.args.change.now in
    let k = change_of c.of-head.result c.body.result.now in
    let same : c.in-Some.given.now ≡ d = the_same (c.in-Some.ensures.given ∙ is) in
    let above : d.count < h.number = omega (arith, c.count.ensures, ap (λ g. g.count) same, c.number.ensures.value, c.if-number-count.false) in
    let merged = merged_change old ident d h k above (λ i. change_of (c.of-head.ensures i) (c.body.ensures.value i)) c.in-Ok.form (parts c.merge.new.self) (c.in-Ok.ensures.merged d is) in
    subst (λ l. JournalAppends l c.args.self.now.journal c.append_entry.new.self.journal None) (sym merged.1) c.in_ok-append_entry.ensures.appends

pub returns-clause-given : goal.returns-clause-given
returns-clause-given g c = ap (λ (k : Kept). length k.history.idents) c.append_entry.ensures.kept ∙ c.in-Ok.ensures.given

-- where its record isn't added
pub returns-in_err-append_entry-clause-appends : goal.returns-in_err-append_entry-clause-appends
returns-in_err-append_entry-clause-appends g c = λ d is.
    let p = err_from_is_err_and c.from_residual.result c.from_residual.ensures.1 in
    let old = c.args.self.now.kept in
    let ident = c.args.ident in
    let h = change_seen c.args.change.now in
    let k = change_of c.of-head.result c.body.result.now in
    let same : c.in-Some.given.now ≡ d = the_same (c.in-Some.ensures.given ∙ is) in
    let above : d.count < h.number = omega (arith, c.count.ensures, ap (λ g. g.count) same, c.number.ensures.value, c.if-number-count.false) in
    let merged = merged_change old ident d h k above (λ i. change_of (c.of-head.ensures i) (c.body.ensures.value i)) c.in-Ok.form (parts c.merge.new.self) (c.in-Ok.ensures.merged d is) in
    rw (p.1, p.2) (subst (λ l. JournalAppends l c.args.self.now.journal c.append_entry.new.self.journal (Some c.in_err-append_entry.field-0.0)) (sym merged.1) c.in_err-append_entry.ensures.appends)
