use Rattle.std.proofs.Common.{◌+◌, map, drop, Some, None, refl, ap, ◌∙◌, subst, arith}
use Rattle.sync_data.specs.declared.instr.Instr.{Instr}
use Rattle.sync_base.specs.States.{State}
use Rattle.sync_exchange.specs.Profile.{the_profile}
use Rattle.sync_exchange.specs.Seen.{change_seen}
use Rattle.sync_model.specs.Messages.{Message}
use Rattle.sync_model.specs.Parts.{Served, at_ident, upload_by}
use Rattle.sync_messages.specs.declared.message.Message.TheVariants as CodeMessage
use Rattle.server_memory.specs.Kept.{parts}
use Rattle.server_memory.specs.Refusals.{refusal_seen}
use Rattle.server_memory.specs.Sending.{refusal_message}
use Rattle.sync_server.specs.Serving.{IsServed, IsTaken, JournalAppends, UploadedSoFar}
use Rattle.server_memory.proofs.Keeps.{the_same}
use Rattle.server_memory.proofs.Sending.{copied_some}
use Rattle.sync_server.proofs.Uploading.{at_given, begins, ends, fails, goes_on, left_at, none_left, some_within, stops}
use Rattle.sync_server.proofs.server.Server.take_upload.Goals as goal

pub loop-change-init : goal.loop-change-init
loop-change-init g c =
    record {
      is_open = c.requires;
      given = refl;
      so_far = begins c.ident-ident.result c.args.self.now (map change_seen c.changes-change-items.result.now) g.met.D.Disk.only_now;
      origin = refl;
      later = omega arith;
    }

pub take_change-requires-clause-given : goal.take_change-requires-clause-given
take_change-requires-clause-given g c =
    let ident = c.ident-ident.result in
    let old = c.args.self.now.kept.history.idents in
    let there = some_within ident old (at_ident ident old) refl (copied_some c.at.result (at_ident ident old) c.is_none.result c.at.ensures.given c.is_none.ensures c.if-is_none.false) in
    at_given ident c.loop-change.self.kept.history.idents c.ident-ident.ensures.named (omega (arith, there, c.loop-change.invariant.given))

pub loop-change-preserved : goal.loop-change-preserved
loop-change-preserved g c =
    let ident = c.ident-ident.result in
    let items = c.changes-change-items.result.now in
    let i = c.loop-change.change-index in
    let h = c.change-item.result in
    let all = map change_seen items in
    let rest = map change_seen (drop (i + 1) items) in
    let old = c.args.self.now in
    let now = c.loop-change.self in
    let new = c.take_change.new.self in
    let idents = old.kept.history.idents in
    let there = some_within ident idents (at_ident ident idents) refl (copied_some c.at.result (at_ident ident idents) c.is_none.result c.at.ensures.given c.is_none.ensures c.if-is_none.false) in
    let given = at_given ident now.kept.history.idents c.ident-ident.ensures.named (omega (arith, there, c.loop-change.invariant.given)) in
    let left = left_at items i h c.loop-change-test.true c.change-item.is in
    let so = subst (λ l. UploadedSoFar ident old now all l) left c.loop-change.invariant.so_far in
    let taken = subst (λ w. IsTaken w ident given.0 (change_seen h) now.kept new.kept) c.in-Ok-None.field-0-is (c.in-Ok-None.ensures.taken given.0 given.1) in
    record {
      is_open = c.in-Ok-None.ensures.stays.stays_open;
      given = c.in-Ok-None.ensures.given ∙ c.loop-change.invariant.given;
      so_far = goes_on ident old now new all rest (change_seen h) given.0 given.1 so taken (c.in-Ok-None.ensures.appends given.0 given.1) c.in-Ok-None.ensures.disk.told;
      origin = c.in-Ok-None.ensures.disk.same_origin ∙ c.loop-change.invariant.origin;
      later = omega (arith, c.loop-change.invariant.later, c.in-Ok-None.ensures.disk.later);
    }

pub returns-in-Ok-Some-clause-served : goal.returns-in-Ok-Some-clause-served
returns-in-Ok-Some-clause-served g c =
    let ident = c.ident-ident.result in
    let items = c.changes-change-items.result.now in
    let i = c.loop-change.change-index in
    let h = c.change-item.result in
    let all = map change_seen items in
    let rest = map change_seen (drop (i + 1) items) in
    let old = c.args.self.now in
    let now = c.loop-change.self in
    let new = c.take_change.new.self in
    let idents = old.kept.history.idents in
    let there = some_within ident idents (at_ident ident idents) refl (copied_some c.at.result (at_ident ident idents) c.is_none.result c.at.ensures.given c.is_none.ensures c.if-is_none.false) in
    let given = at_given ident now.kept.history.idents c.ident-ident.ensures.named (omega (arith, there, c.loop-change.invariant.given)) in
    let left = left_at items i h c.loop-change-test.true c.change-item.is in
    let so = subst (λ l. UploadedSoFar ident old now all l) left c.loop-change.invariant.so_far in
    let taken = subst (λ w. IsTaken w ident given.0 (change_seen h) now.kept new.kept) c.in-Ok-Some.field-0-is (c.in-Ok-Some.ensures.taken given.0 given.1) in
    let reply = c.refuse-in-Ok-Some.ensures ∙ ap (λ n. refusal_message ident n (refusal_seen c.in-Ok-Some.why)) c.number.ensures.value in
    let done = stops ident old now new all rest (change_seen h) given.0 c.in-Ok-Some.why c.refuse-in-Ok-Some.result given.1 so taken (c.in-Ok-Some.ensures.appends given.0 given.1) reply in
    let P : Served Instr State → Type 0 = λ s. IsServed s c.refuse-in-Ok-Some.result new.kept in
    subst P (λ k. upload_by the_profile (parts old.kept) (c.ident-ident.ensures.value k) (at_ident (c.ident-ident.ensures.value k) idents) (map change_seen (c.changes-change-items.ensures.value k))) done.served

pub returns-in-Ok-Some-clause-appends : goal.returns-in-Ok-Some-clause-appends
returns-in-Ok-Some-clause-appends g c =
    let ident = c.ident-ident.result in
    let items = c.changes-change-items.result.now in
    let i = c.loop-change.change-index in
    let h = c.change-item.result in
    let all = map change_seen items in
    let rest = map change_seen (drop (i + 1) items) in
    let old = c.args.self.now in
    let now = c.loop-change.self in
    let new = c.take_change.new.self in
    let idents = old.kept.history.idents in
    let there = some_within ident idents (at_ident ident idents) refl (copied_some c.at.result (at_ident ident idents) c.is_none.result c.at.ensures.given c.is_none.ensures c.if-is_none.false) in
    let given = at_given ident now.kept.history.idents c.ident-ident.ensures.named (omega (arith, there, c.loop-change.invariant.given)) in
    let left = left_at items i h c.loop-change-test.true c.change-item.is in
    let so = subst (λ l. UploadedSoFar ident old now all l) left c.loop-change.invariant.so_far in
    let taken = subst (λ w. IsTaken w ident given.0 (change_seen h) now.kept new.kept) c.in-Ok-Some.field-0-is (c.in-Ok-Some.ensures.taken given.0 given.1) in
    let reply = c.refuse-in-Ok-Some.ensures ∙ ap (λ n. refusal_message ident n (refusal_seen c.in-Ok-Some.why)) c.number.ensures.value in
    let done = stops ident old now new all rest (change_seen h) given.0 c.in-Ok-Some.why c.refuse-in-Ok-Some.result given.1 so taken (c.in-Ok-Some.ensures.appends given.0 given.1) reply in
    let P : Served Instr State → Type 0 = λ s. JournalAppends s.records old.journal new.journal None in
    subst P (λ k. upload_by the_profile (parts old.kept) (c.ident-ident.ensures.value k) (at_ident (c.ident-ident.ensures.value k) idents) (map change_seen (c.changes-change-items.ensures.value k))) done.appends

pub returns-clause-served : goal.returns-clause-served
returns-clause-served g c =
    let ident = c.ident-ident.result in
    let items = c.changes-change-items.result.now in
    let all = map change_seen items in
    let old = c.args.self.now in
    let now = c.loop-change.self in
    let idents = old.kept.history.idents in
    let there = some_within ident idents (at_ident ident idents) refl (copied_some c.at.result (at_ident ident idents) c.is_none.result c.at.ensures.given c.is_none.ensures c.if-is_none.false) in
    let given = at_given ident now.kept.history.idents c.ident-ident.ensures.named (omega (arith, there, c.loop-change.invariant.given)) in
    let so = subst (λ l. UploadedSoFar ident old now all l) (none_left items c.loop-change.change-index c.loop-change-test.false) c.loop-change.invariant.so_far in
    let reply = ap (λ s. Message.Stored s.ident s.number) c.new.ensures ∙ ap (λ n. Message.Stored ident n) (c.count.ensures ∙ ap (λ g. g.count) (the_same (c.in-Some.ensures.given ∙ given.1))) in
    let done = ends ident old now all given.0 (CodeMessage.Stored c.new.result) given.1 so reply in
    let P : Served Instr State → Type 0 = λ s. IsServed s (CodeMessage.Stored c.new.result) now.kept in
    subst P (λ k. upload_by the_profile (parts old.kept) (c.ident-ident.ensures.value k) (at_ident (c.ident-ident.ensures.value k) idents) (map change_seen (c.changes-change-items.ensures.value k))) done.served

pub returns-clause-appends : goal.returns-clause-appends
returns-clause-appends g c =
    let ident = c.ident-ident.result in
    let items = c.changes-change-items.result.now in
    let all = map change_seen items in
    let old = c.args.self.now in
    let now = c.loop-change.self in
    let idents = old.kept.history.idents in
    let there = some_within ident idents (at_ident ident idents) refl (copied_some c.at.result (at_ident ident idents) c.is_none.result c.at.ensures.given c.is_none.ensures c.if-is_none.false) in
    let given = at_given ident now.kept.history.idents c.ident-ident.ensures.named (omega (arith, there, c.loop-change.invariant.given)) in
    let so = subst (λ l. UploadedSoFar ident old now all l) (none_left items c.loop-change.change-index c.loop-change-test.false) c.loop-change.invariant.so_far in
    let reply = ap (λ s. Message.Stored s.ident s.number) c.new.ensures ∙ ap (λ n. Message.Stored ident n) (c.count.ensures ∙ ap (λ g. g.count) (the_same (c.in-Some.ensures.given ∙ given.1))) in
    let done = ends ident old now all given.0 (CodeMessage.Stored c.new.result) given.1 so reply in
    let P : Served Instr State → Type 0 = λ s. JournalAppends s.records old.journal now.journal None in
    subst P (λ k. upload_by the_profile (parts old.kept) (c.ident-ident.ensures.value k) (at_ident (c.ident-ident.ensures.value k) idents) (map change_seen (c.changes-change-items.ensures.value k))) done.appends

pub returns-in-Err-clause-appends : goal.returns-in-Err-clause-appends
returns-in-Err-clause-appends g c =
    let ident = c.ident-ident.result in
    let items = c.changes-change-items.result.now in
    let i = c.loop-change.change-index in
    let h = c.change-item.result in
    let all = map change_seen items in
    let rest = map change_seen (drop (i + 1) items) in
    let old = c.args.self.now in
    let now = c.loop-change.self in
    let new = c.take_change.new.self in
    let idents = old.kept.history.idents in
    let there = some_within ident idents (at_ident ident idents) refl (copied_some c.at.result (at_ident ident idents) c.is_none.result c.at.ensures.given c.is_none.ensures c.if-is_none.false) in
    let given = at_given ident now.kept.history.idents c.ident-ident.ensures.named (omega (arith, there, c.loop-change.invariant.given)) in
    let left = left_at items i h c.loop-change-test.true c.change-item.is in
    let so = subst (λ l. UploadedSoFar ident old now all l) left c.loop-change.invariant.so_far in
    let done = fails ident old now new all rest (change_seen h) given.0 c.in-Err.refusal given.1 so (c.in-Err.ensures.appends given.0 given.1) in
    let P : Served Instr State → Type 0 = λ s. JournalAppends s.records old.journal new.journal (Some c.in-Err.refusal) in
    subst P (λ k. upload_by the_profile (parts old.kept) (c.ident-ident.ensures.value k) (at_ident (c.ident-ident.ensures.value k) idents) (map change_seen (c.changes-change-items.ensures.value k))) done
