use Rattle.std.proofs.Common.{◌≡◌, ◌≤◌, [], ◌∷◌, None, sym, subst}
use Rattle.sync_model.specs.Clients.{client_of, take_entries, took}
use Rattle.sync_model.specs.Messages.{Sent}
use Rattle.sync_exchange.specs.Profile.{the_profile}
use Rattle.sync_exchange.specs.Seen.{sent_seen}
use Rattle.sync_client.specs.Entries.{TakesIt}
use Rattle.sync_client.specs.Seen.{seen}
use Rattle.sync_client.specs.Refusals.{refusal_seen, IfSeen, IsPlain}
use Rattle.sync_client.specs.Taking.{SentRefused}
use Rattle.sync_client.proofs.OneEntry.{entry_refused, entry_taken, if_seen_on}
use Rattle.sync_client.proofs.Surviving.{survives_one, survives_refused}
use Rattle.sync_client.proofs.Taken.{fine_of, lists_of, sent_refused, sent_says}
use Rattle.sync_client.proofs.client.Client.take_sent.Goals as goal

pub returns-in-Err-clause-does : goal.returns-in-Err-clause-does
returns-in-Err-clause-does g c = λ records before.
    let e : Sent = sent_seen c.args.sent.now in
    let given : ◌≡◌ {A = Sent} (record { origin = c.origin.result; number = c.number.result; ms = c.ms.result; body = c.body.result.now }) e = λ i. record { origin = c.origin.ensures.value i; number = c.number.ensures.value i; ms = c.ms.ensures i; body = c.body.ensures.value i } in
    subst (λ w. IfSeen (refusal_seen w) (SentRefused records c.refused.new.self e)) (sym c.refused.ensures.same)
    (subst (λ x. IfSeen (refusal_seen c.in-Err.refusal) (SentRefused records c.refused.new.self x)) given
    (sent_refused records c.args.self.now c.refused.new.self c.take_entry.new.self (record { origin = c.origin.result; number = c.number.result; ms = c.ms.result; body = c.body.result.now }) c.in-Err.refusal before (c.in-Err.ensures.step before.kept.past (lists_of records c.args.self.now.replica before.kept)) c.refused.ensures.unchanged c.take_entry.ensures.count))

pub returns-clause-does : goal.returns-clause-does
returns-clause-does g c = λ records before.
    let e : Sent = sent_seen c.args.sent.now in
    let given : ◌≡◌ {A = Sent} (record { origin = c.origin.result; number = c.number.result; ms = c.ms.result; body = c.body.result.now }) e = λ i. record { origin = c.origin.ensures.value i; number = c.number.ensures.value i; ms = c.ms.ensures i; body = c.body.ensures.value i } in
    sent_says records c.args.self.now.replica c.take_entry.new.self c.append_took.new.self e c.append_took.result before.kept
    (record { room = c.requires.room; named = c.requires.named; origin = subst (λ n. 1 ≤ n) c.origin.ensures.value c.origin.ensures.made_by; number = subst (λ n. 1 ≤ n) c.number.ensures.value c.number.ensures.numbered; origin_small = subst (λ n. n ≤ 4294967295) c.origin.ensures.value c.take_entry.ensures.origin; number_small = subst (λ n. n ≤ 4294967295) c.number.ensures.value c.take_entry.ensures.number })
    (subst (TakesIt (seen before.kept.past c.args.self.now.replica) (seen before.kept.past c.take_entry.new.self)) given (c.in-Ok.ensures.step before.kept.past (lists_of records c.args.self.now.replica before.kept)))
    c.take_entry.ensures.count c.append_took.ensures.replica c.append_took.ensures.stays_open c.append_took.ensures.refused

pub returns-in-Err-clause-survives : goal.returns-in-Err-clause-survives
returns-in-Err-clause-survives g c = λ records before stored.
    let e : Sent = sent_seen c.args.sent.now in
    let did = take_entries the_profile (client_of the_profile records) (e ∷ []) in
    let none = if_seen_on (refusal_seen c.refused.result) (SentRefused records c.refused.new.self e) (λ w. did.records ≡ []) (λ w h. entry_refused records e w h.cause) (returns-in-Err-clause-does g c records before) in
    survives_refused did c.refused.result records c.args.self.now c.refused.new.self g.met.D.Disk.only_now (subst IsPlain (sym c.refused.ensures.same) c.in-Err.ensures.plain) none c.refused.ensures.disk c.refused.ensures.journal stored

pub returns-clause-survives : goal.returns-clause-survives
returns-clause-survives g c = λ records before stored.
    let e : Sent = sent_seen c.args.sent.now in
    let given : ◌≡◌ {A = Sent} (record { origin = c.origin.result; number = c.number.result; ms = c.ms.result; body = c.body.result.now }) e = λ i. record { origin = c.origin.ensures.value i; number = c.number.ensures.value i; ms = c.ms.ensures i; body = c.body.ensures.value i } in
    let takes = subst (TakesIt (seen before.kept.past c.args.self.now.replica) (seen before.kept.past c.take_entry.new.self)) given (c.in-Ok.ensures.step before.kept.past (lists_of records c.args.self.now.replica before.kept)) in
    survives_one (take_entries the_profile (client_of the_profile records) (e ∷ [])) (took e) _ records c.args.self.now c.append_took.new.self c.append_took.result
    (entry_taken records e (fine_of records c.args.self.now.replica e None before.kept takes.fine)) c.append_took.ensures.appends c.append_took.ensures.refused stored
