-- An entry of a Download, taken by a client of these records.
use Rattle.std.proofs.Common.{◌≡◌, ℕ, ◌-◌, ◌≤◌, ◌<◌, bytes_eq, drop, Bool, true, false, not, ◌&&◌, List, [], ◌∷◌, ◌++◌, Option, Some, None, Result, Ok, Err, refl, ap, ◌∙◌, sym, subst, ◌==◌, nat_lt, arith}
use Rattle.std.proofs.lemmas.Bool.{lt-ltb, le-ltb, eq-eqb}
use Rattle.std.specs.Option.{is_some}
use Rattle.sync_model.proofs.Own.{if_true, if_false}
use Rattle.std.specs.Prelude.{◌⊎◌, OnOk, IfErr}
use Rattle.sync_disk.specs.declared.disk.Disk.{Ghosts}
use Rattle.sync_model.specs.Clients.{Client as Model, ClientRecord, ClientRefusal, Named, appends, client_of, entry_refusal, take_born, take_entries, take_ident, took}
use Rattle.sync_model.specs.Files.{client_opens}
use Rattle.sync_model.specs.Limits.{ClientLists}
use Rattle.sync_model.specs.Messages.{Message, Sent}
use Rattle.sync_model.specs.Worlds.{is_there}
use Rattle.sync_model.proofs.Opening.{calm}
use Rattle.sync_model.proofs.Small.{client_lists}
use Rattle.sync_data.specs.declared.instr.Instr.{Instr}
use Rattle.sync_base.specs.States.{State}
use Rattle.sync_exchange.specs.Profile.{the_profile}
use Rattle.sync_exchange.specs.Lemmas.Lawful.{real_lawful}
use Rattle.sync_client.specs.declared.client.Client.{Client}
use Rattle.sync_client.specs.declared.refusal.ClientRefusal.{ClientRefusal as CodeRefusal}
use Rattle.sync_client.specs.declared.refusal.ClientRefusal.TheVariants as codes
use Rattle.sync_client.specs.declared.replica.Replica.{Replica}
use Rattle.sync_client.specs.Clients.{IsClientOf, is_closed}
use Rattle.sync_client.specs.Entries.{Declines, TakesIt}
use Rattle.sync_client.specs.Keeping.{Keeps}
use Rattle.sync_client.specs.Refusals.{refusal_seen, IfSeen}
use Rattle.sync_client.specs.Seen.{seen}
use Rattle.sync_client.specs.Taking.{SentRefused, SentSays}
use Rattle.sync_client.proofs.Calls.{if_seen_both, keeps_next, unseen}
use Rattle.sync_client.proofs.Refusing.{differ}

-- the lists of a client are small
pub lists_of : (records : List ClientRecord) (r : Replica) (k : Keeps records r) → ClientLists the_profile (seen k.past r)
lists_of records r k = subst (ClientLists the_profile) k.stands_for (client_lists the_profile real_lawful records)

both : (a b : Bool) → a ≡ true → b ≡ true → (a && b) ≡ true
both true b e f = f
both false b e f = e

positive : (n : ℕ) → 1 ≤ n → not (n == 0) ≡ true
positive n h = ap not (differ n 0 (λ e. none n h e))
  where
    none : (n : ℕ) → 1 ≤ n → n ≡ 0 → ⊥
    none n h e = absurd (omega (arith, h, e))

-- the entry is one that may be recorded
pub record MayBeTaken (r : Replica) (e : Sent) : Type 0 where
  pub room : r.cursor < 4294967295
  pub named : 1 ≤ r.ident
  pub origin : 1 ≤ e.origin
  pub number : 1 ≤ e.number
  pub origin_small : e.origin ≤ 4294967295
  pub number_small : e.number ≤ 4294967295

admits : (records : List ClientRecord) (r : Replica) (e : Sent) (k : Keeps records r) → MayBeTaken r e → entry_refusal the_profile (client_of the_profile records) e ≡ None → client_opens the_profile (client_of the_profile records) (took e ∷ []) ≡ true
admits records r e k m fine =
    let ident = ap (λ (c : Model Instr State). c.ident) k.stands_for in
    let cursor = ap (λ (c : Model Instr State). c.cursor) k.stands_for in
    both _ true
    (both _ _ (ap (λ n. not (n == 0)) ident ∙ positive r.ident m.named)
    (both _ _ (ap (λ n. nat_lt n 4294967295) cursor ∙ lt-ltb r.cursor 4294967295 m.room)
    (both _ _ (positive e.origin m.origin) (both _ _ (positive e.number m.number) (ap (λ o. not (is_there o)) fine)))))
    refl

pub fine_of : (records : List ClientRecord) (r : Replica) (e : Sent) (o : Option ClientRefusal) (k : Keeps records r) → entry_refusal the_profile (seen k.past r) e ≡ o → entry_refusal the_profile (client_of the_profile records) e ≡ o
fine_of records r e o k h = ap (λ c. entry_refusal the_profile c e) k.stands_for ∙ h

pub took_keeps : (records : List ClientRecord) (r s : Replica) (e : Sent) (k : Keeps records r) → MayBeTaken r e → TakesIt (seen k.past r) (seen k.past s) e → s.count ≡ r.count → Keeps (records ++ took e ∷ []) s
took_keeps records r s e k m t count =
    keeps_next records (took e) r s k.past k (admits records r e k m (fine_of records r e None k t.fine)) (m.origin_small, m.number_small) t.after (k.count ∙ sym count)

module _ {D : Type 0} {G : Ghosts D} where
  pub sent_refused : (records : List ClientRecord) (c n : Client D G) (s : Replica) (e : Sent) (why : CodeRefusal) (k : IsClientOf records c)
      → IfSeen (refusal_seen why) (Declines (seen k.kept.past c.replica) (seen k.kept.past s) e) → IfSeen (refusal_seen why) (λ w. n ≡ record c { replica = s }) → s.count ≡ c.replica.count
      → IfSeen (refusal_seen why) (SentRefused records n e)
  sent_refused records c n s e why k did same count =
      if_seen_both (refusal_seen why) (Declines (seen k.kept.past c.replica) (seen k.kept.past s) e) (λ w. n ≡ record c { replica = s }) (SentRefused records n e)
      (λ w h g. record {
        cause = fine_of records c.replica e (Some w) k.kept h.cause;
        client = subst (IsClientOf records) (sym g) (record {
          kept = record { past = k.kept.past; count = k.kept.count ∙ sym count; stands_for = k.kept.stands_for ∙ sym h.unchanged; opens = k.kept.opens; each = k.kept.each };
          open_ = k.open_;
        });
      })
      did same

  pub sent_says : (records : List ClientRecord) (r s : Replica) (n : Client D G) (e : Sent) (a : Result (Unit {0}) CodeRefusal) (k : Keeps records r) → MayBeTaken r e → TakesIt (seen k.past r) (seen k.past s) e → s.count ≡ r.count
      → n.replica ≡ s → OnOk a (is_closed n ≡ false) → IfErr a (λ why. (why ≡ codes.DiskFault) ⊎ (why ≡ codes.NoMemory)) → SentSays records n e a
  sent_says records r s n e (Ok u) k m t count same open_ refused = record {
    fine = fine_of records r e None k t.fine;
    client = record { kept = subst (Keeps (records ++ took e ∷ [])) (sym same) (took_keeps records r s e k m t count); open_ = open_ };
  }
  sent_says records r s n e (Err why) k m t count same open_ refused = unseen why (SentRefused records n e) refused

-- ---- the first ident
pub named_is : (records : List ClientRecord) (r : Replica) (ident : ℕ) → Keeps records r → r.ident ≡ 0 → take_ident (client_of the_profile records) ident ≡ appends (Named ident) r.cursor
named_is records r ident k none =
    ap (λ c. take_ident c ident) k.stands_for ∙ if_true (r.ident == 0) _ _ (eq-eqb r.ident 0 none)

pub named_keeps : (records : List ClientRecord) (r : Replica) (ident : ℕ) → Keeps records r → is_some r.id ≡ true → r.ident ≡ 0 → 1 ≤ ident → ident ≤ 4294967295 → Keeps (records ++ Named ident ∷ []) (record r { ident = ident })
named_keeps records r ident k born none named small =
    let id = ap (λ (c : Model Instr State). c.id) k.stands_for in
    let old = ap (λ (c : Model Instr State). c.ident) k.stands_for in
    keeps_next records (Named ident) r (record r { ident = ident }) k.past k
    (both _ true (both _ _ (ap (λ o. is_there o) id ∙ there r.id born) (both _ _ (ap not (calm the_profile records k.opens)) (both _ _ (eq-eqb _ 0 (old ∙ none)) (positive ident named)))) refl)
    (record { positive = λ e. none_positive ident named e; small = small }) refl k.count
  where
    there : (o : Option (List ℕ)) → is_some o ≡ true → is_there o ≡ true
    there None e = cc
    there (Some id) e = refl

    none_positive : (n : ℕ) → 1 ≤ n → n ≡ 0 → ⊥
    none_positive n h e = absurd (omega (arith, h, e))

-- the answer is the cursor that the replica keeps
pub given_ident : (records : List ClientRecord) (r s : Replica) (ident : ℕ) → Keeps records r → r.ident ≡ 0 → s ≡ r → take_ident (client_of the_profile records) ident ≡ appends (Named ident) s.cursor
given_ident records r s ident k none same = named_is records r ident k none ∙ ap (λ (q : Replica). appends (Named ident) q.cursor) (sym same)

-- ---- messages that are for this client
pub ident_mine : (records : List ClientRecord) (u id : List ℕ) (ident : ℕ) (m : Message) → m ≡ Message.Ident u ident → bytes_eq u id ≡ true → take_born the_profile (client_of the_profile records) m id ≡ take_ident (client_of the_profile records) ident
ident_mine records u id ident m is mine = ap (λ x. take_born the_profile (client_of the_profile records) x id) is ∙ if_true (bytes_eq u id) _ _ mine

-- a Download of this client, from at most the cursor on
pub downloading : (records : List ClientRecord) (r : Replica) (ident from : ℕ) (es : List Sent) (id : List ℕ) → Keeps records r → ident ≡ r.ident → from ≤ r.cursor
    → take_born the_profile (client_of the_profile records) (Message.Download ident from es) id ≡ take_entries the_profile (client_of the_profile records) (drop (r.cursor - from) es)
downloading records r ident from es id k mine behind =
    let own = ap (λ (c : Model Instr State). c.ident) k.stands_for in
    let cursor = ap (λ (c : Model Instr State). c.cursor) k.stands_for in
    if_true (ident == (client_of the_profile records).ident) _ _ (eq-eqb _ _ (mine ∙ sym own))
    ∙ if_false (nat_lt (client_of the_profile records).cursor from) _ _ (ap (λ n. nat_lt n from) cursor ∙ le-ltb r.cursor from behind)
    ∙ ap (λ n. take_entries the_profile (client_of the_profile records) (drop (n - from) es)) cursor
