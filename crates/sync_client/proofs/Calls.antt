-- A call of a client that appends one record, or none.
use Rattle.std.proofs.Common.{◌≡◌, ℕ, suc, ◌≤◌, Bool, true, false, List, [], ◌∷◌, ◌++◌, length, Option, Some, None, Result, Ok, Err, refl, ap, ◌∙◌, sym, subst, append-nil, length-append, add-one, if◌then◌else◌, inl, inr}
use Rattle.std.specs.Prelude.{⊤, ◌⊎◌, IfOk, IfErr, OnOk}
use Rattle.std.specs.Option.{is_some}
use Rattle.sync_data.specs.declared.instr.Instr.{Instr}
use Rattle.sync_base.specs.States.{State}
use Rattle.sync_disk.specs.declared.disk.Disk.{Ghosts}
use Rattle.sync_journal.specs.Stands.{disk_of}
use Rattle.sync_journal.proofs.Prefixes.{disk_stays}
use Rattle.sync_model.specs.Bytes.{Tables, Uuid}
use Rattle.sync_model.specs.Clients.{Born, Client as Model, ClientRecord, ClientRefusal, ClientStep, TooLate, after_record, appends, answers, refuse, born, born_once, client_of, commit, commit_born, if_born, is_late, no_client, subscribe, subscribed_once, upgrade}
use Rattle.sync_model.specs.Files.{client_opens}
use Rattle.sync_model.specs.Each.{no_more, and_each}
use Rattle.sync_model.specs.Limits.{IsClientRecord}
use Rattle.sync_model.proofs.Limits.{each_append}
use Rattle.sync_model.proofs.Opening.{calm, client_opens_on, born_opens, commit_opens, subscribe_opens, upgrade_opens}
use Rattle.sync_model.proofs.Own.{client_step}
use Rattle.sync_exchange.specs.Profile.{the_profile}
use Rattle.sync_exchange.specs.Lemmas.Lawful.{real_lawful}
use Rattle.sync_client.specs.declared.client.Client.{Client}
use Rattle.sync_client.specs.declared.replica.Replica.{Replica}
use Rattle.sync_client.specs.Clients.{Closes, Did, IsClientOf, Says, UsesDisk, is_closed}
use Rattle.sync_client.specs.Keeping.{Keeps}
use Rattle.sync_client.specs.Seen.{Past, and_made, seen}
use Rattle.sync_client.specs.Transactions.{Commits, Uncommitted, next_original}
use Rattle.sync_client.specs.declared.refusal.ClientRefusal.TheVariants as codes
use Rattle.sync_client.specs.Refusals.{refusal_seen, IfSeen, IsPlain}
use Rattle.sync_client.specs.declared.refusal.ClientRefusal.{ClientRefusal as CodeRefusal}
use Rattle.sync_client.specs.declared.transactions.Made.{Made}
use Rattle.sync_client.proofs.OneEntry.{if_seen_on}

-- a record more
pub keeps_next : (records : List ClientRecord) (next : ClientRecord) (r s : Replica) (past : Past) (k : Keeps records r) → client_opens the_profile (client_of the_profile records) (next ∷ []) ≡ true → IsClientRecord the_profile next
    → seen past s ≡ after_record the_profile (seen k.past r) next → length past.made ≡ s.count → Keeps (records ++ next ∷ []) s
keeps_next records next r s past k opens fits after count = record {
  past = past;
  count = count;
  stands_for = client_step the_profile records next ∙ ap (λ c. after_record the_profile c next) k.stands_for ∙ sym after;
  opens = client_opens_on the_profile (no_client the_profile) records (next ∷ []) k.opens opens;
  each = each_append k.each (and_each fits no_more);
}

no_uuid : (o : Option Uuid) → is_some o ≡ false → o ≡ None
no_uuid None e = refl
no_uuid (Some id) e = cc

module _ {D : Type 0} {G : Ghosts D} where
  pub did_append : {A : Type 0} (did : ClientStep A) (next : ClientRecord) (a : A) (records : List ClientRecord) (c : Client D G) → did ≡ appends next a → Keeps (records ++ next ∷ []) c.replica → is_closed c ≡ false → Did did (Ok a) records c
  did_append did next a records c is k open_ = record {
    answer_is = ap (λ d. d.answer) is;
    client = record { kept = subst (λ rs. Keeps (records ++ rs) c.replica) (sym (ap (λ d. d.records) is)) k; open_ = open_ };
  }

  -- a call that appends nothing
  pub did_none : {A : Type 0} (did : ClientStep A) (answer : Result A ClientRefusal) (records : List ClientRecord) (c : Client D G) → did.records ≡ [] → did.answer ≡ answer → IsClientOf records c → Did did answer records c
  did_none did answer records c none is k = record {
    answer_is = is;
    client = subst (λ rs. IsClientOf rs c) (sym (ap (λ l. records ++ l) none ∙ append-nil records)) k;
  }

-- ---- birth
pub born_is : (records : List ClientRecord) (r : Replica) (id : Uuid) → Keeps records r → is_some r.id ≡ false → born (client_of the_profile records) id ≡ appends (Born id) tt
born_is records r id k none = ap (λ o. born_once o (appends {A = ⊤} (Born id) tt)) (ap (λ (c : Model Instr State). c.id) k.stands_for ∙ no_uuid r.id none)

pub born_keeps : (records : List ClientRecord) (r : Replica) (id : Uuid) → Keeps records r → is_some r.id ≡ false → Keeps (records ++ Born id ∷ []) (record r { id = Some id })
born_keeps records r id k none =
    keeps_next records (Born id) r (record r { id = Some id }) k.past k (subst (λ d. client_opens the_profile (client_of the_profile records) d.records ≡ true) (born_is records r id k none) (born_opens the_profile real_lawful (client_of the_profile records) (calm the_profile records k.opens) id).0) tt refl k.count

pub if_seen_both : (o : Option ClientRefusal) (P Q R : ClientRefusal → Type 0) → ((w : ClientRefusal) → P w → Q w → R w) → IfSeen o P → IfSeen o Q → IfSeen o R
if_seen_both None P Q R f h g = tt
if_seen_both (Some w) P Q R f h g = f w h g

-- ---- what is done where the client has its uuid
has_uuid : (o : Option Uuid) → is_some o ≡ true → (id : Uuid) × (o ≡ Some id)
has_uuid None e = cc
has_uuid (Some id) e = (id, refl)

pub is_born : {A : Type 0} (records : List ClientRecord) (r : Replica) (go : Uuid → ClientStep A) → Keeps records r → is_some r.id ≡ true → (id : Uuid) × (if_born (client_of the_profile records).id go ≡ go id)
is_born records r go k some = let h = has_uuid r.id some in (h.0, ap (λ o. if_born o go) (ap (λ (c : Model Instr State). c.id) k.stands_for ∙ h.1))

module _ {D : Type 0} {G : Ghosts D} where
  pub did_refuse : {A : Type 0} (did : ClientStep A) (why : ClientRefusal) (records : List ClientRecord) (c : Client D G) → did ≡ refuse why → IsClientOf records c → Did did (Err why) records c
  did_refuse did why records c is k = did_none did (Err why) records c (ap (λ d. d.records) is) (ap (λ d. d.answer) is) k

-- ---- transactions
committing : (records : List ClientRecord) (r : Replica) (ms : ℕ) (edits : List Instr) (k : Keeps records r) → is_some r.id ≡ true → commit the_profile (client_of the_profile records) ms edits ≡ commit_born the_profile (seen k.past r) ms edits
committing records r ms edits k some =
    (is_born records r (λ id. commit_born the_profile (client_of the_profile records) ms edits) k some).1
    ∙ ap (λ c. commit_born the_profile c ms edits) k.stands_for

pub commit_is : (records : List ClientRecord) (r s : Replica) (ms : ℕ) (edits : List Instr) (m : Made) (k : Keeps records r) → is_some r.id ≡ true → Commits k.past r s ms edits (Ok m)
    → commit the_profile (client_of the_profile records) ms edits ≡ appends (ClientRecord.Made m.number ms m.body.items) m.number
commit_is records r s ms edits m k some did = committing records r ms edits k some ∙ did.step

pub commit_keeps : (records : List ClientRecord) (r s : Replica) (ms : ℕ) (edits : List Instr) (m : Made) (k : Keeps records r) → is_some r.id ≡ true → Commits k.past r s ms edits (Ok m) → m.number ≤ 4294967295
    → Keeps (records ++ ClientRecord.Made m.number ms m.body.items ∷ []) s
commit_keeps records r s ms edits m k some did small =
    keeps_next records (ClientRecord.Made m.number ms m.body.items) r s (and_made k.past (next_original r m.number ms edits)) k
    (subst (λ d. client_opens the_profile (client_of the_profile records) d.records ≡ true) (commit_is records r s ms edits m k some did) (commit_opens the_profile real_lawful (client_of the_profile records) (calm the_profile records k.opens) ms edits).0)
    small
    did.after
    (length-append k.past.made (next_original r m.number ms edits ∷ []) ∙ add-one (length k.past.made) ∙ ap suc k.count ∙ sym did.count)

-- where it is refused it appends nothing
pub uncommitted : (records : List ClientRecord) (r s : Replica) (ms : ℕ) (edits : List Instr) (why : CodeRefusal) (k : Keeps records r) → is_some r.id ≡ true → IfSeen (refusal_seen why) (Uncommitted k.past r s ms edits)
    → IfSeen (refusal_seen why) (λ w. (commit the_profile (client_of the_profile records) ms edits).records ≡ [])
uncommitted records r s ms edits why k some did =
    if_seen_on (refusal_seen why) (Uncommitted k.past r s ms edits) (λ w. (commit the_profile (client_of the_profile records) ms edits).records ≡ [])
    (λ w h. ap (λ d. d.records) (committing records r ms edits k some ∙ h.step)) did

-- ---- the form
pub upgrade_is : (records : List ClientRecord) (r : Replica) → Keeps records r → is_some r.id ≡ true → r.second ≡ false → upgrade (client_of the_profile records) ≡ appends ClientRecord.Form true
upgrade_is records r k some first =
    (is_born records r (λ id. if (client_of the_profile records).second then answers false else appends ClientRecord.Form true) k some).1
    ∙ ap (λ (c : Model Instr State). if c.second then answers false else appends ClientRecord.Form true) k.stands_for
    ∙ ap (λ b. if b then answers false else appends ClientRecord.Form true) first

pub upgrade_keeps : (records : List ClientRecord) (r : Replica) → Keeps records r → is_some r.id ≡ true → r.second ≡ false → Keeps (records ++ ClientRecord.Form ∷ []) (record r { second = true })
upgrade_keeps records r k some first =
    keeps_next records ClientRecord.Form r (record r { second = true }) k.past k (subst (λ d. client_opens the_profile (client_of the_profile records) d.records ≡ true) (upgrade_is records r k some first) (upgrade_opens the_profile real_lawful (client_of the_profile records) (calm the_profile records k.opens)).0) tt refl k.count

-- ---- tables
abbrev behind_tables : Tables → Model Instr State → ClientStep ⊤
behind_tables tables c = subscribed_once {A = ⊤} c.subset (if is_late c then refuse TooLate else appends (ClientRecord.Subset tables) tt)

subscribing : (records : List ClientRecord) (r : Replica) (tables : Tables) (k : Keeps records r) → is_some r.id ≡ true → subscribe (client_of the_profile records) tables ≡ behind_tables tables (seen k.past r)
subscribing records r tables k some = (is_born {A = ⊤} records r (λ id. behind_tables tables (client_of the_profile records)) k some).1 ∙ ap (behind_tables tables) k.stands_for

no_tables : (o : Option Tables) → is_some o ≡ false → o ≡ None
no_tables None e = refl
no_tables (Some t) e = cc

unless_late : (records : List ClientRecord) (r : Replica) (tables : Tables) (k : Keeps records r) (late : Bool) → is_some r.id ≡ true → is_some r.subset ≡ false → is_late (seen k.past r) ≡ late
    → subscribe (client_of the_profile records) tables ≡ (if late then refuse TooLate else appends (ClientRecord.Subset tables) tt)
unless_late records r tables k late some first e =
    subscribing records r tables k some
    ∙ ap (λ o. subscribed_once {A = ⊤} o (if is_late (seen k.past r) then refuse TooLate else appends (ClientRecord.Subset tables) tt)) (no_tables r.subset first)
    ∙ ap (λ b. if b then refuse TooLate else appends (ClientRecord.Subset tables) tt) e

pub late_is : (records : List ClientRecord) (r : Replica) (tables : Tables) (k : Keeps records r) → is_some r.id ≡ true → is_some r.subset ≡ false → is_late (seen k.past r) ≡ true → subscribe (client_of the_profile records) tables ≡ refuse TooLate
late_is records r tables k some first late = unless_late records r tables k true some first late

pub subscribe_is : (records : List ClientRecord) (r : Replica) (tables : Tables) (k : Keeps records r) → is_some r.id ≡ true → is_some r.subset ≡ false → is_late (seen k.past r) ≡ false → subscribe (client_of the_profile records) tables ≡ appends (ClientRecord.Subset tables) tt
subscribe_is records r tables k some first early = unless_late records r tables k false some first early

pub subscribe_keeps : (records : List ClientRecord) (r : Replica) (tables : Tables) (k : Keeps records r) → is_some r.id ≡ true → is_some r.subset ≡ false → is_late (seen k.past r) ≡ false → Keeps (records ++ ClientRecord.Subset tables ∷ []) (record r { subset = Some tables })
subscribe_keeps records r tables k some first early =
    keeps_next records (ClientRecord.Subset tables) r (record r { subset = Some tables }) k.past k
    (subst (λ d. client_opens the_profile (client_of the_profile records) d.records ≡ true) (subscribe_is records r tables k some first early) (subscribe_opens the_profile real_lawful (client_of the_profile records) (calm the_profile records k.opens) tables).0) tt refl k.count

-- ---- refusals of a client in memory
abbrev Told : Type 0 → CodeRefusal → CodeRefusal → Type 0
Told A why other = ◌≡◌ {A = Result A CodeRefusal} (Err why) (Err other)

same_told : (A : Type 0) (why other : CodeRefusal) → Told A why other → why ≡ other
same_told A why other e = cc

module _ {D : Type 0} {G : Ghosts D} (A : Type 0) (old new : Client D G) (why refusal : CodeRefusal) (same : why ≡ refusal) (plain : IsPlain refusal) where
  pub plain_closes : is_closed old ≡ false → (refusal ≡ codes.NoMemory → is_closed new ≡ true) → Closes {B = A} old new (Err why)
  plain_closes open_ closes = record {
    closed = (λ e. absurd (subst IsPlain (sym same ∙ same_told A why codes.Closed e) plain), λ e. let both : false ≡ true = sym open_ ∙ e in cc);
    unchanged = λ e. absurd (subst IsPlain (sym same ∙ same_told A why codes.Closed e) plain);
    closes = λ e. elim e [ inl fault ↦ absurd (subst IsPlain (sym same ∙ same_told A why codes.DiskFault fault) plain) | inr none ↦ closes (sym same ∙ same_told A why codes.NoMemory none) ];
  }

  pub plain_disk : disk_of new.journal ≡ disk_of old.journal → UsesDisk (Told A why codes.DiskFault) old new
  plain_disk still = disk_stays _ old.journal new.journal (λ e. subst IsPlain (sym same ∙ same_told A why codes.DiskFault e) plain) still

-- a record that can't be added is told elsewhere
pub unseen : (why : CodeRefusal) (P : ClientRefusal → Type 0) → (why ≡ codes.DiskFault) ⊎ (why ≡ codes.NoMemory) → IfSeen (refusal_seen why) P
unseen why P (inl e) = subst (λ w. IfSeen (refusal_seen w) P) (sym e) tt
unseen why P (inr e) = subst (λ w. IfSeen (refusal_seen w) P) (sym e) tt

module _ {D : Type 0} {G : Ghosts D} where
  pub commit_says : (records : List ClientRecord) (r s : Replica) (n : Client D G) (ms : ℕ) (edits : List Instr) (m : Made) (a : Result ℕ CodeRefusal) (k : Keeps records r) → is_some r.id ≡ true → Commits k.past r s ms edits (Ok m)
      → m.number ≤ 4294967295 → IfOk a (λ number. number ≡ m.number) → n.replica ≡ s → OnOk a (is_closed n ≡ false) → IfErr a (λ why. (why ≡ codes.DiskFault) ⊎ (why ≡ codes.NoMemory))
      → Says (commit the_profile (client_of the_profile records) ms edits) records n a
  commit_says records r s n ms edits m (Ok number) k some did small is same open_ refused =
      did_append (commit the_profile (client_of the_profile records) ms edits) (ClientRecord.Made m.number ms m.body.items) number records n
      (commit_is records r s ms edits m k some did ∙ ap (λ (j : ℕ). appends (ClientRecord.Made m.number ms m.body.items) j) (sym is))
      (subst (Keeps (records ++ ClientRecord.Made m.number ms m.body.items ∷ [])) (sym same) (commit_keeps records r s ms edits m k some did small)) open_
  commit_says records r s n ms edits m (Err why) k some did small is same open_ refused = unseen why _ refused
