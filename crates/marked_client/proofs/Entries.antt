-- The entries of a Download, each of which is taken by today's step.
use Rattle.std.proofs.Common.{◌≡◌, ℕ, zero, suc, ◌+◌, ◌-◌, ◌≤◌, ◌<◌, Bool, true, false, if◌then◌else◌, List, [], ◌∷◌, ◌++◌, length, map, drop, get_or, drop-cons, add-one, Option, Some, None, Result, Ok, Err, refl, ap, ap₂, ◌∙◌, sym, subst, arith, IsTrue, append-nil, ◌==◌}
use Rattle.std.proofs.Math.ListN.{drop_of_length-le}
use Rattle.std.specs.Option.{is_some}
use Rattle.sync_disk.specs.declared.disk.Disk.{Ghosts}
use Rattle.sync_data.specs.declared.instr.Instr.{Instr}
use Rattle.sync_base.specs.States.{State}
use Rattle.sync_model.specs.Clients.{Client as Model, ClientRecord, ClientRefusal, ClientStep, TakenSoFar, after_record, client_of, crossed, entry_refusal, if_born, take, take_entries, take_one, took}
use Rattle.sync_model.specs.Messages.{Message, Sent}
use Rattle.sync_model.proofs.Own.{client_step}
use Rattle.sync_model.proofs.Loops.{taken_at_first, taken_ends, taken_next, taken_stops}
use Rattle.sync_exchange.specs.Profile.{the_profile}
use Rattle.sync_exchange.specs.Seen.{message_seen, sent_seen}
use Rattle.sync_messages.specs.declared.message.Message.TheVariants as messages
use Rattle.sync_messages.specs.Parts.{DownloadParts, SentParts}
use Rattle.sync_client.specs.Clients.{Did, IsClientOf}
use Rattle.sync_client.specs.Keeping.{Keeps}
use Rattle.sync_client.specs.Refusals.{refusal_seen}
use Rattle.sync_client.specs.Taking.{SentRefused, SentTaken}
use Rattle.sync_client.specs.declared.client.Client.{Client}
use Rattle.sync_client.specs.declared.replica.Replica.{Replica}
use Rattle.sync_client.proofs.OneEntry.{if_seen_on}
use Rattle.sync_client.proofs.Taken.{downloading}
use Rattle.marked_client.proofs.Noting.{fault_seen}
use Rattle.marked_client.specs.declared.client.MarkedClient.{MarkedClient}
use Rattle.marked_client.specs.declared.refusal.MarkedRefusal.{MarkedRefusal}
use Rattle.marked_client.specs.declared.refusal.MarkedRefusal.TheVariants as refusals
use Rattle.marked_client.specs.Marked.{EntryRefusedAsEver, IsFault, IsNext, RefusedAsEver, TookAsEver}
use Rattle.marked_client.specs.declared.taking.Taken.{Taken}
use Rattle.marked_client.specs.declared.taking.Taken.TheVariants as takens

-- ---- a client by one entry more

either : {A B : Type 0} (f : A → B) (b : Bool) (x y : A) (z : B) → f x ≡ z → f y ≡ z → f (if b then x else y) ≡ z
either f true x y z p q = p
either f false x y z p q = q

module _ (c : Model Instr State) (e : Sent) where
  abbrev after : Model Instr State
  after = after_record the_profile c (took e)

  entry_keeps : {B : Type 0} (f : Model Instr State → B) (z : B) → ((d : Model Instr State) → d.id ≡ c.id → d.ident ≡ c.ident → d.cursor ≡ suc c.cursor → f d ≡ z) → f after ≡ z
  entry_keeps f z h = either f (e.origin == c.ident) _ _ z (h _ refl refl refl) (other _)
    where
      other : (r : _) → f (crossed the_profile c r) ≡ z
      other (Ok q) = h _ refl refl refl
      other (Err w) = h _ refl refl refl

  after_id : after.id ≡ c.id
  after_id = entry_keeps (λ d. d.id) c.id (λ d i n v. i)

  after_ident : after.ident ≡ c.ident
  after_ident = entry_keeps (λ d. d.ident) c.ident (λ d i n v. n)

  after_cursor : after.cursor ≡ suc c.cursor
  after_cursor = entry_keeps (λ d. d.cursor) (suc c.cursor) (λ d i n v. v)

next_of : (records : List ClientRecord) (e : Sent) (ident version : ℕ) → IsNext records ident version → IsNext (records ++ took e ∷ []) ident (version + 1)
next_of records e ident version n =
    let c = client_of the_profile records in
    let step = client_step the_profile records (took e) in
    record {
      born = subst (λ (o : Option (List ℕ)). IsTrue (is_some o)) (sym (ap (λ (d : Model Instr State). d.id) step ∙ after_id c e)) n.born;
      named = ap (λ (d : Model Instr State). d.ident) step ∙ after_ident c e ∙ n.named;
      cursor = ap (λ (d : Model Instr State). d.cursor) step ∙ after_cursor c e ∙ ap suc n.cursor ∙ sym (add-one version);
    }

-- ---- a Download at a client that is born

born_is : (o : Option (List ℕ)) (go : List ℕ → ClientStep ℕ) (z : ClientStep ℕ) → IsTrue (is_some o) → ((id : List ℕ) → go id ≡ z) → if_born o go ≡ z
born_is None go z e h = cc
born_is (Some id) go z e h = h id

pub taking : (records : List ClientRecord) (r : Replica) (ident from : ℕ) (es : List Sent) → Keeps records r → IsTrue (is_some r.id) → ident ≡ r.ident → from ≤ r.cursor
    → take the_profile (client_of the_profile records) (Message.Download ident from es) ≡ take_entries the_profile (client_of the_profile records) (drop (r.cursor - from) es)
taking records r ident from es k born mine behind =
    born_is (client_of the_profile records).id _ _ (subst (λ (o : Option (List ℕ)). IsTrue (is_some o)) (sym (ap (λ (c : Model Instr State). c.id) k.stands_for)) born)
    (λ id. downloading records r ident from es id k mine behind)

none_of : (n : ℕ) → n - n ≡ zero
none_of n = omega (arith)

drop_none : (n : ℕ) (es : List Sent) → drop (n - n) es ≡ es
drop_none n es = ap (λ k. drop k es) (none_of n)

-- that of the next entry alone
pub taking_one : (records : List ClientRecord) (r : Replica) (ident version : ℕ) (e : Sent) → Keeps records r → IsNext records ident version
    → take the_profile (client_of the_profile records) (Message.Download ident version (e ∷ [])) ≡ take_entries the_profile (client_of the_profile records) (e ∷ [])
taking_one records r ident version e k n =
    let id = ap (λ (c : Model Instr State). c.id) k.stands_for in
    let named = ap (λ (c : Model Instr State). c.ident) k.stands_for in
    let cursor = sym (ap (λ (c : Model Instr State). c.cursor) k.stands_for) ∙ n.cursor in
    taking records r ident version (e ∷ []) k (subst (λ (o : Option (List ℕ)). IsTrue (is_some o)) id n.born) (sym n.named ∙ named) (omega (arith, cursor))
    ∙ ap (λ v. take_entries the_profile (client_of the_profile records) (drop (v - version) (e ∷ []))) cursor
    ∙ ap (take_entries the_profile (client_of the_profile records)) (drop_none version (e ∷ []))

abbrev refusal_in : Result ℕ ClientRefusal → ClientRefusal → ClientRefusal
refusal_in (Ok n) other = other
refusal_in (Err w) other = w

-- those behind so many
behind : (es : List SentParts) (n : ℕ) → drop n (map sent_seen es) ≡ map sent_seen (drop n es)
behind es zero = refl
behind [] (suc n) = refl
behind (e ∷ es) (suc n) = behind es n

-- all that a Download brings
pub whole : (records : List ClientRecord) (r : Replica) (d : DownloadParts) (skipped : ℕ) → Keeps records r → IsTrue (is_some (client_of the_profile records).id) → d.ident ≡ (client_of the_profile records).ident
    → d.from ≤ (client_of the_profile records).cursor → skipped ≡ (client_of the_profile records).cursor - d.from
    → take the_profile (client_of the_profile records) (message_seen (messages.Download d)) ≡ take_entries the_profile (client_of the_profile records) (map sent_seen (drop skipped d.entries))
whole records r d skipped k born named reaches is =
    let id = ap (λ (c : Model Instr State). c.id) k.stands_for in
    let own = ap (λ (c : Model Instr State). c.ident) k.stands_for in
    let cursor = ap (λ (c : Model Instr State). c.cursor) k.stands_for in
    taking records r d.ident d.from (map sent_seen d.entries) k (subst (λ (o : Option (List ℕ)). IsTrue (is_some o)) id born) (named ∙ own) (subst (λ n. d.from ≤ n) cursor reaches)
    ∙ ap (λ n. take_entries the_profile (client_of the_profile records) (drop n (map sent_seen d.entries))) (sym (is ∙ ap (λ n. n - d.from) cursor))
    ∙ ap (take_entries the_profile (client_of the_profile records)) (behind d.entries skipped)

-- ---- one entry

module _ {D : Type 0} {G : Ghosts D} where
  taken_by : (records : List ClientRecord) (n : Client D G) (e : Sent) (cursor : ℕ) (o : Option ClientRefusal) → entry_refusal the_profile (client_of the_profile records) e ≡ o
      → Did (take_one o (took e) (take_entries the_profile (after_record the_profile (client_of the_profile records) (took e)) [])) (Ok cursor) records n → SentTaken records n e
  taken_by records n e cursor None is d = record { fine = is; client = d.client }
  taken_by records n e cursor (Some w) is d = cc (d.answer_is)

  pub entry_ok : (records : List ClientRecord) (n : Client D G) (e : Sent) (cursor : ℕ) (did : ClientStep ℕ) → did ≡ take_entries the_profile (client_of the_profile records) (e ∷ [])
      → Did did (Ok cursor) records n → SentTaken records n e
  entry_ok records n e cursor did is d = taken_by records n e cursor _ refl (subst (λ s. Did s (Ok cursor) records n) is d)

  refused_by : (records : List ClientRecord) (n : Client D G) (e : Sent) (w : ClientRefusal) (o : Option ClientRefusal) → entry_refusal the_profile (client_of the_profile records) e ≡ o
      → Did (take_one o (took e) (take_entries the_profile (after_record the_profile (client_of the_profile records) (took e)) [])) (Err w) records n → SentRefused records n e w
  refused_by records n e w None is d = cc (d.answer_is)
  refused_by records n e w (Some v) is d = record { cause = is ∙ ap (λ (r : Result ℕ ClientRefusal). Some (refusal_in r v)) d.answer_is; client = subst (λ rs. IsClientOf rs n) (append-nil records) d.client }

  pub entry_err : (records : List ClientRecord) (new : MarkedClient D G) (e : Sent) (why : MarkedRefusal) (did : ClientStep ℕ) → did ≡ take_entries the_profile (client_of the_profile records) (e ∷ [])
      → RefusedAsEver did records new why → EntryRefusedAsEver records new e why
  entry_err records new e (refusals.Client w) did is r =
      if_seen_on (refusal_seen w) (λ v. Did did (Err v) records new.client) (SentRefused records new.client e)
      (λ v d. refused_by records new.client e v _ refl (subst (λ s. Did s (Err v) records new.client) is d)) r
  entry_err records new e refusals.NoLife did is r = r
  entry_err records new e refusals.NoLives did is r = r
  entry_err records new e refusals.OtherHistory did is r = r
  entry_err records new e (refusals.Diverged version) did is r = r
  entry_err records new e (refusals.FileForked number) did is r = r
  entry_err records new e refusals.AlreadySaved did is r = r
  entry_err records new e refusals.FrontierTooLong did is r = r
  entry_err records new e refusals.TooMany did is r = r
  entry_err records new e refusals.Broken did is r = r

  pub entry_faulted : (records : List ClientRecord) (new : MarkedClient D G) (e : Sent) (why : MarkedRefusal) → IsFault why → EntryRefusedAsEver records new e why
  entry_faulted records new e (refusals.Client w) f = fault_seen w _ f
  entry_faulted records new e refusals.NoLife f = f
  entry_faulted records new e refusals.NoLives f = f
  entry_faulted records new e refusals.OtherHistory f = f
  entry_faulted records new e (refusals.Diverged version) f = f
  entry_faulted records new e (refusals.FileForked number) f = f
  entry_faulted records new e refusals.AlreadySaved f = f
  entry_faulted records new e refusals.FrontierTooLong f = f
  entry_faulted records new e refusals.TooMany f = f
  entry_faulted records new e refusals.Broken f = f

  pub entry_says : (records : List ClientRecord) (new : MarkedClient D G) (e : Sent) (taken : Taken) (did : ClientStep ℕ) → did ≡ take_entries the_profile (client_of the_profile records) (e ∷ [])
      → TookAsEver did records new (Ok taken) → SentTaken records new.client e
  entry_says records new e (takens.Cursor cursor) did is r = entry_ok records new.client e cursor did is r
  entry_says records new e (takens.GivenUp given) did is r = absurd r

  -- ---- all of them

  -- these records were written so far, and these entries are left, of which the first has this version
  pub record EntriesSoFar (records : List ClientRecord) (now : MarkedClient D G) (ident version : ℕ) (all rest : List Sent) : Type 0 where
    pub written : List ClientRecord
    pub taken : TakenSoFar the_profile records written all rest
    pub client : IsClientOf written now.client
    pub next : IsNext written ident version

  pub at_first : (records : List ClientRecord) (now : MarkedClient D G) (ident version : ℕ) (all : List Sent) → IsClientOf records now.client → IsNext records ident version → EntriesSoFar records now ident version all all
  at_first records now ident version all k next = record { written = records; taken = taken_at_first the_profile records all; client = k; next = next }

  pub goes_on : (records : List ClientRecord) (now new : MarkedClient D G) (ident version : ℕ) (all left rest : List Sent) (e : Sent) → left ≡ e ∷ rest → EntriesSoFar records now ident version all left
      → ((rs : List ClientRecord) → IsClientOf rs now.client → IsNext rs ident version → SentTaken rs new.client e) → EntriesSoFar records new ident (version + 1) all rest
  goes_on records now new ident version all left rest e is s step =
      let t = step s.written s.client s.next in
      record {
        written = s.written ++ took e ∷ [];
        taken = taken_next the_profile records all s.written e rest (subst (TakenSoFar the_profile records s.written all) is s.taken) t.fine;
        client = t.client;
        next = next_of s.written e ident version s.next;
      }

  pub ends : (records : List ClientRecord) (now : MarkedClient D G) (ident version cursor : ℕ) (all rest : List Sent) (did : ClientStep ℕ) → rest ≡ [] → EntriesSoFar records now ident version all rest
      → did ≡ take_entries the_profile (client_of the_profile records) all → ((rs : List ClientRecord) → IsClientOf rs now.client → cursor ≡ (client_of the_profile rs).cursor)
      → Did did (Ok cursor) records now.client
  ends records now ident version cursor all rest did none s is told =
      let t = taken_ends the_profile records all s.written (subst (TakenSoFar the_profile records s.written all) none s.taken) in
      subst (λ d. Did d (Ok cursor) records now.client) (sym is)
      (record { answer_is = t.0 ∙ ap (λ n. Ok n) (sym (told s.written s.client)); client = subst (λ rs. IsClientOf rs now.client) t.1 s.client })

  pub stops : (records : List ClientRecord) (now new : MarkedClient D G) (ident version : ℕ) (all left rest : List Sent) (e : Sent) (why : MarkedRefusal) (did : ClientStep ℕ) → left ≡ e ∷ rest
      → EntriesSoFar records now ident version all left → did ≡ take_entries the_profile (client_of the_profile records) all
      → ((rs : List ClientRecord) → IsClientOf rs now.client → IsNext rs ident version → EntryRefusedAsEver rs new e why) → RefusedAsEver did records new why
  stops records now new ident version all left rest e why did is s did_is step = by_reason why (step s.written s.client s.next)
    where
      by_reason : (why : MarkedRefusal) → EntryRefusedAsEver s.written new e why → RefusedAsEver did records new why
      by_reason (refusals.Client w) r =
          if_seen_on (refusal_seen w) (SentRefused s.written new.client e) (λ v. Did did (Err v) records new.client)
          (λ v h.
          let t = taken_stops the_profile records all s.written e rest v (subst (TakenSoFar the_profile records s.written all) is s.taken) h.cause in
          subst (λ d. Did d (Err v) records new.client) (sym did_is) (record { answer_is = t.0; client = subst (λ rs. IsClientOf rs new.client) t.1 h.client })) r
      by_reason refusals.NoLife r = r
      by_reason refusals.NoLives r = r
      by_reason refusals.OtherHistory r = r
      by_reason (refusals.Diverged version) r = r
      by_reason (refusals.FileForked number) r = r
      by_reason refusals.AlreadySaved r = r
      by_reason refusals.FrontierTooLong r = r
      by_reason refusals.TooMany r = r
      by_reason refusals.Broken r = r

-- what is left at a place
pub left_at : (es : List SentParts) (i : ℕ) (e : SentParts) → i < length es → e ≡ get_or es i e → map sent_seen (drop i es) ≡ sent_seen e ∷ map sent_seen (drop (i + 1) es)
left_at es i e h is = ap (map sent_seen) (drop-cons es i e h ∙ ap₂ (λ x j. x ∷ drop j es) (sym is) (sym (add-one i)))

pub none_left : (es : List SentParts) (i : ℕ) → length es ≤ i → map sent_seen (drop i es) ≡ []
none_left es i h = ap (map sent_seen) (drop_of_length-le es h)
