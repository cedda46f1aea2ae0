-- The loop that takes the entries of a Download.
use Rattle.std.proofs.Common.{append-nil, append_assoc, ◌≡◌, ℕ, zero, suc, ◌+◌, ◌-◌, ◌≤◌, ◌<◌, false, List, [], ◌∷◌, ◌++◌, length, map, drop, get_or, drop-cons, add-one, Option, Some, None, Result, Ok, Err, refl, ap, ap₂, ◌∙◌, sym, subst, arith, le_refl}
use Rattle.std.proofs.Math.ListN.{drop_of_length-le}
use Rattle.sync_disk.specs.declared.disk.Disk.{Ghosts}
use Rattle.sync_disk.specs.Disk.{Told}
use Rattle.sync_journal.specs.Several.{Asks}
use Rattle.sync_data.specs.declared.instr.Instr.{Instr}
use Rattle.sync_base.specs.States.{State}
use Rattle.sync_messages.specs.Parts.{SentParts}
use Rattle.sync_model.specs.Clients.{Client as Model, ClientRecord, ClientRefusal, TakenSoFar, after_record, client_of, entry_refusal, take_born, take_entries, take_one, took}
use Rattle.sync_model.specs.Messages.{Message, Sent}
use Rattle.sync_model.proofs.Loops.{taken_at_first, taken_ends, taken_next, taken_stops}
use Rattle.sync_model.proofs.Own.{client_step}
use Rattle.sync_exchange.specs.Profile.{the_profile}
use Rattle.sync_exchange.specs.Seen.{client_bytes, sent_seen}
use Rattle.sync_client.specs.declared.client.Client.{Client}
use Rattle.sync_client.specs.declared.refusal.ClientRefusal.{ClientRefusal as CodeRefusal}
use Rattle.sync_client.specs.Clients.{AskedFor, Did, IsClientOf, IsStored, Leaves, Survives, is_closed}
use Rattle.sync_client.specs.Refusals.{refusal_seen, IfSeen}
use Rattle.sync_client.specs.Taking.{SentRefused, SentTaken}
use Rattle.sync_client.specs.declared.replica.Replica.{Replica}
use Rattle.sync_client.specs.Keeping.{Keeps}
use Rattle.sync_client.proofs.Calls.{if_seen_both}
use Rattle.sync_client.proofs.Taken.{downloading}
use Rattle.sync_client.proofs.Leaving.{both, leaves_none, part}
use Rattle.sync_client.proofs.OneEntry.{behind_first, entry_refused, entry_taken, first_and_behind, if_seen_on}
use Rattle.sync_client.proofs.Strokes.{both_asked, none_asked, stopped_asked}

-- what is left at an index below the end
pub left_at : (es : List SentParts) (i : ℕ) (e : SentParts) → i < length es → e ≡ get_or es i e → map sent_seen (drop i es) ≡ sent_seen e ∷ map sent_seen (drop (i + 1) es)
left_at es i e h is = ap (map sent_seen) (drop-cons es i e h ∙ ap₂ (λ x j. x ∷ drop j es) (sym is) (sym (add-one i)))

pub length_map : (es : List SentParts) → length (map sent_seen es) ≡ length es
length_map [] = refl
length_map (e ∷ es) = ap suc (length_map es)

pub none_left : (es : List SentParts) (i : ℕ) → length es ≤ i → map sent_seen (drop i es) ≡ []
none_left es i h = ap (map sent_seen) (drop_of_length-le es h)

module _ {D : Type 0} {G : Ghosts D} where
  -- these records were written so far, and these entries are left
  pub record SoFar (old now : Client D G) (records : List ClientRecord) (all rest : List Sent) : Type 0 where
    pub written : List ClientRecord
    pub taken : TakenSoFar the_profile records written all rest
    pub client : IsClientOf written now
    pub stored : IsStored records old → IsStored written now
    pub added : List ClientRecord
    pub written_is : written ≡ records ++ added
    pub whole : (take_entries the_profile (client_of the_profile records) all).records ≡ added ++ (take_entries the_profile (client_of the_profile written) rest).records
    pub leaves : IsStored records old → Leaves records added old.journal now.journal
    pub asks : IsStored records old → Asks (map client_bytes added) old.journal now.journal

  -- what an entry leaves and asks
  abbrev pub SurvivesSent : Client D G → Client D G → Sent → Result (Unit {0}) CodeRefusal → Type 0
  SurvivesSent now next e result = (records : List ClientRecord) → IsClientOf records now → IsStored records now → Survives (take_entries the_profile (client_of the_profile records) (e ∷ [])) records now next result

  pub record LoopSoFar (old now : Client D G) (all rest : List Sent) : Type 0 where
    pub open_ : is_closed now ≡ false
    pub named : 1 ≤ now.replica.ident
    pub room : now.replica.cursor + length rest ≤ 4294967295
    pub later : G.faults old.journal.disk ≤ G.faults now.journal.disk
    pub same_origin : G.origin now.journal.disk ≡ G.origin old.journal.disk
    pub told : Told (G.content old.journal.disk) (λ b. (c : List ℕ) × (G.content now.journal.disk ≡ Some c))
    pub so_far : (records : List ClientRecord) → IsClientOf records old → SoFar old now records all rest

  pub at_first : (c : Client D G) (all : List Sent) → ((disk : D) (b : List ℕ) → G.images_since disk (G.moment disk) b → G.images disk b) → is_closed c ≡ false → 1 ≤ c.replica.ident → c.replica.cursor + length all ≤ 4294967295 → LoopSoFar c c all all
  at_first c all only_now open_ named room = record {
    open_ = open_;
    named = named;
    room = room;
    later = le_refl (G.faults c.journal.disk);
    same_origin = refl;
    told = λ b is. (b, is);
    so_far = λ records k. record {
      written = records;
      taken = taken_at_first the_profile records all;
      client = k;
      stored = λ s. s;
      added = [];
      written_is = sym (append-nil records);
      whole = refl;
      leaves = λ s. leaves_none records [] c.journal c.journal only_now refl s;
      asks = λ s. none_asked [] c.journal c.journal refl refl;
    };
  }

  pub goes_on : (old now next : Client D G) (all rest left : List Sent) (e : Sent) → LoopSoFar old now all left → left ≡ e ∷ rest
      → is_closed next ≡ false → next.replica.ident ≡ now.replica.ident → next.replica.cursor ≡ now.replica.cursor + 1 → G.faults now.journal.disk ≤ G.faults next.journal.disk
      → ((records : List ClientRecord) → IsClientOf records now → SentTaken records next e) → SurvivesSent now next e (Ok tt)
      → G.origin next.journal.disk ≡ G.origin now.journal.disk → Told (G.content now.journal.disk) (λ b. (c : List ℕ) × (G.content next.journal.disk ≡ Some c))
      → LoopSoFar old next all rest
  goes_on old now next all rest left e l is open_ ident cursor later step survives same told =
      let count = ap length is in
      let room = l.room in
      let before = l.later in
      record {
        open_ = open_;
        named = subst (λ n. 1 ≤ n) (sym ident) l.named;
        room = omega (arith, room, count, cursor);
        later = omega (arith, before, later);
        same_origin = same ∙ l.same_origin;
        told = λ b given. let m = l.told b given in told m.0 m.1;
        so_far = λ records k.
            let s = l.so_far records k in
            let t = step s.written s.client in
            let one : (take_entries the_profile (client_of the_profile s.written) (e ∷ [])).records ≡ took e ∷ [] = ap (λ d. d.records) (entry_taken s.written e t.fine) in
            let after = λ (c : Model Instr State). (take_entries the_profile c rest).records in
            record {
              written = s.written ++ took e ∷ [];
              taken = taken_next the_profile records all s.written e rest (subst (TakenSoFar the_profile records s.written all) is s.taken) t.fine;
              client = t.client;
              stored = λ h. subst (λ rs. IsStored (s.written ++ rs) next) one (survives s.written s.client (s.stored h)).stored;
              added = s.added ++ took e ∷ [];
              written_is = ap (λ ws. ws ++ took e ∷ []) s.written_is ∙ append_assoc records s.added (took e ∷ []);
              whole = s.whole
                  ∙ ap (λ es. s.added ++ (take_entries the_profile (client_of the_profile s.written) es).records) is
                  ∙ ap (λ o. s.added ++ (take_one o (took e) (take_entries the_profile (after_record the_profile (client_of the_profile s.written) (took e)) rest)).records) t.fine
                  ∙ ap (λ c. s.added ++ took e ∷ after c) (sym (client_step the_profile s.written (took e)))
                  ∙ sym (append_assoc s.added (took e ∷ []) (after (client_of the_profile (s.written ++ took e ∷ []))));
              leaves = λ h. both records s.added (took e ∷ []) old.journal now.journal next.journal (s.leaves h)
                  (subst (λ ws. Leaves ws (took e ∷ []) now.journal next.journal) s.written_is (subst (λ rs. Leaves s.written rs now.journal next.journal) one (survives s.written s.client (s.stored h)).any_moment));
              asks = λ h. both_asked s.added (took e ∷ []) old.journal now.journal next.journal (s.asks h)
                  (subst (λ rs. Asks (map client_bytes rs) now.journal next.journal) one (survives s.written s.client (s.stored h)).asked);
            };
      }

  pub stops : (old now next : Client D G) (all rest left : List Sent) (e : Sent) (why : CodeRefusal) → LoopSoFar old now all left → left ≡ e ∷ rest
      → ((records : List ClientRecord) → IsClientOf records now → IfSeen (refusal_seen why) (SentRefused records next e))
      → (records : List ClientRecord) → IsClientOf records old → IfSeen (refusal_seen why) (λ w. Did (take_entries the_profile (client_of the_profile records) all) (Err w) records next)
  stops old now next all rest left e why l is step records k =
      let s = l.so_far records k in
      if_seen_both (refusal_seen why) (SentRefused s.written next e) (λ w. Unit {0}) (λ w. Did (take_entries the_profile (client_of the_profile records) all) (Err w) records next)
      (λ w h u.
      let t = taken_stops the_profile records all s.written e rest w (subst (TakenSoFar the_profile records s.written all) is s.taken) h.cause in
      record { answer_is = t.0; client = subst (λ rs. IsClientOf rs next) t.1 h.client })
      (step s.written s.client) (all_units (refusal_seen why))
    where
      all_units : (o : Option ClientRefusal) → IfSeen o (λ w. Unit {0})
      all_units None = tt
      all_units (Some w) = tt

  pub ends : (old now : Client D G) (all left : List Sent) → LoopSoFar old now all left → left ≡ [] → (records : List ClientRecord) → IsClientOf records old → Did (take_entries the_profile (client_of the_profile records) all) (Ok now.replica.cursor) records now
  ends old now all left l is records k =
      let s = l.so_far records k in
      let t = taken_ends the_profile records all s.written (subst (TakenSoFar the_profile records s.written all) is s.taken) in
      record {
        answer_is = t.0 ∙ ap (λ (c : Model Instr State). Ok c.cursor) s.client.kept.stands_for;
        client = subst (λ rs. IsClientOf rs now) t.1 s.client;
      }

  -- ---- the records of the whole, where the loop stops or ends
  all_records : (old now : Client D G) (records : List ClientRecord) (all rest left : List Sent) (e : Sent) → left ≡ e ∷ rest → (s : SoFar old now records all left)
      → (take_entries the_profile (client_of the_profile records) all).records
      ≡ s.added ++ ((take_entries the_profile (client_of the_profile s.written) (e ∷ [])).records
      ++ behind_first (entry_refusal the_profile (client_of the_profile s.written) e) (take_entries the_profile (after_record the_profile (client_of the_profile s.written) (took e)) rest))
  all_records old now records all rest left e is s =
      let c = client_of the_profile s.written in
      let then_ = after_record the_profile c (took e) in
      s.whole
      ∙ ap (λ es. s.added ++ (take_entries the_profile c es).records) is
      ∙ ap (λ l. s.added ++ l) (first_and_behind (entry_refusal the_profile c e) (took e) (take_entries the_profile then_ []) (take_entries the_profile then_ rest) refl)

  pub stops_survives : (old now next : Client D G) (all rest left : List Sent) (e : Sent) (why : CodeRefusal) → LoopSoFar old now all left → left ≡ e ∷ rest
      → ((records : List ClientRecord) → IsClientOf records now → IfSeen (refusal_seen why) (SentRefused records next e)) → SurvivesSent now next e (Err why)
      → (records : List ClientRecord) → IsClientOf records old → IsStored records old → Survives {B = ℕ} (take_entries the_profile (client_of the_profile records) all) records old next (Err why)
  stops_survives old now next all rest left e why l is step survives records k h =
      let s = l.so_far records k in
      let c = client_of the_profile s.written in
      let more = take_entries the_profile (after_record the_profile c (took e)) rest in
      let one = (take_entries the_profile c (e ∷ [])).records in
      let behind = behind_first (entry_refusal the_profile c e) more in
      let whole = sym (all_records old now records all rest left e is s) in
      let refused = step s.written s.client in
      let sent = survives s.written s.client (s.stored h) in
      record {
        stored = if_seen_both (refusal_seen why) (SentRefused s.written next e) (λ w. IsStored (s.written ++ one) next) (λ w. IsStored (records ++ (take_entries the_profile (client_of the_profile records) all).records) next)
            (λ w r kept.
            let t = taken_stops the_profile records all s.written e rest w (subst (TakenSoFar the_profile records s.written all) is s.taken) r.cause in
            subst (λ rs. IsStored rs next) (ap (λ l. s.written ++ l) (entry_refused s.written e w r.cause) ∙ append-nil s.written ∙ t.1) kept)
            refused sent.stored;
        any_moment = subst (λ rs. Leaves records rs old.journal next.journal) whole
            (both records s.added (one ++ behind) old.journal now.journal next.journal (s.leaves h)
            (subst (λ ws. Leaves ws (one ++ behind) now.journal next.journal) s.written_is (part s.written one behind now.journal next.journal sent.any_moment)));
        asked = subst (λ rs. AskedFor rs old.journal next.journal (Some why)) whole
            (stopped_asked why s.added one behind old.journal now.journal next.journal (s.asks h) sent.asked
            (if_seen_on (refusal_seen why) (SentRefused s.written next e) (λ w. behind ≡ []) (λ w r. ap (λ o. behind_first o more) r.cause) refused));
      }

  pub ends_survives : (old now : Client D G) (all left : List Sent) → LoopSoFar old now all left → left ≡ [] → (records : List ClientRecord) → IsClientOf records old → IsStored records old
      → Survives (take_entries the_profile (client_of the_profile records) all) records old now (Ok now.replica.cursor)
  ends_survives old now all left l is records k h =
      let s = l.so_far records k in
      let t = taken_ends the_profile records all s.written (subst (TakenSoFar the_profile records s.written all) is s.taken) in
      let whole = sym (s.whole ∙ ap (λ es. s.added ++ (take_entries the_profile (client_of the_profile s.written) es).records) is ∙ append-nil s.added) in
      record {
        stored = subst (λ rs. IsStored rs now) t.1 (s.stored h);
        any_moment = subst (λ rs. Leaves records rs old.journal now.journal) whole (s.leaves h);
        asked = subst (λ rs. Asks (map client_bytes rs) old.journal now.journal) whole (s.asks h);
      }

pub map_drop : (n : ℕ) (es : List SentParts) → drop n (map sent_seen es) ≡ map sent_seen (drop n es)
map_drop zero es = refl
map_drop (suc n) [] = refl
map_drop (suc n) (e ∷ es) = map_drop n es

-- a Download of this client is the entries behind those that it has
pub download_is : (records : List ClientRecord) (r : Replica) (ident from first second : ℕ) (es given rest : List SentParts) (id : List ℕ) → Keeps records r → ident ≡ r.ident → from ≤ r.cursor → from ≡ first → second ≡ first → given ≡ es → rest ≡ drop (r.cursor - second) given → (own : ℕ) → ident ≡ own
    → take_born the_profile (client_of the_profile records) (Message.Download own first (map sent_seen es)) id ≡ take_entries the_profile (client_of the_profile records) (map sent_seen rest)
download_is records r ident from first second es given rest id k mine behind is again same left own there =
    downloading records r own first (map sent_seen es) id k (sym there ∙ mine) (subst (λ n. n ≤ r.cursor) is behind)
    ∙ ap (take_entries the_profile (client_of the_profile records)) (map_drop (r.cursor - first) es ∙ ap (map sent_seen) (ap₂ (λ n xs. drop (r.cursor - n) xs) (sym again) (sym same) ∙ sym left))
