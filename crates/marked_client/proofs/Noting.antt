-- Notes that are written one after the other, and what they leave as it is.
use Rattle.std.proofs.Common.{◌≡◌, ℕ, false, List, [], ◌∷◌, ◌++◌, Option, Some, None, Ok, Err, Result, map, refl, sym, ap, subst, ◌∙◌, append_assoc}
use Rattle.std.proofs.lemmas.List.{append-nil}
use Rattle.std.specs.Prelude.{OnOk}
use Rattle.sync_disk.specs.declared.disk.Disk.{Ghosts}
use Rattle.sync_journal.specs.Stands.{StandsNoted}
use Rattle.sync_model.specs.Clients.{ClientRecord, ClientRefusal, ClientStep}
use Rattle.sync_client.specs.Clients.{Did, IsClientOf, journal_of}
use Rattle.sync_client.specs.Keeping.{Keeps}
use Rattle.sync_client.specs.Refusals.{refusal_seen, IfSeen}
use Rattle.sync_client.specs.declared.refusal.ClientRefusal.{ClientRefusal as CodeRefusal}
use Rattle.sync_client.proofs.OneEntry.{if_seen_on}
use Rattle.life_bytes.specs.declared.note.Note.{Note}
use Rattle.life_bytes.specs.Spelling.{note_spelling}
use Rattle.life_marks.specs.ClientMarks.{Marks, after_note}
use Rattle.marked_client.specs.declared.client.MarkedClient.{MarkedClient}
use Rattle.marked_client.specs.declared.refusal.MarkedRefusal.{MarkedRefusal}
use Rattle.marked_client.specs.declared.refusal.MarkedRefusal.TheVariants as refusals
use Rattle.marked_client.specs.Marked.{IsFault, Notes, RefusedAsEver, Same, after_notes, begin_notes, is_closed, made_notes, marks_of}
use Rattle.marked_client.specs.Testing.{has_lives}
use Rattle.sync_model.proofs.Own.{if_false}

pub after_both : (m : Marks) (ns ms : List Note) → after_notes m (ns ++ ms) ≡ after_notes (after_notes m ns) ms
after_both m [] ms = refl
after_both m (n ∷ ns) ms = after_both (after_note m n) ns ms

spelled_both : (ns ms : List Note) → map note_spelling (ns ++ ms) ≡ map note_spelling ns ++ map note_spelling ms
spelled_both [] ms = refl
spelled_both (n ∷ ns) ms = ap (λ (xs : List (List ℕ)). note_spelling n ∷ xs) (spelled_both ns ms)

pub on_ok : {A B P Q : Type 0} (r : Result A B) → (P → Q) → OnOk r P → OnOk r Q
on_ok (Ok a) f p = f p
on_ok (Err b) f p = p

-- what comes of a fault isn't told
pub fault_seen : (w : CodeRefusal) (F : ClientRefusal → Type 0) → refusal_seen w ≡ None → IfSeen (refusal_seen w) F
fault_seen w F none = subst (λ o. IfSeen o F) (sym none) tt

-- a client without lives notes nothing
pub no_notes : (m : Marks) (life : Option (List ℕ)) → has_lives m life ≡ false → made_notes m life ≡ []
no_notes m None e = refl
no_notes m (Some life) e = if_false (has_lives m (Some life)) (begin_notes m life) [] e

module _ {D : Type 0} {G : Ghosts D} where
  pub notes_none : (a : MarkedClient D G) → Notes [] a a
  notes_none a = record {
    marks = refl;
    records = λ rs s. s;
    noted = λ ps s. subst (λ (xs : List (List ℕ)). StandsNoted xs (journal_of a.client)) (sym (append-nil ps)) s;
  }

  pub notes_both : (ns ms : List Note) (a b c : MarkedClient D G) → Notes ns a b → Notes ms b c → Notes (ns ++ ms) a c
  notes_both ns ms a b c p q = record {
    marks = q.marks ∙ ap (λ (m : Marks). after_notes m ms) p.marks ∙ sym (after_both (marks_of a) ns ms);
    records = λ rs s. q.records rs (p.records rs s);
    noted = λ ps s. subst (λ (xs : List (List ℕ)). StandsNoted xs (journal_of c.client)) (append_assoc ps (map note_spelling ns) (map note_spelling ms) ∙ ap (λ (xs : List (List ℕ)). ps ++ xs) (sym (spelled_both ns ms))) (q.noted (ps ++ map note_spelling ns) (p.noted ps s));
  }

  pub still_client : (records : List ClientRecord) (a b : MarkedClient D G) → Same a b → (is_closed a ≡ false → is_closed b ≡ false) → IsClientOf records a.client → IsClientOf records b.client
  still_client records a b same open_ k = record { kept = subst (Keeps records) (sym same.replica) k.kept; open_ = open_ k.open_ }

  pub faulted : {A : Type 0} (did : ClientStep A) (records : List ClientRecord) (new : MarkedClient D G) (why : MarkedRefusal) → IsFault why → RefusedAsEver did records new why
  faulted did records new (refusals.Client w) f = fault_seen w _ f
  faulted did records new refusals.NoLife f = f
  faulted did records new refusals.NoLives f = f
  faulted did records new refusals.OtherHistory f = f
  faulted did records new (refusals.Diverged version) f = f
  faulted did records new (refusals.FileForked number) f = f
  faulted did records new refusals.AlreadySaved f = f
  faulted did records new refusals.FrontierTooLong f = f
  faulted did records new refusals.TooMany f = f
  faulted did records new refusals.Broken f = f

  -- the client that did a step, behind notes
  still_did : {A : Type 0} (did : ClientStep A) (w : ClientRefusal) (records : List ClientRecord) (a b : MarkedClient D G) → Same a b → (is_closed a ≡ false → is_closed b ≡ false) → Did did (Err w) records a.client → Did did (Err w) records b.client
  still_did did w records a b same open_ d = record { answer_is = d.answer_is; client = still_client (records ++ did.records) a b same open_ d.client }

  pub still_refused : {A : Type 0} (did : ClientStep A) (records : List ClientRecord) (a b : MarkedClient D G) (why : MarkedRefusal) → Same a b → (is_closed a ≡ false → is_closed b ≡ false) → RefusedAsEver did records a why → RefusedAsEver did records b why
  still_refused did records a b (refusals.Client w) same open_ r = if_seen_on (refusal_seen w) (λ v. Did did (Err v) records a.client) (λ v. Did did (Err v) records b.client) (λ v d. still_did did v records a b same open_ d) r
  still_refused did records a b refusals.NoLife same open_ r = r
  still_refused did records a b refusals.NoLives same open_ r = r
  still_refused did records a b refusals.OtherHistory same open_ r = r
  still_refused did records a b (refusals.Diverged version) same open_ r = r
  still_refused did records a b (refusals.FileForked number) same open_ r = r
  still_refused did records a b refusals.AlreadySaved same open_ r = r
  still_refused did records a b refusals.FrontierTooLong same open_ r = r
  still_refused did records a b refusals.TooMany same open_ r = r
  still_refused did records a b refusals.Broken same open_ r = r
