-- What a run of recovery appends is what a list of its client's transactions does in a world.
use Rattle.std.proofs.Common.{append-nil, append_assoc, ◌≡◌, ℕ, Bool, true, false, List, [], ◌∷◌, ◌++◌, Option, Some, None, Result, Ok, Err, refl, sym, ap, ◌∙◌, subst, if◌then◌else◌, ◌==◌}
use Rattle.std.specs.Prelude.{bytes_eq}
use Rattle.sync_model.specs.Bytes.{Name}
use Rattle.sync_model.specs.Profile.{Profile, Lawful}
use Rattle.sync_model.specs.Snapshots.{Buildable}
use Rattle.sync_model.specs.Messages.{Change, Message, Bind, Ident, Upload, Ask, Download, Refused, Stored, Ask2, Retire, Retired, AskTables}
use Rattle.sync_model.specs.Clients.{ClientRecord, ClientRefusal, client_of, after_records, commit}
use Rattle.sync_model.specs.Resets.{HeirAnswer, ResetRefusal, NotMine, Refuses, IsHeir, saved, heir, handled, says_only, count_known, recover_changes, recover_upload, recover_frame, recover_frames}
use Rattle.sync_model.specs.Rescues.{AllEdits, no_edits, an_edit, RunsAs}
use Rattle.sync_model.specs.Worlds.{Node, World, Event, Edits, at, stopped, made_words, client_moved, client_ends, client_called, happens, world_after}
use Rattle.sync_model.proofs.Lists.{at_put}
use Rattle.sync_model.proofs.Own.{after_append}
use Rattle.sync_model.proofs.Heirs.{heir_cases}
use Rattle.sync_model.proofs.Progress.Valid.{Valid, valid_step}

edits_append : {I : Type 0} {name : Name} {es fs : List (Event I)} → AllEdits name es → AllEdits name fs → AllEdits name (es ++ fs)
edits_append no_edits f = f
edits_append (an_edit e) f = an_edit (edits_append e f)

module _ {I S : Type 0} (p : Profile I S) {Fits Bounded Old : S → Type 0} (law : Lawful p Fits) (built : Buildable p Fits Bounded Old) where
  after_both : (es fs : List (Event I)) (w : World) → world_after p w (es ++ fs) ≡ world_after p (world_after p w es) fs
  after_both [] fs w = refl
  after_both (e ∷ es) fs w = after_both es fs (happens p w e).world

  abbrev with_more : Node → List ClientRecord → Node
  with_more nd rs = record nd { records = nd.records ++ rs }

  -- these records are appended by transactions
  record Does (w : World) (i : ℕ) (nd : Node) (rs : List ClientRecord) : Type 0 where
    events : List (Event I)
    edits : AllEdits nd.name events
    valid : Valid p (world_after p w events)
    after : at (world_after p w events).clients i ≡ Some (with_more nd rs)
    stops : (world_after p w events).stops nd.name ≡ None

  -- a client in a world, whose disk isn't armed
  record Stands (w : World) (i : ℕ) (nd : Node) : Type 0 where
    valid : Valid p w
    here : at w.clients i ≡ Some nd
    stops : w.stops nd.name ≡ None

  does_none : (w : World) (i : ℕ) (nd : Node) → Stands w i nd → Does w i nd []
  does_none w i nd s = record { events = []; edits = no_edits; valid = s.valid; after = s.here ∙ ap (λ l. Some (record nd { records = l })) (sym (append-nil nd.records)); stops = s.stops }

  still : {w : World} {i : ℕ} {nd : Node} {rs : List ClientRecord} (d : Does w i nd rs) → Stands (world_after p w d.events) i (with_more nd rs)
  still d = record { valid = d.valid; here = d.after; stops = d.stops }

  does_then : {w : World} {i : ℕ} {nd : Node} {rs ts : List ClientRecord} (d : Does w i nd rs) → Does (world_after p w d.events) i (with_more nd rs) ts → Does w i nd (rs ++ ts)
  does_then {w} {i} {nd} {rs} {ts} d f =
      let both = after_both d.events f.events w in
      record {
        events = d.events ++ f.events;
        edits = edits_append d.edits f.edits;
        valid = subst (Valid p) (sym both) f.valid;
        after = ap (λ (v : World). at v.clients i) both ∙ f.after ∙ ap (λ l. Some (record nd { records = l })) (append_assoc nd.records rs ts);
        stops = ap (λ (v : World). v.stops nd.name) both ∙ f.stops;
      }

  does_commit : (w : World) (i : ℕ) (nd : Node) → Stands w i nd → (ms : ℕ) (edits : List I) → Does w i nd (commit p (client_of p nd.records) ms edits).records
  does_commit w i nd s ms edits =
      record {
        events = Edits nd.name ms edits ∷ [];
        edits = an_edit no_edits;
        valid = valid_step p law built w (Edits nd.name ms edits) s.valid;
        after = ap (λ (v : World). at v.clients i) world_is ∙ at_put w.clients i nd (with_more nd (commit p (client_of p nd.records) ms edits).records) s.here;
        stops = ap (λ (v : World). v.stops nd.name) world_is ∙ disarmed (bytes_eq nd.name nd.name);
      }
    where
      said : (a : Result ℕ ClientRefusal) (v : World) → (made_words v a).world ≡ v
      said (Ok n) v = refl
      said (Err r) v = refl

      world_is : (happens p w (Edits nd.name ms edits)).world ≡ client_moved w i nd (commit p (client_of p nd.records) ms edits).records
      world_is =
          ap (λ q. (client_called p w (λ c. commit p c ms edits) made_words q).world) (s.valid.apart i nd s.here).0
          ∙ ap (λ o. (client_ends w i nd (commit p (client_of p nd.records) ms edits) made_words (stopped o (commit p (client_of p nd.records) ms edits).records)).world) s.stops
          ∙ said (commit p (client_of p nd.records) ms edits).answer (client_moved w i nd (commit p (client_of p nd.records) ms edits).records)

      disarmed : (b : Bool) → (if b then None else w.stops nd.name) ≡ None
      disarmed true = refl
      disarmed false = s.stops

  does_step : (w : World) (i : ℕ) (nd : Node) → Stands w i nd → (n : ℕ) (h : Change) → Does w i nd (heir p (client_of p nd.records) (client_of p nd.records).ident n h).records
  does_step w i nd s n h = heir_cases p (λ did. Does w i nd did.records) (client_of p nd.records) (client_of p nd.records).ident n h (λ why own. does_none w i nd s) (λ a. does_none w i nd s) (λ is read. does_commit w i nd s h.ms (saved p (client_of p nd.records).objects is).kept)

  does_changes : (hs : List Change) (w : World) (i : ℕ) (nd : Node) → Stands w i nd → (n : ℕ) → Does w i nd (recover_changes p (client_of p nd.records) n hs).records
  does_changes [] w i nd s n = does_none w i nd s
  does_changes (h ∷ hs) w i nd s n = go (heir p (client_of p nd.records) (client_of p nd.records).ident n h).answer (does_step w i nd s n h) (does_changes hs)
    where
      go : (a : Result HeirAnswer ResetRefusal) → Does w i nd (heir p (client_of p nd.records) (client_of p nd.records).ident n h).records → ((v : World) (j : ℕ) (x : Node) → Stands v j x → (m : ℕ) → Does v j x (recover_changes p (client_of p x.records) m hs).records)
          → Does w i nd (handled h.number (heir p (client_of p nd.records) (client_of p nd.records).ident n h).records a (λ new. recover_changes p (after_records p (client_of p nd.records) new) n hs)).records
      go (Ok a) one rec =
          let rs : List ClientRecord = (heir p (client_of p nd.records) (client_of p nd.records).ident n h).records in
          does_then one (subst (λ c. Does (world_after p w one.events) i (with_more nd (heir p (client_of p nd.records) (client_of p nd.records).ident n h).records) (recover_changes p c n hs).records) (after_append p _ nd.records (heir p (client_of p nd.records) (client_of p nd.records).ident n h).records)
          (rec (world_after p w one.events) i (with_more nd (heir p (client_of p nd.records) (client_of p nd.records).ident n h).records) (still one) n))
      go (Err why) one rec = one

  does_frame : (m : Message) (known : List (ℕ × ℕ)) (w : World) (i : ℕ) (nd : Node) → Stands w i nd → Does w i nd (recover_frame p (client_of p nd.records) known m).records
  does_frame (Retired ident by n) known w i nd s = go (by == (client_of p nd.records).ident)
    where
      go : (b : Bool) → Does w i nd (if b then says_only ((ident, n) ∷ known) (IsHeir ident n) else says_only known (Refuses NotMine)).records
      go true = does_none w i nd s
      go false = does_none w i nd s
  does_frame (Upload ident hs) known w i nd s = go (count_known ident known)
    where
      go : (o : Option ℕ) → Does w i nd (recover_upload p (client_of p nd.records) known o hs).records
      go None = does_none w i nd s
      go (Some n) = does_changes hs w i nd s n
  does_frame (Bind u) known w i nd s = does_none w i nd s
  does_frame (Ident u c) known w i nd s = does_none w i nd s
  does_frame (Ask c cursor settled) known w i nd s = does_none w i nd s
  does_frame (Ask2 c cursor settled) known w i nd s = does_none w i nd s
  does_frame (AskTables c cursor settled second tables) known w i nd s = does_none w i nd s
  does_frame (Download c from es) known w i nd s = does_none w i nd s
  does_frame (Refused c number code place) known w i nd s = does_none w i nd s
  does_frame (Stored c number) known w i nd s = does_none w i nd s
  does_frame (Retire c by) known w i nd s = does_none w i nd s

  does_frames : (ms : List Message) (known : List (ℕ × ℕ)) (w : World) (i : ℕ) (nd : Node) → Stands w i nd → Does w i nd (recover_frames p (client_of p nd.records) known ms).records
  does_frames [] known w i nd s = does_none w i nd s
  does_frames (m ∷ ms) known w i nd s =
      let one = does_frame m known w i nd s in
      does_then one (subst (λ c. Does (world_after p w one.events) i (with_more nd (recover_frame p (client_of p nd.records) known m).records) (recover_frames p c (recover_frame p (client_of p nd.records) known m).known ms).records) (after_append p _ nd.records (recover_frame p (client_of p nd.records) known m).records)
      (does_frames ms (recover_frame p (client_of p nd.records) known m).known (world_after p w one.events) i (with_more nd (recover_frame p (client_of p nd.records) known m).records) (still one)))

  pub runs_as : (w : World) → Valid p w → (i : ℕ) (nd : Node) → at w.clients i ≡ Some nd → w.stops nd.name ≡ None → (frames : List Message) → RunsAs p w i nd frames
  runs_as w v i nd here stops frames = let d = does_frames frames [] w i nd (record { valid = v; here = here; stops = stops }) in record { events = d.events; edits = d.edits; after = d.after }
