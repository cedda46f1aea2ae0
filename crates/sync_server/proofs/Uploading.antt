-- The loop over the changes of an Upload.
use Rattle.std.proofs.Common.{◌≡◌, ℕ, zero, suc, ◌+◌, ◌<◌, ◌≤◌, Bool, true, false, List, [], ◌∷◌, ◌++◌, length, map, drop, get_or, Option, Some, None, Result, Ok, Err, nat_le, is_some, if◌then◌else◌, inl, inr, refl, sym, ap, ◌∙◌, subst, arith, add-one, drop-cons, append-nil, append_assoc}
use Rattle.std.proofs.lemmas.Bool.{lt-leb}
use Rattle.std.proofs.Math.ListN.{drop_of_length-le}
use Rattle.sync_data.specs.declared.instr.Instr.{Instr}
use Rattle.sync_base.specs.States.{State}
use Rattle.sync_disk.specs.declared.disk.Disk.{Ghosts}
use Rattle.sync_disk.specs.Disk.{Told}
use Rattle.sync_journal.specs.Stands.{disk_of}
use Rattle.sync_messages.specs.Parts.{ChangeParts}
use Rattle.sync_model.specs.Messages.{Change, Message}
use Rattle.sync_model.specs.Parts.{Given, Merged, Parts, Served, at_ident, merged_by, merge_by, upload_by, ServedByPartsSoFar}
use Rattle.sync_model.specs.Servers.{ServerRecord, ServerRefusal}
use Rattle.sync_model.specs.Worlds.{at}
use Rattle.sync_model.proofs.Loops.{by_parts_begins, by_parts_skips, by_parts_merges, by_parts_refuses, by_parts_ends}
use Rattle.sync_exchange.specs.Profile.{the_profile}
use Rattle.sync_exchange.specs.Seen.{change_seen, message_seen}
use Rattle.sync_messages.specs.declared.message.Message.{Message as CodeMessage}
use Rattle.server_memory.specs.Kept.{parts}
use Rattle.server_memory.specs.Merging.{records_of}
use Rattle.server_memory.specs.Refusals.{refusal_seen}
use Rattle.server_memory.specs.Sending.{refusal_message}
use Rattle.sync_server.specs.Serving.{IsMerged, IsServed, IsTaken, JournalAppends, UploadedSoFar, change_records, merged_records}
use Rattle.server_memory.specs.declared.kept.Kept.{Kept}
use Rattle.server_memory.specs.declared.refusal.Refusal.{Refusal}
use Rattle.sync_server.specs.declared.refusal.ServerRefusal.{ServerRefusal as CodeRefusal}
use Rattle.sync_server.specs.declared.server.Server.{Server}
use Rattle.sync_server.proofs.Appending.{appends_more, appends_none, appends_part}
use Rattle.sync_server.proofs.Strokes.{told_both}

pub is_taken : (why : Option Refusal) (c : ℕ) (g : Given Instr) (h : Change) (old new : Kept) → nat_le h.number g.count ≡ false → IsMerged why (merge_by the_profile (parts old) c g h) old new → IsTaken why c g h old new
is_taken None c g h old new e m = inr (e, m)
is_taken (Some why) c g h old new e m = (e, m)

-- an ident that is given
pub at_given : (c : ℕ) (gs : List (Given Instr)) → 1 ≤ c → c ≤ length gs → (g : Given Instr) × (at_ident c gs ≡ Some g)
at_given zero gs h k = absurd (omega arith)
at_given (suc k) gs h l = at_there k gs (omega arith)
  where
    at_there : (k : ℕ) (gs : List (Given Instr)) → k < length gs → (g : Given Instr) × (at gs k ≡ Some g)
    at_there k [] h = absurd (omega arith)
    at_there zero (g ∷ gs) h = (g, refl)
    at_there (suc k) (g ∷ gs) h = at_there k gs (omega arith)

pub within_given : (c : ℕ) (gs : List (Given Instr)) (g : Given Instr) → at_ident c gs ≡ Some g → c ≤ length gs
within_given zero gs g e = omega arith
within_given (suc k) gs g e = let w = at_within k gs g e in omega (arith, w)
  where
    at_within : (k : ℕ) (gs : List (Given Instr)) (g : Given Instr) → at gs k ≡ Some g → k < length gs
    at_within k [] g e = cc
    at_within zero (d ∷ gs) g e = omega arith
    at_within (suc k) (d ∷ gs) g e = let w = at_within k gs g e in omega (arith, w)

pub some_within : (c : ℕ) (gs : List (Given Instr)) (o : Option (Given Instr)) → at_ident c gs ≡ o → is_some o ≡ true → c ≤ length gs
some_within c gs None is e = cc
some_within c gs (Some g) is e = within_given c gs g is

pub none_left : (hs : List ChangeParts) (i : ℕ) → length hs ≤ i → map change_seen (drop i hs) ≡ []
none_left hs i h = ap (map change_seen) (drop_of_length-le hs h)

pub left_at : (hs : List ChangeParts) (i : ℕ) (h : ChangeParts) → i < length hs → h ≡ get_or hs i h → map change_seen (drop i hs) ≡ change_seen h ∷ map change_seen (drop (i + 1) hs)
left_at hs i h lt is =
    let here : drop i hs ≡ h ∷ drop (i + 1) hs = rw (add-one, drop-cons hs i h) (ap (λ d. d ∷ drop (suc i) hs) (sym is)) in
    ap (map change_seen) here

skipped : (b : Bool) (l : List ServerRecord) → b ≡ true → (if b then [] else l) ≡ []
skipped true l e = refl
skipped false l e = cc

pub looked : (b : Bool) (l : List ServerRecord) → b ≡ false → (if b then [] else l) ≡ l
looked true l e = cc
looked false l e = refl

-- a change that is no repeat is merged, or refused
module _ (old : Kept) (c : ℕ) (g : Given Instr) (h k : Change) (above : g.count < h.number) (same : k ≡ h) where
  pub merged_change : (form : Bool) (new : Parts Instr State) → merge_by the_profile (parts old) c g k ≡ Ok (record { records = records_of form c k; parts = new })
      → (merge_by the_profile (parts old) c g h ≡ Ok (record { records = records_of form c h; parts = new })) × (change_records (parts old) c g h ≡ records_of form c h)
  merged_change form new is =
      let merges = subst (λ (x : Change). merge_by the_profile (parts old) c g x ≡ Ok (record { records = records_of form c x; parts = new })) same is in
      (merges, looked (nat_le h.number g.count) (merged_records (merge_by the_profile (parts old) c g h)) (lt-leb h.number g.count above) ∙ ap merged_records merges)

  pub refused_change : (why : ServerRefusal) → merge_by the_profile (parts old) c g k ≡ Err why → (merge_by the_profile (parts old) c g h ≡ Err why) × (change_records (parts old) c g h ≡ [])
  refused_change why is =
      let refuses = ap (merge_by the_profile (parts old) c g) (sym same) ∙ is in
      (refuses, looked (nat_le h.number g.count) (merged_records (merge_by the_profile (parts old) c g h)) (lt-leb h.number g.count above) ∙ ap merged_records refuses)

-- an Upload begins with the records of its first change
begins_with : (kept : Parts Instr State) (c : ℕ) (g : Given Instr) (h : Change) (rest : List Change) → (more : List ServerRecord) × ((upload_by the_profile kept c (Some g) (h ∷ rest)).records ≡ change_records kept c g h ++ more)
begins_with kept c g h rest = go (nat_le h.number g.count) (merge_by the_profile kept c g h)
  where
    go : (b : Bool) (r : Result (Merged Instr State) ServerRefusal)
        → (more : List ServerRecord) × ((if b then upload_by the_profile kept c (Some g) rest else merged_by kept c h.number r (λ after. upload_by the_profile after c (at_ident c after.idents) rest)).records ≡ (if b then [] else merged_records r) ++ more)
    go true r = ((upload_by the_profile kept c (Some g) rest).records, refl)
    go false (Ok m) = ((upload_by the_profile m.parts c (at_ident c m.parts.idents) rest).records, refl)
    go false (Err why) = ([], refl)

module _ {D : Type 0} {G : Ghosts D} (c : ℕ) where
  pub begins : (now : Server D G) (all : List Change) → ((disk : D) (b : List ℕ) → G.images_since disk (G.moment disk) b → G.images disk b) → UploadedSoFar c now now all all
  begins now all only_now = record { records = []; so_far = by_parts_begins the_profile c (parts now.kept) all; appends = appends_none now.journal now.journal only_now refl; told = λ b is. (b, is) }

  -- one change further
  pub goes_on : (old now new : Server D G) (all rest : List Change) (h : Change) (g : Given Instr) → at_ident c now.kept.history.idents ≡ Some g → UploadedSoFar c old now all (h ∷ rest) → IsTaken None c g h now.kept new.kept
      → JournalAppends (change_records (parts now.kept) c g h) now.journal new.journal None → Told (G.content (disk_of now.journal)) (λ b. (bytes : List ℕ) × (G.content (disk_of new.journal) ≡ Some bytes)) → UploadedSoFar c old new all rest
  goes_on old now new all rest h g there so (inl t) appended told =
      record {
        records = so.records ++ change_records (parts now.kept) c g h;
        so_far = subst (λ l. ServedByPartsSoFar the_profile c (parts old.kept) (parts new.kept) l all rest) (sym (ap (λ l. so.records ++ l) (skipped (nat_le h.number g.count) (merged_records (merge_by the_profile (parts now.kept) c g h)) t.0) ∙ append-nil so.records))
            (subst (λ k. ServedByPartsSoFar the_profile c (parts old.kept) k so.records all rest) (sym t.1) (by_parts_skips the_profile c h g there so.so_far t.0));
        appends = appends_more so.records (change_records (parts now.kept) c g h) old.journal now.journal new.journal None so.appends so.told appended;
        told = told_both (G.content (disk_of old.journal)) (G.content (disk_of now.journal)) (G.content (disk_of new.journal)) so.told told;
      }
  goes_on old now new all rest h g there so (inr t) appended told =
      record {
        records = so.records ++ change_records (parts now.kept) c g h;
        so_far = subst (λ l. ServedByPartsSoFar the_profile c (parts old.kept) (parts new.kept) l all rest) (sym (ap (λ l. so.records ++ l) (looked (nat_le h.number g.count) (merged_records (merge_by the_profile (parts now.kept) c g h)) t.0 ∙ ap merged_records t.1.1)))
            (subst (λ k. ServedByPartsSoFar the_profile c (parts old.kept) k (so.records ++ t.1.0.records) all rest) (sym t.1.2) (by_parts_merges the_profile c h g there so.so_far t.1.0 t.0 t.1.1));
        appends = appends_more so.records (change_records (parts now.kept) c g h) old.journal now.journal new.journal None so.appends so.told appended;
        told = told_both (G.content (disk_of old.journal)) (G.content (disk_of now.journal)) (G.content (disk_of new.journal)) so.told told;
      }

  -- what is answered at a refusal, and what is added
  pub record Answered (old new : Server D G) (s : Served Instr State) (reply : CodeMessage) : Type 0 where
    pub served : IsServed s reply new.kept
    pub appends : JournalAppends s.records old.journal new.journal None

  pub stops : (old now new : Server D G) (all rest : List Change) (h : Change) (g : Given Instr) (why : Refusal) (reply : CodeMessage) → at_ident c now.kept.history.idents ≡ Some g → UploadedSoFar c old now all (h ∷ rest) → IsTaken (Some why) c g h now.kept new.kept
      → JournalAppends (change_records (parts now.kept) c g h) now.journal new.journal None → message_seen reply ≡ refusal_message c h.number (refusal_seen why)
      → Answered old new (upload_by the_profile (parts old.kept) c (at_ident c old.kept.history.idents) all) reply
  stops old now new all rest h g why reply there so t appended is =
      let whole = by_parts_refuses the_profile c h g there so.so_far (refusal_seen why) t.0 t.1.0 in
      let none = looked (nat_le h.number g.count) (merged_records (merge_by the_profile (parts now.kept) c g h)) t.0 ∙ ap merged_records t.1.0 in
      record {
        served = record { reply_is = is ∙ ap (λ s. s.answer) (sym whole); parts_are = t.1.1 ∙ ap (λ s. s.parts) (sym whole) };
        appends = subst (λ l. JournalAppends l old.journal new.journal None) (ap (λ l. so.records ++ l) none ∙ append-nil so.records ∙ ap (λ s. s.records) (sym whole))
            (appends_more so.records (change_records (parts now.kept) c g h) old.journal now.journal new.journal None so.appends so.told appended);
      }

  pub ends : (old now : Server D G) (all : List Change) (g : Given Instr) (reply : CodeMessage) → at_ident c now.kept.history.idents ≡ Some g → UploadedSoFar c old now all [] → message_seen reply ≡ Message.Stored c g.count
      → Answered old now (upload_by the_profile (parts old.kept) c (at_ident c old.kept.history.idents) all) reply
  ends old now all g reply there so is =
      let whole = by_parts_ends the_profile c g there so.so_far in
      record {
        served = record { reply_is = is ∙ ap (λ s. s.answer) (sym whole); parts_are = ap (λ s. s.parts) (sym whole) };
        appends = subst (λ l. JournalAppends l old.journal now.journal None) (ap (λ s. s.records) (sym whole)) so.appends;
      }

  -- the records of all changes begin with those up to one of them
  up_to : (old now : Server D G) (all rest : List Change) (h : Change) (g : Given Instr) → at_ident c now.kept.history.idents ≡ Some g → (so : UploadedSoFar c old now all (h ∷ rest))
      → (more : List ServerRecord) × ((upload_by the_profile (parts old.kept) c (at_ident c old.kept.history.idents) all).records ≡ (so.records ++ change_records (parts now.kept) c g h) ++ more)
  up_to old now all rest h g there so =
      let more = begins_with (parts now.kept) c g h rest in (
        more.0,
        ap (λ s. s.records) so.so_far.same
            ∙ ap (λ o. so.records ++ (upload_by the_profile (parts now.kept) c o (h ∷ rest)).records) there
            ∙ ap (λ l. so.records ++ l) more.1
            ∙ sym (append_assoc so.records (change_records (parts now.kept) c g h) more.0),
      )

  -- a call that ends at a change leaves some of the records of all changes, and asked for some of their appends
  pub fails : (old now new : Server D G) (all rest : List Change) (h : Change) (g : Given Instr) (why : CodeRefusal) → at_ident c now.kept.history.idents ≡ Some g → UploadedSoFar c old now all (h ∷ rest)
      → JournalAppends (change_records (parts now.kept) c g h) now.journal new.journal (Some why) → JournalAppends (upload_by the_profile (parts old.kept) c (at_ident c old.kept.history.idents) all).records old.journal new.journal (Some why)
  fails old now new all rest h g why there so appended =
      let whole = up_to old now all rest h g there so in
      subst (λ l. JournalAppends l old.journal new.journal (Some why)) (sym whole.1)
      (appends_part (so.records ++ change_records (parts now.kept) c g h) whole.0 old.journal new.journal why (appends_more so.records (change_records (parts now.kept) c g h) old.journal now.journal new.journal (Some why) so.appends so.told appended))
