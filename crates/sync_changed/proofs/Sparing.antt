-- The ends of a list that places spare are as they were, where a message finds nothing unsent.
use Rattle.std.proofs.Common.{◌≡◌, ℕ, Bool, true, false, cond, not, ◌&&◌, List, [], ◌∷◌, ◌++◌, Result, Ok, Err, refl, sym, ◌∙◌, ap, subst, suc, length, arith}
use Rattle.std.specs.Prelude.{IfOk, map, ◌==◌}
use Rattle.std.proofs.lemmas.Bool.{eqb-true}
use Rattle.sync_data.specs.declared.instr.Instr.{Instr}
use Rattle.sync_base.specs.Effects.{CellPath, Effect, NewTable, NewColumn, Create, Erase, Change, effect_of}
use Rattle.sync_base.specs.Footprints.{CellAt}
use Rattle.sync_base.specs.States.{State, cell_at}
use Rattle.sync_exchange.specs.Profile.{the_profile}
use Rattle.sync_model.specs.Clients.{ClientRecord, Named, Made, Took, Unsent, after_record, after_records, carried_to, changeset_of, client_of, commit, crossed, no_client, ok_list, state_or, take}
use Rattle.sync_model.specs.Messages.{Message, Sent, Bind, Ident, Upload, Ask, Download, Refused, Stored, Ask2, Retire, Retired, AskTables}
use Rattle.sync_model.specs.Profile.{Stuck, cross_changesets}
use Rattle.sync_model.specs.Profile as profile
use Rattle.sync_model.proofs.Own.{after_append}
use Rattle.sync_theory.specs.Changesets.{Changeset}
use Rattle.sync_theory.specs.Grid.{rebase, tail}
use Rattle.sync_theory.specs.Lists.{run}
use Rattle.sync_changed.specs.declared.place.Place.{Place}
use Rattle.sync_changed.specs.Ends.{SameEnds, SameEndsAt, all_spare, elements, spares}
use Rattle.sync_changed.specs.Places.{body_places, covers, entry_places, message_places, place_of, places_in, told_place}
use Rattle.sync_changed.proofs.Ending.{ends_then, instr_ends, same_ends}
use Rattle.sync_changed.proofs.Keeping.{AllKeep, kept_so}
use Rattle.sync_changed.proofs.Leaving.{AllLeave}
use Rattle.sync_changed.proofs.Meeting.{changes_covers}
use Rattle.sync_changed.proofs.Stepping.{AllAre, EntriesAre, Held, MessageIs, commit_is, take_is}
use Rattle.sync_changed.proofs.Taking.{RecordLeaves, spelled_so, step_leaves}

both : (a b : Bool) → (a && b) ≡ true → (a ≡ true) × (b ≡ true)
both true b h = (refl, h)
both false b h = cc

not_true : (b : Bool) → not b ≡ true → b ≡ false
not_true true h = cc
not_true false h = refl

no_length : (us : List (Unsent Instr)) → length us ≡ 0 → us ≡ []
no_length [] h = refl
no_length (u ∷ us) h = absurd (omega arith)

module _ (f b : ℕ) (q : CellPath) where
  abbrev Spare : List Instr → Type 0
  Spare is = all_spare f b q (places_in true is) ≡ true

  abbrev Same : State → State → Type 0
  Same t s = SameEndsAt f b q t s

  itself : (s : State) → Same s s
  itself s = same_ends f b (elements (cell_at s q.0 q.1))

  then : (s t u : State) → Same u t → Same t s → Same u s
  then s t u h k = ends_then f b (elements (cell_at u q.0 q.1)) (elements (cell_at t q.0 q.1)) (elements (cell_at s q.0 q.1)) h k

  keeping : (is : List Instr) → Spare is → AllKeep Same is
  keeping [] h = tt
  keeping (i ∷ is) h =
      let n = both (spares f b q (told_place true (effect_of i))) (all_spare f b q (places_in true is)) h in
      ((λ s t e. instr_ends f b q i s t e n.0), keeping is n.1)

  list_ends : (is : List Instr) (s : State) → Spare is → Same (state_or s (run (profile.act the_profile) is s)) s
  list_ends is s h = kept_so Same itself then is s (keeping is h)

  -- ---- a transaction, whatever is unsent
  abbrev MadeSpares : ClientRecord → Type 0
  MadeSpares (Made number ms body) = Spare (ok_list (the_profile.unspell body))
  MadeSpares r = ⊥

  made_ends : (c : Held) (r : ClientRecord) → MadeSpares r → Same (after_record the_profile c r).objects c.objects
  made_ends c (Made number ms body) h = list_ends (ok_list (the_profile.unspell body)) c.objects h
  made_ends c r h = absurd h

  all_made_end : (c : Held) (rs : List ClientRecord) → AllAre MadeSpares rs → Same (after_records the_profile c rs).objects c.objects
  all_made_end c [] h = itself c.objects
  all_made_end c (r ∷ rs) h =
      then c.objects (after_record the_profile c r).objects (after_records the_profile (after_record the_profile c r) rs).objects (all_made_end (after_record the_profile c r) rs h.1) (made_ends c r h.0)

  pub edits_end : (is : List Instr) (rs : List ClientRecord) (ms : ℕ) → Spare is
      → Same (client_of the_profile (rs ++ (commit the_profile (client_of the_profile rs) ms is).records)).objects (client_of the_profile rs).objects
  edits_end is rs ms h =
      let more = (commit the_profile (client_of the_profile rs) ms is).records in
      subst (λ (c : Held). Same c.objects (client_of the_profile rs).objects) (sym (after_append the_profile (no_client the_profile) rs more))
      (all_made_end (client_of the_profile rs) more (commit_is MadeSpares (client_of the_profile rs) ms is (λ small n. spelled_so Spare is small h)).records)

  -- ---- a message, where nothing is unsent: then nothing is carried
  abbrev TookSpares : ClientRecord → Type 0
  TookSpares (Named ident) = Unit {0}
  TookSpares (Took origin number ms body) = Spare (ok_list (the_profile.unspell body))
  TookSpares r = ⊥

  record Follows (c d : Held) : Type 0 where
    ends : Same d.objects c.objects
    none : d.unsent ≡ []

  entry_follows : (c : Held) (e : Changeset Instr) (own : Bool) → c.unsent ≡ [] → Spare e.instrs
      → Follows c (cond own (record c { cursor = suc c.cursor; unsent = tail c.unsent }) (crossed the_profile c (rebase (cross_changesets the_profile) (map (changeset_of c.ident) c.unsent) e)))
  entry_follows c e true none h = record { ends = itself c.objects; none = ap tail none }
  entry_follows c e false none h =
      subst (λ (r : Result (List (Changeset Instr) × Changeset Instr) (ℕ × Stuck)). Follows c (crossed the_profile c r))
      (sym (ap (λ (us : List (Unsent Instr)). rebase (cross_changesets the_profile) (map (changeset_of c.ident) us) e) none))
      (record { ends = list_ends e.instrs c.objects h; none = ap (λ (us : List (Unsent Instr)). carried_to us []) none })

  record_follows : (c : Held) (r : ClientRecord) → c.unsent ≡ [] → TookSpares r → Follows c (after_record the_profile c r)
  record_follows c (Named ident) none h = record { ends = itself c.objects; none = none }
  record_follows c (Took origin number ms body) none h =
      entry_follows c (record { origin = origin; number = number; ms = ms; instrs = ok_list (the_profile.unspell body) }) (origin == c.ident) none h
  record_follows c r none h = absurd h

  records_follow : (c : Held) (rs : List ClientRecord) → c.unsent ≡ [] → AllAre TookSpares rs → Same (after_records the_profile c rs).objects c.objects
  records_follow c [] none h = itself c.objects
  records_follow c (r ∷ rs) none h =
      let one = record_follows c r none h.0 in
      then c.objects (after_record the_profile c r).objects (after_records the_profile (after_record the_profile c r) rs).objects (records_follow (after_record the_profile c r) rs one.none h.1) one.ends

  -- ---- the entries of a message
  spare_parts : (ps rs : List Place) → all_spare f b q (ps ++ rs) ≡ true → (all_spare f b q ps ≡ true) × (all_spare f b q rs ≡ true)
  spare_parts [] rs h = (refl, h)
  spare_parts (p ∷ ps) rs h =
      let n = both (spares f b q p) (all_spare f b q (ps ++ rs)) h in
      let rest = spare_parts ps rs n.1 in
      (ap (λ x. x && all_spare f b q ps) n.0 ∙ rest.0, rest.1)

  module _ (exact : Bool) (Q : ClientRecord → Type 0) (each : (origin number ms : ℕ) (body : List ℕ) → all_spare f b q (body_places exact body) ≡ true → Q (Took origin number ms body)) where
    spared_entries : (es : List Sent) → all_spare f b q (entry_places exact es) ≡ true → EntriesAre Q es
    spared_entries [] h = tt
    spared_entries (e ∷ es) h =
        let n = spare_parts (body_places exact e.body) (entry_places exact es) h in
        (each e.origin e.number e.ms e.body n.0, spared_entries es n.1)

    spared_message : (m : Message) → all_spare f b q (message_places exact m) ≡ true → MessageIs Q m
    spared_message (Download ident from entries) h = spared_entries entries h
    spared_message (Bind u) h = tt
    spared_message (Upload ident changes) h = tt
    spared_message (Ask ident cursor settled) h = tt
    spared_message (Ask2 ident cursor settled) h = tt
    spared_message (Retire ident by) h = tt
    spared_message (Retired ident by number) h = tt
    spared_message (AskTables ident cursor settled second tables) h = tt
    spared_message (Ident u ident) h = tt
    spared_message (Stored ident number) h = tt
    spared_message (Refused ident number code place) h = tt

  -- without the elements of lists a list that is spared is not told
  coarse : (d : Effect) → spares f b q (place_of d) ≡ true → covers (place_of d) (CellAt q) ≡ false
  coarse (NewTable t k) h = refl
  coarse (NewColumn t c def) h = not_true _ h
  coarse (Create o) h = not_true _ h
  coarse (Erase o) h = not_true _ h
  coarse (Change p e) h = not_true _ h

  coarse_left : (is : List Instr) → all_spare f b q (places_in false is) ≡ true → AllLeave (CellAt q) is
  coarse_left [] h = tt
  coarse_left (i ∷ is) h =
      let n = both (spares f b q (place_of (effect_of i))) (all_spare f b q (places_in false is)) h in
      (changes_covers (effect_of i) (CellAt q) ∙ coarse (effect_of i) n.0, coarse_left is n.1)

  pub message_ends : (exact : Bool) (m : Message) (rs : List ClientRecord) → (exact ≡ true → (client_of the_profile rs).unsent ≡ []) → all_spare f b q (message_places exact m) ≡ true
      → Same (client_of the_profile (rs ++ (take the_profile (client_of the_profile rs) m).records)).objects (client_of the_profile rs).objects
  message_ends true m rs none h =
      let more = (take the_profile (client_of the_profile rs) m).records in
      subst (λ (c : Held). Same c.objects (client_of the_profile rs).objects) (sym (after_append the_profile (no_client the_profile) rs more))
      (records_follow (client_of the_profile rs) more (none refl)
      (take_is TookSpares (client_of the_profile rs) m (λ ident. tt) (spared_message true TookSpares (λ origin number ms body k. k) m h)).records)
  message_ends false m rs none h =
      let more = (take the_profile (client_of the_profile rs) m).records in
      let same = step_leaves (CellAt q) rs more
      (take_is (RecordLeaves (CellAt q)) (client_of the_profile rs) m (λ ident. tt)
      (spared_message false (RecordLeaves (CellAt q)) (λ origin number ms body k. coarse_left (ok_list (the_profile.unspell body)) k) m h)).records in
      subst (λ x. SameEnds f b (elements x) (elements (cell_at (client_of the_profile rs).objects q.0 q.1))) (sym same) (itself (client_of the_profile rs).objects)

-- ---- by the lists that are handed out
pub edits_spare : {E : Type 0} {V : Type 0} (items : V → List Place) (is : List Instr) (r : Result V E) → IfOk r (λ places. items places ≡ places_in true is)
    → IfOk r (λ places. (rs : List ClientRecord) (ms f b : ℕ) (q : CellPath) → all_spare f b q (items places) ≡ true
    → SameEndsAt f b q (client_of the_profile (rs ++ (commit the_profile (client_of the_profile rs) ms is).records)).objects (client_of the_profile rs).objects)
edits_spare items is (Ok places) e = λ rs ms f b q h. edits_end f b q is rs ms (sym (ap (all_spare f b q) e) ∙ h)
edits_spare items is (Err why) e = tt

pub message_spares : {E : Type 0} {V : Type 0} (items : V → List Place) (unsent : ℕ) (m : Message) (r : Result V E) → IfOk r (λ places. items places ≡ message_places (unsent == 0) m)
    → IfOk r (λ places. (rs : List ClientRecord) (f b : ℕ) (q : CellPath) → length (client_of the_profile rs).unsent ≡ unsent → all_spare f b q (items places) ≡ true
    → SameEndsAt f b q (client_of the_profile (rs ++ (take the_profile (client_of the_profile rs) m).records)).objects (client_of the_profile rs).objects)
message_spares items unsent m (Ok places) e = λ rs f b q n h.
    message_ends f b q (unsent == 0) m rs (λ none. no_length (client_of the_profile rs).unsent (n ∙ eqb-true unsent 0 none)) (sym (ap (all_spare f b q) e) ∙ h)
message_spares items unsent m (Err why) e = tt
