-- What the records of a step leave, and whose places are told.
use Rattle.std.proofs.Common.{◌≡◌, ℕ, Bool, true, false, cond, ◌||◌, List, [], ◌∷◌, ◌++◌, Result, Ok, Err, refl, sym, ◌∙◌, ap, subst, suc}
use Rattle.std.specs.Prelude.{IfOk, map, ◌==◌}
use Rattle.sync_data.specs.declared.instr.Instr.{Instr}
use Rattle.sync_base.specs.Effects.{effect_of}
use Rattle.sync_base.specs.Footprints.{Part, SameAt}
use Rattle.sync_exchange.specs.Lemmas.Lawful.{real_lawful}
use Rattle.sync_exchange.specs.Profile.{the_profile}
use Rattle.sync_model.specs.Clients.{ClientRecord, Born, Named, Made, Took, Form, Subset, Part as PartRecord, Floor, Resumed, Waits, after_record, after_records, changeset_of, client_of, commit, crossed, no_client, ok_list, take}
use Rattle.sync_model.specs.Messages.{Message, Sent, Bind, Ident, Upload, Ask, Download, Refused, Stored, Ask2, Retire, Retired, AskTables}
use Rattle.sync_model.specs.Profile.{Stuck, cross_changesets, is_small}
use Rattle.sync_model.proofs.Own.{after_append}
use Rattle.sync_theory.specs.Changesets.{Changeset}
use Rattle.sync_theory.specs.Grid.{rebase, tail}
use Rattle.sync_changed.specs.declared.place.Place.{Place}
use Rattle.sync_changed.specs.Places.{body_places, covers, entry_places, is_told, message_places, places_in, told_place}
use Rattle.sync_changed.proofs.Leaving.{AllLeave, leaves, rebase_leaves, same_itself, same_then}
use Rattle.sync_changed.proofs.Meeting.{changes_covers, told_covers}
use Rattle.sync_changed.proofs.Stepping.{AllAre, EntriesAre, Held, MessageIs, commit_is, take_is}

-- ---- records
abbrev pub RecordLeaves : Part → ClientRecord → Type 0
RecordLeaves x (Born id) = Unit {0}
RecordLeaves x (Named ident) = Unit {0}
RecordLeaves x (Made number ms body) = AllLeave x (ok_list (the_profile.unspell body))
RecordLeaves x (Took origin number ms body) = AllLeave x (ok_list (the_profile.unspell body))
RecordLeaves x Form = Unit {0}
RecordLeaves x (Subset tables) = Unit {0}
RecordLeaves x (PartRecord body) = Unit {0}
RecordLeaves x (Floor version) = ⊥
RecordLeaves x (Resumed number waiting) = Unit {0}
RecordLeaves x (Waits number base ms body current) = Unit {0}

crossed_leaves : (x : Part) (c : Held) (r : Result (List (Changeset Instr) × Changeset Instr) (ℕ × Stuck)) → IfOk r (λ q. AllLeave x q.1.instrs) → SameAt (crossed the_profile c r).objects c.objects x
crossed_leaves x c (Ok q) h = leaves x q.1.instrs c.objects h
crossed_leaves x c (Err f) h = same_itself c.objects x

entry_leaves : (x : Part) (c : Held) (e : Changeset Instr) (b : Bool) → AllLeave x e.instrs
    → SameAt (cond b (record c { cursor = suc c.cursor; unsent = tail c.unsent }) (crossed the_profile c (rebase (cross_changesets the_profile) (map (changeset_of c.ident) c.unsent) e))).objects c.objects x
entry_leaves x c e true h = same_itself c.objects x
entry_leaves x c e false h = crossed_leaves x c (rebase (cross_changesets the_profile) (map (changeset_of c.ident) c.unsent) e) (rebase_leaves x (map (changeset_of c.ident) c.unsent) e h)

record_leaves : (x : Part) (c : Held) (r : ClientRecord) → RecordLeaves x r → SameAt (after_record the_profile c r).objects c.objects x
record_leaves x c (Born id) h = same_itself c.objects x
record_leaves x c (Named ident) h = same_itself c.objects x
record_leaves x c (Made number ms body) h = leaves x (ok_list (the_profile.unspell body)) c.objects h
record_leaves x c (Took origin number ms body) h = entry_leaves x c (record { origin = origin; number = number; ms = ms; instrs = ok_list (the_profile.unspell body) }) (origin == c.ident) h
record_leaves x c Form h = same_itself c.objects x
record_leaves x c (Subset tables) h = same_itself c.objects x
record_leaves x c (PartRecord body) h = same_itself c.objects x
record_leaves x c (Floor version) h = absurd h
record_leaves x c (Resumed number waiting) h = same_itself c.objects x
record_leaves x c (Waits number base ms body current) h = same_itself c.objects x

records_leave : (x : Part) (c : Held) (rs : List ClientRecord) → AllAre (RecordLeaves x) rs → SameAt (after_records the_profile c rs).objects c.objects x
records_leave x c [] h = same_itself c.objects x
records_leave x c (r ∷ rs) h =
    same_then c.objects (after_record the_profile c r).objects (after_records the_profile (after_record the_profile c r) rs).objects x (records_leave x (after_record the_profile c r) rs h.1) (record_leaves x c r h.0)

pub step_leaves : (x : Part) (rs more : List ClientRecord) → AllAre (RecordLeaves x) more → SameAt (client_of the_profile (rs ++ more)).objects (client_of the_profile rs).objects x
step_leaves x rs more h = subst (λ (c : Held). SameAt c.objects (client_of the_profile rs).objects x) (sym (after_append the_profile (no_client the_profile) rs more)) (records_leave x (client_of the_profile rs) more h)

-- ---- places that are not told
neither : (a b : Bool) → (a || b) ≡ false → (a ≡ false) × (b ≡ false)
neither true b h = cc
neither false b h = (refl, h)

untold_left : (exact : Bool) (x : Part) (is : List Instr) → is_told (places_in exact is) x ≡ false → AllLeave x is
untold_left exact x [] h = tt
untold_left exact x (i ∷ is) h =
    let n = neither (covers (told_place exact (effect_of i)) x) (is_told (places_in exact is) x) h in
    (changes_covers (effect_of i) x ∙ sym (told_covers exact (effect_of i) x) ∙ n.0, untold_left exact x is n.1)

untold_parts : (x : Part) (ps qs : List Place) → is_told (ps ++ qs) x ≡ false → (is_told ps x ≡ false) × (is_told qs x ≡ false)
untold_parts x [] qs h = (refl, h)
untold_parts x (p ∷ ps) qs h =
    let n = neither (covers p x) (is_told (ps ++ qs) x) h in
    let rest = untold_parts x ps qs n.1 in
    (ap (λ b. b || is_told ps x) n.0 ∙ rest.0, rest.1)

untold_entries : (exact : Bool) (x : Part) (es : List Sent) → is_told (entry_places exact es) x ≡ false → EntriesAre (RecordLeaves x) es
untold_entries exact x [] h = tt
untold_entries exact x (e ∷ es) h =
    let n = untold_parts x (body_places exact e.body) (entry_places exact es) h in
    (untold_left exact x (ok_list (the_profile.unspell e.body)) n.0, untold_entries exact x es n.1)

untold_message : (exact : Bool) (x : Part) (m : Message) → is_told (message_places exact m) x ≡ false → MessageIs (RecordLeaves x) m
untold_message exact x (Bind u) h = tt
untold_message exact x (Upload ident changes) h = tt
untold_message exact x (Ask ident cursor settled) h = tt
untold_message exact x (Ask2 ident cursor settled) h = tt
untold_message exact x (Retire ident by) h = tt
untold_message exact x (Retired ident by number) h = tt
untold_message exact x (AskTables ident cursor settled second tables) h = tt
untold_message exact x (Ident u ident) h = tt
untold_message exact x (Stored ident number) h = tt
untold_message exact x (Refused ident number code place) h = tt
untold_message exact x (Download ident from entries) h = untold_entries exact x entries h

-- ---- a transaction, and a message
pub spelled_so : (P : List Instr → Type 0) (is : List Instr) → is_small the_profile is ≡ true → P is → P (ok_list (the_profile.unspell (the_profile.spell is)))
spelled_so P is small h = subst (λ (r : Result (List Instr) (ℕ × ℕ)). P (ok_list r)) (sym (real_lawful.spelled is small)) h

edits_told : (is : List Instr) (rs : List ClientRecord) (ms : ℕ) (x : Part) → is_told (places_in true is) x ≡ false
    → SameAt (client_of the_profile (rs ++ (commit the_profile (client_of the_profile rs) ms is).records)).objects (client_of the_profile rs).objects x
edits_told is rs ms x h =
    step_leaves x rs (commit the_profile (client_of the_profile rs) ms is).records
    (commit_is (RecordLeaves x) (client_of the_profile rs) ms is (λ small n. spelled_so (AllLeave x) is small (untold_left true x is h))).records

pub message_told : (exact : Bool) (m : Message) (rs : List ClientRecord) (x : Part) → is_told (message_places exact m) x ≡ false
    → SameAt (client_of the_profile (rs ++ (take the_profile (client_of the_profile rs) m).records)).objects (client_of the_profile rs).objects x
message_told exact m rs x h =
    step_leaves x rs (take the_profile (client_of the_profile rs) m).records (take_is (RecordLeaves x) (client_of the_profile rs) m (λ ident. tt) (untold_message exact x m h)).records

-- ---- by the lists that are handed out
pub edits_tell : {E : Type 0} {V : Type 0} (items : V → List Place) (is : List Instr) (r : Result V E) → IfOk r (λ places. items places ≡ places_in true is)
    → IfOk r (λ places. (rs : List ClientRecord) (ms : ℕ) (x : Part) → is_told (items places) x ≡ false → SameAt (client_of the_profile (rs ++ (commit the_profile (client_of the_profile rs) ms is).records)).objects (client_of the_profile rs).objects x)
edits_tell items is (Ok places) e = λ rs ms x h. edits_told is rs ms x (sym (ap (λ ps. is_told ps x) e) ∙ h)
edits_tell items is (Err why) e = tt

pub message_tells : {E : Type 0} {V : Type 0} (items : V → List Place) (exact : Bool) (m : Message) (r : Result V E) → IfOk r (λ places. items places ≡ message_places exact m)
    → IfOk r (λ places. (rs : List ClientRecord) (x : Part) → is_told (items places) x ≡ false → SameAt (client_of the_profile (rs ++ (take the_profile (client_of the_profile rs) m).records)).objects (client_of the_profile rs).objects x)
message_tells items exact m (Ok places) e = λ rs x h. message_told exact m rs x (sym (ap (λ ps. is_told ps x) e) ∙ h)
message_tells items exact m (Err why) e = tt
