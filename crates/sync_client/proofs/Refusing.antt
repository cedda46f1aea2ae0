-- The model's refusals of an entry, from what the code found.
use Rattle.std.proofs.Common.{◌≡◌, ◌≢◌, ℕ, suc, ◌+◌, Bool, true, false, not, ◌&&◌, List, [], ◌∷◌, map, Option, Some, None, Result, Ok, Err, refl, ap, ◌∙◌, sym, subst, bytes_eq, ◌==◌, if◌then◌else◌, add-one, eqb-true}
use Rattle.std.proofs.lemmas.Bool.{eq-eqb}
use Rattle.std.proofs.lemmas.Slice.Eq.{bytes_eq-Decides}
use Rattle.sync_theory.specs.Changesets.{Changeset}
use Rattle.sync_theory.specs.Grid.{rebase, tail}
use Rattle.sync_theory.specs.Lists.{ok_state}
use Rattle.sync_data.specs.declared.entry.Entry.{Entry}
use Rattle.sync_data.specs.declared.instr.Instr.{Instr}
use Rattle.sync_data.specs.Payload.{Changes}
use Rattle.sync_base.specs.Codes.{mismatch_code}
use Rattle.sync_base.specs.Checks.{act_all}
use Rattle.sync_base.specs.States.{State}
use Rattle.sync_codec.specs.Spelling.{spelling}
use Rattle.sync_codec.specs.Valid.{AreInstrs}
use Rattle.sync_codec.specs.Lemmas.Back.{no_prefix}
use Rattle.std.proofs.lemmas.List.{append-nil}
use Rattle.sync_model.specs.Messages.{Sent}
use Rattle.sync_model.specs.Profile.{act_changeset, cross_changesets, is_small, needs}
use Rattle.sync_model.specs.Clients.{BadBody, Client, ClientRefusal, Forked, Mismatch, NotApplicable, OldEntry, Unsent, after_record, applied_refusal, carried_to, changeset_of, crossed, crossed_refusal, entry_refusal, ok_list, own_refusal, read_refusal, sent_changeset, state_or, took}
use Rattle.sync_model.specs.Each.{Each, and_each}
use Rattle.sync_model.specs.Limits.{ClientLists}
use Rattle.sync_model.proofs.Limits.{each_map}
use Rattle.sync_model.proofs.Own.{if_true, if_false}
use Rattle.sync_model.proofs.Small.{SmallSets}
use Rattle.sync_rebase.specs.Taking.{Crosses, IsHead}
use Rattle.sync_exchange.specs.Profile.{the_profile, unspell}
use Rattle.sync_exchange.specs.Lemmas.Coded.{all_act, coded_rebase, first_break, rebase_coded}
use Rattle.sync_exchange.specs.Lemmas.Lawful.{instrs_small, real_lawful, small_instrs}
use Rattle.sync_exchange.specs.Lemmas.Strings.{whole_each}
use Rattle.sync_client.specs.declared.replica.Replica.{Replica}
use Rattle.std.specs.Prelude.{OnOk, OnErr, IfErr}
use Rattle.sync_client.specs.declared.refusal.ClientRefusal.{ClientRefusal as CodeRefusal}
use Rattle.sync_client.specs.declared.refusal.ClientRefusal.TheVariants as codes
use Rattle.sync_client.specs.Refusals.{refusal_seen, IfSeen}
use Rattle.sync_client.specs.Entries.{IsRead, IsUnread, Takes, TakesIt, Declines, TookOther, RefusesOther, StopsActing, StopsCrossing}
use Rattle.sync_client.specs.Seen.{seen}
use Rattle.sync_client.proofs.Acting.{run_applied}
use Rattle.sync_client.proofs.Small.{entry_stays_small}

abbrev Replicated : Type 0
Replicated = Client Instr State

-- ---- the body, and the form
pub bad_body : (c : Replicated) (e : Sent) (offset rule : ℕ) → unspell e.body ≡ Err (offset, rule) → entry_refusal the_profile c e ≡ Some (BadBody c.cursor offset rule)
bad_body c e offset rule r = ap (read_refusal the_profile c e) r

pub old_entry : (c : Replicated) (e : Sent) (is : List Instr) → unspell e.body ≡ Ok is → (needs the_profile is && not c.second) ≡ true → entry_refusal the_profile c e ≡ Some (OldEntry c.cursor)
old_entry c e is r b = ap (read_refusal the_profile c e) r ∙ if_true (needs the_profile is && not c.second) _ _ b

-- what decides of an entry that was read and that the form allows
decided : (c : Replicated) (e : Sent) (is : List Instr) → unspell e.body ≡ Ok is → (needs the_profile is && not c.second) ≡ false
    → entry_refusal the_profile c e ≡ (if e.origin == c.ident then own_refusal the_profile c.unsent e else crossed_refusal the_profile c (rebase (cross_changesets the_profile) (map (changeset_of c.ident) c.unsent) (sent_changeset e is)))
decided c e is r b = ap (read_refusal the_profile c e) r ∙ if_false (needs the_profile is && not c.second) _ _ b

pub differ : (a b : ℕ) → ¬ (a ≡ b) → (a == b) ≡ false
differ a b h = go (a == b) refl
  where
    go : (t : Bool) → (a == b) ≡ t → t ≡ false
    go true e = absurd (h (eqb-true a b e))
    go false e = refl

-- ---- an own entry
abbrev is_first : Unsent Instr → Sent → Bool
is_first u e = (u.original.number == e.number) && ((u.original.ms == e.ms) && bytes_eq (spelling u.current) e.body)

both : (a b c : Bool) → (a && (b && c)) ≡ true → (a ≡ true) × (b ≡ true) × (c ≡ true)
both true true c h = (refl, refl, h)
both true false c h = cc
both false b c h = cc

three : (a b c : Bool) → a ≡ true → b ≡ true → c ≡ true → (a && (b && c)) ≡ true
three true true c h g k = k
three true false c h g k = g
three false b c h g k = h

-- the entry as the code has it
pub record SameEntry (x : Entry) (e : Sent) : Type 0 where
  pub origin : x.origin ≡ e.origin
  pub number : x.number ≡ e.number
  pub ms : x.changes.ms ≡ e.ms
  pub valid : AreInstrs x.changes.instrs
  pub bytes : e.body ≡ spelling x.changes.instrs

head_fine : (us : List (Unsent Instr)) (x : Entry) (e : Sent) → SameEntry x e → IsHead x us → own_refusal the_profile us e ≡ None
head_fine [] x e s h = absurd h
head_fine (u ∷ us) x e s h =
    if_true (is_first u e) _ _ (three _ _ _
    (eq-eqb _ _ (h.number ∙ s.number))
    (eq-eqb _ _ (h.ms ∙ s.ms))
    ((bytes_eq-Decides (spelling u.current) e.body).1 (ap spelling h.instrs ∙ sym s.bytes)))

same_list : (is js : List Instr) → AreInstrs is → AreInstrs js → spelling is ≡ spelling js → is ≡ js
same_list is js v w e = (no_prefix is js [] v w (append-nil (spelling is) ∙ e)).1

head_forked : (us : List (Unsent Instr)) (x : Entry) (e : Sent) → SameEntry x e → Each (λ u. (is_small the_profile u.original.instrs ≡ true) × (is_small the_profile u.current ≡ true)) us → ¬ (IsHead x us) → own_refusal the_profile us e ≡ Some (Forked e.number)
head_forked [] x e s l n = refl
head_forked (u ∷ us) x e s (and_each small l) n = go (is_first u e) refl
  where
    go : (b : Bool) → is_first u e ≡ b → ◌≡◌ {A = Option ClientRefusal} (if b then None else Some (Forked e.number)) (Some (Forked e.number))
    go false i = refl
    go true i =
        let t = both _ _ _ i in
        absurd (n (record {
          number = eqb-true u.original.number e.number t.0 ∙ sym s.number;
          ms = eqb-true u.original.ms e.ms t.1 ∙ sym s.ms;
          instrs = same_list u.current x.changes.instrs (small_instrs u.current small.1) s.valid ((bytes_eq-Decides (spelling u.current) e.body).0 t.2 ∙ s.bytes);
        }))

pub own_taken : (past : _) (r n : Replica) (x : Entry) (e : Sent) (v : Changes) → IsRead e.ms e.body v → SameEntry x e → (needs the_profile v.instrs && not r.second) ≡ false → x.origin ≡ r.ident
    → IsHead x r.unsent → n ≡ record r { unsent = tail r.unsent; cursor = r.cursor + 1 } → TakesIt (seen past r) (seen past n) e
own_taken past r n x e v d s b o h is =
    let mine : (e.origin == r.ident) ≡ true = eq-eqb _ _ (sym s.origin ∙ o) in
    record {
      fine = decided (seen past r) e v.instrs d.read b ∙ if_true (e.origin == r.ident) _ _ mine ∙ head_fine r.unsent x e s h;
      after = ap (seen past) is ∙ ap (λ k. seen past (record r { unsent = tail r.unsent; cursor = k })) (add-one r.cursor) ∙ sym (if_true (e.origin == r.ident) _ _ mine);
    }

pub own_forked : (past : _) (r n : Replica) (x : Entry) (e : Sent) (v : Changes) → IsRead e.ms e.body v → SameEntry x e → (needs the_profile v.instrs && not r.second) ≡ false → x.origin ≡ r.ident
    → ClientLists the_profile (seen past r) → ¬ (IsHead x r.unsent) → n ≡ r → Declines (seen past r) (seen past n) e (Forked x.number)
own_forked past r n x e v d s b o l h is =
    let mine : (e.origin == r.ident) ≡ true = eq-eqb _ _ (sym s.origin ∙ o) in
    record {
      cause = decided (seen past r) e v.instrs d.read b ∙ if_true (e.origin == r.ident) _ _ mine ∙ head_forked r.unsent x e s l.unsent h ∙ ap (λ k. Some (Forked k)) (sym s.number);
      unchanged = ap (seen past) is;
    }

-- ---- an entry of another
abbrev crossing : Replica → Entry → Result (List (Changeset Instr) × Changeset Instr) (ℕ × (ℕ × ℕ × ℕ))
crossing r x = rebase (cross_changesets the_profile) (map (changeset_of r.ident) r.unsent) (record { origin = x.origin; number = x.number; ms = x.changes.ms; instrs = x.changes.instrs })

same_changeset : (x : Entry) (e : Sent) → SameEntry x e → ◌≡◌ {A = Changeset Instr} (sent_changeset e x.changes.instrs) (record { origin = x.origin; number = x.number; ms = x.changes.ms; instrs = x.changes.instrs })
same_changeset x e s = λ i. record { origin = sym s.origin i; number = sym s.number i; ms = sym s.ms i; instrs = x.changes.instrs }

other_decided : (past : _) (r : Replica) (x : Entry) (e : Sent) → unspell e.body ≡ Ok x.changes.instrs → SameEntry x e → (needs the_profile x.changes.instrs && not r.second) ≡ false → r.ident ≢ x.origin
    → entry_refusal the_profile (seen past r) e ≡ crossed_refusal the_profile (seen past r) (crossing r x)
other_decided past r x e d s b o =
    let theirs : (e.origin == r.ident) ≡ false = differ e.origin r.ident (λ k. o (sym k ∙ sym s.origin)) in
    decided (seen past r) e x.changes.instrs d b ∙ if_false (e.origin == r.ident) _ _ theirs ∙ ap (λ c. crossed_refusal the_profile (seen past r) (rebase (cross_changesets the_profile) (map (changeset_of r.ident) r.unsent) c)) (same_changeset x e s)

-- a crossing that the code found, as the model has it
crossing_is : (r : Replica) (x : Entry) (after : List (Unsent Instr)) (v : Changes) → Crosses r.ident r.unsent x after v
    → crossing r x ≡ Ok (map (changeset_of r.ident) after, record { origin = x.origin; number = x.number; ms = v.ms; instrs = v.instrs })
crossing_is r x after v k = rebase_coded (map (changeset_of r.ident) r.unsent) (record { origin = x.origin; number = x.number; ms = x.changes.ms; instrs = x.changes.instrs }) ∙ ap coded_rebase k.rebased

-- what an entry of another leaves
other_after : (past : _) (r : Replica) (x : Entry) (e : Sent) → unspell e.body ≡ Ok x.changes.instrs → SameEntry x e → r.ident ≢ x.origin
    → after_record the_profile (seen past r) (took e) ≡ crossed the_profile (seen past r) (crossing r x)
other_after past r x e d s o =
    let theirs : (e.origin == r.ident) ≡ false = differ e.origin r.ident (λ k. o (sym k ∙ sym s.origin)) in
    ap (λ b. if b then record (seen past r) { cursor = suc r.cursor; unsent = tail r.unsent } else crossed the_profile (seen past r) (rebase (cross_changesets the_profile) (map (changeset_of r.ident) r.unsent) (sent_changeset e (ok_list (unspell e.body))))) theirs
    ∙ ap (λ q. crossed the_profile (seen past r) (rebase (cross_changesets the_profile) (map (changeset_of r.ident) r.unsent) (sent_changeset e (ok_list q)))) d
    ∙ ap (λ c. crossed the_profile (seen past r) (rebase (cross_changesets the_profile) (map (changeset_of r.ident) r.unsent) c)) (same_changeset x e s)

acted : (is : List Instr) (s t : State) → act_all is s ≡ Some t → (x : Changeset Instr) → x.instrs ≡ is → act_changeset the_profile x s ≡ Some t
acted is s t h x i = ap (λ js. act_changeset the_profile (record x { instrs = js }) s) i ∙ run_applied the_profile is s ∙ ap ok_state (all_act is s t h)

pub other_taken : (past : _) (r n : Replica) (x : Entry) (e : Sent) → unspell e.body ≡ Ok x.changes.instrs → SameEntry x e → (needs the_profile x.changes.instrs && not r.second) ≡ false → r.ident ≢ x.origin
    → TookOther r n x → TakesIt (seen past r) (seen past n) e
other_taken past r n x e d s b o t =
    let k = crossing_is r x n.unsent t.changes t.crosses in
    let went = acted t.changes.instrs r.objects n.objects t.acts (record { origin = x.origin; number = x.number; ms = t.changes.ms; instrs = t.changes.instrs }) refl in
    record {
      fine = other_decided past r x e d s b o ∙ ap (crossed_refusal the_profile (seen past r)) k ∙ ap (applied_refusal r.cursor) (all_act t.changes.instrs r.objects n.objects t.acts);
      after = ap (seen past) t.is
          ∙ ap (λ c. seen past (record r { unsent = n.unsent; objects = n.objects; cursor = c })) (add-one r.cursor)
          ∙ ap (λ us. seen past (record r { unsent = us; objects = n.objects; cursor = suc r.cursor })) (sym t.crosses.originals)
          ∙ ap (λ z. seen past (record r { unsent = carried_to r.unsent (map (changeset_of r.ident) n.unsent); objects = state_or r.objects z; cursor = suc r.cursor })) (sym went)
          ∙ sym (other_after past r x e d s o ∙ ap (crossed the_profile (seen past r)) k);
    }

pub other_stuck : (past : _) (r n : Replica) (x : Entry) (e : Sent) (number kind : ℕ) → unspell e.body ≡ Ok x.changes.instrs → SameEntry x e → (needs the_profile x.changes.instrs && not r.second) ≡ false → r.ident ≢ x.origin
    → StopsCrossing r x number kind → n ≡ r → Declines (seen past r) (seen past n) e (Mismatch r.cursor number kind)
other_stuck past r n x e number kind d s b o t is =
    let k : crossing r x ≡ Err (t.stuck.place, (t.stuck.left, t.stuck.right, mismatch_code t.mismatch)) = rebase_coded (map (changeset_of r.ident) r.unsent) (record { origin = x.origin; number = x.number; ms = x.changes.ms; instrs = x.changes.instrs }) ∙ ap coded_rebase t.stuck.rebased in
    record {
      cause = other_decided past r x e d s b o ∙ ap (crossed_refusal the_profile (seen past r)) k ∙ ap (λ j. Some (Mismatch r.cursor j (mismatch_code t.mismatch))) (sym t.stuck.number_is) ∙ ap (λ j. Some (Mismatch r.cursor number j)) (sym t.kind_is);
      unchanged = ap (seen past) is;
    }

unsent_small : (ident : ℕ) (us : List (Unsent Instr)) → Each (λ u. (is_small the_profile u.original.instrs ≡ true) × (is_small the_profile u.current ≡ true)) us → SmallSets the_profile (map (changeset_of ident) us)
unsent_small ident us l = each_map (changeset_of ident) (λ u h. h.1) l

pub other_breaks : (past : _) (r n : Replica) (x : Entry) (e : Sent) (place code : ℕ) → unspell e.body ≡ Ok x.changes.instrs → SameEntry x e → (needs the_profile x.changes.instrs && not r.second) ≡ false → r.ident ≢ x.origin
    → ClientLists the_profile (seen past r) → StopsActing r x place code → n ≡ r → Declines (seen past r) (seen past n) e (NotApplicable r.cursor place code)
other_breaks past r n x e place code d s b o l t is =
    let k = crossing_is r x t.after t.changes t.crosses in
    let small : is_small the_profile t.changes.instrs ≡ true = entry_stays_small the_profile real_lawful (map (changeset_of r.ident) r.unsent) (map (changeset_of r.ident) t.after) (record { origin = x.origin; number = x.number; ms = x.changes.ms; instrs = x.changes.instrs }) (record { origin = x.origin; number = x.number; ms = t.changes.ms; instrs = t.changes.instrs }) (unsent_small r.ident r.unsent l.unsent) (instrs_small x.changes.instrs s.valid) k in
    let broken = first_break t.changes.instrs r.objects place t.breaks.cause (whole_each t.changes.instrs (small_instrs t.changes.instrs small)) t.breaks.at in
    record {
      cause = other_decided past r x e d s b o ∙ ap (crossed_refusal the_profile (seen past r)) k ∙ ap (applied_refusal r.cursor) broken ∙ ap (λ j. Some (NotApplicable r.cursor place j)) (sym t.breaks.code_is);
      unchanged = ap (seen past) is;
    }

-- ---- what the two halves answer
abbrev Answer : Type 0
Answer = Result (Unit {0}) CodeRefusal

pub own_answers : (past : _) (r n : Replica) (x : Entry) (e : Sent) (v : Changes) (a : Answer) → IsRead e.ms e.body v → SameEntry x e → (needs the_profile v.instrs && not r.second) ≡ false → x.origin ≡ r.ident → ClientLists the_profile (seen past r)
    → OnOk a (IsHead x r.unsent) → OnOk a (n ≡ record r { unsent = tail r.unsent; cursor = r.cursor + 1 }) → IfErr a (λ why. why ≡ codes.Forked x.number) → OnErr a (¬ IsHead x r.unsent) → OnErr a (n ≡ r)
    → Takes (seen past r) (seen past n) e a
own_answers past r n x e v (Ok u) d s b o l head took forked differs same = own_taken past r n x e v d s b o head took
own_answers past r n x e v (Err why) d s b o l head took forked differs same =
    subst (λ (w : CodeRefusal). IfSeen (refusal_seen w) (Declines (seen past r) (seen past n) e)) (sym forked) (own_forked past r n x e v d s b o l differs same)

pub other_answers : (past : _) (r n : Replica) (x : Entry) (e : Sent) (a : Answer) → unspell e.body ≡ Ok x.changes.instrs → SameEntry x e → (needs the_profile x.changes.instrs && not r.second) ≡ false → r.ident ≢ x.origin → ClientLists the_profile (seen past r)
    → OnOk a (TookOther r n x) → IfErr a (RefusesOther r n x) → Takes (seen past r) (seen past n) e a
other_answers past r n x e (Ok u) d s b o l took refused = other_taken past r n x e d s b o took
other_answers past r n x e (Err (codes.Mismatch version number kind)) d s b o l took refused =
    subst (λ (k : ℕ). Declines (seen past r) (seen past n) e (Mismatch k number kind)) (sym refused.0) (other_stuck past r n x e number kind d s b o refused.1 refused.2)
other_answers past r n x e (Err (codes.NotApplicable version place code)) d s b o l took refused =
    subst (λ (k : ℕ). Declines (seen past r) (seen past n) e (NotApplicable k place code)) (sym refused.0) (other_breaks past r n x e place code d s b o l refused.1 refused.2)
other_answers past r n x e (Err codes.NoMemory) d s b o l took refused = tt
other_answers past r n x e (Err codes.Closed) d s b o l took refused = absurd refused
other_answers past r n x e (Err codes.NotBorn) d s b o l took refused = absurd refused
other_answers past r n x e (Err codes.AlreadyBorn) d s b o l took refused = absurd refused
other_answers past r n x e (Err codes.NotNamed) d s b o l took refused = absurd refused
other_answers past r n x e (Err codes.TooLarge) d s b o l took refused = absurd refused
other_answers past r n x e (Err codes.NumbersFull) d s b o l took refused = absurd refused
other_answers past r n x e (Err (codes.OldForm place)) d s b o l took refused = absurd refused
other_answers past r n x e (Err (codes.NotSubscribed place)) d s b o l took refused = absurd refused
other_answers past r n x e (Err (codes.Break place code)) d s b o l took refused = absurd refused
other_answers past r n x e (Err codes.NotMine) d s b o l took refused = absurd refused
other_answers past r n x e (Err (codes.IdentDiffers kept got)) d s b o l took refused = absurd refused
other_answers past r n x e (Err (codes.Gap cursor from)) d s b o l took refused = absurd refused
other_answers past r n x e (Err (codes.BadBody version offset rule)) d s b o l took refused = absurd refused
other_answers past r n x e (Err (codes.OldEntry version)) d s b o l took refused = absurd refused
other_answers past r n x e (Err (codes.Forked number)) d s b o l took refused = absurd refused
other_answers past r n x e (Err (codes.WasRefused number code)) d s b o l took refused = absurd refused
other_answers past r n x e (Err codes.Subscribed) d s b o l took refused = absurd refused
other_answers past r n x e (Err codes.TooLate) d s b o l took refused = absurd refused
other_answers past r n x e (Err codes.DiskFault) d s b o l took refused = absurd refused

-- the body's fault
pub unread_answers : (past : _) (r n : Replica) (e : Sent) (why : CodeRefusal) → IsUnread r.cursor e.body why → n ≡ r → IfSeen (refusal_seen why) (Declines (seen past r) (seen past n) e)
unread_answers past r n e (codes.BadBody version offset rule) u same = record { cause = bad_body (seen past r) e offset rule u.1 ∙ ap (λ (k : ℕ). Some (BadBody k offset rule)) (sym u.0); unchanged = ap (seen past) same }
unread_answers past r n e codes.NoMemory u same = tt
unread_answers past r n e codes.Closed u same = absurd u
unread_answers past r n e codes.NotBorn u same = absurd u
unread_answers past r n e codes.AlreadyBorn u same = absurd u
unread_answers past r n e codes.NotNamed u same = absurd u
unread_answers past r n e codes.TooLarge u same = absurd u
unread_answers past r n e codes.NumbersFull u same = absurd u
unread_answers past r n e (codes.OldForm place) u same = absurd u
unread_answers past r n e (codes.NotSubscribed place) u same = absurd u
unread_answers past r n e (codes.Break place code) u same = absurd u
unread_answers past r n e codes.NotMine u same = absurd u
unread_answers past r n e (codes.IdentDiffers kept got) u same = absurd u
unread_answers past r n e (codes.Gap cursor from) u same = absurd u
unread_answers past r n e (codes.OldEntry version) u same = absurd u
unread_answers past r n e (codes.Mismatch version number kind) u same = absurd u
unread_answers past r n e (codes.Forked number) u same = absurd u
unread_answers past r n e (codes.NotApplicable version place code) u same = absurd u
unread_answers past r n e (codes.WasRefused number code) u same = absurd u
unread_answers past r n e codes.Subscribed u same = absurd u
unread_answers past r n e codes.TooLate u same = absurd u
unread_answers past r n e codes.DiskFault u same = absurd u
