-- Clients of which all that a call reads is the same answer alike.
pub use Rattle.shrink_law.specs.Short.{IsPlain}
use Rattle.std.proofs.Common.{◌≡◌, ℕ, suc, ◌-◌, Bool, true, false, ◌&&◌, ◌||◌, not, List, [], ◌∷◌, ◌++◌, Option, Some, None, Result, Ok, Err, refl, sym, ap, ◌∙◌, subst, if◌then◌else◌, ◌==◌, length, map, drop, nat_lt}
use Rattle.std.specs.Prelude.{bytes_eq}
use Rattle.sync_theory.specs.Lists.{run}
use Rattle.sync_theory.specs.Grid.{rebase, tail}
use Rattle.sync_theory.specs.Changesets.{Changeset}
use Rattle.sync_theory.proofs.Logs.{length_snoc}
use Rattle.sync_theory.proofs.Server.{test_false}
use Rattle.sync_model.specs.Bytes.{Uuid, Tables}
use Rattle.sync_model.specs.Profile.{Profile, Stuck, act, apply_all, act_changeset, cross_changesets, is_small, needs, first_need, all_admitted, first_outside, fitting}
use Rattle.sync_model.specs.Messages.{Sent, Message, Bind, Ident, Upload, Ask, Download, Refused, Stored, Ask2, Retire, Retired, AskTables}
use Rattle.sync_model.specs.Clients.{Client, ClientRecord, Born, Named, Made, Took, Form, Subset, Part, Floor, Resumed, Waits, Original, as_made, changeset_of, carried_to, state_or, ok_list, TooLarge, NumbersFull, OldForm, NotSubscribed, NotMine, NotNamed, TooLate, IdentDiffers, Gap, BadBody, OldEntry, Mismatch, WasRefused, refuse, answers, appends, if_born, born, born_once, subscribed_once, is_late, has_floor, settled_from, unsent_above, question, number_at, applied_refusal, sent_changeset, took, take_one, commit, commit_applied, upgrade, subscribe, bind, upload, upload_from, ask, own_refusal, crossed_refusal, read_refusal, entry_refusal, take_entries, take_born, take as take_message, change_of, makes, crossed, takes_entry, after_record}
use Rattle.shrink_law.specs.Short.{Alike}

pub suc_not : (n : ℕ) → not (suc n == 0) ≡ true
suc_not n = ap not (test_false (suc n) 0 (λ h. cc))

or_true : (b : Bool) → (b || true) ≡ true
or_true true = refl
or_true false = refl

module _ {I S : Type 0} (p : Profile I S) where
  late_alike : (c d : Client I S) → Alike c d → is_late d ≡ is_late c
  late_alike c d a = λ i. not (a.ident i == 0) || a.begun i

  pub born_alike : (c d : Client I S) → Alike c d → (id : Uuid) → born d id ≡ born c id
  born_alike c d a id = λ i. born_once (a.id i) (appends (Born id) tt)

  pub commit_alike : (c d : Client I S) → Alike c d → (ms : ℕ) (edits : List I) → commit p d ms edits ≡ commit p c ms edits
  commit_alike c d a ms edits = λ i. if_born (a.id i) (λ id.
      if not (is_small p edits) then refuse TooLarge
      else if a.last i == p.full then refuse NumbersFull
      else if needs p edits && not (a.second i) then refuse (OldForm (first_need p edits))
      else if not (all_admitted p (a.subset i) edits) then refuse (NotSubscribed (first_outside p (a.subset i) edits))
      else commit_applied (suc (a.last i)) (Made (suc (a.last i)) ms (p.spell edits)) (apply_all p edits (a.objects i)))

  pub upgrade_alike : (c d : Client I S) → Alike c d → upgrade d ≡ upgrade c
  upgrade_alike c d a = λ i. if_born (a.id i) (λ id. if a.second i then answers false else appends Form true)

  pub subscribe_alike : (c d : Client I S) → Alike c d → (tables : Tables) → subscribe d tables ≡ subscribe c tables
  subscribe_alike c d a tables = λ i. if_born (a.id i) (λ id. subscribed_once (a.subset i) (if late_alike c d a i then refuse TooLate else appends (Subset tables) tt))

  pub bind_alike : (c d : Client I S) → Alike c d → bind d ≡ bind c
  bind_alike c d a = λ i. if_born (a.id i) (λ id. answers (Bind id))

  pub upload_alike : (c d : Client I S) → Alike c d → upload p d ≡ upload p c
  upload_alike c d a = λ i. if_born (a.id i) (λ id. if a.ident i == 0 then refuse NotNamed else answers (Upload (a.ident i) (fitting (λ h. length h.body) p.most p.room (map (λ u. change_of p u.original) (a.unsent i)))))

  pub upload_from_alike : (c d : Client I S) → Alike c d → (after : ℕ) → upload_from p d after ≡ upload_from p c after
  upload_from_alike c d a after = λ i. if_born (a.id i) (λ id. if a.ident i == 0 then refuse NotNamed else answers (Upload (a.ident i) (fitting (λ h. length h.body) p.most p.room (map (λ u. change_of p u.original) (unsent_above after (a.unsent i))))))

  question_alike : (c d : Client I S) → Alike c d → (o : Option Tables) → question d o ≡ question c o
  question_alike c d a None = λ i. if a.second i then Ask2 (a.ident i) (a.cursor i) (settled_from (a.cursor i) (a.unsent i)) else Ask (a.ident i) (a.cursor i) (settled_from (a.cursor i) (a.unsent i))
  question_alike c d a (Some t) = λ i. AskTables (a.ident i) (a.cursor i) (settled_from (a.cursor i) (a.unsent i)) (a.second i) t

  pub ask_alike : (c d : Client I S) → Alike c d → ask d ≡ ask c
  ask_alike c d a =
      let q : question d d.subset ≡ question c c.subset = ap (question d) a.subset ∙ question_alike c d a c.subset in
      λ i. if_born (a.id i) (λ id. if a.ident i == 0 then refuse NotNamed else answers (q i))

  -- ---- records

  pub begun_made : (c : Client I S) (o : Original I) → (has_floor c.floor || (not (length (c.made ++ o ∷ []) == 0) || not (c.cursor == 0))) ≡ true
  begun_made c o = ap (λ n. has_floor c.floor || (not (n == 0) || not (c.cursor == 0))) (length_snoc c.made o) ∙ ap (λ b. has_floor c.floor || (b || not (c.cursor == 0))) (suc_not (length c.made)) ∙ or_true (has_floor c.floor)

  pub begun_took : (c : Client I S) → (has_floor c.floor || (not (length c.made == 0) || not (suc c.cursor == 0))) ≡ true
  begun_took c = ap (λ b. has_floor c.floor || (not (length c.made == 0) || b)) (suc_not c.cursor) ∙ ap (λ b. has_floor c.floor || b) (or_true (not (length c.made == 0))) ∙ or_true (has_floor c.floor)

  makes_alike : (c d : Client I S) → Alike c d → (number ms : ℕ) (is : List I) → Alike (makes p c (record { base = c.cursor; number = number; ms = ms; instrs = is })) (makes p d (record { base = d.cursor; number = number; ms = ms; instrs = is }))
  makes_alike c d a number ms is = record {
    id = a.id;
    ident = a.ident;
    second = a.second;
    subset = a.subset;
    cursor = a.cursor;
    unsent = λ i. a.unsent i ++ as_made (record { base = a.cursor i; number = number; ms = ms; instrs = is }) ∷ [];
    objects = λ i. state_or (a.objects i) (run (act p) is (a.objects i));
    last = length_snoc d.made _ ∙ ap (λ n. suc n) a.last ∙ sym (length_snoc c.made _);
    begun = begun_made d _ ∙ sym (begun_made c _);
  }

  crossed_alike : (c d : Client I S) → Alike c d → (r : Result (List (Changeset I) × Changeset I) (ℕ × Stuck)) → Alike (crossed p c r) (crossed p d r)
  crossed_alike c d a (Ok q) = record {
    id = a.id;
    ident = a.ident;
    second = a.second;
    subset = a.subset;
    cursor = ap (λ n. suc n) a.cursor;
    unsent = λ i. carried_to (a.unsent i) q.0;
    objects = λ i. state_or (a.objects i) (act_changeset p q.1 (a.objects i));
    last = a.last;
    begun = begun_took d ∙ sym (begun_took c);
  }
  crossed_alike c d a (Err f) = record {
    id = a.id;
    ident = a.ident;
    second = a.second;
    subset = a.subset;
    cursor = ap (λ n. suc n) a.cursor;
    unsent = a.unsent;
    objects = a.objects;
    last = a.last;
    begun = begun_took d ∙ sym (begun_took c);
  }

  rebase_alike : (c d : Client I S) → Alike c d → (x : Changeset I) → rebase (cross_changesets p) (map (changeset_of d.ident) d.unsent) x ≡ rebase (cross_changesets p) (map (changeset_of c.ident) c.unsent) x
  rebase_alike c d a x = λ i. rebase (cross_changesets p) (map (changeset_of (a.ident i)) (a.unsent i)) x

  takes_alike : (c d : Client I S) → Alike c d → (x : Changeset I) → Alike (takes_entry p c x) (takes_entry p d x)
  takes_alike c d a x = go (x.origin == c.ident) (x.origin == d.ident) (ap (λ n. x.origin == n) a.ident) (rebase (cross_changesets p) (map (changeset_of c.ident) c.unsent) x) (rebase (cross_changesets p) (map (changeset_of d.ident) d.unsent) x) (rebase_alike c d a x)
    where
      own : Alike (record c { cursor = suc c.cursor; unsent = tail c.unsent }) (record d { cursor = suc d.cursor; unsent = tail d.unsent })
      own = record {
        id = a.id;
        ident = a.ident;
        second = a.second;
        subset = a.subset;
        cursor = ap (λ n. suc n) a.cursor;
        unsent = ap tail a.unsent;
        objects = a.objects;
        last = a.last;
        begun = begun_took d ∙ sym (begun_took c);
      }

      go : (b t : Bool) → t ≡ b → (r s : Result (List (Changeset I) × Changeset I) (ℕ × Stuck)) → s ≡ r
          → Alike (if b then record c { cursor = suc c.cursor; unsent = tail c.unsent } else crossed p c r) (if t then record d { cursor = suc d.cursor; unsent = tail d.unsent } else crossed p d s)
      go true true e r s f = own
      go true false e r s f = cc
      go false true e r s f = cc
      go false false e r s f = subst (λ z. Alike (crossed p c r) (crossed p d z)) (sym f) (crossed_alike c d a r)

  pub record_alike : (c d : Client I S) → Alike c d → (r : ClientRecord) → IsPlain r → Alike (after_record p c r) (after_record p d r)
  record_alike c d a (Born id) h = record { id = refl; ident = a.ident; second = a.second; subset = a.subset; cursor = a.cursor; unsent = a.unsent; objects = a.objects; last = a.last; begun = a.begun }
  record_alike c d a (Named ident) h = record { id = a.id; ident = refl; second = a.second; subset = a.subset; cursor = a.cursor; unsent = a.unsent; objects = a.objects; last = a.last; begun = a.begun }
  record_alike c d a (Made number ms body) h = makes_alike c d a number ms (ok_list (p.unspell body))
  record_alike c d a (Took origin number ms body) h = takes_alike c d a (record { origin = origin; number = number; ms = ms; instrs = ok_list (p.unspell body) })
  record_alike c d a Form h = record { id = a.id; ident = a.ident; second = refl; subset = a.subset; cursor = a.cursor; unsent = a.unsent; objects = a.objects; last = a.last; begun = a.begun }
  record_alike c d a (Subset tables) h = record { id = a.id; ident = a.ident; second = a.second; subset = refl; cursor = a.cursor; unsent = a.unsent; objects = a.objects; last = a.last; begun = a.begun }
  record_alike c d a (Part body) h = absurd h
  record_alike c d a (Floor version) h = absurd h
  record_alike c d a (Resumed number waiting) h = absurd h
  record_alike c d a (Waits number base ms body current) h = absurd h

  -- ---- messages

  crossed_refusal_alike : (c d : Client I S) → Alike c d → (r : Result (List (Changeset I) × Changeset I) (ℕ × Stuck)) → crossed_refusal p d r ≡ crossed_refusal p c r
  crossed_refusal_alike c d a (Ok q) = λ i. applied_refusal (a.cursor i) (apply_all p q.1.instrs (a.objects i))
  crossed_refusal_alike c d a (Err f) = λ i. Some (Mismatch (a.cursor i) (number_at f.0 (a.unsent i)) f.1.2)

  read_alike : (c d : Client I S) → Alike c d → (e : Sent) (r : Result (List I) (ℕ × ℕ)) → read_refusal p d e r ≡ read_refusal p c e r
  read_alike c d a e (Err f) = λ i. Some (BadBody (a.cursor i) f.0 f.1)
  read_alike c d a e (Ok is) =
      let x = sent_changeset e is in
      let other : crossed_refusal p d (rebase (cross_changesets p) (map (changeset_of d.ident) d.unsent) x) ≡ crossed_refusal p c (rebase (cross_changesets p) (map (changeset_of c.ident) c.unsent) x) =
      ap (crossed_refusal p d) (rebase_alike c d a x) ∙ crossed_refusal_alike c d a (rebase (cross_changesets p) (map (changeset_of c.ident) c.unsent) x) in
      λ i. if needs p is && not (a.second i) then Some (OldEntry (a.cursor i)) else if e.origin == a.ident i then own_refusal p (a.unsent i) e else other i

  pub refusal_alike : (c d : Client I S) → Alike c d → (e : Sent) → entry_refusal p d e ≡ entry_refusal p c e
  refusal_alike c d a e = read_alike c d a e (p.unspell e.body)

  entries_alike : (es : List Sent) (c d : Client I S) → Alike c d → take_entries p d es ≡ take_entries p c es
  entries_alike [] c d a = λ i. answers (a.cursor i)
  entries_alike (e ∷ es) c d a =
      let rest = entries_alike es (after_record p c (took e)) (after_record p d (took e)) (record_alike c d a (took e) tt) in
      λ i. take_one (refusal_alike c d a e i) (took e) (rest i)

  message_alike : (c d : Client I S) → Alike c d → (m : Message) (id : Uuid) → take_born p d m id ≡ take_born p c m id
  message_alike c d a (Bind u) id = refl
  message_alike c d a (Upload ident changes) id = refl
  message_alike c d a (Ask ident cursor settled) id = refl
  message_alike c d a (Ask2 ident cursor settled) id = refl
  message_alike c d a (Retire ident by) id = refl
  message_alike c d a (Retired ident by number) id = refl
  message_alike c d a (AskTables ident cursor settled second tables) id = refl
  message_alike c d a (Ident u ident) id = λ i. if bytes_eq u id then (if a.ident i == 0 then appends (Named ident) (a.cursor i) else if a.ident i == ident then answers (a.cursor i) else refuse (IdentDiffers (a.ident i) ident)) else refuse NotMine
  message_alike c d a (Stored ident number) id = λ i. if ident == a.ident i then answers (a.cursor i) else refuse NotMine
  message_alike c d a (Refused ident number code place) id = λ i. if ident == a.ident i then refuse (WasRefused number code) else refuse NotMine
  message_alike c d a (Download ident from entries) id =
      let same : take_entries p d (drop (d.cursor - from) entries) ≡ take_entries p c (drop (c.cursor - from) entries) =
      ap (λ k. take_entries p d (drop (k - from) entries)) a.cursor ∙ entries_alike (drop (c.cursor - from) entries) c d a in
      λ i. if ident == a.ident i then (if nat_lt (a.cursor i) from then refuse (Gap (a.cursor i) from) else same i) else refuse NotMine

  pub take_alike : (c d : Client I S) → Alike c d → (m : Message) → take_message p d m ≡ take_message p c m
  take_alike c d a m = λ i. if_born (a.id i) (λ id. message_alike c d a m id i)
