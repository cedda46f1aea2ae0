-- A client with nothing unsent gets to the end of the history whatever stands there, in as many rounds as messages bear what it lacks.
use Rattle.std.proofs.Common.{◌≡◌, ◌≢◌, inr, ⊎_elim, ℕ, zero, suc, ◌+◌, ◌-◌, ◌≤◌, Bool, true, false, not, List, [], ◌∷◌, ◌++◌, Option, Some, None, Result, Ok, Err, refl, sym, ap, ◌∙◌, subst, arith, if◌then◌else◌, ◌==◌, length, drop, map, nat_lt}
use Rattle.std.specs.Prelude.{bytes_eq}
use Rattle.std.proofs.lemmas.Bool.Decides.{nat_tests}
use Rattle.sync_theory.specs.Changesets.{Changeset}
use Rattle.sync_theory.specs.Grid.{rebase, tail}
use Rattle.sync_theory.proofs.Server.{test_true}
use Rattle.sync_model.specs.Bytes.{Name, Tables}
use Rattle.sync_model.specs.Profile.{Profile, Lawful, Stuck, apply_all, cross_changesets, restricted, fitting}
use Rattle.sync_model.specs.Snapshots.{Buildable}
use Rattle.sync_model.specs.Messages.{Change, Sent, Message, Upload, Ask, Ask2, Download, Stored}
use Rattle.sync_model.specs.Clients.{Client, ClientRefusal, NotBorn, AlreadyBorn, NotNamed, TooLarge, NumbersFull, OldForm, NotSubscribed, Break, NotMine, IdentDiffers, Gap, BadBody, OldEntry, Mismatch, Forked, NotApplicable, WasRefused, Subscribed, TooLate, answers, refuse, if_born, changeset_of, carried_to, change_of, to_upload, upload, ask, question, settled_from, ok_list, client_of, after_record, after_records, takes_entry, crossed, applied_refusal, own_refusal, crossed_refusal, read_refusal, entry_refusal, sent_changeset, take_one, took, take_entries, take_born, take as take_message}
use Rattle.sync_model.specs.Servers.{Server, ServerStep, Settled, NoSuchIdent, AheadOfHistory, server_of, after_all, count, is_given, marks_new, marking, serve, serve_changes, sent_of, download, download_tables, if_there, entries_from, history_of, refuses, replies}
use Rattle.sync_model.specs.Worlds.{Node, World, Event, Uploads, Asks, Delivers, Words, server_name, message_at}
use Rattle.sync_model.specs.Log.{ident_by, ident_of}
use Rattle.sync_model.specs.Progress.{MayStop, HasCaughtUp, AreBorne, none_left, a_message, load, uploads_at, asks_at, rounds}
use Rattle.sync_model.proofs.Lists.{listed}
use Rattle.sync_model.proofs.Folding.{length_listed}
use Rattle.sync_model.proofs.Keeping.{listed_drop, entries_listed}
use Rattle.sync_model.proofs.Own.{good_of}
use Rattle.sync_model.proofs.Holding.{Holds}
use Rattle.sync_model.proofs.Progress.Serves.{SameClient, has_taken, IsOfTake}
use Rattle.sync_model.proofs.Progress.Catching.{Goes, Here, messages, takes, serves, holds, declined, Facts, facts, named_calls}
use Rattle.sync_model.proofs.Progress.Rounds.{stops_it}

yes : {A : Type 0} (b : Bool) (x y : A) → b ≡ true → (if b then x else y) ≡ x
yes true x y e = refl
yes false x y e = cc

no : {A : Type 0} (b : Bool) (x y : A) → b ≡ false → (if b then x else y) ≡ y
no true x y e = cc
no false x y e = refl

not_below : (a b : ℕ) → b ≤ a → nat_lt a b ≡ false
not_below a b le = on (nat_lt a b) refl
  where
    on : (t : Bool) → nat_lt a b ≡ t → t ≡ false
    on true e = absurd (grind (arith, nat_tests))
    on false e = refl

map_drop : {A B : Type 0} (f : A → B) (n : ℕ) (xs : List A) → map f (drop n xs) ≡ drop n (map f xs)
map_drop f zero xs = refl
map_drop f (suc n) [] = refl
map_drop f (suc n) (x ∷ xs) = map_drop f n xs

no_map : {A B : Type 0} (f : A → B) (xs : List A) → map f xs ≡ [] → xs ≡ []
no_map f [] e = refl
no_map f (x ∷ xs) e = cc

no_answer : (a : ℕ) (why : ClientRefusal) → ◌≡◌ {A = Result ℕ ClientRefusal} (Ok a) (Err why) → ⊥
no_answer a why e = cc

module _ {I S : Type 0} (p : Profile I S) where
  -- ---- nothing is stuck where nothing is unsent

  abbrev IsNot : ClientRefusal → Type 0
  IsNot (Mismatch version number kind) = ⊥
  IsNot why = Unit {0}

  abbrev NotStuck : Option ClientRefusal → Type 0
  NotStuck None = Unit {0}
  NotStuck (Some why) = IsNot why

  entry_not : (c : Client I S) → c.unsent ≡ [] → (e : Sent) → NotStuck (entry_refusal p c e)
  entry_not c none e = read_ (p.unspell e.body)
    where
      applied_ : (r : Result S (ℕ × ℕ)) → NotStuck (applied_refusal c.cursor r)
      applied_ (Ok t) = tt
      applied_ (Err b) = tt

      own_ : NotStuck (own_refusal p c.unsent e)
      own_ = subst (λ us. NotStuck (own_refusal p us e)) (sym none) tt

      crossed_ : (x : Changeset I) → NotStuck (crossed_refusal p c (rebase (cross_changesets p) (map (changeset_of c.ident) c.unsent) x))
      crossed_ x = subst (λ us. NotStuck (crossed_refusal p c (rebase (cross_changesets p) (map (changeset_of c.ident) us) x))) (sym none) (applied_ (apply_all p x.instrs c.objects))

      tests : (is : List I) (a b : Bool) → NotStuck (if a then Some (OldEntry c.cursor) else (if b then own_refusal p c.unsent e else crossed_refusal p c (rebase (cross_changesets p) (map (changeset_of c.ident) c.unsent) (sent_changeset e is))))
      tests is true b = tt
      tests is false true = own_
      tests is false false = crossed_ (sent_changeset e is)

      read_ : (r : Result (List I) (ℕ × ℕ)) → NotStuck (read_refusal p c e r)
      read_ (Err f) = tt
      read_ (Ok is) = tests is _ _

  still_none : (c : Client I S) → c.unsent ≡ [] → (x : Changeset I) → (takes_entry p c x).unsent ≡ []
  still_none c none x = go (x.origin == c.ident)
    where
      on : (r : Result (List (Changeset I) × Changeset I) (ℕ × Stuck)) → (crossed p c r).unsent ≡ []
      on (Ok q) = ap (λ us. carried_to us q.0) none
      on (Err f) = none

      go : (b : Bool) → (if b then record c { cursor = suc c.cursor; unsent = tail c.unsent } else crossed p c (rebase (cross_changesets p) (map (changeset_of c.ident) c.unsent) x)).unsent ≡ []
      go true = ap tail none
      go false = on (rebase (cross_changesets p) (map (changeset_of c.ident) c.unsent) x)

  -- entries are taken, and nothing is unsent then
  taken_none : (es : List Sent) (c : Client I S) → c.unsent ≡ [] → ((why : ClientRefusal) → (take_entries p c es).answer ≡ Err why → IsNot why) × ((after_records p c (take_entries p c es).records).unsent ≡ [])
  taken_none [] c none = ((λ why e. absurd (no_answer c.cursor why e)), none)
  taken_none (e ∷ es) c none = go (entry_refusal p c e) (entry_not c none e) (taken_none es (after_record p c (took e)) (still_none c none (record { origin = e.origin; number = e.number; ms = e.ms; instrs = ok_list (p.unspell e.body) })))
    where
      same : (a b : ClientRefusal) → ◌≡◌ {A = Result ℕ ClientRefusal} (Err a) (Err b) → a ≡ b
      same a b e = cc

      go : (r : Option ClientRefusal) → NotStuck r
          → ((why : ClientRefusal) → (take_entries p (after_record p c (took e)) es).answer ≡ Err why → IsNot why) × ((after_records p (after_record p c (took e)) (take_entries p (after_record p c (took e)) es).records).unsent ≡ [])
          → ((why : ClientRefusal) → (take_one r (took e) (take_entries p (after_record p c (took e)) es)).answer ≡ Err why → IsNot why) × ((after_records p c (take_one r (took e) (take_entries p (after_record p c (took e)) es)).records).unsent ≡ [])
      go (Some r) is rec = ((λ why f. subst IsNot (same r why f) is), none)
      go None is rec = rec

  stops_not : (why : ClientRefusal) → MayStop why → IsNot why → ⊥
  stops_not (Mismatch version number kind) m n = n
  stops_not NotBorn m n = m
  stops_not AlreadyBorn m n = m
  stops_not NotNamed m n = m
  stops_not TooLarge m n = m
  stops_not NumbersFull m n = m
  stops_not (OldForm place) m n = m
  stops_not (NotSubscribed place) m n = m
  stops_not (Break place code) m n = m
  stops_not NotMine m n = m
  stops_not (IdentDiffers kept got) m n = m
  stops_not (Gap cursor from) m n = m
  stops_not (BadBody version offset rule) m n = m
  stops_not (OldEntry version) m n = m
  stops_not (Forked number) m n = m
  stops_not (NotApplicable version place code) m n = m
  stops_not (WasRefused number code) m n = m
  stops_not Subscribed m n = m
  stops_not TooLate m n = m

  -- ---- what the server answers

  record Tells (s : Server I) (st : Client I S) (did : ServerStep) : Type 0 where
    answer : did.answer ≡ Download st.ident st.cursor (load p (map (λ x. sent_of p (restricted p st.subset x)) (entries_from p s.log (length s.log - st.cursor) st.cursor)))
    log : (after_all p s did.records).log ≡ s.log

  marks_keep : (s : Server I) (c mark cursor settled : ℕ) (m : Message) → (after_all p s (marking c mark cursor settled m).records).log ≡ s.log
  marks_keep s c mark cursor settled m = on (marks_new mark cursor settled m)
    where
      on : (b : Bool) → (after_all p s (if b then Settled c settled ∷ [] else [])).log ≡ s.log
      on true = refl
      on false = refl

  twice : (t : Tables) (xs : List (Changeset I)) → map (sent_of p) (map (restricted p (Some t)) xs) ≡ map (λ x. sent_of p (restricted p (Some t) x)) xs
  twice t [] = refl
  twice t (x ∷ xs) = ap (λ l. sent_of p (restricted p (Some t) x) ∷ l) (twice t xs)

  module _ (s : Server I) (st : Client I S) (given : is_given s st.ident ≡ true) (within : st.cursor ≤ length s.log) (second : st.second ≡ true) where
    there_is : (go : List (Changeset I) → ServerStep) → if_there p s st.ident st.cursor (settled_from st.cursor st.unsent) go ≡ marking st.ident (s.marks st.ident) st.cursor (settled_from st.cursor st.unsent) (go (entries_from p s.log (length s.log - st.cursor) st.cursor)).answer
    there_is go =
        ap (λ b. if not b then refuses st.ident 0 (NoSuchIdent (length s.ids)) else (if nat_lt (length s.log) st.cursor then refuses st.ident 0 (AheadOfHistory (length s.log)) else marking st.ident (s.marks st.ident) st.cursor (settled_from st.cursor st.unsent) (go (entries_from p s.log (length s.log - st.cursor) st.cursor)).answer)) given
        ∙ no (nat_lt (length s.log) st.cursor) (refuses st.ident 0 (AheadOfHistory (length s.log))) (marking st.ident (s.marks st.ident) st.cursor (settled_from st.cursor st.unsent) (go (entries_from p s.log (length s.log - st.cursor) st.cursor)).answer) (not_below (length s.log) st.cursor within)

    tells_by : (go : List (Changeset I) → ServerStep) → (go (entries_from p s.log (length s.log - st.cursor) st.cursor)).answer ≡ Download st.ident st.cursor (load p (map (λ x. sent_of p (restricted p st.subset x)) (entries_from p s.log (length s.log - st.cursor) st.cursor))) → Tells s st (if_there p s st.ident st.cursor (settled_from st.cursor st.unsent) go)
    tells_by go is = record {
      answer = ap (λ d. d.answer) (there_is go) ∙ is;
      log = ap (λ d. (after_all p s d.records).log) (there_is go) ∙ marks_keep s st.ident (s.marks st.ident) st.cursor (settled_from st.cursor st.unsent) (go (entries_from p s.log (length s.log - st.cursor) st.cursor)).answer;
    }

    tells : (o : Option Tables) → st.subset ≡ o → Tells s st (serve p s (question st o))
    tells None is =
        subst (λ b. Tells s st (serve p s (if b then Ask2 st.ident st.cursor (settled_from st.cursor st.unsent) else Ask st.ident st.cursor (settled_from st.cursor st.unsent)))) (sym second)
        (tells_by (download p st.ident st.cursor) (ap (λ o. Download st.ident st.cursor (load p (map (λ x. sent_of p (restricted p o x)) (entries_from p s.log (length s.log - st.cursor) st.cursor)))) (sym is)))
    tells (Some t) is =
        subst (λ b. Tells s st (if_there p s st.ident st.cursor (settled_from st.cursor st.unsent) (download_tables p b t st.ident st.cursor))) (sym second)
        (tells_by (download_tables p true t st.ident st.cursor) (ap (λ l. Download st.ident st.cursor (load p l)) (twice t (entries_from p s.log (length s.log - st.cursor) st.cursor)) ∙ ap (λ o. Download st.ident st.cursor (load p (map (λ x. sent_of p (restricted p o x)) (entries_from p s.log (length s.log - st.cursor) st.cursor)))) (sym is)))

  -- ---- a round, and rounds

  module _ {Fits Bounded Old : S → Type 0} (law : Lawful p Fits) (built : Buildable p Fits Bounded Old) (w0 : World) (name : Name) (place : ℕ) (nd0 : Node) (not_server : bytes_eq name server_name ≡ false) (arms : w0.stops nd0.name ≢ None → ⊥) (arms_server : w0.stops server_name ≢ None → ⊥) where
    abbrev Never : Words → Type 0
    Never words = ⊥

    abbrev At : World → Server I → Client I S → ℕ → Type 0
    At v s st n = Here p law built Never ⊥ (λ a. a) w0 name place nd0 not_server arms arms_server v s st n

    abbrev Leads : World → List (Event I) → (World → Type 0) → Type 0
    Leads v es r = Goes p Never v es r

    known : {v : World} {s : Server I} {st : Client I S} {n : ℕ} → At v s st n → st.ident ≢ 0 → Facts p law built Never ⊥ (λ a. a) w0 name place nd0 not_server arms arms_server s st
    known h ne = facts p law built Never ⊥ (λ a. a) w0 name place nd0 not_server arms arms_server h ne

    abbrev left : Server I → Client I S → List Sent
    left s st = map (λ x. sent_of p (restricted p st.subset x)) (entries_from p s.log (length s.log - st.cursor) st.cursor)

    uploaded : {v : World} {s : Server I} {st : Client I S} {n : ℕ} → At v s st n → st.ident ≢ 0 → st.unsent ≡ [] → (rest : List (Event I)) (r : World → Type 0) → ((v2 : World) → At v2 s st (suc (suc n)) → Leads v2 rest r) → Leads v (uploads_at name n ++ rest) r
    uploaded {v} {s} {st} {n} h ne none rest r then_ =
        messages p law built Never ⊥ (λ a. a) w0 name place nd0 not_server arms arms_server h (Uploads name) (upload p) refl (Upload st.ident (to_upload p st)) (named_calls p law built Never ⊥ (λ a. a) w0 name place nd0 not_server arms arms_server st (answers (Upload st.ident (to_upload p st))) f.id f.born ne) (Delivers (suc n) server_name ∷ Delivers (suc (suc n)) name ∷ rest) r
        (λ v2 h2 there. serves p law built Never ⊥ (λ a. a) w0 name place nd0 not_server arms arms_server h2 (suc n) (Upload st.ident (to_upload p st)) there (replies (Stored st.ident (count s st.ident))) served (Delivers (suc (suc n)) name ∷ rest) r
        (λ v3 h3 there3. inr (takes p law built Never ⊥ (λ a. a) w0 name place nd0 not_server arms arms_server h3 (suc (suc n)) (Stored st.ident (count s st.ident)) there3 (answers st.cursor) stored rest r
        (λ why e. no_answer st.cursor why e)
        (λ j v4 e h4. then_ v4 h4))))
      where
        f : Facts p law built Never ⊥ (λ a. a) w0 name place nd0 not_server arms arms_server s st
        f = known h ne

        served : serve p s (Upload st.ident (to_upload p st)) ≡ replies (Stored st.ident (count s st.ident))
        served = yes (is_given s st.ident) (serve_changes p s st.ident (to_upload p st)) (refuses st.ident 0 (NoSuchIdent (length s.ids))) f.given ∙ ap (λ us. serve_changes p s st.ident (fitting (λ (h : Change). length h.body) p.most p.room (map (λ u. change_of p u.original) us))) none

        stored : take_message p st (Stored st.ident (count s st.ident)) ≡ answers st.cursor
        stored = ap (λ o. if_born o (take_born p st (Stored st.ident (count s st.ident)))) f.born ∙ yes (st.ident == st.ident) (answers st.cursor) (refuse NotMine) (test_true st.ident st.ident refl)

    asked : {v : World} {s : Server I} {st : Client I S} {n : ℕ} → At v s st n → st.ident ≢ 0 → st.unsent ≡ [] → st.second ≡ true → (rest : List (Event I)) (r : World → Type 0)
        → ((v2 : World) (s2 : Server I) (st2 : Client I S) → At v2 s2 st2 (suc (suc n)) → s2.log ≡ s.log → SameClient p st st2 → st2.unsent ≡ [] → st2.cursor ≡ st.cursor + length (load p (left s st)) → Leads v2 rest r) → Leads v (asks_at name n ++ rest) r
    asked {v} {s} {st} {n} h ne none second rest r then_ =
        messages p law built Never ⊥ (λ a. a) w0 name place nd0 not_server arms arms_server h (Asks name) ask refl (question st st.subset) (named_calls p law built Never ⊥ (λ a. a) w0 name place nd0 not_server arms arms_server st (answers (question st st.subset)) f.id f.born ne) (Delivers (suc n) server_name ∷ Delivers (suc (suc n)) name ∷ rest) r
        (λ v2 h2 there. serves p law built Never ⊥ (λ a. a) w0 name place nd0 not_server arms arms_server h2 (suc n) (question st st.subset) there (serve p s (question st st.subset)) refl (Delivers (suc (suc n)) name ∷ rest) r
        (λ v3 h3 there3. inr (taken v3 h3 (there3 ∙ ap (λ z. Some z) t.answer))))
      where
        f : Facts p law built Never ⊥ (λ a. a) w0 name place nd0 not_server arms arms_server s st
        f = known h ne

        t : Tells s st (serve p s (question st st.subset))
        t = tells s st f.given f.within second st.subset refl

        es : List Sent
        es = load p (left s st)

        to : take_message p st (Download st.ident st.cursor (load p (left s st))) ≡ take_entries p st (load p (left s st))
        to =
            let nothing : st.cursor - st.cursor ≡ 0 = omega arith in
            ap (λ o. if_born o (take_born p st (Download st.ident st.cursor (load p (left s st))))) f.born
            ∙ yes (st.ident == st.ident) _ (refuse NotMine) (test_true st.ident st.ident refl)
            ∙ no (nat_lt st.cursor st.cursor) (refuse (Gap st.cursor st.cursor)) (take_entries p st (drop (st.cursor - st.cursor) (load p (left s st)))) (not_below st.cursor st.cursor (omega arith))
            ∙ ap (λ k. take_entries p st (drop k (load p (left s st)))) nothing

        taken : (v3 : World) → At v3 (after_all p s (serve p s (question st st.subset)).records) st (suc (suc n)) → message_at v3 (suc (suc n)) ≡ Some (Download st.ident st.cursor (load p (left s st))) → Leads v3 (Delivers (suc (suc n)) name ∷ rest) r
        taken v3 h3 there3 =
            let x = has_taken p (load p (left s st)) st in
            let q = taken_none (load p (left s st)) st none in
            takes p law built Never ⊥ (λ a. a) w0 name place nd0 not_server arms arms_server h3 (suc (suc n)) (Download st.ident st.cursor (load p (left s st))) there3 (take_entries p st (load p (left s st))) to rest r
            (λ why e. ⊎_elim
            (λ a. no_answer _ why (sym a.0 ∙ e))
            (λ a. stops_not why (stops_it why (declined p law built Never ⊥ (λ z. z) w0 name place nd0 not_server arms arms_server h3 (suc n) (Download st.ident st.cursor (load p (left s st))) there3 why (ap (λ d. d.answer) to ∙ e)) (subst IsOfTake (errs a.0 why (sym a.1 ∙ e)) a.2)) (q.0 why e))
            x.ends)
            (λ j v4 e h4. ⊎_elim
            (λ a. then_ v4 (after_all p s (serve p s (question st st.subset)).records) (after_records p st (take_entries p st (load p (left s st))).records) h4 t.log x.same q.1 a.1)
            (λ a. absurd (no_answer j a.0 (sym e ∙ a.1)))
            x.ends)
          where
            errs : (a b : ClientRefusal) → ◌≡◌ {A = Result ℕ ClientRefusal} (Err a) (Err b) → a ≡ b
            errs a b e = cc

    -- what is left is a list of all entries from the cursor on
    entries_are : {v : World} {s : Server I} {st : Client I S} {n : ℕ} (h : At v s st n) → (f : ℕ → Changeset I) × ((d k : ℕ) → k + d ≤ length s.log → entries_from p s.log d k ≡ listed f d k)
    entries_are {v} {s} h = subst (λ (x : Server I). (f : ℕ → Changeset I) × ((d k : ℕ) → k + d ≤ length x.log → entries_from p x.log d k ≡ listed f d k)) h.server at_world
      where
        at_world : (f : ℕ → Changeset I) × ((d k : ℕ) → k + d ≤ length (server_of p v.server).log → entries_from p (server_of p v.server).log d k ≡ listed f d k)
        at_world =
            let i : Holds p v = holds p law built Never ⊥ (λ a. a) w0 name place nd0 not_server arms arms_server h in
            let good = good_of p law (server_of p v.server) v.clients v.injected i.n i.sim in
            let len = ap length i.sim.log_is in
            (i.n.entries, λ d k le. entries_listed p (server_of p v.server).log i.n.entries d k (λ j a b. ap (λ l. history_of p l j) (sym i.sim.log_is) ∙ good.log.whole j (omega arith)))

    left_on : {v : World} {s : Server I} {st : Client I S} {n : ℕ} (h : At v s st n) (s2 : Server I) (st2 : Client I S) (e : ℕ) → s2.log ≡ s.log → SameClient p st st2 → st2.cursor ≡ st.cursor + e → st.cursor + e ≤ length s.log → left s2 st2 ≡ drop e (left s st)
    left_on {v} {s} {st} h s2 st2 e log same cursor le =
        let a = entries_are h in
        let rest : length s.log - st.cursor - e ≡ length s.log - (st.cursor + e) = omega arith in
        ap (λ o. map (λ x. sent_of p (restricted p o x)) (entries_from p s2.log (length s2.log - st2.cursor) st2.cursor)) same.subset
        ∙ ap (λ l. map (λ x. sent_of p (restricted p st.subset x)) (entries_from p l (length l - st2.cursor) st2.cursor)) log
        ∙ ap (λ k. map (λ x. sent_of p (restricted p st.subset x)) (entries_from p s.log (length s.log - k) k)) cursor
        ∙ ap (map (λ x. sent_of p (restricted p st.subset x))) (a.1 (length s.log - (st.cursor + e)) (st.cursor + e) (omega arith)
        ∙ ap (λ d. listed a.0 d (st.cursor + e)) (sym rest)
        ∙ sym (listed_drop a.0 e (length s.log - st.cursor) st.cursor (omega arith))
        ∙ ap (drop e) (sym (a.1 (length s.log - st.cursor) st.cursor (omega arith))))
        ∙ map_drop (λ x. sent_of p (restricted p st.subset x)) e (entries_from p s.log (length s.log - st.cursor) st.cursor)

    at_end : {v : World} {s : Server I} {st : Client I S} {n : ℕ} (h : At v s st n) → st.ident ≢ 0 → left s st ≡ [] → st.cursor ≡ length s.log
    at_end {v} {s} {st} h ne none =
        let a = entries_are h in
        let within = (known h ne).within in
        let len = sym (length_listed p a.0 (length s.log - st.cursor) st.cursor) ∙ ap length (sym (a.1 (length s.log - st.cursor) st.cursor (omega arith)) ∙ no_map (λ x. sent_of p (restricted p st.subset x)) (entries_from p s.log (length s.log - st.cursor) st.cursor) none) in
        omega arith

    pub reads : (k : ℕ) {v : World} {s : Server I} {st : Client I S} {n : ℕ} → At v s st n → st.ident ≢ 0 → st.unsent ≡ [] → st.second ≡ true → AreBorne p k (left s st) → Leads v (rounds name n k) (λ v2. HasCaughtUp p v2 name)
    reads zero {v} {s} {st} h ne none second borne = inr (caught (nothing (left s st) borne))
      where
        nothing : (es : List Sent) → AreBorne p zero es → es ≡ []
        nothing [] b = refl
        nothing (e ∷ es) b = elim b [ ]

        caught : left s st ≡ [] → HasCaughtUp p v name
        caught empty =
            let f = known h ne in
            let ident : ident_of p v h.node ≡ st.ident = ap (λ (x : Server I). ident_by x.ids (client_of p h.node.records).id) h.server ∙ ap (λ (c : Client I S). ident_by s.ids c.id) h.client ∙ ap (ident_by s.ids) f.born ∙ f.placed in
            record {
              place = place;
              node = h.node;
              found = h.found;
              named = λ z. ne (sym ident ∙ z);
              current = record { cursor = ap (λ (c : Client I S). c.cursor) h.client ∙ at_end h ne empty ∙ ap (λ (x : Server I). length x.log) (sym h.server); unsent = ap (λ (c : Client I S). c.unsent) h.client ∙ none };
            }
    reads (suc k) {v} {s} {st} {n} h ne none second borne =
        uploaded h ne none (asks_at name (suc (suc n)) ++ rounds name (suc (suc (suc (suc n)))) k) (λ v2. HasCaughtUp p v2 name) (λ v2 h2.
        asked h2 ne none second (rounds name (suc (suc (suc (suc n)))) k) (λ v3. HasCaughtUp p v3 name) (λ v3 s3 st3 h3 log same none3 cursor.
        let within = (known h3 (λ z. ne (sym same.ident ∙ z))).within in
        let len = ap length log in
        reads k h3 (λ z. ne (sym same.ident ∙ z)) none3 (same.second ∙ second) (subst (AreBorne p k) (sym (left_on h2 s3 st3 (length (load p (left s st))) log same cursor (omega arith))) (next (left s st) borne))))
      where
        next : (es : List Sent) → AreBorne p (suc k) es → AreBorne p k (drop (length (load p es)) es)
        next [] b = none_left
        next (e ∷ es) (a_message b) = b
