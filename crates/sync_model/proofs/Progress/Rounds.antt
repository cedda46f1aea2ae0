-- A client catches up, round by round.
use Rattle.std.proofs.Common.{append-nil, eqb-true, ◌≡◌, ◌≢◌, ◌⊎◌, inl, inr, ⊎_elim, ℕ, zero, suc, ◌+◌, ◌-◌, ◌<◌, ◌≤◌, Bool, true, false, not, List, [], ◌∷◌, ◌++◌, Some, None, Result, Ok, Err, refl, sym, ap, ap₂, ◌∙◌, subst, arith, if◌then◌else◌, ◌==◌, length, length-append, drop, map, take, nat_lt, Option}
use Rattle.std.specs.Prelude.{bytes_eq}
use Rattle.std.proofs.lemmas.Bool.Decides.{nat_tests}
use Rattle.sync_theory.specs.Changesets.{Changeset}
use Rattle.sync_theory.specs.Logs.{of_origin}
use Rattle.sync_theory.proofs.Server.{test_true}
use Rattle.sync_theory.proofs.World.{le_or_lt}
use Rattle.sync_model.specs.Bytes.{Name, Uuid, Tables}
use Rattle.sync_model.proofs.Bytes.{bytes_true}
use Rattle.sync_model.specs.Profile.{Profile, Lawful, is_small, needs, fitting, restricted}
use Rattle.sync_model.specs.Snapshots.{Buildable}
use Rattle.sync_model.specs.Messages.{Change, Sent, Message, Bind, Ident, Upload, Ask, Ask2, Download, Stored}
use Rattle.sync_model.specs.Clients.{Client, Named, bind, take_ident, ClientRefusal, NotBorn, AlreadyBorn, NotNamed, TooLarge, NumbersFull, OldForm, NotSubscribed, Subscribed, TooLate, Break, NotMine, IdentDiffers, Gap, BadBody, OldEntry, Mismatch, Forked, NotApplicable, WasRefused, Unsent, answers, appends, refuse, if_born, change_of, to_upload, upload, ask, settled_from, after_records, take_entries, take_born, take as take_message, question}
use Rattle.sync_model.specs.Servers.{Server, place_of, serve_bind, ServerRefusal, ServerStep, NumberGap, BaseBack, AheadOfHistory, HistoryFull, BadBytes, NoSuchIdent, IdentsFull, NotForServer, NeedsForm2, IdentRetired, SelfRetire, RetiredBy, Trimmed, marks_new, marking, code_of, at_place, server_of, after_all, count, is_given, serve, serve_changes, sent_of, download, download_first, first_form, if_there, entries_from, refuses, replies, Settled, download_tables}
use Rattle.sync_model.specs.Worlds.{Node, World, Event, Binds, Uploads, Asks, Delivers, Words, Replied, server_name, message_at}
use Rattle.sync_model.specs.Each.{Each}
use Rattle.sync_model.specs.Log.{log, MayDecline, MayRefuse}
use Rattle.sync_model.specs.Progress.{MayStop, MayHinder, IsException, IsRoomy, binds_at, uploads_at, asks_at, rounds, after_rounds}
use Rattle.sync_model.proofs.Small.{SmallSets, SmallLog, entries_small}
use Rattle.sync_model.proofs.Fair.{IsOfMerge, IsUploadFair}
use Rattle.sync_model.proofs.Progress.Serves.{fits_some, IsOfTake, SameClient, same_refl, HasServed, has_served, has_taken}
use Rattle.sync_model.proofs.Keeping.{entries_listed}
use Rattle.sync_model.proofs.Own.{good_of}
use Rattle.sync_model.proofs.Holding.{Holds}
use Rattle.sync_model.proofs.Lists.{take_all, listed}
use Rattle.sync_model.proofs.Progress.Catching.{first_of_each, Goes, Here, messages, takes, serves, holds, declined, upload_refused, Facts, facts, named_calls}
use Rattle.sync_model.proofs.Restricting.{restrict_small}

-- what an upload of the exchange is refused by
hinders : (unnamed old : Type 0) (why : ServerRefusal) → MayRefuse why → IsOfMerge why → MayHinder unnamed old why
hinders unnamed old (NumberGap n) m o = absurd m
hinders unnamed old (BaseBack n) m o = absurd m
hinders unnamed old (AheadOfHistory n) m o = absurd m
hinders unnamed old (HistoryFull n) m o = tt
hinders unnamed old (BadBytes offset rule) m o = absurd m
hinders unnamed old (ServerRefusal.Mismatch place kind) m o = m
hinders unnamed old (ServerRefusal.Break place code) m o = absurd m
hinders unnamed old (NoSuchIdent n) m o = absurd m
hinders unnamed old (IdentsFull n) m o = absurd o
hinders unnamed old NotForServer m o = absurd o
hinders unnamed old (NeedsForm2 n) m o = absurd o
hinders unnamed old (IdentRetired n) m o = absurd m
hinders unnamed old (SelfRetire c) m o = absurd m
hinders unnamed old (RetiredBy c) m o = absurd m
hinders unnamed old (Trimmed n) m o = absurd m

-- what a download of the exchange is declined by
pub stops_it : (why : ClientRefusal) → MayDecline why → IsOfTake why → MayStop why
stops_it NotBorn m o = absurd m
stops_it AlreadyBorn m o = absurd m
stops_it NotNamed m o = absurd m
stops_it TooLarge m o = absurd m
stops_it NumbersFull m o = absurd m
stops_it (OldForm place) m o = absurd m
stops_it (NotSubscribed place) m o = absurd m
stops_it (Break place code) m o = absurd m
stops_it NotMine m o = absurd o
stops_it (IdentDiffers kept got) m o = absurd m
stops_it (Gap cursor from) m o = absurd m
stops_it (BadBody version offset rule) m o = absurd m
stops_it (OldEntry version) m o = absurd m
stops_it (Mismatch version number kind) m o = m
stops_it (Forked number) m o = absurd m
stops_it (NotApplicable version place code) m o = absurd m
stops_it (WasRefused number code) m o = absurd o
stops_it Subscribed m o = absurd m
stops_it TooLate m o = absurd m

yes : {A : Type 0} (b : Bool) (x y : A) → b ≡ true → (if b then x else y) ≡ x
yes true x y e = refl
yes false x y e = cc

no : {A : Type 0} (b : Bool) (x y : A) → b ≡ false → (if b then x else y) ≡ y
no true x y e = cc
no false x y e = refl

not_below : (a b : ℕ) → b ≤ a → nat_lt a b ≡ false
not_below a b le = on (nat_lt a b) refl
  where
    on : (t : Bool) → nat_lt a b ≡ t → t ≡ false
    on true e = absurd (grind (arith, nat_tests))
    on false e = refl

lt_or_le : (a b : ℕ) → (a < b) ⊎ (b ≤ a)
lt_or_le a b = ⊎_elim (λ le. inr le) (λ gt. inl gt) (le_or_lt b a)

no_answer : {A : Type 0} (a : A) (why : ClientRefusal) → Ok a ≡ Err why → ⊥
no_answer a why e = cc

module _ {I S : Type 0} (p : Profile I S) {Fits Bounded Old : S → Type 0} (law : Lawful p Fits) (built : Buildable p Fits Bounded Old) (armed unnamed old : Type 0) (w0 : World) (name : Name) (place : ℕ) (nd0 : Node) (not_server : bytes_eq name server_name ≡ false) (arms : w0.stops nd0.name ≢ None → armed) (arms_server : w0.stops server_name ≢ None → armed) where
  abbrev Q : Words → Type 0
  Q = IsException armed unnamed old

  abbrev At : World → Server I → Client I S → ℕ → Type 0
  At v s st n = Here p law built (IsException armed unnamed old) armed (λ a. a) w0 name place nd0 not_server arms arms_server v s st n

  abbrev Leads : World → List (Event I) → (World → Type 0) → Type 0
  Leads v es r = Goes p (IsException armed unnamed old) v es r

  known : {v : World} {s : Server I} {st : Client I S} {n : ℕ} → At v s st n → st.ident ≢ 0 → Facts p law built (IsException armed unnamed old) armed (λ a. a) w0 name place nd0 not_server arms arms_server s st
  known h ne = facts p law built (IsException armed unnamed old) armed (λ a. a) w0 name place nd0 not_server arms arms_server h ne

  -- a client takes what it was told about its upload
  took_stored : (st : Client I S) (number : ℕ) (id : Uuid) → st.id ≡ Some id → take_message p st (Stored st.ident number) ≡ answers st.cursor
  took_stored st number id born = ap (λ o. if_born o (take_born p st (Stored st.ident number))) born ∙ yes (st.ident == st.ident) (answers st.cursor) (refuse NotMine) (test_true st.ident st.ident refl)

  -- ---- it sends what it has unsent

  pub uploaded : {v : World} {s : Server I} {st : Client I S} {n : ℕ} → At v s st n → st.ident ≢ 0 → (rest : List (Event I)) (r : World → Type 0)
      → ((v2 : World) (s2 : Server I) → At v2 s2 st (suc (suc n)) → HasServed p s s2 st.ident (to_upload p st) (Stored st.ident (count s2 st.ident)) → Each (λ x. x.number ≤ count s2 st.ident) (to_upload p st) → Leads v2 rest r)
      → Leads v (uploads_at name n ++ rest) r
  uploaded {v} {s} {st} {n} h ne rest r then_ =
      messages p law built (IsException armed unnamed old) armed (λ a. a) w0 name place nd0 not_server arms arms_server h (Uploads name) (upload p) refl m (named_calls p law built (IsException armed unnamed old) armed (λ a. a) w0 name place nd0 not_server arms arms_server st (answers m) f.id f.born ne) (Delivers (suc n) server_name ∷ Delivers (suc (suc n)) name ∷ rest) r
      (λ v2 h2 there. serves p law built (IsException armed unnamed old) armed (λ a. a) w0 name place nd0 not_server arms arms_server h2 (suc n) m there (serve_changes p s st.ident hs) (yes (is_given s st.ident) (serve_changes p s st.ident hs) (refuses st.ident 0 (NoSuchIdent (length s.ids))) f.given) (Delivers (suc (suc n)) name ∷ rest) r
      (λ v3 h3 replied. replies_ v3 h3 replied (upload_refused p law built (IsException armed unnamed old) armed (λ a. a) w0 name place nd0 not_server arms arms_server h2 n st.ident hs there) (has_served p hs s st.ident)))
    where
      f : Facts p law built (IsException armed unnamed old) armed (λ a. a) w0 name place nd0 not_server arms arms_server s st
      f = known h ne

      hs : List Change
      hs = to_upload p st

      m : Message
      m = Upload st.ident (to_upload p st)

      replies_ : (v3 : World) → At v3 (after_all p s (serve_changes p s st.ident (to_upload p st)).records) st (suc (suc n)) → message_at v3 (suc (suc n)) ≡ Some (serve_changes p s st.ident (to_upload p st)).answer → IsUploadFair (serve_changes p s st.ident (to_upload p st)).answer
          → HasServed p s (after_all p s (serve_changes p s st.ident (to_upload p st)).records) st.ident (to_upload p st) (serve_changes p s st.ident (to_upload p st)).answer
          → ((spot : ℕ) → Q (Replied spot (serve_changes p s st.ident (to_upload p st)).answer)) ⊎ Leads v3 (Delivers (suc (suc n)) name ∷ rest) r
      replies_ v3 h3 replied fair x = ⊎_elim
          (λ a. inr (takes p law built (IsException armed unnamed old) armed (λ a. a) w0 name place nd0 not_server arms arms_server h3 (suc (suc n)) (Stored st.ident (count (after_all p s (serve_changes p s st.ident (to_upload p st)).records) st.ident)) (replied ∙ ap (λ z. Some z) a.0) (answers st.cursor) (took_stored st (count (after_all p s (serve_changes p s st.ident (to_upload p st)).records) st.ident) f.id f.born) rest r
          (λ why e. absurd (no_answer st.cursor why e))
          (λ j v4 e h4. then_ v4 (after_all p s (serve_changes p s st.ident (to_upload p st)).records) h4 (record { ids = x.ids; more = x.more; log = x.log; counts = x.counts; others = x.others; answer = inl (refl, a.1) }) a.1)))
          (λ b. let t = subst IsUploadFair b.2 fair in inl (λ spot. subst (λ z. Q (Replied spot z)) (sym b.2) (t.0, t.1, t.2, hinders unnamed old t.0 t.3.0 t.3.1)))
          x.answer

  -- ---- it asks for what is new

  -- an Ask may mark what the client settled; nothing else is new at the server
  pub record Marked (s s2 : Server I) : Type 0 where
    pub ids : s2.ids ≡ s.ids
    pub log : s2.log ≡ s.log

  marking_marks : (s : Server I) (c mark cursor settled : ℕ) (m : Message) → Marked s (after_all p s (marking c mark cursor settled m).records)
  marking_marks s c mark cursor settled m = on (marks_new mark cursor settled m)
    where
      on : (b : Bool) → Marked s (after_all p s (if b then Settled c settled ∷ [] else []))
      on true = record { ids = refl; log = refl }
      on false = record { ids = refl; log = refl }

  -- the first entry that a client lacks
  record Next (s : Server I) (k : ℕ) : Type 0 where
    entry : Changeset I
    more : List (Changeset I)
    is : entries_from p s.log (length s.log - k) k ≡ entry ∷ more
    small : is_small p entry.instrs ≡ true

  next : {v : World} {s : Server I} {st : Client I S} {n : ℕ} (h : At v s st n) (k : ℕ) → k < length s.log → Next s k
  next {v} {s} h k lt = subst (λ x. Next x k) h.server (at_world (subst (λ x. k < length x.log) (sym h.server) lt))
    where
      at_world : k < length (server_of p v.server).log → Next (server_of p v.server) k
      at_world lt = some (length (server_of p v.server).log - k) (omega arith) (omega arith)
          (entries_small p law (server_of p v.server).log (subst (SmallLog p) i.sim.log_is i.sim.small) (length (server_of p v.server).log - k) k) refl
        where
          i : Holds p v
          i = holds p law built (IsException armed unnamed old) armed (λ a. a) w0 name place nd0 not_server arms arms_server h

          log_is : i.n.log ≡ (server_of p v.server).log
          log_is = i.sim.log_is

          some : (d : ℕ) → 0 < d → k + d ≤ length (server_of p v.server).log → SmallSets p (entries_from p (server_of p v.server).log d k) → length (server_of p v.server).log - k ≡ d → Next (server_of p v.server) k
          some zero gt le small is = absurd (omega arith)
          some (suc d) gt le small is =
              let good = good_of p law (server_of p v.server) v.clients v.injected i.n i.sim in
              let len = ap length log_is in
              let all : entries_from p (server_of p v.server).log (suc d) k ≡ i.n.entries k ∷ listed i.n.entries d (suc k) =
              entries_listed p (server_of p v.server).log i.n.entries (suc d) k (λ j a b. ap (λ l. Rattle.sync_model.specs.Servers.history_of p l j) (sym log_is) ∙ good.log.whole j (omega arith)) in
              record {
                entry = i.n.entries k;
                more = listed i.n.entries d (suc k);
                is = ap (λ x. entries_from p (server_of p v.server).log x k) is ∙ all;
                small = first_of_each (subst (SmallSets p) all small);
              }

  module _ (roomy : IsRoomy p) where
    -- a Download bears an entry where there is one
    fits_one : (x : Changeset I) (xs : List (Changeset I)) → is_small p x.instrs ≡ true → 1 ≤ length (fitting (λ e. length e.body) p.most p.room (map (sent_of p) (x ∷ xs)))
    fits_one x xs small =
        let f = fits_some (λ (e : Sent). length e.body) p.most p.room (sent_of p x) (map (sent_of p) xs) roomy.some (roomy.fits x.instrs small) in
        let l = ap length f.1 in
        omega arith

    -- what the server answers
    abbrev pub Bears1 : List (Changeset I) → List Sent → Type 0
    Bears1 xs es = (x : Changeset I) (more : List (Changeset I)) → xs ≡ x ∷ more → is_small p x.instrs ≡ true → 1 ≤ length es

    asked_second : (c k : ℕ) (xs : List (Changeset I)) → (es : List Sent) × ((download p c k xs).answer ≡ Download c k es) × Bears1 xs es
    asked_second c k xs = (
      fitting (λ e. length e.body) p.most p.room (map (sent_of p) xs),
      refl,
      λ x more e small. subst (λ l. 1 ≤ length (fitting (λ e. length e.body) p.most p.room (map (sent_of p) l))) (sym e) (fits_one x more small),
    )

    asked_first : (c k : ℕ) (xs : List (Changeset I)) → ((es : List Sent) × ((download_first p c k xs).answer ≡ Download c k es) × Bears1 xs es) ⊎ ((download_first p c k xs).answer ≡ (refuses c 0 (NeedsForm2 k)).answer)
    asked_first c k [] = inl (fitting (λ e. length e.body) p.most p.room [], refl, λ x more e small. cc)
    asked_first c k (x ∷ xs) = on (needs p x.instrs) refl
      where
        on : (b : Bool) → needs p x.instrs ≡ b → ((es : List Sent) × ((if b then refuses c 0 (NeedsForm2 k) else download p c k (first_form p (x ∷ xs))).answer ≡ Download c k es) × Bears1 (x ∷ xs) es) ⊎ ((if b then refuses c 0 (NeedsForm2 k) else download p c k (first_form p (x ∷ xs))).answer ≡ (refuses c 0 (NeedsForm2 k)).answer)
        on true b_is = inr refl
        on false b_is = inl (
          fitting (λ e. length e.body) p.most p.room (map (sent_of p) (first_form p (x ∷ xs))),
          refl,
          λ y more e small.
              let same : x ≡ y = cc in
              let first : first_form p (x ∷ xs) ≡ x ∷ first_form p xs = no (needs p x.instrs) [] (x ∷ first_form p xs) b_is in
              subst (λ l. 1 ≤ length (fitting (λ e. length e.body) p.most p.room (map (sent_of p) l))) (sym first) (fits_one x (first_form p xs) (ap (λ z. is_small p z.instrs) same ∙ small)),
        )

    -- what the server does with a client's question, or that the client's form is old
    record Asked (s : Server I) (st : Client I S) (did : ServerStep) (es : List Sent) : Type 0 where
      is : did.answer ≡ Download st.ident st.cursor es
      bears : st.cursor < length s.log → 1 ≤ length es

    abbrev Answered : Server I → Client I S → ServerStep → Type 0
    Answered s st did = Marked s (after_all p s did.records) × (((es : List Sent) × Asked s st did es) ⊎ ((st.second ≡ false) × (did.answer ≡ (refuses st.ident 0 (NeedsForm2 st.cursor)).answer)))

    there_is : (s : Server I) (c k settled : ℕ) (go : List (Changeset I) → ServerStep) → is_given s c ≡ true → k ≤ length s.log → if_there p s c k settled go ≡ marking c (s.marks c) k settled (go (entries_from p s.log (length s.log - k) k)).answer
    there_is s c k settled go given le =
        ap (λ b. if not b then refuses c 0 (NoSuchIdent (length s.ids)) else (if nat_lt (length s.log) k then refuses c 0 (AheadOfHistory (length s.log)) else marking c (s.marks c) k settled (go (entries_from p s.log (length s.log - k) k)).answer)) given
        ∙ no (nat_lt (length s.log) k) (refuses c 0 (AheadOfHistory (length s.log))) (marking c (s.marks c) k settled (go (entries_from p s.log (length s.log - k) k)).answer) (not_below (length s.log) k le)

    module _ {v : World} {s : Server I} {st : Client I S} {n : ℕ} (h : At v s st n) (ne : st.ident ≢ 0) where
      entries : List (Changeset I)
      entries = entries_from p s.log (length s.log - st.cursor) st.cursor

      -- of each entry that it lacks a client gets what is left for its tables
      abbrev Bears2 : List (Changeset I) → Type 0
      Bears2 xs = st.cursor < length s.log → (x : Changeset I) × (more : List (Changeset I)) × (xs ≡ x ∷ more) × (is_small p x.instrs ≡ true)

      bears_all : Bears2 (entries_from p s.log (length s.log - st.cursor) st.cursor)
      bears_all lt = let x = next h st.cursor lt in (x.entry, x.more, x.is, x.small)

      bears_part : (t : Tables) → Bears2 (map (restricted p (Some t)) (entries_from p s.log (length s.log - st.cursor) st.cursor))
      bears_part t lt =
          let x = next h st.cursor lt in
          (restricted p (Some t) x.entry, map (restricted p (Some t)) x.more, ap (map (restricted p (Some t))) x.is, restrict_small p (Some t) x.entry.instrs x.small)

      answered : (go : List (Changeset I) → ServerStep) (xs : List (Changeset I)) → Bears2 xs
          → ((es : List Sent) × ((go (entries_from p s.log (length s.log - st.cursor) st.cursor)).answer ≡ Download st.ident st.cursor es) × Bears1 xs es) ⊎ ((st.second ≡ false) × ((go (entries_from p s.log (length s.log - st.cursor) st.cursor)).answer ≡ (refuses st.ident 0 (NeedsForm2 st.cursor)).answer))
          → Answered s st (if_there p s st.ident st.cursor (settled_from st.cursor st.unsent) go)
      answered go xs bears got =
          let f = known h ne in
          let is = there_is s st.ident st.cursor (settled_from st.cursor st.unsent) go f.given f.within in
          subst (Answered s st) (sym is)
          ((
            marking_marks s st.ident (s.marks st.ident) st.cursor (settled_from st.cursor st.unsent) (go (entries_from p s.log (length s.log - st.cursor) st.cursor)).answer,
            ⊎_elim
                (λ a. inl (a.0, record { is = a.1; bears = λ lt. let x = bears lt in a.2 x.0 x.1 x.2 x.3 }))
                (λ b. inr b)
                got,
          ))

      or_old : {A B : Type 0} → st.second ≡ false → A ⊎ B → A ⊎ ((st.second ≡ false) × B)
      or_old is (inl a) = inl a
      or_old is (inr b) = inr (is, b)

      by_form : (b : Bool) → st.second ≡ b → Answered s st (serve p s (if b then Ask2 st.ident st.cursor (settled_from st.cursor st.unsent) else Ask st.ident st.cursor (settled_from st.cursor st.unsent)))
      by_form true b_is = answered (download p st.ident st.cursor) _ bears_all (inl (asked_second st.ident st.cursor (entries_from p s.log (length s.log - st.cursor) st.cursor)))
      by_form false b_is = answered (download_first p st.ident st.cursor) _ bears_all (or_old b_is (asked_first st.ident st.cursor (entries_from p s.log (length s.log - st.cursor) st.cursor)))

      by_tables : (t : Tables) (b : Bool) → st.second ≡ b → Answered s st (if_there p s st.ident st.cursor (settled_from st.cursor st.unsent) (download_tables p b t st.ident st.cursor))
      by_tables t true b_is = answered (download_tables p true t st.ident st.cursor) (map (restricted p (Some t)) (entries_from p s.log (length s.log - st.cursor) st.cursor)) (bears_part t) (inl (asked_second st.ident st.cursor (map (restricted p (Some t)) (entries_from p s.log (length s.log - st.cursor) st.cursor))))
      by_tables t false b_is = answered (download_tables p false t st.ident st.cursor) (map (restricted p (Some t)) (entries_from p s.log (length s.log - st.cursor) st.cursor)) (bears_part t) (or_old b_is (asked_first st.ident st.cursor (map (restricted p (Some t)) (entries_from p s.log (length s.log - st.cursor) st.cursor))))

      asks_for : (o : Option Tables) → Answered s st (serve p s (question st o))
      asks_for None = by_form st.second refl
      asks_for (Some t) = by_tables t st.second refl

    took_download : (st : Client I S) (es : List Sent) (id : Uuid) → st.id ≡ Some id → take_message p st (Download st.ident st.cursor es) ≡ take_entries p st es
    took_download st es id born =
        let nothing : st.cursor - st.cursor ≡ 0 = omega arith in
        ap (λ o. if_born o (take_born p st (Download st.ident st.cursor es))) born
        ∙ yes (st.ident == st.ident) _ (refuse NotMine) (test_true st.ident st.ident refl)
        ∙ no (nat_lt st.cursor st.cursor) (refuse (Gap st.cursor st.cursor)) (take_entries p st (drop (st.cursor - st.cursor) es)) (not_below st.cursor st.cursor (omega arith))
        ∙ ap (λ k. take_entries p st (drop k es)) nothing

    pub downloaded : {v : World} {s : Server I} {st : Client I S} {n : ℕ} → At v s st n → st.ident ≢ 0 → (st.second ≡ false → old) → (rest : List (Event I)) (r : World → Type 0)
        → ((v2 : World) (s2 : Server I) (st2 : Client I S) (e : ℕ) → At v2 s2 st2 (suc (suc n)) → Marked s s2 → SameClient p st st2 → st2.cursor ≡ st.cursor + e → (st.cursor < length s.log → 1 ≤ e) → Leads v2 rest r)
        → Leads v (asks_at name n ++ rest) r
    downloaded {v} {s} {st} {n} h ne old_is rest r then_ =
        messages p law built (IsException armed unnamed old) armed (λ a. a) w0 name place nd0 not_server arms arms_server h (Asks name) ask refl (question st st.subset) (named_calls p law built (IsException armed unnamed old) armed (λ a. a) w0 name place nd0 not_server arms arms_server st (answers (question st st.subset)) f.id f.born ne) (Delivers (suc n) server_name ∷ Delivers (suc (suc n)) name ∷ rest) r
        (λ v2 h2 there. on v2 h2 there (serve p s (question st st.subset)) refl (asks_for h2 ne st.subset))
      where
        f : Facts p law built (IsException armed unnamed old) armed (λ a. a) w0 name place nd0 not_server arms arms_server s st
        f = known h ne

        takes_it : (v3 : World) (s3 : Server I) (es : List Sent) → Marked s s3 → At v3 s3 st (suc (suc n)) → message_at v3 (suc (suc n)) ≡ Some (Download st.ident st.cursor es) → (st.cursor < length s.log → 1 ≤ length es) → Leads v3 (Delivers (suc (suc n)) name ∷ rest) r
        takes_it v3 s3 es marks h3 there bears =
            let x = has_taken p es st in
            takes p law built (IsException armed unnamed old) armed (λ a. a) w0 name place nd0 not_server arms arms_server h3 (suc (suc n)) (Download st.ident st.cursor es) there (take_entries p st es) (took_download st es f.id f.born) rest r
            (λ why e. ⊎_elim
            (λ a. absurd (no_answer (after_records p st (take_entries p st es).records).cursor why (sym a.0 ∙ e)))
            (λ a. let same : a.0 ≡ why = errs a.0 why (sym a.1 ∙ e) in stops_it why (declined p law built (IsException armed unnamed old) armed (λ a. a) w0 name place nd0 not_server arms arms_server h3 (suc n) (Download st.ident st.cursor es) there why (ap (λ d. d.answer) (took_download st es f.id f.born) ∙ e)) (subst IsOfTake same a.2))
            x.ends)
            (λ j v4 e h4. ⊎_elim
            (λ a. then_ v4 s3 (after_records p st (take_entries p st es).records) (length es) h4 marks x.same a.1 bears)
            (λ a. absurd (no_answer j a.0 (sym e ∙ a.1)))
            x.ends)
          where
            errs : (a b : ClientRefusal) → ◌≡◌ {A = Result ℕ ClientRefusal} (Err a) (Err b) → a ≡ b
            errs a b e = cc

        on : (v2 : World) → At v2 s st (suc n) → message_at v2 (suc n) ≡ Some (question st st.subset) → (did : ServerStep) → serve p s (question st st.subset) ≡ did → Answered s st did
            → Leads v2 (Delivers (suc n) server_name ∷ Delivers (suc (suc n)) name ∷ rest) r
        on v2 h2 there did did_is a =
            serves p law built (IsException armed unnamed old) armed (λ a. a) w0 name place nd0 not_server arms arms_server h2 (suc n) (question st st.subset) there did did_is (Delivers (suc (suc n)) name ∷ rest) r
            (λ v3 h3 there3. ⊎_elim
            (λ b. inr (takes_it v3 (after_all p s did.records) b.0 a.0 h3 (there3 ∙ ap (λ z. Some z) b.1.is) b.1.bears))
            (λ b. inl (λ spot. subst (λ z. Q (Replied spot z)) (sym b.1) (NeedsForm2 st.cursor, refl, refl, old_is b.0)))
            a.1)

    -- ---- a round, and rounds

    -- what is left to do is no more than k
    abbrev pub Within : Server I → Client I S → ℕ → Type 0
    Within s st k = length s.log + length st.made ≤ st.cursor + count s st.ident + k

    -- the server took changes of ident c alone
    pub record Onward (s s2 : Server I) (c : ℕ) : Type 0 where
      pub ids : s2.ids ≡ s.ids
      pub more : ℕ
      pub log : length s2.log ≡ length s.log + more
      pub counts : count s2 c ≡ count s c + more
      pub others : (d : ℕ) → d ≢ c → of_origin d s2.log ≡ of_origin d s.log

    pub onward_refl : (s : Server I) (c : ℕ) → Onward s s c
    onward_refl s c = record { ids = refl; more = 0; log = omega arith; counts = omega arith; others = λ d ne. refl }

    pub onward_then : {s s2 s3 : Server I} {c : ℕ} → Onward s s2 c → Onward s2 s3 c → Onward s s3 c
    onward_then a b =
        let al = a.log in
        let bl = b.log in
        let ac = a.counts in
        let bc = b.counts in
        record { ids = b.ids ∙ a.ids; more = a.more + b.more; log = omega arith; counts = omega arith; others = λ d ne. b.others d ne ∙ a.others d ne }

    onward_of : {s s2 : Server I} {c : ℕ} {hs : List Change} {a : Message} → HasServed p s s2 c hs a → Onward s s2 c
    onward_of x = record { ids = x.ids; more = x.more; log = x.log; counts = x.counts; others = x.others }

    -- a mark doesn't count
    onward_marked : {s s2 s3 : Server I} {c : ℕ} → Onward s s2 c → Marked s2 s3 → Onward s s3 c
    onward_marked {c = c} a m = record {
      ids = m.ids ∙ a.ids;
      more = a.more;
      log = ap length m.log ∙ a.log;
      counts = ap (λ l. length (of_origin c l)) m.log ∙ a.counts;
      others = λ d ne. ap (of_origin d) m.log ∙ a.others d ne;
    }

    each_counted : {s2 s3 : Server I} {hs : List Change} (c : ℕ) → Marked s2 s3 → Each (λ x. x.number ≤ count s2 c) hs → Each (λ x. x.number ≤ count s3 c) hs
    each_counted {hs = hs} c m e = subst (λ l. Each (λ x. x.number ≤ length (of_origin c l)) hs) (sym m.log) e

    pub same_then : {a b c : Client I S} → SameClient p a b → SameClient p b c → SameClient p a c
    same_then x y = record { id = y.id ∙ x.id; ident = y.ident ∙ x.ident; second = y.second ∙ x.second; subset = y.subset ∙ x.subset; made = y.made ∙ x.made }

    -- at the end of the history nothing is left unsent, or the next upload adds to it
    gained : (s s2 : Server I) (st : Client I S) → Facts p law built (IsException armed unnamed old) armed (λ a. a) w0 name place nd0 not_server arms arms_server s st → st.cursor ≡ length s.log → Each (λ x. x.number ≤ count s2 st.ident) (to_upload p st) → (length st.made ≡ count s st.ident) ⊎ (count s st.ident < count s2 st.ident)
    gained s s2 st f at_end each = on st.unsent refl
      where
        sent_is : length f.sent ≡ count s st.ident
        sent_is = f.sent_count ∙ ap (λ k. length (of_origin st.ident (take k s.log))) at_end ∙ ap (λ l. length (of_origin st.ident l)) (take_all s.log)

        on : (us : List (Unsent I)) → st.unsent ≡ us → (length st.made ≡ count s st.ident) ⊎ (count s st.ident < count s2 st.ident)
        on [] us_is =
            let l = ap length (f.split ∙ ap (λ us. f.sent ++ map (λ u. u.original) us) us_is) ∙ length-append f.sent [] in
            let k = sent_is in
            inl (omega arith)
        on (u ∷ us) us_is =
            let some = fits_some (λ (h : Change). length h.body) p.most p.room (change_of p u.original) (map (λ u. change_of p u.original) us) roomy.some (roomy.fits u.original.instrs (f.small u us us_is)) in
            let is : to_upload p st ≡ change_of p u.original ∷ some.0 = ap (λ l. fitting (λ (h : Change). length h.body) p.most p.room (map (λ u. change_of p u.original) l)) us_is ∙ some.1 in
            let le = first_of_each (subst (Each (λ x. x.number ≤ count s2 st.ident)) is each) in
            let number = f.numbers u us us_is in
            let k = sent_is in
            inr (omega arith)

    round : {v : World} {s : Server I} {st : Client I S} {n : ℕ} → At v s st n → st.ident ≢ 0 → (st.second ≡ false → old) → (k : ℕ) → Within s st (suc k) → (rest : List (Event I)) (r : World → Type 0)
        → ((v2 : World) (s2 : Server I) (st2 : Client I S) → At v2 s2 st2 (suc (suc (suc (suc n)))) → SameClient p st st2 → Onward s s2 st.ident → Within s2 st2 k → Leads v2 rest r)
        → Leads v (uploads_at name n ++ (asks_at name (suc (suc n)) ++ rest)) r
    round {v} {s} {st} {n} h ne old_is k within rest r then_ =
        uploaded h ne (asks_at name (suc (suc n)) ++ rest) r (λ v2 s2 h2 x each.
        downloaded h2 ne old_is rest r (λ v3 s3 st3 e h3 marks same cursor bears.
        let on : Onward s s3 st.ident = onward_marked (onward_of x) marks in
        then_ v3 s3 st3 h3 same on
        (left s3 st3 e on.more on.log on.counts (each_counted st.ident marks each) same cursor (λ lt. bears (subst (λ l. st.cursor < length l) marks.log lt)) (known h3 (λ z. ne (sym same.ident ∙ z))))))
      where
        left : (s2 : Server I) (st3 : Client I S) (e more : ℕ) → length s2.log ≡ length s.log + more → count s2 st.ident ≡ count s st.ident + more → Each (λ x. x.number ≤ count s2 st.ident) (to_upload p st) → SameClient p st st3 → st3.cursor ≡ st.cursor + e → (st.cursor < length s2.log → 1 ≤ e) → Facts p law built (IsException armed unnamed old) armed (λ a. a) w0 name place nd0 not_server arms arms_server s2 st3 → Within s2 st3 k
        left s2 st3 e more log counts each same cursor bears f3 =
            let f = known h ne in
            let made_is = ap length same.made in
            let count_is = ap (count s2) same.ident in
            let within3 = f3.within in
            let within1 = f.within in
            let owned = f.owned in
            by_gain e cursor bears f made_is count_is within3 within1 owned
          where
            by_gain : (e : ℕ) → st3.cursor ≡ st.cursor + e → (st.cursor < length s2.log → 1 ≤ e) → Facts p law built (IsException armed unnamed old) armed (λ a. a) w0 name place nd0 not_server arms arms_server s st → length st3.made ≡ length st.made → count s2 st3.ident ≡ count s2 st.ident → st3.cursor ≤ length s2.log → st.cursor ≤ length s.log → count s st.ident ≤ length st.made → Within s2 st3 k
            by_gain (suc e) cursor bears f made_is count_is within3 within1 owned = omega arith
            by_gain zero cursor bears f made_is count_is within3 within1 owned = ⊎_elim
                (λ lt. let le = bears lt in absurd (omega arith))
                (λ ge. ⊎_elim (λ all. omega arith) (λ gt. omega arith) (gained s s2 st f (omega arith) each))
                (below st.cursor (length s2.log))
              where
                below : (a b : ℕ) → (a < b) ⊎ (b ≤ a)
                below a b = lt_or_le a b

    -- a round gets further, or nothing is left
    pub round_gains : {v : World} {s : Server I} {st : Client I S} {n : ℕ} → At v s st n → st.ident ≢ 0 → (st.second ≡ false → old) → (rest : List (Event I)) (r : World → Type 0)
        → ((v2 : World) (s2 : Server I) (st2 : Client I S) → At v2 s2 st2 (suc (suc (suc (suc n)))) → SameClient p st st2 → (st.cursor + count s st.ident < st2.cursor + count s2 st2.ident) ⊎ Within s2 st2 0 → Leads v2 rest r)
        → Leads v (uploads_at name n ++ (asks_at name (suc (suc n)) ++ rest)) r
    round_gains {v} {s} {st} {n} h ne old_is rest r then_ =
        uploaded h ne (asks_at name (suc (suc n)) ++ rest) r (λ v2 s2 h2 x each.
        downloaded h2 ne old_is rest r (λ v3 s3 st3 e h3 marks same cursor bears.
        let on : Onward s s3 st.ident = onward_marked (onward_of x) marks in
        then_ v3 s3 st3 h3 same
        (by_gain s3 st3 on.more e on.log on.counts (each_counted st.ident marks each) cursor (λ lt. bears (subst (λ l. st.cursor < length l) marks.log lt)) (known h ne) (ap length same.made) (ap (count s3) same.ident) (known h3 (λ z. ne (sym same.ident ∙ z))))))
      where
        by_gain : (s2 : Server I) (st3 : Client I S) (more e : ℕ) → length s2.log ≡ length s.log + more → count s2 st.ident ≡ count s st.ident + more → Each (λ x. x.number ≤ count s2 st.ident) (to_upload p st) → st3.cursor ≡ st.cursor + e → (st.cursor < length s2.log → 1 ≤ e)
            → Facts p law built (IsException armed unnamed old) armed (λ a. a) w0 name place nd0 not_server arms arms_server s st → length st3.made ≡ length st.made → count s2 st3.ident ≡ count s2 st.ident → Facts p law built (IsException armed unnamed old) armed (λ a. a) w0 name place nd0 not_server arms arms_server s2 st3
            → (st.cursor + count s st.ident < st3.cursor + count s2 st3.ident) ⊎ Within s2 st3 0
        by_gain s2 st3 more (suc e) log counts each cursor bears f made_is count_is f3 = inl (omega arith)
        by_gain s2 st3 (suc more) zero log counts each cursor bears f made_is count_is f3 = inl (omega arith)
        by_gain s2 st3 zero zero log counts each cursor bears f made_is count_is f3 =
            let within1 = f.within in
            ⊎_elim
            (λ lt. let le = bears lt in absurd (omega arith))
            (λ ge. ⊎_elim (λ all. inr (omega arith)) (λ gt. inl (omega arith)) (gained s s2 st f (omega arith) each))
            (lt_or_le st.cursor (length s2.log))

    pub caught : (k : ℕ) {v : World} {s : Server I} {st : Client I S} {n : ℕ} → At v s st n → st.ident ≢ 0 → (st.second ≡ false → old) → Within s st k → (rest : List (Event I)) (r : World → Type 0)
        → ((v2 : World) (s2 : Server I) (st2 : Client I S) → At v2 s2 st2 (after_rounds n k) → SameClient p st st2 → Onward s s2 st.ident → Within s2 st2 0 → Leads v2 rest r)
        → Leads v (rounds name n k ++ rest) r
    caught zero {v} {s} {st} {n} h ne old_is within rest r then_ = then_ v s st h (same_refl p st) (onward_refl s st.ident) within
    caught (suc k) {v} {s} {st} {n} h ne old_is within rest r then_ =
        round h ne old_is k within (rounds name (suc (suc (suc (suc n)))) k ++ rest) r (λ v2 s2 st2 h2 same on within2.
        caught k h2 (λ z. ne (sym same.ident ∙ z)) (λ z. old_is (sym same.second ∙ z)) within2 rest r (λ v3 s3 st3 h3 same3 on3 within3.
        then_ v3 s3 st3 h3 (same_then same same3) (onward_then on (subst (Onward s2 s3) same.ident on3)) within3))

    -- ---- it asks for its ident

    -- a client that is bound; its ident was given, or is given now
    pub record Bound (s s2 : Server I) (st st2 : Client I S) (id : Uuid) : Type 0 where
      pub log : s2.log ≡ s.log
      pub more : List Uuid
      pub ids : s2.ids ≡ s.ids ++ more
      pub none_more : place_of id s.ids ≢ 0 → more ≡ []
      pub named : st2.ident ≢ 0
      pub kept_ident : st.ident ≢ 0 → st2.ident ≡ st.ident
      pub same_id : st2.id ≡ st.id
      pub second : st2.second ≡ st.second
      pub subset : st2.subset ≡ st.subset
      pub made : st2.made ≡ st.made
      pub cursor : st2.cursor ≡ st.cursor

    pub bound : {v : World} {s : Server I} {st : Client I S} {n : ℕ} → At v s st n → (id : Uuid) → st.id ≡ Some id → (place_of id s.ids ≡ 0 → unnamed) → (rest : List (Event I)) (r : World → Type 0)
        → ((v2 : World) (s2 : Server I) (st2 : Client I S) → At v2 s2 st2 (suc (suc n)) → Bound s s2 st st2 id → Leads v2 rest r)
        → Leads v (binds_at name n ++ rest) r
    bound {v} {s} {st} {n} h id born new_is rest r then_ =
        messages p law built (IsException armed unnamed old) armed (λ a. a) w0 name place nd0 not_server arms arms_server h (Binds name) bind refl (Bind id) (ap (λ o. if_born o (λ i. answers (Bind i))) born) (Delivers (suc n) server_name ∷ Delivers (suc (suc n)) name ∷ rest) r
        (λ v2 h2 there. on (place_of id s.ids == 0) refl (length s.ids == p.full) refl v2 h2 there)
      where
        named_now : (s2 : Server I) (c : ℕ) (v3 : World) → At v3 s2 st (suc (suc n)) → message_at v3 (suc (suc n)) ≡ Some (Ident id c) → c ≢ 0 → s2.log ≡ s.log → (more : List Uuid) → s2.ids ≡ s.ids ++ more → (place_of id s.ids ≢ 0 → more ≡ []) → Leads v3 (Delivers (suc (suc n)) name ∷ rest) r
        named_now s2 c v3 h3 there given log_is more ids none = first (st.ident == 0) refl (st.ident == c) refl
          where
            to : take_message p st (Ident id c) ≡ take_ident st c
            to = ap (λ o. if_born o (take_born p st (Ident id c))) born ∙ yes (bytes_eq id id) (take_ident st c) (refuse NotMine) (bytes_true id id refl)

            first : (a : Bool) → (st.ident == 0) ≡ a → (b : Bool) → (st.ident == c) ≡ b → Leads v3 (Delivers (suc (suc n)) name ∷ rest) r
            first true a_is b b_is =
                takes p law built (IsException armed unnamed old) armed (λ a. a) w0 name place nd0 not_server arms arms_server h3 (suc (suc n)) (Ident id c) there (appends (Named c) st.cursor) (to ∙ yes (st.ident == 0) (appends (Named c) st.cursor) (if st.ident == c then answers st.cursor else refuse (IdentDiffers st.ident c)) a_is) rest r
                (λ why e. absurd (no_answer st.cursor why e))
                (λ j v4 e h4. then_ v4 s2 (record st { ident = c }) h4 (record { log = log_is; more = more; ids = ids; none_more = none; named = given; kept_ident = λ ne. absurd (ne (eqb-true st.ident 0 a_is)); same_id = refl; second = refl; subset = refl; made = refl; cursor = refl }))
            first false a_is true b_is =
                takes p law built (IsException armed unnamed old) armed (λ a. a) w0 name place nd0 not_server arms arms_server h3 (suc (suc n)) (Ident id c) there (answers st.cursor) (to ∙ no (st.ident == 0) (appends (Named c) st.cursor) (if st.ident == c then answers st.cursor else refuse (IdentDiffers st.ident c)) a_is ∙ yes (st.ident == c) (answers st.cursor) (refuse (IdentDiffers st.ident c)) b_is) rest r
                (λ why e. absurd (no_answer st.cursor why e))
                (λ j v4 e h4. then_ v4 s2 st h4 (record { log = log_is; more = more; ids = ids; none_more = none; named = λ z. let t = test_true st.ident 0 z in absurd (both_of a_is t); kept_ident = λ ne. refl; same_id = refl; second = refl; subset = refl; made = refl; cursor = refl }))
              where
                both_of : {b : Bool} → b ≡ false → b ≡ true → ⊥
                both_of e f = cc
            first false a_is false b_is =
                let is : take_message p st (Ident id c) ≡ refuse (IdentDiffers st.ident c) = to ∙ no (st.ident == 0) (appends (Named c) st.cursor) (if st.ident == c then answers st.cursor else refuse (IdentDiffers st.ident c)) a_is ∙ no (st.ident == c) (answers st.cursor) (refuse (IdentDiffers st.ident c)) b_is in
                absurd (declined p law built (IsException armed unnamed old) armed (λ a. a) w0 name place nd0 not_server arms arms_server h3 (suc n) (Ident id c) there (IdentDiffers st.ident c) (ap (λ d. d.answer) is))

        on : (a : Bool) → (place_of id s.ids == 0) ≡ a → (b : Bool) → (length s.ids == p.full) ≡ b → (v2 : World) → At v2 s st (suc n) → message_at v2 (suc n) ≡ Some (Bind id) → Leads v2 (Delivers (suc n) server_name ∷ Delivers (suc (suc n)) name ∷ rest) r
        on false a_is b b_is v2 h2 there =
            let is : serve p s (Bind id) ≡ replies (Ident id (place_of id s.ids)) = ap (λ t. if not t then replies (Ident id (place_of id s.ids)) else (if length s.ids == p.full then refuses 0 0 (IdentsFull (length s.ids)) else record { records = Rattle.sync_model.specs.Servers.Client id ∷ []; answer = Ident id (suc (length s.ids)) })) a_is in
            serves p law built (IsException armed unnamed old) armed (λ a. a) w0 name place nd0 not_server arms arms_server h2 (suc n) (Bind id) there (replies (Ident id (place_of id s.ids))) is (Delivers (suc (suc n)) name ∷ rest) r
            (λ v3 h3 there3. inr (named_now s (place_of id s.ids) v3 h3 there3 (λ z. let t = test_true (place_of id s.ids) 0 z in absurd (both_of a_is t)) refl [] (sym (append-nil s.ids)) (λ z. refl)))
          where
            both_of : {b : Bool} → b ≡ false → b ≡ true → ⊥
            both_of e f = cc
        on true a_is true b_is v2 h2 there =
            let is : serve p s (Bind id) ≡ refuses 0 0 (IdentsFull (length s.ids)) = ap₂ (λ t u. if not t then replies (Ident id (place_of id s.ids)) else (if u then refuses 0 0 (IdentsFull (length s.ids)) else record { records = Rattle.sync_model.specs.Servers.Client id ∷ []; answer = Ident id (suc (length s.ids)) })) a_is b_is in
            serves p law built (IsException armed unnamed old) armed (λ a. a) w0 name place nd0 not_server arms arms_server h2 (suc n) (Bind id) there (refuses 0 0 (IdentsFull (length s.ids))) is (Delivers (suc (suc n)) name ∷ rest) r
            (λ v3 h3 there3. inl (λ spot. (IdentsFull (length s.ids), refl, refl, new_is (eqb-true (place_of id s.ids) 0 a_is))))
        on true a_is false b_is v2 h2 there =
            let is : serve p s (Bind id) ≡ record { records = Rattle.sync_model.specs.Servers.Client id ∷ []; answer = Ident id (suc (length s.ids)) } = ap₂ (λ t u. if not t then replies (Ident id (place_of id s.ids)) else (if u then refuses 0 0 (IdentsFull (length s.ids)) else record { records = Rattle.sync_model.specs.Servers.Client id ∷ []; answer = Ident id (suc (length s.ids)) })) a_is b_is in
            serves p law built (IsException armed unnamed old) armed (λ a. a) w0 name place nd0 not_server arms arms_server h2 (suc n) (Bind id) there (record { records = Rattle.sync_model.specs.Servers.Client id ∷ []; answer = Ident id (suc (length s.ids)) }) is (Delivers (suc (suc n)) name ∷ rest) r
            (λ v3 h3 there3. inr (named_now (record s { ids = s.ids ++ id ∷ [] }) (suc (length s.ids)) v3 h3 there3 (λ z. absurd (omega arith)) refl (id ∷ []) refl (λ ne. absurd (ne (eqb-true (place_of id s.ids) 0 a_is)))))
