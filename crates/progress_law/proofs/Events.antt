-- Single events of a client's round, each from the world before it.
use Rattle.std.proofs.Common.{◌≡◌, ◌≢◌, ◌⊎◌, inl, inr, ⊎_elim, ℕ, zero, suc, ◌+◌, ◌-◌, ◌≤◌, Bool, true, false, not, List, [], ◌∷◌, Option, Some, None, Result, Ok, Err, refl, sym, ap, ◌∙◌, subst, arith, if◌then◌else◌, ◌==◌, eqb-true, length, drop, map, nat_lt}
use Rattle.std.specs.Prelude.{bytes_eq}
use Rattle.std.proofs.lemmas.Bool.Decides.{nat_tests}
use Rattle.sync_theory.specs.Changesets.{Changeset}
use Rattle.sync_theory.proofs.Server.{test_true}
use Rattle.sync_model.specs.Bytes.{Name, Uuid, Tables}
use Rattle.sync_model.proofs.Bytes.{bytes_true}
use Rattle.sync_model.specs.Profile.{Profile, Lawful, is_small, needs, restricted}
use Rattle.sync_model.specs.Snapshots.{Buildable}
use Rattle.sync_model.specs.Messages.{Change, Sent, Message, Bind, Ident, Upload, Ask, Ask2, Download}
use Rattle.sync_model.specs.Clients.{Client, ClientRefusal, ClientStep, NotMine, IdentDiffers, Gap, Named, answers, appends, refuse, if_born, bind, take_ident, upload, to_upload, ask, question, settled_from, client_of, after_records, take_entries, take_born, take as take_message}
use Rattle.sync_model.specs.Servers.{Server, ServerStep, place_of, replies, ServerRefusal, NumberGap, BaseBack, AheadOfHistory, HistoryFull, BadBytes, NoSuchIdent, IdentsFull, NotForServer, NeedsForm2, IdentRetired, SelfRetire, RetiredBy, Trimmed, code_of, at_place, marking, server_of, after_all, count, is_given, serve, serve_changes, sent_of, download, download_first, download_tables, first_form, if_there, entries_from, history_of, refuses}
use Rattle.sync_model.specs.Worlds.{Node, World, Event, Binds, Uploads, Asks, Delivers, Words, Replied, at, seek, has_name, server_name, message_at, message_words, client_calls, happens}
use Rattle.sync_model.specs.Each.{Each}
use Rattle.sync_model.specs.Log.{log, MayDecline, MayRefuse}
use Rattle.sync_model.specs.Progress.{Comes, comes_now, comes_later, MayHinder, IsException, IsRoomy, load}
use Rattle.sync_model.proofs.Small.{SmallSets, SmallLog, entries_small}
use Rattle.sync_model.proofs.Fair.{IsOfMerge, IsUploadFair}
use Rattle.sync_model.proofs.Keeping.{entries_listed, listed_drop}
use Rattle.sync_model.proofs.Own.{good_of}
use Rattle.sync_model.proofs.Holding.{Holds}
use Rattle.sync_model.proofs.Lists.{listed}
use Rattle.sync_model.proofs.Restricting.{restrict_small}
use Rattle.sync_model.proofs.Progress.Catching.{first_of_each, Goes, Here, at_node, messages, takes, serves, declined, upload_refused, Facts, facts, named_calls}
use Rattle.sync_model.proofs.Progress.Rounds.{stops_it}
use Rattle.sync_model.proofs.Progress.Serves.{fits_some, IsOfTake, has_served, has_taken}
use Rattle.sync_model.proofs.Progress.Valid.{Valid}

-- what an upload of the exchange is refused by
hinders : (unnamed old : Type 0) (why : ServerRefusal) → MayRefuse why → IsOfMerge why → MayHinder unnamed old why
hinders unnamed old (NumberGap n) m o = absurd m
hinders unnamed old (BaseBack n) m o = absurd m
hinders unnamed old (AheadOfHistory n) m o = absurd m
hinders unnamed old (HistoryFull n) m o = tt
hinders unnamed old (BadBytes offset rule) m o = absurd m
hinders unnamed old (ServerRefusal.Mismatch place kind) m o = m
hinders unnamed old (ServerRefusal.Break place code) m o = absurd m
hinders unnamed old (NoSuchIdent n) m o = absurd m
hinders unnamed old (IdentsFull n) m o = absurd o
hinders unnamed old NotForServer m o = absurd o
hinders unnamed old (NeedsForm2 n) m o = absurd o
hinders unnamed old (IdentRetired n) m o = absurd m
hinders unnamed old (SelfRetire c) m o = absurd m
hinders unnamed old (RetiredBy c) m o = absurd m
hinders unnamed old (Trimmed n) m o = absurd m

pub yes : {A : Type 0} (b : Bool) (x y : A) → b ≡ true → (if b then x else y) ≡ x
yes true x y e = refl
yes false x y e = cc

pub no : {A : Type 0} (b : Bool) (x y : A) → b ≡ false → (if b then x else y) ≡ y
no true x y e = cc
no false x y e = refl

not_below : (a b : ℕ) → b ≤ a → nat_lt a b ≡ false
not_below a b le = on (nat_lt a b) refl
  where
    on : (t : Bool) → nat_lt a b ≡ t → t ≡ false
    on true e = absurd (grind (arith, nat_tests))
    on false e = refl

no_answer : {A : Type 0} (a : A) (why : ClientRefusal) → Ok a ≡ Err why → ⊥
no_answer a why e = cc

none_comes : (q : Words → Type 0) → Comes q [] → ⊥
none_comes q c = elim c [ ]

drop_length : {A : Type 0} (n : ℕ) (xs : List A) → length xs ≤ n + length (drop n xs)
drop_length zero xs = omega arith
drop_length (suc n) [] = omega arith
drop_length (suc n) (x ∷ xs) = let e = drop_length n xs in omega arith

listed_length : {X : Type 0} (f : ℕ → X) (n k : ℕ) → length (listed f n k) ≡ n
listed_length f zero k = refl
listed_length f (suc n) k = ap suc (listed_length f n (suc k))

module _ {I S : Type 0} (p : Profile I S) where
  -- ---- what the server answers, read off the call alone

  there_is : (s : Server I) (c k settled : ℕ) (go : List (Changeset I) → ServerStep) → is_given s c ≡ true → k ≤ length s.log → if_there p s c k settled go ≡ marking c (s.marks c) k settled (go (entries_from p s.log (length s.log - k) k)).answer
  there_is s c k settled go given le =
      ap (λ b. if not b then refuses c 0 (NoSuchIdent (length s.ids)) else (if nat_lt (length s.log) k then refuses c 0 (AheadOfHistory (length s.log)) else marking c (s.marks c) k settled (go (entries_from p s.log (length s.log - k) k)).answer)) given
      ∙ no (nat_lt (length s.log) k) (refuses c 0 (AheadOfHistory (length s.log))) (marking c (s.marks c) k settled (go (entries_from p s.log (length s.log - k) k)).answer) (not_below (length s.log) k le)

  -- the first of a list is small where there is one
  abbrev pub SmallFirst : List (Changeset I) → Type 0
  SmallFirst xs = (x : Changeset I) (more : List (Changeset I)) → xs ≡ x ∷ more → is_small p x.instrs ≡ true

  -- the entries of a Download for what a client lacks
  pub record Told (second : Bool) (es : List Sent) (xs : List (Changeset I)) : Type 0 where
    pub bears : IsRoomy p → 1 ≤ length xs → 1 ≤ length es
    pub loads : second ≡ true → es ≡ load p (map (sent_of p) xs)

  fits_one : (x : Changeset I) (xs : List (Changeset I)) → is_small p x.instrs ≡ true → IsRoomy p → 1 ≤ length (load p (map (sent_of p) (x ∷ xs)))
  fits_one x xs small roomy =
      let f = fits_some (λ (e : Sent). length e.body) p.most p.room (sent_of p x) (map (sent_of p) xs) roomy.some (roomy.fits x.instrs small) in
      let l = ap length f.1 in
      omega arith

  told_second : (xs : List (Changeset I)) → SmallFirst xs → Told true (load p (map (sent_of p) xs)) xs
  told_second [] small = record { bears = λ roomy le. absurd (omega arith); loads = λ e. refl }
  told_second (x ∷ xs) small = record { bears = λ roomy le. fits_one x xs (small x xs refl) roomy; loads = λ e. refl }

  told_first : (c k : ℕ) (xs : List (Changeset I)) → SmallFirst xs → ((es : List Sent) × ((download_first p c k xs).answer ≡ Download c k es) × Told false es xs) ⊎ ((download_first p c k xs).answer ≡ (refuses c 0 (NeedsForm2 k)).answer)
  told_first c k [] small = inl (load p (map (sent_of p) []), refl, record { bears = λ roomy le. absurd (omega arith); loads = λ e. cc })
  told_first c k (x ∷ xs) small = on (needs p x.instrs) refl
    where
      on : (b : Bool) → needs p x.instrs ≡ b → ((es : List Sent) × ((if b then refuses c 0 (NeedsForm2 k) else download p c k (first_form p (x ∷ xs))).answer ≡ Download c k es) × Told false es (x ∷ xs)) ⊎ ((if b then refuses c 0 (NeedsForm2 k) else download p c k (first_form p (x ∷ xs))).answer ≡ (refuses c 0 (NeedsForm2 k)).answer)
      on true b_is = inr refl
      on false b_is = inl (
        load p (map (sent_of p) (first_form p (x ∷ xs))),
        refl,
        record {
          bears = λ roomy le.
              let first : first_form p (x ∷ xs) ≡ x ∷ first_form p xs = no (needs p x.instrs) [] (x ∷ first_form p xs) b_is in
              subst (λ l. 1 ≤ length (load p (map (sent_of p) l))) (sym first) (fits_one x (first_form p xs) (small x xs refl) roomy);
          loads = λ e. cc;
        },
      )

  abbrev pub Answered : Client I S → List (Changeset I) → ServerStep → Type 0
  Answered st xs did = ((es : List Sent) × (did.answer ≡ Download st.ident st.cursor es) × Told st.second es (map (restricted p st.subset) xs)) ⊎ ((st.second ≡ false) × (did.answer ≡ (refuses st.ident 0 (NeedsForm2 st.cursor)).answer))

  module _ (s : Server I) (st : Client I S) (given : is_given s st.ident ≡ true) (within : st.cursor ≤ length s.log) (small : SmallFirst (entries_from p s.log (length s.log - st.cursor) st.cursor)) where
    abbrev entries : List (Changeset I)
    entries = entries_from p s.log (length s.log - st.cursor) st.cursor

    part_small : (o : Option Tables) (xs : List (Changeset I)) → SmallFirst xs → SmallFirst (map (restricted p o) xs)
    part_small o [] h x more e = cc
    part_small o (y ∷ ys) h x more e =
        let same : restricted p o y ≡ x = cc in
        subst (λ z. is_small p z.instrs ≡ true) same (restrict_small p o y.instrs (h y ys refl))

    all_tables : (xs : List (Changeset I)) → map (restricted p None) xs ≡ xs
    all_tables [] = refl
    all_tables (x ∷ xs) = ap (λ l. x ∷ l) (all_tables xs)

    by_second : (xs : List (Changeset I)) (go : List (Changeset I) → ServerStep) → SmallFirst xs → map (restricted p st.subset) (entries_from p s.log (length s.log - st.cursor) st.cursor) ≡ xs → st.second ≡ true
        → (go (entries_from p s.log (length s.log - st.cursor) st.cursor)).answer ≡ Download st.ident st.cursor (load p (map (sent_of p) xs))
        → Answered st (entries_from p s.log (length s.log - st.cursor) st.cursor) (if_there p s st.ident st.cursor (settled_from st.cursor st.unsent) go)
    by_second xs go small_ xs_is second is =
        inl (
          load p (map (sent_of p) xs),
          ap (λ d. d.answer) (there_is s st.ident st.cursor (settled_from st.cursor st.unsent) go given within) ∙ is,
          subst (λ b. Told b (load p (map (sent_of p) xs)) (map (restricted p st.subset) (entries_from p s.log (length s.log - st.cursor) st.cursor))) (sym second)
              (subst (Told true (load p (map (sent_of p) xs))) (sym xs_is) (told_second xs small_)),
        )

    by_first : (xs : List (Changeset I)) (go : List (Changeset I) → ServerStep) → SmallFirst xs → map (restricted p st.subset) (entries_from p s.log (length s.log - st.cursor) st.cursor) ≡ xs → st.second ≡ false
        → (go (entries_from p s.log (length s.log - st.cursor) st.cursor)).answer ≡ (download_first p st.ident st.cursor xs).answer
        → Answered st (entries_from p s.log (length s.log - st.cursor) st.cursor) (if_there p s st.ident st.cursor (settled_from st.cursor st.unsent) go)
    by_first xs go small_ xs_is second is =
        let all = ap (λ d. d.answer) (there_is s st.ident st.cursor (settled_from st.cursor st.unsent) go given within) ∙ is in
        ⊎_elim
        (λ a. inl (
          a.0,
          all ∙ a.1,
          subst (λ b. Told b a.0 (map (restricted p st.subset) (entries_from p s.log (length s.log - st.cursor) st.cursor))) (sym second) (subst (Told false a.0) (sym xs_is) a.2),
        ))
        (λ b. inr (second, all ∙ b))
        (told_first st.ident st.cursor xs small_)

    by_form : (b : Bool) → st.second ≡ b → st.subset ≡ None → Answered st (entries_from p s.log (length s.log - st.cursor) st.cursor) (serve p s (if b then Ask2 st.ident st.cursor (settled_from st.cursor st.unsent) else Ask st.ident st.cursor (settled_from st.cursor st.unsent)))
    by_form true b_is none = by_second (entries_from p s.log (length s.log - st.cursor) st.cursor) (download p st.ident st.cursor) small (ap (λ o. map (restricted p o) (entries_from p s.log (length s.log - st.cursor) st.cursor)) none ∙ all_tables (entries_from p s.log (length s.log - st.cursor) st.cursor)) b_is refl
    by_form false b_is none = by_first (entries_from p s.log (length s.log - st.cursor) st.cursor) (download_first p st.ident st.cursor) small (ap (λ o. map (restricted p o) (entries_from p s.log (length s.log - st.cursor) st.cursor)) none ∙ all_tables (entries_from p s.log (length s.log - st.cursor) st.cursor)) b_is refl

    by_tables : (t : Tables) (b : Bool) → st.second ≡ b → st.subset ≡ Some t → Answered st (entries_from p s.log (length s.log - st.cursor) st.cursor) (if_there p s st.ident st.cursor (settled_from st.cursor st.unsent) (download_tables p b t st.ident st.cursor))
    by_tables t true b_is is = by_second (map (restricted p (Some t)) (entries_from p s.log (length s.log - st.cursor) st.cursor)) (download_tables p true t st.ident st.cursor) (part_small (Some t) (entries_from p s.log (length s.log - st.cursor) st.cursor) small) (ap (λ o. map (restricted p o) (entries_from p s.log (length s.log - st.cursor) st.cursor)) is) b_is refl
    by_tables t false b_is is = by_first (map (restricted p (Some t)) (entries_from p s.log (length s.log - st.cursor) st.cursor)) (download_tables p false t st.ident st.cursor) (part_small (Some t) (entries_from p s.log (length s.log - st.cursor) st.cursor) small) (ap (λ o. map (restricted p o) (entries_from p s.log (length s.log - st.cursor) st.cursor)) is) b_is refl

    pub answered : (o : Option Tables) → st.subset ≡ o → Answered st (entries_from p s.log (length s.log - st.cursor) st.cursor) (serve p s (question st o))
    answered None is = by_form st.second refl is
    answered (Some t) is = by_tables t st.second refl is

  -- a client takes those of a Download that it hasn't
  took : (st : Client I S) (from : ℕ) (es : List Sent) (id : Uuid) → st.id ≡ Some id → from ≤ st.cursor → take_message p st (Download st.ident from es) ≡ take_entries p st (drop (st.cursor - from) es)
  took st from es id born le =
      ap (λ o. if_born o (take_born p st (Download st.ident from es))) born
      ∙ yes (st.ident == st.ident) _ (refuse NotMine) (test_true st.ident st.ident refl)
      ∙ no (nat_lt st.cursor from) (refuse (Gap st.cursor from)) (take_entries p st (drop (st.cursor - from) es)) (not_below st.cursor from le)

  twice : (o : Option Tables) (xs : List (Changeset I)) → map (sent_of p) (map (restricted p o) xs) ≡ map (λ x. sent_of p (restricted p o x)) xs
  twice o [] = refl
  twice o (x ∷ xs) = ap (λ l. sent_of p (restricted p o x) ∷ l) (twice o xs)

  -- ---- in worlds

  module _ {Fits Bounded Old : S → Type 0} (law : Lawful p Fits) (built : Buildable p Fits Bounded Old) where
    -- the entries from a version on
    pub record Entries (v : World) (k : ℕ) : Type 0 where
      pub many : length (entries_from p (log p v) (length (log p v) - k) k) ≡ length (log p v) - k
      pub small : SmallFirst (entries_from p (log p v) (length (log p v) - k) k)
      pub all_many : length (entries_from p (log p v) (length (log p v)) 0) ≡ length (log p v)
      pub rest : entries_from p (log p v) (length (log p v) - k) k ≡ drop k (entries_from p (log p v) (length (log p v)) 0)

    pub entries_at : (v : World) → Valid p v → (k : ℕ) → k ≤ length (log p v) → Entries v k
    entries_at v r k le =
        record {
          many = ap length (all (length (log p v) - k) k (omega arith)) ∙ listed_length i.n.entries (length (log p v) - k) k;
          all_many = ap length (all (length (log p v)) 0 (omega arith)) ∙ listed_length i.n.entries (length (log p v)) 0;
          rest =
              let z : 0 + k ≡ k = omega arith in
              all (length (log p v) - k) k (omega arith) ∙ ap (listed i.n.entries (length (log p v) - k)) (sym z) ∙ sym (listed_drop i.n.entries k (length (log p v)) 0 le) ∙ ap (drop k) (sym (all (length (log p v)) 0 (omega arith)));
          small = λ x more e. first_of_each (subst (SmallSets p) e (entries_small p law (log p v) (subst (SmallLog p) i.sim.log_is i.sim.small) (length (log p v) - k) k));
        }
      where
        i : Holds p v
        i = r.holds

        all : (n k : ℕ) → k + n ≤ length (log p v) → entries_from p (log p v) n k ≡ listed i.n.entries n k
        all n k le =
            let good = good_of p law (server_of p v.server) v.clients v.injected i.n i.sim in
            let len = ap length i.sim.log_is in
            entries_listed p (log p v) i.n.entries n k (λ j a b. ap (λ l. history_of p l j) (sym i.sim.log_is) ∙ good.log.whole j (omega arith))

    module _ (U O : Type 0) (v : World) (r : Valid p v) (name : Name) (i : ℕ) (nd : Node) (h : at v.clients i ≡ Some nd) (is : nd.name ≡ name) where
      abbrev pub Q : Words → Type 0
      Q = IsException (Unit {0}) U O

      found : seek (has_name name) v.clients ≡ Some (i, nd)
      found = subst (λ x. seek (has_name x) v.clients ≡ Some (i, nd)) is (r.apart i nd h).0

      pub off : bytes_eq name server_name ≡ false
      off = subst (λ x. bytes_eq x server_name ≡ false) is (r.apart i nd h).1

      abbrev st : Client I S
      st = client_of p nd.records

      abbrev Now : World → Server I → Client I S → ℕ → Type 0
      Now v2 s c n = Here p law built (IsException (Unit {0}) U O) (Unit {0}) (λ a. a) v name i nd off (λ z. tt) (λ z. tt) v2 s c n

      start : Now v (server_of p v.server) (client_of p nd.records) (length v.messages)
      start = record { reached = r; node = nd; found = found; name_is = refl; stops = λ x e. e; others = λ j ne. refl; names = refl; client = refl; server = refl; messages = refl }

      one : (t : World → Type 0) (e : Event I) → Goes p (IsException (Unit {0}) U O) v (e ∷ []) t → Q (happens p v e).words ⊎ t (happens p v e).world
      one t e (inl (comes_now x)) = inl x
      one t e (inl (comes_later c)) = absurd (none_comes (IsException (Unit {0}) U O) c)
      one t e (inr g) = inr g

      pub known : st.ident ≢ 0 → Facts p law built (IsException (Unit {0}) U O) (Unit {0}) (λ a. a) v name i nd off (λ z. tt) (λ z. tt) (server_of p v.server) (client_of p nd.records)
      known ne = facts p law built (IsException (Unit {0}) U O) (Unit {0}) (λ a. a) v name i nd off (λ z. tt) (λ z. tt) start ne

      -- it sends a message
      pub sent : (e : Event I) (call : Client I S → ClientStep Message) → happens p v e ≡ client_calls p v name call message_words → (m : Message) → call (client_of p nd.records) ≡ answers m
          → Q (happens p v e).words ⊎ (message_at (happens p v e).world (suc (length v.messages)) ≡ Some m)
      sent e call event m m_is =
          one (λ v2. message_at v2 (suc (length v.messages)) ≡ Some m) e (messages p law built (IsException (Unit {0}) U O) (Unit {0}) (λ a. a) v name i nd off (λ z. tt) (λ z. tt) start e call event m m_is [] (λ v2. message_at v2 (suc (length v.messages)) ≡ Some m) (λ v2 h2 there. inr there))

      pub uploads : st.ident ≢ 0 → Q (happens p v (Uploads name)).words ⊎ (message_at (happens p v (Uploads name)).world (suc (length v.messages)) ≡ Some (Upload (client_of p nd.records).ident (to_upload p (client_of p nd.records))))
      uploads ne =
          let f = known ne in
          sent (Uploads name) (upload p) refl (Upload (client_of p nd.records).ident (to_upload p (client_of p nd.records)))
          (named_calls p law built (IsException (Unit {0}) U O) (Unit {0}) (λ a. a) v name i nd off (λ z. tt) (λ z. tt) (client_of p nd.records) (answers (Upload (client_of p nd.records).ident (to_upload p (client_of p nd.records)))) f.id f.born ne)

      pub asks : st.ident ≢ 0 → Q (happens p v (Asks name)).words ⊎ (message_at (happens p v (Asks name)).world (suc (length v.messages)) ≡ Some (question (client_of p nd.records) (client_of p nd.records).subset))
      asks ne =
          let f = known ne in
          sent (Asks name) ask refl (question (client_of p nd.records) (client_of p nd.records).subset)
          (named_calls p law built (IsException (Unit {0}) U O) (Unit {0}) (λ a. a) v name i nd off (λ z. tt) (λ z. tt) (client_of p nd.records) (answers (question (client_of p nd.records) (client_of p nd.records).subset)) f.id f.born ne)

      -- the server gets one
      replied : (k : ℕ) (m : Message) → message_at v k ≡ Some m → (t : World → Type 0)
          → ((v2 : World) → server_of p v2.server ≡ after_all p (server_of p v.server) (serve p (server_of p v.server) m).records → message_at v2 (suc (length v.messages)) ≡ Some (serve p (server_of p v.server) m).answer → ((spot : ℕ) → Q (Replied spot (serve p (server_of p v.server) m).answer)) ⊎ t v2)
          → Q (happens p v (Delivers k server_name)).words ⊎ t (happens p v (Delivers k server_name)).world
      replied k m there t then_ =
          one t (Delivers k server_name) (serves p law built (IsException (Unit {0}) U O) (Unit {0}) (λ a. a) v name i nd off (λ z. tt) (λ z. tt) start k m there (serve p (server_of p v.server) m) refl [] t
          (λ v2 h2 there2. ⊎_elim (λ b. inl b) (λ g. inr (inr g)) (then_ v2 h2.server there2)))

      -- it stores what was uploaded
      pub stores : (c : ℕ) → c ≢ 0 → (client_of p nd.records).ident ≡ c → (k : ℕ) (hs : List Change) → message_at v (suc k) ≡ Some (Upload c hs)
          → Q (happens p v (Delivers (suc k) server_name)).words ⊎ Each (λ x. x.number ≤ count (server_of p (happens p v (Delivers (suc k) server_name)).world.server) c) hs
      stores c ne c_is k hs there =
          replied (suc k) (Upload c hs) there (λ v2. Each (λ x. x.number ≤ count (server_of p v2.server) c) hs) (λ v2 server_is there2. ⊎_elim
          (λ a. inr (subst (λ (s : Server I). Each (λ x. x.number ≤ count s c) hs) (sym (server_is ∙ ap (λ (d : ServerStep). after_all p (server_of p v.server) d.records) served)) a.1))
          (λ b.
          let t = subst IsUploadFair b.2 (upload_refused p law built (IsException (Unit {0}) U O) (Unit {0}) (λ a. a) v name i nd off (λ z. tt) (λ z. tt) start k c hs there) in
          inl (λ spot. subst (λ z. Q (Replied spot z)) (sym (ap (λ (d : ServerStep). d.answer) served ∙ b.2)) (t.0, t.1, t.2, hinders U O t.0 t.3.0 t.3.1)))
          (has_served p hs (server_of p v.server) c).answer)
        where
          served : serve p (server_of p v.server) (Upload c hs) ≡ serve_changes p (server_of p v.server) c hs
          served =
              let f = known (λ z. ne (sym c_is ∙ z)) in
              yes (is_given (server_of p v.server) c) (serve_changes p (server_of p v.server) c hs) (refuses c 0 (NoSuchIdent (length (server_of p v.server).ids))) (subst (λ x. is_given (server_of p v.server) x ≡ true) c_is f.given)

      -- it answers a question that the client asked, now or before
      pub answers_it : (c : Client I S) → c.ident ≢ 0 → (client_of p nd.records).ident ≡ c.ident → c.cursor ≤ (client_of p nd.records).cursor → (c.second ≡ false → O) → (k : ℕ) → message_at v k ≡ Some (question c c.subset)
          → Q (happens p v (Delivers k server_name)).words
          ⊎ ((es : List Sent) × (message_at (happens p v (Delivers k server_name)).world (suc (length v.messages)) ≡ Some (Download c.ident c.cursor es)) × Told c.second es (map (restricted p c.subset) (entries_from p (log p v) (length (log p v) - c.cursor) c.cursor)))
      answers_it c ne ident_is le old k there =
          let f = known (λ z. ne (sym ident_is ∙ z)) in
          let within = f.within in
          replied k (question c c.subset) there (λ v2. (es : List Sent) × (message_at v2 (suc (length v.messages)) ≡ Some (Download c.ident c.cursor es)) × Told c.second es (map (restricted p c.subset) (entries_from p (log p v) (length (log p v) - c.cursor) c.cursor))) (λ v2 server_is there2. ⊎_elim
          (λ a. inr (a.0, there2 ∙ ap (λ m. Some m) a.1, a.2))
          (λ b. inl (λ spot. subst (λ z. Q (Replied spot z)) (sym b.1) (NeedsForm2 c.cursor, refl, refl, old b.0)))
          (answered (server_of p v.server) c (subst (λ x. is_given (server_of p v.server) x ≡ true) ident_is f.given) (omega arith) (entries_at v r c.cursor (omega arith)).small c.subset refl))

      -- the client takes what it hasn't of a Download
      pub takes_it : (client_of p nd.records).ident ≢ 0 → (from : ℕ) → from ≤ (client_of p nd.records).cursor → (es : List Sent) (k : ℕ) → message_at v (suc k) ≡ Some (Download (client_of p nd.records).ident from es)
          → Q (happens p v (Delivers (suc k) name)).words ⊎ ((end : Node) × (at (happens p v (Delivers (suc k) name)).world.clients i ≡ Some end) × (from + length es ≤ (client_of p end.records).cursor))
      takes_it ne from le es k there =
          let f = known ne in
          let is_ = took (client_of p nd.records) from es f.id f.born le in
          let x = has_taken p (drop ((client_of p nd.records).cursor - from) es) (client_of p nd.records) in
          let long = drop_length ((client_of p nd.records).cursor - from) es in
          one (λ v2. (end : Node) × (at v2.clients i ≡ Some end) × (from + length es ≤ (client_of p end.records).cursor)) (Delivers (suc k) name)
          (takes p law built (IsException (Unit {0}) U O) (Unit {0}) (λ a. a) v name i nd off (λ z. tt) (λ z. tt) start (suc k) (Download (client_of p nd.records).ident from es) there (take_entries p (client_of p nd.records) (drop ((client_of p nd.records).cursor - from) es)) is_ [] (λ v2. (end : Node) × (at v2.clients i ≡ Some end) × (from + length es ≤ (client_of p end.records).cursor))
          (λ why e. ⊎_elim
          (λ a. absurd (no_answer _ why (sym a.0 ∙ e)))
          (λ a.
          let same : a.0 ≡ why = errs a.0 why (sym a.1 ∙ e) in
          stops_it why (declined p law built (IsException (Unit {0}) U O) (Unit {0}) (λ a. a) v name i nd off (λ z. tt) (λ z. tt) start k (Download (client_of p nd.records).ident from es) there why (ap (λ d. d.answer) is_ ∙ e)) (subst IsOfTake same a.2))
          x.ends)
          (λ j v2 e h2. ⊎_elim
          (λ a.
          let cursor = a.1 in
          let now = ap (λ (c : Client I S). c.cursor) h2.client in
          inr (h2.node, at_node p law built (IsException (Unit {0}) U O) (Unit {0}) (λ a. a) v name i nd off (λ z. tt) (λ z. tt) h2, omega arith))
          (λ a. absurd (no_answer j a.0 (sym e ∙ a.1)))
          x.ends))
        where
          errs : (a b : ClientRefusal) → ◌≡◌ {A = Result ℕ ClientRefusal} (Err a) (Err b) → a ≡ b
          errs a b e = cc

      -- ---- it asks for its ident

      pub binds : (id : Uuid) → (client_of p nd.records).id ≡ Some id → Q (happens p v (Binds name)).words ⊎ (message_at (happens p v (Binds name)).world (suc (length v.messages)) ≡ Some (Bind id))
      binds id born = sent (Binds name) bind refl (Bind id) (ap (λ o. if_born o (λ x. answers (Bind x))) born)

      -- the server gives it, or it has no more
      abbrev Gives : Uuid → ServerStep → Type 0
      Gives id did = ((c : ℕ) × (c ≢ 0) × (did.answer ≡ Ident id c)) ⊎ (U × (did.answer ≡ (refuses 0 0 (IdentsFull (length (server_of p v.server).ids))).answer))

      pub gives : (id : Uuid) → (place_of id (server_of p v.server).ids ≡ 0 → U) → (k : ℕ) → message_at v k ≡ Some (Bind id)
          → Q (happens p v (Delivers k server_name)).words ⊎ ((c : ℕ) × (c ≢ 0) × (message_at (happens p v (Delivers k server_name)).world (suc (length v.messages)) ≡ Some (Ident id c)))
      gives id new k there =
          replied k (Bind id) there (λ v2. (c : ℕ) × (c ≢ 0) × (message_at v2 (suc (length v.messages)) ≡ Some (Ident id c))) (λ v2 server_is there2. ⊎_elim
          (λ a. inr (a.0, a.1, there2 ∙ ap (λ m. Some m) a.2))
          (λ b. inl (λ spot. subst (λ z. Q (Replied spot z)) (sym b.1) (IdentsFull (length (server_of p v.server).ids), refl, refl, b.0)))
          (by_place (place_of id (server_of p v.server).ids == 0) refl (length (server_of p v.server).ids == p.full)))
        where
          clash : {b : Bool} → b ≡ false → b ≡ true → ⊥
          clash e f = cc

          by_place : (a : Bool) → (place_of id (server_of p v.server).ids == 0) ≡ a → (b : Bool) → Gives id (if not a then replies (Ident id (place_of id (server_of p v.server).ids)) else (if b then refuses 0 0 (IdentsFull (length (server_of p v.server).ids)) else record { records = Rattle.sync_model.specs.Servers.Client id ∷ []; answer = Ident id (suc (length (server_of p v.server).ids)) }))
          by_place false a_is b = inl (place_of id (server_of p v.server).ids, (λ z. clash a_is (test_true (place_of id (server_of p v.server).ids) 0 z)), refl)
          by_place true a_is true = inr (new (eqb-true (place_of id (server_of p v.server).ids) 0 a_is), refl)
          by_place true a_is false = inl (suc (length (server_of p v.server).ids), (λ z. absurd (omega arith)), refl)

      -- the client keeps the first that it gets
      pub is_named : (id : Uuid) → (client_of p nd.records).id ≡ Some id → (c : ℕ) → c ≢ 0 → (k : ℕ) → message_at v (suc k) ≡ Some (Ident id c)
          → Q (happens p v (Delivers (suc k) name)).words ⊎ ((end : Node) × (at (happens p v (Delivers (suc k) name)).world.clients i ≡ Some end) × ((client_of p end.records).ident ≢ 0))
      is_named id born c ne k there =
          one (λ v2. (end : Node) × (at v2.clients i ≡ Some end) × ((client_of p end.records).ident ≢ 0)) (Delivers (suc k) name)
          (takes p law built (IsException (Unit {0}) U O) (Unit {0}) (λ a. a) v name i nd off (λ z. tt) (λ z. tt) start (suc k) (Ident id c) there (take_ident (client_of p nd.records) c) to [] (λ v2. (end : Node) × (at v2.clients i ≡ Some end) × ((client_of p end.records).ident ≢ 0))
          (λ why e. absurd (never ((client_of p nd.records).ident == 0) ((client_of p nd.records).ident == c) why e (declined p law built (IsException (Unit {0}) U O) (Unit {0}) (λ a. a) v name i nd off (λ z. tt) (λ z. tt) start k (Ident id c) there why (ap (λ d. d.answer) to ∙ e))))
          (λ j v2 e h2. inr (h2.node, at_node p law built (IsException (Unit {0}) U O) (Unit {0}) (λ a. a) v name i nd off (λ z. tt) (λ z. tt) h2, λ z. kept ((client_of p nd.records).ident == 0) refl ((client_of p nd.records).ident == c) (sym (ap (λ (x : Client I S). x.ident) h2.client) ∙ z))))
        where
          to : take_message p (client_of p nd.records) (Ident id c) ≡ take_ident (client_of p nd.records) c
          to = ap (λ o. if_born o (take_born p (client_of p nd.records) (Ident id c))) born ∙ yes (bytes_eq id id) (take_ident (client_of p nd.records) c) (refuse NotMine) (bytes_true id id refl)

          errs : (a b : ClientRefusal) → ◌≡◌ {A = Result ℕ ClientRefusal} (Err a) (Err b) → a ≡ b
          errs a b e = cc

          never : (a b : Bool) (why : ClientRefusal) → (if a then appends (Named c) (client_of p nd.records).cursor else (if b then answers (client_of p nd.records).cursor else refuse (IdentDiffers (client_of p nd.records).ident c))).answer ≡ Err why → MayDecline why → ⊥
          never true b why e m = no_answer (client_of p nd.records).cursor why e
          never false true why e m = no_answer (client_of p nd.records).cursor why e
          never false false why e m = subst (λ x. MayDecline x → ⊥) (errs (IdentDiffers (client_of p nd.records).ident c) why e) (λ x. x) m

          kept : (a : Bool) → ((client_of p nd.records).ident == 0) ≡ a → (b : Bool) → (after_records p (client_of p nd.records) (if a then appends (Named c) (client_of p nd.records).cursor else (if b then answers (client_of p nd.records).cursor else refuse (IdentDiffers (client_of p nd.records).ident c))).records).ident ≡ 0 → ⊥
          kept true a_is b z = ne z
          kept false a_is true z = clash a_is (test_true (client_of p nd.records).ident 0 z)
            where
              clash : {t : Bool} → t ≡ false → t ≡ true → ⊥
              clash e f = cc
          kept false a_is false z = clash a_is (test_true (client_of p nd.records).ident 0 z)
            where
              clash : {t : Bool} → t ≡ false → t ≡ true → ⊥
              clash e f = cc
