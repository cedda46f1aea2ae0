-- The server takes each change of an upload, and a client each entry, where all that clients make is harmless.
use Rattle.std.proofs.Common.{eqb-true, ◌≡◌, ◌≢◌, ℕ, suc, ◌+◌, ◌<◌, ◌≤◌, Bool, true, false, ◌&&◌, not, List, [], ◌∷◌, ◌++◌, Option, Some, None, Result, Ok, Err, IfOk, IfErr, refl, sym, ap, ◌∙◌, subst, arith, if◌then◌else◌, ◌==◌, length, length-append, map, nat_lt}
use Rattle.std.proofs.lemmas.Bool.Decides.{nat_tests}
use Rattle.sync_theory.specs.Changesets.{Changeset}
use Rattle.sync_theory.specs.Grid.{rebase, tail}
use Rattle.sync_theory.specs.Logs.{Made as LogMade, Entry as LogEntry, of_origin, Nodes}
use Rattle.sync_theory.proofs.Logs.{length_snoc}
use Rattle.sync_model.specs.Bytes.{Uuid}
use Rattle.sync_model.specs.Profile.{Profile, Stuck, Lawful, IsNamedKind, apply_all, cross_changesets, is_small, needs}
use Rattle.sync_model.specs.Messages.{Change, Sent}
use Rattle.sync_model.specs.Clients.{Client, ClientRefusal, OldEntry, Forked, Unsent, changeset_of, carried_to, ok_list, after_record, takes_entry, crossed, applied_refusal, own_refusal, crossed_refusal, read_refusal, entry_refusal, sent_changeset, take_one, took, take_entries}
use Rattle.sync_model.specs.Servers.{Server, ServerRecord, ServerRefusal, NumberGap, BaseBack, AheadOfHistory, HistoryFull, BadBytes, NoSuchIdent, IdentsFull, NotForServer, NeedsForm2, IdentRetired, SelfRetire, RetiredBy, Trimmed, heir_of, is_retired, last_base, made_in, server_objects, count, new_records, merge_applied, merge_carried, carried_change, merge_read, merge}
use Rattle.sync_model.specs.Worlds.{Node, at}
use Rattle.sync_model.specs.Log.{MayRefuse}
use Rattle.sync_model.specs.Progress.{MayStop}
use Rattle.sync_model.specs.Each.{Each, no_more, and_each}
use Rattle.sync_model.specs.Harmless.{AreHarmless}
use Rattle.sync_model.proofs.Limits.{each_at, each_tail, each_weaker}
use Rattle.sync_model.proofs.Moves.{origin_here}
use Rattle.sync_model.proofs.Sim.{Sim}
use Rattle.sync_model.proofs.Serving.{made_small}
use Rattle.sync_model.proofs.Fair.{IsOfMerge, Refuses, Lasts, own_fair, of_merge}
use Rattle.sync_model.proofs.Progress.Harmless.{Sets, Crossed, LogOf, rebase_of, carried_harmless}

module _ {I S : Type 0} (p : Profile I S) where
  -- ---- what a refusal says of the server that made it

  -- a full history is full, and what is stuck was carried
  abbrev Cause : Server I → ℕ → Change → ServerRefusal → Type 0
  Cause s c h (HistoryFull n) = length s.log ≡ p.full
  Cause s c h (ServerRefusal.Mismatch place kind) = (h.base ≤ length s.log) × (is : List I) × (p.unspell h.body ≡ Ok is) × (f : Stuck) × (carried_change p s c h is ≡ Err f) × (f.2 ≡ kind)
  Cause s c h why = Unit {0}

  abbrev OfErr : {A : Type 0} → Server I → ℕ → Change → Result A ServerRefusal → Type 0
  OfErr s c h (Ok x) = Unit {0}
  OfErr s c h (Err why) = Cause s c h why

  cause : (s : Server I) (c : ℕ) (h : Change) (why : ServerRefusal) → merge p s c h ≡ Err why → Cause s c h why
  cause s c h why e = subst (OfErr s c h) e (tests (is_retired (heir_of c s.retired)) (nat_lt (suc (count s c)) h.number) (nat_lt h.base (last_base (of_origin c s.log))) (nat_lt (length s.log) h.base) refl (length s.log == p.full) refl (p.unspell h.body) refl)
    where
      applied_ : (new : List ServerRecord) (r : Result S (ℕ × ℕ)) → OfErr s c h (merge_applied new r)
      applied_ new (Ok t) = tt
      applied_ new (Err b) = tt

      carried_ : h.base ≤ length s.log → (is : List I) → p.unspell h.body ≡ Ok is → (new : List ServerRecord) (r : Result (Changeset I × List (Changeset I)) Stuck) → carried_change p s c h is ≡ r → OfErr s c h (merge_carried p s new r)
      carried_ le is body new (Ok q) r_is = applied_ new (apply_all p q.0.instrs (server_objects p s))
      carried_ le is body new (Err m) r_is = (le, is, body, m, r_is, refl)

      read_ : h.base ≤ length s.log → (r : Result (List I) (ℕ × ℕ)) → p.unspell h.body ≡ r → OfErr s c h (merge_read p s c h r)
      read_ le (Ok is) r_is = carried_ le is r_is (new_records p s c h is) (carried_change p s c h is) refl
      read_ le (Err f) r_is = tt

      not_lt : (a b : ℕ) → nat_lt a b ≡ false → b ≤ a
      not_lt a b f = grind (arith, nat_tests)

      tests : (z a b d : Bool) → nat_lt (length s.log) h.base ≡ d → (f : Bool) → (length s.log == p.full) ≡ f → (r : Result (List I) (ℕ × ℕ)) → p.unspell h.body ≡ r → OfErr s c h (if z then Err (IdentRetired (count s c)) else (if a then Err (NumberGap (suc (count s c))) else (if b then Err (BaseBack (last_base (of_origin c s.log))) else (if d then Err (AheadOfHistory (length s.log)) else (if f then Err (HistoryFull (length s.log)) else merge_read p s c h r)))))
      tests true a b d d_is f f_is r r_is = tt
      tests false true b d d_is f f_is r r_is = tt
      tests false false true d d_is f f_is r r_is = tt
      tests false false false true d_is f f_is r r_is = tt
      tests false false false false d_is true f_is r r_is = eqb-true (length s.log) p.full f_is
      tests false false false false d_is false f_is r r_is = read_ (not_lt (length s.log) h.base d_is) r r_is

  module _ (of : ℕ → ℕ → List I → Type 0) (most size : ℕ) (harmless : AreHarmless p of most size) where
    -- ---- the nodes

    -- each change that a client made is harmless
    abbrev pub MadesOf : Nodes (Changeset I) S → Type 0
    MadesOf n = (c : ℕ) → Each (λ m. of c 0 m.change.instrs) (n.mades c)

    first_of : {A : Type 0} {P : A → Type 0} (xs ys : List A) → Each P (xs ++ ys) → Each P xs
    first_of [] ys f = no_more
    first_of (x ∷ xs) ys (and_each f g) = and_each f (first_of xs ys g)

    log_by : (log : List (LogEntry (Changeset I))) → ((c : ℕ) → Each (λ m. of c 0 m.change.instrs) (of_origin c log)) → LogOf p of most size harmless log
    log_by [] f = no_more
    log_by (e ∷ log) f = and_each (head_of (e.origin == e.origin) (Rattle.sync_theory.proofs.Server.test_true e.origin e.origin refl) (f e.origin)) (log_by log (λ c. rest_of (c == e.origin) (f c)))
      where
        head_of : (b : Bool) → b ≡ true → Each (λ m. of e.origin 0 m.change.instrs) ((if b then record { base = e.base; change = e.change } ∷ [] else []) ++ of_origin e.origin log) → of e.origin 0 e.change.instrs
        head_of true b_is (and_each g gs) = g
        head_of false b_is g = cc

        rest_of : {c : ℕ} (b : Bool) → Each (λ m. of c 0 m.change.instrs) ((if b then record { base = e.base; change = e.change } ∷ [] else []) ++ of_origin c log) → Each (λ m. of c 0 m.change.instrs) (of_origin c log)
        rest_of true (and_each g gs) = gs
        rest_of false g = g

    pub log_of : (s : Server I) (cls : List Node) (inj : List Uuid) (n : Nodes (Changeset I) S) → Sim p s cls inj n → MadesOf n → LogOf p of most size harmless n.log
    log_of s cls inj n sim f = log_by n.log (λ c. let a = sim.ahead c in first_of (of_origin c n.log) a.0 (subst (Each (λ m. of c 0 m.change.instrs)) a.1 (f c)))

    module _ {Fits : S → Type 0} (law : Lawful p Fits) (within : most ≤ p.full) where
      -- all changes together, of which ident c made some
      abbrev pub Fewer : ℕ → Nodes (Changeset I) S → Type 0
      Fewer c n = MadesOf n × (length n.log + length (n.mades c) ≤ most + length (of_origin c n.log))

      pub lasts : (cls : List Node) (inj : List Uuid) → Lasts p law cls inj Fewer
      lasts cls inj c n m more x t next f =
          let few = f.1 in
          let own = ap length (origin_here c m n.log) ∙ length_snoc (of_origin c n.log) m in
          let all = length_snoc n.log (record { origin = c; base = m.base; change = m.change }) in
          (f.0, omega arith)

      pub never_refused : (cls : List Node) (inj : List Uuid) → Refuses p law cls inj Fewer (λ why. ⊥)
      never_refused cls inj s n sim c m more h mine next h_is same number few why e =
          no_cause why (own_fair p law cls inj s n sim c m more h mine next h_is same number why e) (of_merge p s c h why e) (cause s c h why e)
        where
          here : at (n.mades c) (length (of_origin c n.log)) ≡ Some m
          here = ap (λ z. at z (length (of_origin c n.log))) next ∙ at_start (of_origin c n.log)
            where
              at_start : (xs : List (LogMade (Changeset I))) → at (xs ++ m ∷ more) (length xs) ≡ Some m
              at_start [] = refl
              at_start (x ∷ xs) = at_start xs

          body : p.unspell h.body ≡ Ok m.change.instrs
          body = ap (λ z. p.unspell z.body) h_is ∙ law.spelled m.change.instrs (made_small p law cls inj s n sim c (length (of_origin c n.log)) m mine here)

          room : length s.log < most
          room =
              let a = few.1 in
              let b = ap length next ∙ length-append (of_origin c n.log) (m ∷ more) in
              let l = ap length sim.log_is in
              omega arith

          good : LogOf p of most size harmless s.log
          good = subst (LogOf p of most size harmless) sim.log_is (log_of s cls inj n sim few.0)

          stuck : (is : List I) → p.unspell h.body ≡ Ok is → h.base ≤ length s.log → (f : Stuck) → carried_change p s c h is ≡ Err f → IsNamedKind f.2 → ⊥
          stuck is read le f f_is =
              let same_list : m.change.instrs ≡ is = cc (body, read) in
              let mine_of : of c 0 is = subst (of c 0) same_list (each_at (n.mades c) (length (of_origin c n.log)) m (few.0 c) here) in
              subst (λ r. IfErr r (λ s. IsNamedKind s.2 → ⊥)) f_is (carried_harmless p of most size harmless s.log good (let r = room in omega arith) c h.base (Rattle.sync_model.specs.Servers.entry_of c h is).change le mine_of)

          no_cause : (why : ServerRefusal) → MayRefuse why → IsOfMerge why → Cause s c h why → ⊥
          no_cause (HistoryFull k) may of_it f = let r = room in omega arith
          no_cause (ServerRefusal.Mismatch place kind) may of_it f = stuck f.1 f.2 f.0 f.3 f.4 (subst IsNamedKind (sym f.5) may)
          no_cause (NumberGap k) may of_it f = may
          no_cause (BaseBack k) may of_it f = may
          no_cause (AheadOfHistory k) may of_it f = may
          no_cause (BadBytes offset rule) may of_it f = may
          no_cause (ServerRefusal.Break place code) may of_it f = may
          no_cause (NoSuchIdent k) may of_it f = may
          no_cause (IdentsFull k) may of_it f = of_it
          no_cause NotForServer may of_it f = of_it
          no_cause (NeedsForm2 k) may of_it f = of_it
          no_cause (IdentRetired k) may of_it f = may
          no_cause (SelfRetire k) may of_it f = may
          no_cause (RetiredBy k) may of_it f = may
          no_cause (Trimmed k) may of_it f = may

      -- ---- a client takes entries

      -- an entry as a client gets it
      pub record SentOf (e : Sent) : Type 0 where
        pub instrs : List I
        pub small : is_small p instrs ≡ true
        pub body : e.body ≡ p.spell instrs
        pub met : ℕ
        pub is_of : of e.origin met instrs

      abbrev UnsentOf : ℕ → ℕ → List (Unsent I) → Type 0
      UnsentOf c n us = Each (λ u. of c n u.current) us

      sets_of : (c n : ℕ) (us : List (Unsent I)) → UnsentOf c n us → Sets p of most size harmless c n (map (changeset_of c) us)
      sets_of c n [] no_more = no_more
      sets_of c n (u ∷ us) (and_each f g) = and_each f (sets_of c n us g)

      carried_sets : (c n : ℕ) (us : List (Unsent I)) (xs : List (Changeset I)) → Sets p of most size harmless c n xs → UnsentOf c n (carried_to us xs)
      carried_sets c n [] xs f = no_more
      carried_sets c n (u ∷ us) [] f = no_more
      carried_sets c n (u ∷ us) (x ∷ xs) (and_each f g) = and_each f (carried_sets c n us xs g)

      -- an entry may come so far
      abbrev NoStop : Option ClientRefusal → Type 0
      NoStop None = Unit {0}
      NoStop (Some why) = MayStop why → ⊥

      entry_of : (st : Client I S) (k : ℕ) → k < most → UnsentOf st.ident k st.unsent → (e : Sent) → SentOf e → NoStop (entry_refusal p st e) × UnsentOf st.ident (suc k) (after_record p st (took e)).unsent
      entry_of st k lt mine e good =
          let back : p.unspell e.body ≡ Ok good.instrs = ap p.unspell good.body ∙ law.spelled good.instrs good.small in
          subst (λ r. NoStop (read_refusal p st e r) × UnsentOf st.ident (suc k) (takes_entry p st (record { origin = e.origin; number = e.number; ms = e.ms; instrs = ok_list r })).unsent) (sym back)
          (tests (needs p good.instrs && not st.second) (e.origin == st.ident) refl)
        where
          x : Changeset I
          x = record { origin = e.origin; number = e.number; ms = e.ms; instrs = good.instrs }

          longer : UnsentOf st.ident (suc k) st.unsent
          longer = each_weaker (λ u f. harmless.more st.ident k u.current f) mine

          own_ : (us : List (Unsent I)) → NoStop (own_refusal p us e)
          own_ [] = λ f. f
          own_ (u ∷ us) = go ((u.original.number == e.number) && ((u.original.ms == e.ms) && Rattle.std.specs.Prelude.bytes_eq (p.spell u.current) e.body))
            where
              go : (b : Bool) → NoStop (if b then None else Some (Forked e.number))
              go true = tt
              go false = λ f. f

          applied_ : (r : Result S (ℕ × ℕ)) → NoStop (applied_refusal st.cursor r)
          applied_ (Ok t) = tt
          applied_ (Err b) = λ f. f

          crosses : (r : Result (List (Changeset I) × Changeset I) (ℕ × Stuck)) → IfOk r (Crossed p of most size harmless st.ident e.origin (suc k)) × IfErr r (λ f. IsNamedKind f.1.2 → ⊥) → NoStop (crossed_refusal p st r) × UnsentOf st.ident (suc k) (crossed p st r).unsent
          crosses (Ok q) f = (applied_ (apply_all p q.1.instrs st.objects), carried_sets st.ident (suc k) st.unsent q.0 f.0.0)
          crosses (Err s) f = (f.1, longer)

          other : (a b : ℕ) → (a == b) ≡ false → b ≢ a
          other a b f same = go (Rattle.sync_theory.proofs.Server.test_true a b (sym same)) f
            where
              go : {t : Bool} → t ≡ true → t ≡ false → ⊥
              go t f = cc

          tests : (a b : Bool) → (e.origin == st.ident) ≡ b
              → NoStop (if a then Some (OldEntry st.cursor) else (if b then own_refusal p st.unsent e else crossed_refusal p st (rebase (cross_changesets p) (map (changeset_of st.ident) st.unsent) (sent_changeset e good.instrs))))
              × UnsentOf st.ident (suc k) (if b then record st { cursor = suc st.cursor; unsent = tail st.unsent } else crossed p st (rebase (cross_changesets p) (map (changeset_of st.ident) st.unsent) x)).unsent
          tests a true b_is = (either a, each_tail longer)
            where
              either : (a : Bool) → NoStop (if a then Some (OldEntry st.cursor) else own_refusal p st.unsent e)
              either true = λ f. f
              either false = own_ st.unsent
          tests a false b_is =
              let r = crosses (rebase (cross_changesets p) (map (changeset_of st.ident) st.unsent) x) (rebase_of p of most size harmless st.ident e.origin k good.met (other e.origin st.ident b_is) lt (map (changeset_of st.ident) st.unsent) x (sets_of st.ident k st.unsent mine) good.is_of) in
              (either a r.0, r.1)
            where
              either : (a : Bool) → NoStop (crossed_refusal p st (rebase (cross_changesets p) (map (changeset_of st.ident) st.unsent) x)) → NoStop (if a then Some (OldEntry st.cursor) else crossed_refusal p st (rebase (cross_changesets p) (map (changeset_of st.ident) st.unsent) x))
              either true f = λ f. f
              either false f = f

      no_answer : (a : ℕ) (why : ClientRefusal) → ◌≡◌ {A = Result ℕ ClientRefusal} (Ok a) (Err why) → ⊥
      no_answer a why e = cc

      same_ident : (st : Client I S) (e : Sent) → (after_record p st (took e)).ident ≡ st.ident
      same_ident st e = (Rattle.sync_model.proofs.Progress.Serves.takes_same p st (record { origin = e.origin; number = e.number; ms = e.ms; instrs = ok_list (p.unspell e.body) })).0.ident

      -- none of them is what may keep a client back
      pub takes_all : (es : List Sent) (st : Client I S) (k : ℕ) → k + length es ≤ most → UnsentOf st.ident k st.unsent → Each SentOf es → (why : ClientRefusal) → (take_entries p st es).answer ≡ Err why → MayStop why → ⊥
      takes_all [] st k le mine no_more why e = absurd (no_answer st.cursor why e)
      takes_all (e ∷ es) st k le mine (and_each good rest) why is =
          let f = entry_of st k (omega arith) mine e good in
          go (entry_refusal p st e) f.0 (takes_all es (after_record p st (took e)) (suc k) (omega arith) (subst (λ c. UnsentOf c (suc k) (after_record p st (took e)).unsent) (sym (same_ident st e)) f.1) rest) why is
        where
          same : (a b : ClientRefusal) → ◌≡◌ {A = Result ℕ ClientRefusal} (Err a) (Err b) → a ≡ b
          same a b e = cc

          go : (r : Option ClientRefusal) → NoStop r → ((why : ClientRefusal) → (take_entries p (after_record p st (took e)) es).answer ≡ Err why → MayStop why → ⊥)
              → (why : ClientRefusal) → (take_one r (took e) (take_entries p (after_record p st (took e)) es)).answer ≡ Err why → MayStop why → ⊥
          go (Some r) stops rec why e = subst (λ z. MayStop z → ⊥) (same r why e) stops
          go None none rec why e = rec why e
