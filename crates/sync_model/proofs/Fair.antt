-- Why the server refuses what clients of the exchange made.
use Rattle.std.proofs.Common.{◌≡◌, ◌≢◌, ⊎_elim, ℕ, suc, ◌-◌, ◌<◌, ◌≤◌, Bool, true, false, ◌&&◌, not, List, [], ◌∷◌, ◌++◌, Option, Some, Result, Ok, Err, refl, sym, ap, ◌∙◌, subst, subst₂, arith, if◌then◌else◌, ◌==◌, length, drop, map, nat_le, nat_lt}
use Rattle.std.proofs.lemmas.Bool.Decides.{nat_tests}
use Rattle.std.proofs.lemmas.Bool.{le-leb}
use Rattle.sync_model.specs.Bytes.{Uuid, Tables}
use Rattle.sync_theory.specs.Grid.{Carried, carry, reciprocal, tail}
use Rattle.sync_theory.specs.Logs.{Made as LogMade, Entry as LogEntry, made_at, of_origin, origin_at, Nodes, world_of, nodes_integrate}
use Rattle.sync_theory.specs.Changesets.{Changeset}
use Rattle.sync_theory.specs.Lists.{ok_state}
use Rattle.sync_model.specs.Profile.{Profile, Stuck, apply_all, act_changeset, cross_changesets, restricted, Lawful, needs, IsNamedKind}
use Rattle.sync_model.proofs.Mismatches.{carry_kind}
use Rattle.sync_model.specs.Messages.{Change, Message, Bind, Ident, Upload, Ask, Download, Refused, Stored, Ask2, Retire, Retired, AskTables}
use Rattle.sync_model.specs.Clients.{Step, state_or, ok_list, change_of}
use Rattle.sync_model.specs.Servers.{Server, ServerRecord, Client, Entry, Form, ServerStep, ServerRefusal, NoSuchIdent, IdentsFull, NotForServer, NeedsForm2, NumberGap, BaseBack, AheadOfHistory, HistoryFull, IdentRetired, SelfRetire, RetiredBy, code_of, at_place, heir_of, is_retired, retire_for, serve_retire, place_of, last_base, after_server, after_all, entry_of, made_in, history_of, state_of, entries_from, server_objects, count, new_records, merge_applied, merge_carried, carried_change, merge_read, merge, merged, serve_changes, sent_of, serve_bind, download, first_form, download_first, download_tables, if_there, is_given, serve, refuses, replies, Settled, marking, marks_new}
use Rattle.sync_model.specs.Worlds.{Node, at}
use Rattle.sync_model.specs.Log.{MayRefuse, IsFair}
use Rattle.sync_theory.proofs.Integrate.{server_acts}
use Rattle.sync_theory.proofs.Logs.{Rising}
use Rattle.sync_model.proofs.Small.{read_small}
use Rattle.sync_model.proofs.Stamps.{apply_is, sets_law, sets_kinds}
use Rattle.sync_model.proofs.Moves.{waiting_here, waiting_none}
use Rattle.sync_model.proofs.Lists.{class, at_of_map, own_class, own_not_zero, most_at, last_below, rising_drop, drop_length}
use Rattle.sync_model.proofs.Sim.{uuid_of, uuids, Uploaded, a_change, Sim, Mine, Tells}
use Rattle.sync_model.proofs.Serving.{merging, made_of, carried_of, objects_of, stamp_here, carried_here, acts_here, entered, own_change, made_small, numbered_at}
use Rattle.sync_model.proofs.Entries.{entry_own, entry_own_later}
use Rattle.sync_model.proofs.Own.{good_of}

-- what a change may be refused by at all
abbrev pub IsOfMerge : ServerRefusal → Type 0
IsOfMerge (NoSuchIdent n) = ⊥
IsOfMerge (IdentsFull n) = ⊥
IsOfMerge NotForServer = ⊥
IsOfMerge (NeedsForm2 n) = ⊥
IsOfMerge why = Unit {0}

-- a reply to an upload, where such a refusal alone may come
abbrev pub Answers : (ServerRefusal → Type 0) → Message → Type 0
Answers q (Refused ident number code place) = (why : ServerRefusal) × (code ≡ code_of why) × (place ≡ at_place why) × q why
Answers q m = Unit {0}

-- what may be refused of an upload of the exchange
abbrev pub IsUploadFair : Message → Type 0
IsUploadFair m = Answers (λ why. MayRefuse why × IsOfMerge why) m

upload_fair : (m : Message) → IsUploadFair m → IsFair m
upload_fair (Refused ident number code place) f = (f.0, f.1, f.2, f.3.0)
upload_fair (Bind u) f = tt
upload_fair (Ident u c) f = tt
upload_fair (Upload c hs) f = tt
upload_fair (Ask c cursor settled) f = tt
upload_fair (Ask2 c cursor settled) f = tt
upload_fair (AskTables c cursor settled second tables) f = tt
upload_fair (Download c from es) f = tt
upload_fair (Stored c number) f = tt
upload_fair (Retire c by) f = tt
upload_fair (Retired c by number) f = tt

at_head : {A : Type 0} (xs ys : List A) (m : A) → at (xs ++ ys) (length xs) ≡ Some m → ys ≡ m ∷ tail ys
at_head [] [] m e = cc
at_head [] (y ∷ ys) m e = let h : y ≡ m = cc in ap (λ z. z ∷ ys) h
at_head (x ∷ xs) ys m e = at_head xs ys m e

module _ {I S : Type 0} (p : Profile I S) where
  abbrev OfErr : {A : Type 0} → Result A ServerRefusal → Type 0
  OfErr (Ok x) = Unit {0}
  OfErr (Err why) = IsOfMerge why

  pub of_merge : (s : Server I) (c : ℕ) (h : Change) (why : ServerRefusal) → merge p s c h ≡ Err why → IsOfMerge why
  of_merge s c h why e = subst OfErr e (tests (is_retired (heir_of c s.retired)) (nat_lt (suc (count s c)) h.number) (nat_lt h.base (last_base (of_origin c s.log))) (nat_lt (length s.log) h.base) (length s.log == p.full) (p.unspell h.body))
    where
      applied_ : (new : List ServerRecord) (r : Result S (ℕ × ℕ)) → OfErr (merge_applied new r)
      applied_ new (Ok t) = tt
      applied_ new (Err b) = tt

      carried_ : (new : List ServerRecord) (r : Result (Changeset I × List (Changeset I)) Stuck) → OfErr (merge_carried p s new r)
      carried_ new (Ok q) = applied_ new (apply_all p q.0.instrs (server_objects p s))
      carried_ new (Err m) = tt

      read_ : (r : Result (List I) (ℕ × ℕ)) → OfErr (merge_read p s c h r)
      read_ (Ok is) = carried_ (new_records p s c h is) (carried_change p s c h is)
      read_ (Err f) = tt

      tests : (z a b d f : Bool) (r : Result (List I) (ℕ × ℕ)) → OfErr (if z then Err (IdentRetired (count s c)) else (if a then Err (NumberGap (suc (count s c))) else (if b then Err (BaseBack (last_base (of_origin c s.log))) else (if d then Err (AheadOfHistory (length s.log)) else (if f then Err (HistoryFull (length s.log)) else merge_read p s c h r)))))
      tests true a b d f r = tt
      tests false true b d f r = tt
      tests false false true d f r = tt
      tests false false false true f r = tt
      tests false false false false true r = tt
      tests false false false false false r = read_ r

  module _ {Fits : S → Type 0} (law : Lawful p Fits) (cls : List Node) (inj : List Uuid) where
    abbrev us : List (Option Uuid)
    us = uuids p cls

    -- they are refused by a mismatch or a full history alone

    if_fair : {A : Type 0} (b : Bool) (w : ServerRefusal) (r : Result A ServerRefusal) (why : ServerRefusal) → (b ≡ true → MayRefuse w) → (b ≡ false → r ≡ Err why → MayRefuse why) → (if b then Err w else r) ≡ Err why → MayRefuse why
    if_fair true w r why f g e = let same : w ≡ why = cc in subst MayRefuse same (f refl)
    if_fair false w r why f g e = g refl e

    -- what a client made has its base in the history
    made_within : (s : Server I) (n : Nodes (Changeset I) S) (sim : Sim p s cls inj n) (c k : ℕ) (m : LogMade (Changeset I)) → class s.ids us c ≡ true → at (n.mades c) k ≡ Some m → m.base ≤ length n.log
    made_within s n sim c k m mine here =
        let o = own_class s.ids us c mine in
        let nd = at_of_map (uuid_of p) cls o.0 (Some o.1) o.2 in
        let w = sim.clients o.0 nd.0 nd.1 in
        let a = w.born in
        let b = nd.2 in
        let same : w.id ≡ o.1 = cc (a, b) in
        let is : c ≡ place_of w.id s.ids = o.3 ∙ ap (λ x. place_of x s.ids) (sym same) in
        ⊎_elim (λ f. absurd (not_zero (is ∙ f.0)))
        (λ g.
        let v = g.1 in
        let l = most_at (Rattle.sync_model.specs.Clients.client_of p nd.0.records).cursor (n.mades (place_of w.id s.ids)) k m v.within (subst (λ d. at (n.mades d) k ≡ Some m) is here) in
        let r = v.reach in
        omega arith)
        w.is
      where
        not_zero : c ≡ 0 → ⊥
        not_zero z = own_not_zero s.ids us c mine z

    pub own_fair : (s : Server I) (n : Nodes (Changeset I) S) (sim : Sim p s cls inj n) (c : ℕ) (m : LogMade (Changeset I)) (more : List (LogMade (Changeset I))) (h : Change) → class s.ids us c ≡ true → n.mades c ≡ of_origin c n.log ++ m ∷ more → h ≡ change_of p (record { base = m.base; number = m.change.number; ms = m.change.ms; instrs = m.change.instrs }) → made_of p c h m.change.instrs ≡ m → h.number ≡ suc (length (of_origin c n.log)) → (why : ServerRefusal) → merge p s c h ≡ Err why → MayRefuse why
    own_fair s n sim c m more h mine next h_is same number why e0 =
        if_fair (is_retired (heir_of c s.retired)) (IdentRetired (count s c)) _ why (λ b. absurd (mine_or_theirs (sim.retired c b).theirs)) (λ b0 e.
        if_fair (nat_lt (suc (count s c)) h.number) (NumberGap (suc (count s c))) _ why (λ b. absurd (not_lt (suc (count s c)) h.number b (let k = counted in omega arith))) (λ b e1.
        if_fair (nat_lt h.base (last_base (of_origin c s.log))) (BaseBack (last_base (of_origin c s.log))) _ why (λ b2. absurd (not_lt h.base (last_base (of_origin c s.log)) b2 back)) (λ b2 e2.
        if_fair (nat_lt (length s.log) h.base) (AheadOfHistory (length s.log)) _ why (λ b3. absurd (not_lt (length s.log) h.base b3 in_history)) (λ b3 e3.
        if_fair (length s.log == p.full) (HistoryFull (length s.log)) _ why (λ b4. tt) (λ b4 e4. readable e4) e3) e2) e1) e) e0
      where
        mine_or_theirs : class s.ids us c ≡ false → ⊥
        mine_or_theirs theirs = cc

        not_lt : (a b : ℕ) → nat_lt a b ≡ true → b ≤ a → ⊥
        not_lt a b f le = grind (arith, nat_tests)

        counted : count s c ≡ length (of_origin c n.log)
        counted = ap (λ l. length (of_origin c l)) (sym sim.log_is)

        base_is : h.base ≡ m.base
        base_is = ap (λ z. z.base) h_is

        back : last_base (of_origin c s.log) ≤ h.base
        back = let l = last_below (of_origin c n.log) m more (subst (λ z. Rising z) next (sim.rising c)) in let f = ap (λ z. last_base (of_origin c z)) sim.log_is in let b = base_is in omega arith

        here : at (n.mades c) (length (of_origin c n.log)) ≡ Some m
        here = ap (λ z. at z (length (of_origin c n.log))) next ∙ at_start (of_origin c n.log)
          where
            at_start : (xs : List (LogMade (Changeset I))) → at (xs ++ m ∷ more) (length xs) ≡ Some m
            at_start [] = refl
            at_start (x ∷ xs) = at_start xs

        in_history : h.base ≤ length s.log
        in_history = let l = made_within s n sim c (length (of_origin c n.log)) m mine here in let f = ap length sim.log_is in let b = base_is in omega arith

        body_is : p.unspell h.body ≡ Ok m.change.instrs
        body_is = ap (λ z. p.unspell z.body) h_is ∙ law.spelled m.change.instrs (made_small p law cls inj s n sim c (length (of_origin c n.log)) m mine here)

        open_is : Rattle.sync_theory.specs.Logs.open_of (n.mades c) n.log c ≡ m ∷ more
        open_is = ap (drop (length (of_origin c n.log))) next ∙ drop_length (of_origin c n.log) (m ∷ more)

        acts : (x : Changeset I) → Carried (cross_changesets p) (λ c k. made_at (of_origin c n.log) k) (λ k. origin_at n.log k) c m.base m.change (length n.log) x → (t : S) × (act_changeset p x n.objects ≡ Some t)
        acts x r =
            let good = good_of p law s cls inj n sim in
            let rises : Rising (m ∷ more) = subst (λ l. Rising l) open_is (rising_drop (length (of_origin c n.log)) (n.mades c) (sim.rising c)) in
            server_acts (act_changeset p) p.empty (cross_changesets p) (world_of n) good.log c m.base m.change (made_at more m.base) x (waiting_here n c m more open_is) (waiting_none n c m more open_is rises) r (sets_law p law) (good.clients c mine)

        readable : merge_read p s c h (p.unspell h.body) ≡ Err why → MayRefuse why
        readable e = carries (carried_change p s c h m.change.instrs) refl (ap (merge_read p s c h) (sym body_is) ∙ e)
          where
            applies : {t : S} (new : List ServerRecord) (r : Result S (ℕ × ℕ)) → ok_state r ≡ Some t → merge_applied new r ≡ Err why → MayRefuse why
            applies new (Ok t) f g = cc
            applies new (Err b) f g = cc

            carries : (r : Result (Changeset I × List (Changeset I)) Stuck) → carried_change p s c h m.change.instrs ≡ r → merge_carried p s (new_records p s c h m.change.instrs) r ≡ Err why → MayRefuse why
            carries (Err f) is e =
                let same_why : ServerRefusal.Mismatch f.0 f.2 ≡ why = cc in
                let good = good_of p law s cls inj n sim in
                let rises : Rising (m ∷ more) = subst (λ l. Rising l) open_is (rising_drop (length (of_origin c n.log)) (n.mades c) (sim.rising c)) in
                let stuck = subst (λ l. carry (cross_changesets p) (made_of p c h m.change.instrs).change (reciprocal (cross_changesets p) (made_in p l) (λ k. origin_at l k) c (length l - h.base) h.base) ≡ Err f) (sym sim.log_is) is in
                let stuck1 = subst (λ z. carry (cross_changesets p) z.change (reciprocal (cross_changesets p) (made_in p n.log) (λ k. origin_at n.log k) c (length n.log - z.base) z.base) ≡ Err f) same stuck in
                let in_it = in_history in
                let l = ap length sim.log_is in
                let b = base_is in
                subst MayRefuse same_why (carry_kind (act_changeset p) p.empty (cross_changesets p) (λ m. IsNamedKind m.2) (sets_law p law) (sets_kinds p law) (world_of n) good.log c m.base (good.clients c mine) m.change (made_at more m.base) (waiting_here n c m more open_is) (waiting_none n c m more open_is rises) (length n.log - m.base) (omega arith) f stuck1)
            carries (Ok q) is e =
                let r0 = carried_of p law cls inj s n sim c h m.change.instrs q.0 q.1 in_history is in
                let r1 = subst (λ z. Carried (cross_changesets p) (λ c k. made_at (of_origin c n.log) k) (λ k. origin_at n.log k) c z.base z.change (length n.log) q.0) same r0 in
                let a = acts q.0 r1 in
                applies (new_records p s c h m.change.instrs) (apply_all p q.0.instrs (server_objects p s)) (sym (apply_is p q.0.instrs (server_objects p s)) ∙ ap (act_changeset p q.0) (objects_of p law cls inj s n sim) ∙ a.1) e

    -- the next change of a client is refused so, where this holds of the nodes
    abbrev pub Refuses : (ℕ → Nodes (Changeset I) S → Type 0) → (ServerRefusal → Type 0) → Type 0
    Refuses inv q = (s : Server I) (n : Nodes (Changeset I) S) (sim : Sim p s cls inj n) (c : ℕ) (m : LogMade (Changeset I)) (more : List (LogMade (Changeset I))) (h : Change) → class s.ids us c ≡ true → n.mades c ≡ of_origin c n.log ++ m ∷ more → h ≡ change_of p (record { base = m.base; number = m.change.number; ms = m.change.ms; instrs = m.change.instrs }) → made_of p c h m.change.instrs ≡ m → h.number ≡ suc (length (of_origin c n.log))
        → inv c n → (why : ServerRefusal) → merge p s c h ≡ Err why → q why

    -- and it lasts where the next change of a client is integrated
    abbrev pub Lasts : (ℕ → Nodes (Changeset I) S → Type 0) → Type 0
    Lasts inv = (c : ℕ) (n : Nodes (Changeset I) S) (m : LogMade (Changeset I)) (more : List (LogMade (Changeset I))) (x : Changeset I) (t : S) → n.mades c ≡ of_origin c n.log ++ m ∷ more → inv c n → inv c (nodes_integrate n c m x t)

    module _ (inv : ℕ → Nodes (Changeset I) S → Type 0) (q : ServerRefusal → Type 0) (refused : Refuses inv q) (keeps : Lasts inv) where
      pub answers_by : (hs : List Change) (s : Server I) (n : Nodes (Changeset I) S) (sim : Sim p s cls inj n) (c f : ℕ) → c ≢ 0 → c ≤ length s.ids → class s.ids us c ≡ true → f ≤ length (of_origin c n.log) → Uploaded p (n.mades c) f hs → inv c n → Answers q (serve_changes p s c hs).answer
      answers_by [] s n sim c f given there mine known up so = tt
      answers_by (h ∷ hs) s n sim c f given there mine known (a_change m here h_is up) so =
          go (nat_le h.number (count s c)) refl (merge p s c h) refl (answers_by hs)
        where
          number_is : h.number ≡ suc f
          number_is = let a = ap (λ z. z.number) h_is in let b = (numbered_at f m (sim.numbered c) here).0 in omega arith

          count_is : count s c ≡ length (of_origin c n.log)
          count_is = ap (λ l. length (of_origin c l)) (sym sim.log_is)

          at_end : (xs ys : List (LogMade (Changeset I))) → n.mades c ≡ xs ++ ys → f ≡ length xs → n.mades c ≡ xs ++ m ∷ tail ys
          at_end xs ys e is = e ∙ ap (λ l. xs ++ l) (at_head xs ys m (subst₂ (λ l k. at l k ≡ Some m) e is here))

          go : (b : Bool) → nat_le h.number (count s c) ≡ b → (r : Result (List ServerRecord) ServerRefusal) → merge p s c h ≡ r
              → ((s2 : Server I) (n2 : Nodes (Changeset I) S) (sim2 : Sim p s2 cls inj n2) (c2 f2 : ℕ) → c2 ≢ 0 → c2 ≤ length s2.ids → class s2.ids us c2 ≡ true → f2 ≤ length (of_origin c2 n2.log) → Uploaded p (n2.mades c2) f2 hs → inv c2 n2 → Answers q (serve_changes p s2 c2 hs).answer)
              → Answers q (if b then serve_changes p s c hs else merged c h.number r (λ new. serve_changes p (after_all p s new) c hs)).answer
          go true b_is r r_is rec =
              let le : h.number ≤ count s c = grind (arith, nat_tests) in
              let a = number_is in
              let b = count_is in
              rec s n sim c (suc f) given there mine (omega arith) up so
          go false b_is r r_is rec =
              let gt : count s c < h.number = grind (arith, nat_tests) in
              let a = number_is in
              let b = count_is in
              let f_is : f ≡ length (of_origin c n.log) = omega arith in
              let ahead = sim.ahead c in
              on r r_is rec f_is (at_end (of_origin c n.log) ahead.0 ahead.1 f_is)
            where
              on : (r : Result (List ServerRecord) ServerRefusal) → merge p s c h ≡ r
                  → ((s2 : Server I) (n2 : Nodes (Changeset I) S) (sim2 : Sim p s2 cls inj n2) (c2 f2 : ℕ) → c2 ≢ 0 → c2 ≤ length s2.ids → class s2.ids us c2 ≡ true → f2 ≤ length (of_origin c2 n2.log) → Uploaded p (n2.mades c2) f2 hs → inv c2 n2 → Answers q (serve_changes p s2 c2 hs).answer)
                  → f ≡ length (of_origin c n.log) → n.mades c ≡ of_origin c n.log ++ m ∷ tail (sim.ahead c).0
                  → Answers q (merged c h.number r (λ new. serve_changes p (after_all p s new) c hs)).answer
              on (Err why) r_is rec f_is next =
                  let small = made_small p law cls inj s n sim c f m mine here in
                  let back = ap (λ z. p.unspell z.body) h_is ∙ law.spelled m.change.instrs small in
                  let same = own_change p law cls inj n c f m h m.change.instrs (sim.numbered c) here h_is small back in
                  let a = number_is in
                  (why, refl, refl, refused s n sim c m (tail (sim.ahead c).0) h mine next h_is same (omega arith) so why r_is)
              on (Ok new) r_is rec f_is next0 =
                  let g = merging p s c h new r_is in
                  let same = own_change p law cls inj n c f m h g.instrs (sim.numbered c) here h_is (made_small p law cls inj s n sim c f m mine here) g.read in
                  let next : n.mades c ≡ of_origin c n.log ++ made_of p c h g.instrs ∷ tail (sim.ahead c).0 = next0 ∙ ap (λ z. of_origin c n.log ++ z ∷ tail (sim.ahead c).0) (sym same) in
                  let o : Nodes (Changeset I) S = Rattle.sync_theory.specs.Logs.nodes_integrate n c (made_of p c h g.instrs) g.entry g.state in
                  let longer_ = ap length (Rattle.sync_model.proofs.Moves.origin_here c (made_of p c h g.instrs) n.log) ∙ Rattle.sync_theory.proofs.Logs.length_snoc (of_origin c n.log) (made_of p c h g.instrs) in
                  let all = entered p law cls inj s n sim c h new g o
                  (λ s1 sim1 l i. entry_own p s1 cls inj n sim1 c (made_of p c h g.instrs) g.entry g.state (stamp_here p law cls inj s n sim c h new g) refl (read_small p law h.body g.instrs g.read) (carried_here p law cls inj s n sim c h new g) (acts_here p law cls inj s n sim c h new g) (tail (sim.ahead c).0) next (ap (λ z. class z us c) i ∙ mine))
                  (entry_own_later p s cls inj n sim c (made_of p c h g.instrs) g.entry g.state (stamp_here p law cls inj s n sim c h new g) refl (read_small p law h.body g.instrs g.read) (carried_here p law cls inj s n sim c h new g) (acts_here p law cls inj s n sim c h new g) (tail (sim.ahead c).0) next mine) in
                  let m_is = all.is in
                  let up2 : Uploaded p (all.whole.m.mades c) (suc f) hs = subst (λ z. Uploaded p (z.mades c) (suc f) hs) (sym m_is) up in
                  let known2 : suc f ≤ length (of_origin c all.whole.m.log) = subst (λ z. suc f ≤ length (of_origin c z.log)) (sym m_is) (omega (arith, longer_)) in
                  rec (after_all p s new) all.whole.m all.whole.sim c (suc f) given (subst (λ z. c ≤ length z) (sym all.ids_are) there) (ap (λ z. class z us c) all.ids_are ∙ mine) known2 up2 (subst (inv c) (sym m_is) (keeps c n (made_of p c h g.instrs) (tail (sim.ahead c).0) g.entry g.state next so))

    pub own_answers : (hs : List Change) (s : Server I) (n : Nodes (Changeset I) S) (sim : Sim p s cls inj n) (c f : ℕ) → c ≢ 0 → c ≤ length s.ids → class s.ids us c ≡ true → f ≤ length (of_origin c n.log) → Uploaded p (n.mades c) f hs → IsUploadFair (serve_changes p s c hs).answer
    own_answers hs s n sim c f given there mine known up =
        answers_by (λ d m. Unit {0}) (λ why. MayRefuse why × IsOfMerge why) (λ s1 n1 sim1 d m more h mine1 next h_is same number so why e. (own_fair s1 n1 sim1 d m more h mine1 next h_is same number why e, of_merge s1 d h why e)) (λ d n1 m more x t next so. so) hs s n sim c f given there mine known up tt

    module _ (s : Server I) (n : Nodes (Changeset I) S) (sim : Sim p s cls inj n) where
      pub given_so : (c : ℕ) → Mine p s.ids us c → is_given s c ≡ true
      given_so c m = both (nat_le 1 c) (nat_le c (length s.ids)) (le-leb 1 c (above m.given)) (le-leb c (length s.ids) m.there)
        where
          both : (a b : Bool) → a ≡ true → b ≡ true → (a && b) ≡ true
          both true b e f = f
          both false b e f = e

          above : {k : ℕ} → k ≢ 0 → 1 ≤ k
          above {k} ne = omega (arith, ne)

      asks_fair : (c cursor settled : ℕ) (go : List (Changeset I) → ServerStep) → Mine p s.ids us c → cursor ≤ n.cursor c → ((xs : List (Changeset I)) → IsFair (go xs).answer) → IsFair (if_there p s c cursor settled go).answer
      asks_fair c cursor settled go m le fair_ = first (is_given s c) (given_so c m) (nat_lt (length s.log) cursor) refl
        where
          first : (a : Bool) → a ≡ true → (b : Bool) → nat_lt (length s.log) cursor ≡ b → IsFair (if not a then refuses c 0 (Rattle.sync_model.specs.Servers.NoSuchIdent (length s.ids)) else (if b then refuses c 0 (Rattle.sync_model.specs.Servers.AheadOfHistory (length s.log)) else marking c (s.marks c) cursor settled (go (entries_from p s.log (length s.log - cursor) cursor)).answer)).answer
          first false a_is b b_is = cc
          first true a_is true b_is =
              let w = ((good_of p law s cls inj n sim).clients c m.own).within in
              let l = ap length sim.log_is in
              absurd (not_lt (length s.log) cursor b_is (omega (arith, w)))
            where
              not_lt : (a b : ℕ) → nat_lt a b ≡ true → b ≤ a → ⊥
              not_lt a b f le = grind (arith, nat_tests)
          first true a_is false b_is = fair_ (entries_from p s.log (length s.log - cursor) cursor)

      first_fair : (c cursor : ℕ) (xs : List (Changeset I)) → IsFair (download_first p c cursor xs).answer
      first_fair c cursor [] = tt
      first_fair c cursor (x ∷ xs) = go (needs p x.instrs)
        where
          go : (b : Bool) → IsFair (if b then refuses c 0 (Rattle.sync_model.specs.Servers.NeedsForm2 cursor) else download p c cursor (first_form p (x ∷ xs))).answer
          go true = (Rattle.sync_model.specs.Servers.NeedsForm2 cursor, refl, refl, tt)
          go false = tt

      tables_fair : (second : Bool) (tables : Tables) (c cursor : ℕ) (xs : List (Changeset I)) → IsFair (download_tables p second tables c cursor xs).answer
      tables_fair true tables c cursor xs = tt
      tables_fair false tables c cursor xs = first_fair c cursor (map (restricted p (Some tables)) xs)

      -- a message that a client of the exchange made is refused by these alone
      pub fair : (m : Message) → Tells p n s.ids cls m → IsFair (serve p s m).answer
      fair (Bind u) t = go (place_of u s.ids == 0) (length s.ids == p.full)
        where
          go : (a b : Bool) → IsFair (if not a then replies (Ident u (place_of u s.ids)) else (if b then refuses 0 0 (Rattle.sync_model.specs.Servers.IdentsFull (length s.ids)) else record { records = Client u ∷ []; answer = Ident u (suc (length s.ids)) })).answer
          go false b = tt
          go true true = (Rattle.sync_model.specs.Servers.IdentsFull (length s.ids), refl, refl, tt)
          go true false = tt
      fair (Upload c hs) t = go (is_given s c) (given_so c t.0)
        where
          go : (a : Bool) → a ≡ true → IsFair (if a then serve_changes p s c hs else refuses c 0 (Rattle.sync_model.specs.Servers.NoSuchIdent (length s.ids))).answer
          go true is = upload_fair (serve_changes p s c hs).answer (own_answers hs s n sim c t.1.from t.0.given t.0.there t.0.own t.1.known t.1.changes)
          go false is = cc
      fair (Ask c cursor settled) t = asks_fair c cursor settled (download_first p c cursor) t.0 t.1 (first_fair c cursor)
      fair (AskTables c cursor settled second tables) t = asks_fair c cursor settled (download_tables p second tables c cursor) t.0 t.1 (tables_fair second tables c cursor)
      fair (Ask2 c cursor settled) t = asks_fair c cursor settled (download p c cursor) t.0 t.1 (λ xs. tt)
      fair (Ident u c) t = (Rattle.sync_model.specs.Servers.NotForServer, refl, refl, tt)
      fair (Download c from es) t = (Rattle.sync_model.specs.Servers.NotForServer, refl, refl, tt)
      fair (Refused c number code place) t = (Rattle.sync_model.specs.Servers.NotForServer, refl, refl, tt)
      fair (Stored c number) t = (Rattle.sync_model.specs.Servers.NotForServer, refl, refl, tt)
      fair (Retire c by) t = absurd t
      fair (Retired c by number) t = (Rattle.sync_model.specs.Servers.NotForServer, refl, refl, tt)
