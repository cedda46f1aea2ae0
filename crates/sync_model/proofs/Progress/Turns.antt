-- A round of a client where all that clients make is harmless: nothing is refused, and it takes as many entries as a message
-- bears, or it has uploaded all.
use Rattle.std.proofs.Common.{◌≡◌, ◌≢◌, ◌⊎◌, inl, inr, ⊎_elim, ℕ, zero, suc, ◌+◌, ◌-◌, ◌*◌, ◌<◌, ◌≤◌, Bool, true, false, not, List, [], ◌∷◌, ◌++◌, Some, None, Result, Ok, Err, refl, sym, ap, ap₂, ◌∙◌, subst, subst₂, arith, if◌then◌else◌, ◌==◌, length, length-append, drop, map, take, nat_lt}
use Rattle.std.specs.Prelude.{bytes_eq}
use Rattle.std.proofs.lemmas.Bool.Decides.{nat_tests}
use Rattle.sync_theory.specs.Changesets.{Changeset}
use Rattle.sync_theory.specs.Logs.{Made as LogMade, Entry as LogEntry, made_at, of_origin, origin_at}
use Rattle.sync_theory.proofs.Server.{test_true}
use Rattle.sync_theory.proofs.World.{same_or_not, le_or_lt}
use Rattle.sync_model.specs.Bytes.{Name, Uuid}
use Rattle.sync_model.specs.Profile.{Profile, Lawful, needs, restricted, is_small}
use Rattle.sync_model.specs.Snapshots.{Buildable}
use Rattle.sync_model.specs.Messages.{Change, Sent, Message, Upload, Ask, Ask2, Download, Stored}
use Rattle.sync_model.specs.Clients.{Client, ClientRefusal, NotMine, Unsent, changeset_of, answers, refuse, if_born, change_of, to_upload, upload, ask, question, settled_from, Gap, client_of, after_records, take_entries, take_born, take as take_message}
use Rattle.sync_model.specs.Servers.{Server, ServerStep, NoSuchIdent, AheadOfHistory, Settled, NeedsForm2, server_of, after_all, place_of, count, is_given, marks_new, marking, serve, serve_changes, sent_of, download, download_first, first_form, if_there, entries_from, history_of, refuses}
use Rattle.sync_model.specs.Worlds.{Node, World, Event, Uploads, Asks, Delivers, Words, at, server_name, message_at}
use Rattle.sync_model.specs.Log.{ident_by, ident_of, made, order, NamedFacts}
use Rattle.sync_model.proofs.Facts.{made_same}
use Rattle.sync_model.proofs.Progress.Valid.{valid_facts}
use Rattle.sync_model.specs.Each.{Each, no_more, and_each}
use Rattle.sync_model.specs.Harmless.{AreHarmless}
use Rattle.sync_model.specs.Progress.{load, made_by_all, uploads_at, asks_at}
use Rattle.sync_model.proofs.Lists.{class, own_class, at_of_map, at_map, listed, take_within}
use Rattle.sync_model.proofs.Limits.{each_at, each_map, each_weaker}
use Rattle.sync_model.proofs.Small.{SmallSets, entries_small}
use Rattle.sync_model.proofs.Folding.{length_listed}
use Rattle.sync_model.proofs.Keeping.{entries_listed}
use Rattle.sync_model.proofs.Sim.{as_log, uuids, uuid_of}
use Rattle.sync_model.proofs.Own.{good_of}
use Rattle.sync_model.proofs.Calling.{named_as}
use Rattle.sync_model.proofs.Serving.{numbered_at}
use Rattle.sync_model.proofs.Holding.{Holds}
use Rattle.sync_model.proofs.Fair.{Answers, answers_by}
use Rattle.sync_model.proofs.Progress.Serves.{SameClient, HasServed, has_served, has_taken, IsOfTake}
use Rattle.sync_model.proofs.Progress.Catching.{Goes, Here, messages, takes, serves, holds, at_node, declined, Facts, facts, named_calls}
use Rattle.sync_model.proofs.Progress.Rounds.{stops_it}
use Rattle.sync_model.proofs.Progress.Sweeps.{dues_made}
use Rattle.sync_model.proofs.Progress.Batches.{first_fit, first_each, at_take, length_take, all_taken, there, ext, own_behind, dues_but, owned_log, at_behind, option_map, at_map_is, fitting_each, fitting_few}
use Rattle.sync_model.proofs.Progress.Harmless.{history_harmless, pending_of, made_sets}
use Rattle.sync_model.proofs.Progress.Unhindered.{MadesOf, log_of, Fewer, lasts, never_refused, SentOf, takes_all}

yes : {A : Type 0} (b : Bool) (x y : A) → b ≡ true → (if b then x else y) ≡ x
yes true x y e = refl
yes false x y e = cc

no_else : {A : Type 0} (b : Bool) (x y : A) → b ≡ false → (if b then x else y) ≡ y
no_else true x y e = cc
no_else false x y e = refl

not_below : (a b : ℕ) → b ≤ a → nat_lt a b ≡ false
not_below a b le = on (nat_lt a b) refl
  where
    on : (t : Bool) → nat_lt a b ≡ t → t ≡ false
    on true e = absurd (grind (arith, nat_tests))
    on false e = refl

some_same : {A : Type 0} (x y : A) → Some x ≡ Some y → x ≡ y
some_same x y e = cc

module _ {I S : Type 0} (p : Profile I S) (of : ℕ → ℕ → List I → Type 0) (most size : ℕ) (harmless : AreHarmless p of most size) where
  -- ---- a world in which all that clients make is harmless, and nobody else sends

  -- a client that is named, gets all tables and made such changes alone
  pub record Plain (st : Client I S) : Type 0 where
    pub named : st.ident ≢ 0
    pub all_tables : st.subset ≡ None
    pub made : Each (λ o. of st.ident 0 o.instrs) st.made

  pub record Undisturbed (ids : List Uuid) (cls : List Node) : Type 0 where
    pub own : (c : ℕ) → c ≢ 0 → c ≤ length ids → class ids (uuids p cls) c ≡ true
    pub clients : (i : ℕ) (nd : Node) → at cls i ≡ Some nd → Plain (client_of p nd.records)
    pub few : made_by_all p cls ≤ most

  module _ {Fits Bounded Old : S → Type 0} (law : Lawful p Fits) (built : Buildable p Fits Bounded Old) (within : most ≤ p.full) where
    module _ (v : World) (h : Holds p v) (u : Undisturbed (server_of p v.server).ids v.clients) where
      s : Server I
      s = server_of p v.server

      -- the client that has an ident
      owner_of : (c : ℕ) → c ≢ 0 → c ≤ length (server_of p v.server).ids → (i : ℕ) × (nd : Node) × (at v.clients i ≡ Some nd) × ((client_of p nd.records).ident ≡ c)
      owner_of c ne le =
          let o = own_class (server_of p v.server).ids (uuids p v.clients) c (u.own c ne le) in
          let nd = at_of_map (uuid_of p) v.clients o.0 (Some o.1) o.2 in
          let x = named_as p law (server_of p v.server) v.injected v.clients h.n h.sim o.0 nd.0 nd.1 (u.clients o.0 nd.0 nd.1).named in
          let same : x.id ≡ o.1 = some_same x.id o.1 (sym x.born ∙ nd.2) in
          (o.0, nd.0, nd.1, sym x.place ∙ ap (λ z. place_of z (server_of p v.server).ids) same ∙ sym o.3)

      mades_at : (i : ℕ) (nd : Node) → at v.clients i ≡ Some nd → h.n.mades (client_of p nd.records).ident ≡ map (as_log (client_of p nd.records).ident) (client_of p nd.records).made
      mades_at i nd here = (named_as p law (server_of p v.server) v.injected v.clients h.n h.sim i nd here (u.clients i nd here).named).given.mades

      pub mades_of : MadesOf p of most size harmless h.n
      mades_of c = ⊎_elim (λ z. blank (inl z)) (λ ne. ⊎_elim (λ le. given ne le) (λ gt. blank (inr gt)) (le_or_lt c (length (server_of p v.server).ids))) (same_or_not c 0)
        where
          blank : (c ≡ 0) ⊎ (length (server_of p v.server).ids < c) → Each (λ m. of c 0 m.change.instrs) (h.n.mades c)
          blank z = subst (Each (λ m. of c 0 m.change.instrs)) (sym (h.sim.blank_mades c z)) no_more

          given : c ≢ 0 → c ≤ length (server_of p v.server).ids → Each (λ m. of c 0 m.change.instrs) (h.n.mades c)
          given ne le =
              let o = owner_of c ne le in
              let x = u.clients o.0 o.1 o.2 in
              let l = each_map (as_log (client_of p o.1.records).ident) (λ y f. f) x.made in
              subst (λ d. Each (λ m. of d 0 m.change.instrs) (h.n.mades d)) o.3 (subst (Each (λ m. of (client_of p o.1.records).ident 0 m.change.instrs)) (sym (mades_at o.0 o.1 o.2)) l)

      -- each entry is a client's
      owned : (log : List (LogEntry (Changeset I))) → ((c : ℕ) → length (of_origin c log) ≤ length (h.n.mades c)) → Each (λ e. (i : ℕ) × (nd : Node) × (at v.clients i ≡ Some nd) × ((client_of p nd.records).ident ≡ e.origin)) log
      owned [] f = no_more
      owned (e ∷ log) f = and_each (owner_here (same_or_not e.origin 0) (le_or_lt e.origin (length (server_of p v.server).ids))) (owned log (λ c. let a = f c in let b = longer (c == e.origin) (of_origin c log) in omega arith))
        where
          longer : (b : Bool) (l : List (LogMade (Changeset I))) → length l ≤ length ((if b then record { base = e.base; change = e.change } ∷ [] else []) ++ l)
          longer true l = omega arith
          longer false l = omega arith

          some : (b : Bool) → b ≡ true → (l : List (LogMade (Changeset I))) → 1 ≤ length ((if b then record { base = e.base; change = e.change } ∷ [] else []) ++ l)
          some true b_is l = omega arith
          some false b_is l = cc

          nothing : {A : Type 0} → (e.origin ≡ 0) ⊎ (length (server_of p v.server).ids < e.origin) → A
          nothing z =
              let none = ap length (h.sim.blank_mades e.origin z) in
              let a = f e.origin in
              let b = some (e.origin == e.origin) (test_true e.origin e.origin refl) (of_origin e.origin log) in
              absurd (omega arith)

          owner_here : (e.origin ≡ 0) ⊎ (e.origin ≢ 0) → (e.origin ≤ length (server_of p v.server).ids) ⊎ (length (server_of p v.server).ids < e.origin) → (i : ℕ) × (nd : Node) × (at v.clients i ≡ Some nd) × ((client_of p nd.records).ident ≡ e.origin)
          owner_here (inl z) y = nothing (inl z)
          owner_here (inr ne) (inl le) = owner_of e.origin ne le
          owner_here (inr ne) (inr gt) = nothing (inr gt)

      counts_made : (c : ℕ) → length (of_origin c h.n.log) ≤ length (h.n.mades c)
      counts_made c = let a = h.sim.ahead c in let b = ap length a.1 ∙ length-append (of_origin c h.n.log) a.0 in omega arith

      pub fewer : (i : ℕ) (nd : Node) → at v.clients i ≡ Some nd → Fewer p of most size harmless law within (client_of p nd.records).ident h.n
      fewer i nd here =
          let a = owned_log (λ x. (client_of p x.records).ident) v.clients h.n.log (owned h.n.log counts_made) in
          let b = dues_but (λ x. length (of_origin (client_of p x.records).ident h.n.log)) (λ x. length (client_of p x.records).made) v.clients i nd (λ j x there. made_at j x there) here in
          let d = dues_made p v.clients in
          let e = u.few in
          let f = made_long i nd here in
          (mades_of, omega arith)
        where
          made_long : (i : ℕ) (nd : Node) → at v.clients i ≡ Some nd → length (h.n.mades (client_of p nd.records).ident) ≡ length (client_of p nd.records).made
          made_long i nd here = ap length (mades_at i nd here) ∙ Rattle.sync_model.proofs.Lists.length_map (as_log (client_of p nd.records).ident) (client_of p nd.records).made

          made_at : (j : ℕ) (x : Node) → at v.clients j ≡ Some x → length (of_origin (client_of p x.records).ident h.n.log) ≤ length (client_of p x.records).made
          made_at j x there = let a = counts_made (client_of p x.records).ident in let b = made_long j x there in omega arith

      -- the history is as long as what they made at most
      pub log_within : length (server_of p v.server).log ≤ most
      log_within =
          let a = owned_log (λ x. (client_of p x.records).ident) v.clients h.n.log (owned h.n.log counts_made) in
          let b = Rattle.sync_model.proofs.Progress.Batches.dues_all (λ x. length (of_origin (client_of p x.records).ident h.n.log)) (λ x. length (client_of p x.records).made) v.clients (λ j x there. made_at j x there) in
          let d = dues_made p v.clients in
          let e = u.few in
          let l = ap length h.sim.log_is in
          omega arith
        where
          made_at : (j : ℕ) (x : Node) → at v.clients j ≡ Some x → length (of_origin (client_of p x.records).ident h.n.log) ≤ length (client_of p x.records).made
          made_at j x there = let a = counts_made (client_of p x.records).ident in let b = ap length (mades_at j x there) ∙ Rattle.sync_model.proofs.Lists.length_map (as_log (client_of p x.records).ident) (client_of p x.records).made in omega arith

      -- ---- the entries that a client lacks

      listed_at : (d k : ℕ) → k + d ≤ length (server_of p v.server).log → entries_from p (server_of p v.server).log d k ≡ listed h.n.entries d k
      listed_at d k le =
          let good = good_of p law (server_of p v.server) v.clients v.injected h.n h.sim in
          let len = ap length h.sim.log_is in
          entries_listed p (server_of p v.server).log h.n.entries d k (λ j a b. ap (λ l. history_of p l j) (sym h.sim.log_is) ∙ good.log.whole j (omega arith))

      origin_is : (log : List (LogEntry (Changeset I))) (k : ℕ) (e : LogEntry (Changeset I)) → at log k ≡ Some e → origin_at log k ≡ e.origin
      origin_is [] k e f = cc
      origin_is (x ∷ log) zero e f = let same : x ≡ e = cc in ap (λ z. z.origin) same
      origin_is (x ∷ log) (suc k) e f = origin_is log k e f

      -- the entry of a version
      entry_is : (k : ℕ) → k < length h.n.log → of (h.n.entries k).origin k (h.n.entries k).instrs
      entry_is k lt =
          let len = ap length h.sim.log_is in
          let le = log_within in
          let good = good_of p law (server_of p v.server) v.clients v.injected h.n h.sim in
          let o = there h.n.log k lt in
          let st = h.sim.stamps k o.0 o.1 in
          let origin : origin_at h.n.log k ≡ (h.n.entries k).origin = origin_is h.n.log k o.0 o.1 ∙ sym st.1 ∙ sym st.0.origin in
          subst (λ c. of c k (h.n.entries k).instrs) origin (history_harmless p of most size harmless h.n.log (log_of p of most size harmless (server_of p v.server) v.clients v.injected h.n h.sim mades_of) k (omega arith) (h.n.entries k) (good.log.whole k lt))

      listed_old : (d k : ℕ) → k + d ≤ length h.n.log → Each (λ x. needs p x.instrs ≡ false) (listed h.n.entries d k)
      listed_old zero k le = no_more
      listed_old (suc d) k le = and_each (harmless.form (h.n.entries k).origin k (h.n.entries k).instrs (entry_is k (omega arith))) (listed_old d (suc k) (omega arith))

      -- none of them needs form 2
      pub entries_old : (d k : ℕ) → k + d ≤ length (server_of p v.server).log → Each (λ x. needs p x.instrs ≡ false) (entries_from p (server_of p v.server).log d k)
      entries_old d k le = let l = ap length h.sim.log_is in subst (Each (λ x. needs p x.instrs ≡ false)) (sym (listed_at d k le)) (listed_old d k (omega arith))

      entry_sent : (k : ℕ) → k < length h.n.log → SentOf p of most size harmless law within (sent_of p (h.n.entries k))
      entry_sent k lt =
          let good = good_of p law (server_of p v.server) v.clients v.injected h.n h.sim in
          let small = entries_small p law h.n.log h.sim.small 1 k in
          let all : entries_from p h.n.log 1 k ≡ h.n.entries k ∷ [] = entries_listed p h.n.log h.n.entries 1 k (λ j a b. let same : j ≡ k = omega arith in ap (history_of p h.n.log) same ∙ good.log.whole k lt ∙ ap (λ z. Some (h.n.entries z)) (sym same)) in
          record { instrs = (h.n.entries k).instrs; small = first_of (subst (SmallSets p) all small); body = refl; met = k; is_of = entry_is k lt }
        where
          first_of : {x : Changeset I} {xs : List (Changeset I)} → SmallSets p (x ∷ xs) → is_small p x.instrs ≡ true
          first_of (and_each f g) = f

      listed_sent : (d k : ℕ) → k + d ≤ length h.n.log → Each (SentOf p of most size harmless law within) (map (sent_of p) (listed h.n.entries d k))
      listed_sent zero k le = no_more
      listed_sent (suc d) k le = and_each (entry_sent k (omega arith)) (listed_sent d (suc k) (omega arith))

      pub entries_sent : (d k : ℕ) → k + d ≤ length (server_of p v.server).log → Each (SentOf p of most size harmless law within) (map (sent_of p) (entries_from p (server_of p v.server).log d k))
      entries_sent d k le = let l = ap length h.sim.log_is in subst (λ xs. Each (SentOf p of most size harmless law within) (map (sent_of p) xs)) (sym (listed_at d k le)) (listed_sent d k (omega arith))

      pub entries_count : (d k : ℕ) → k + d ≤ length (server_of p v.server).log → length (map (sent_of p) (entries_from p (server_of p v.server).log d k)) ≡ d
      entries_count d k le = Rattle.sync_model.proofs.Lists.length_map (sent_of p) (entries_from p (server_of p v.server).log d k) ∙ ap length (listed_at d k le) ∙ length_listed p h.n.entries d k

    -- ---- a round

    abbrev total : List ℕ → ℕ
    total [] = 0
    total (n ∷ ns) = n + total ns

    made_total : (nds : List Node) → made_by_all p nds ≡ total (map (λ x. length (client_of p x.records).made) nds)
    made_total [] = refl
    made_total (x ∷ nds) = ap (λ n. length (client_of p x.records).made + n) (made_total nds)

    -- what a client with no tables gets
    sent_all : (xs : List (Changeset I)) → map (λ x. sent_of p (restricted p None x)) xs ≡ map (sent_of p) xs
    sent_all [] = refl
    sent_all (x ∷ xs) = ap (λ l. sent_of p x ∷ l) (sent_all xs)

    pub record Onto (s s2 : Server I) (c : ℕ) : Type 0 where
      pub ids : s2.ids ≡ s.ids
      pub more : ℕ
      pub log : length s2.log ≡ length s.log + more
      pub counts : count s2 c ≡ count s c + more
      pub others : (d : ℕ) → d ≢ c → of_origin d s2.log ≡ of_origin d s.log

    -- a client took as many entries as a message bears, or it has uploaded all, and it took them, or it is at the end
    pub record Gains (b : ℕ) (s2 : Server I) (st st2 : Client I S) : Type 0 where
      pub uploads : (st.cursor + b ≤ st2.cursor) ⊎ (length st.made ≤ count s2 st.ident)
      pub takes : (st.cursor + b ≤ st2.cursor) ⊎ (length s2.log ≤ st2.cursor)

    module _ (b : ℕ) (few : b ≤ p.most) (fits : b * size ≤ p.room) (w0 : World) (u0 : Undisturbed (server_of p w0.server).ids w0.clients) (name : Name) (place : ℕ) (nd0 : Node) (here0 : at w0.clients place ≡ Some nd0) (not_server : bytes_eq name server_name ≡ false) (arms : w0.stops nd0.name ≢ None → ⊥) (arms_server : w0.stops server_name ≢ None → ⊥) where
      abbrev Never : Words → Type 0
      Never words = ⊥

      abbrev pub At : World → Server I → Client I S → ℕ → Type 0
      At v s st n = Here p law built Never ⊥ (λ a. a) w0 name place nd0 not_server arms arms_server v s st n

      abbrev Leads : World → List (Event I) → (World → Type 0) → Type 0
      Leads v es r = Goes p Never v es r

      abbrev st0 : Client I S
      st0 = client_of p nd0.records

      known : {v : World} {s : Server I} {st : Client I S} {n : ℕ} → At v s st n → st.ident ≢ 0 → Facts p law built Never ⊥ (λ a. a) w0 name place nd0 not_server arms arms_server s st
      known h ne = facts p law built Never ⊥ (λ a. a) w0 name place nd0 not_server arms arms_server h ne

      plain : {st : Client I S} → SameClient p st0 st → Plain st
      plain {st} same =
          let f = u0.clients place nd0 here0 in
          record {
            named = λ z. f.named (sym same.ident ∙ z);
            all_tables = same.subset ∙ f.all_tables;
            made = subst₂ (λ c l. Each (λ o. of c 0 o.instrs) l) (sym same.ident) (sym same.made) f.made;
          }

      same_at : {B : Type 0} (f : Node → B) {v : World} {s : Server I} {st : Client I S} {n : ℕ} (h : At v s st n) → f h.node ≡ f nd0 → map f v.clients ≡ map f w0.clients
      same_at {B} f {v} h same = ext (map f v.clients) (map f w0.clients) (λ k. at_map_is f v.clients k ∙ on k (same_or_not k place) ∙ sym (at_map_is f w0.clients k))
        where
          on : (k : ℕ) → (k ≡ place) ⊎ (k ≢ place) → option_map f (at v.clients k) ≡ option_map f (at w0.clients k)
          on k (inl is) =
              ap (λ j. option_map f (at v.clients j)) is ∙ ap (option_map f) (at_node p law built Never ⊥ (λ a. a) w0 name place nd0 not_server arms arms_server h) ∙ ap (λ x. Some x) same ∙ sym (ap (option_map f) here0) ∙ sym (ap (λ j. option_map f (at w0.clients j)) is)
          on k (inr ne) = ap (option_map f) (h.others k ne)

      pub undisturbed : {v : World} {s : Server I} {st : Client I S} {n : ℕ} (h : At v s st n) → SameClient p st0 st → s.ids ≡ (server_of p w0.server).ids → Undisturbed (server_of p v.server).ids v.clients
      undisturbed {v} {s} {st} h same ids =
          let uuids_are : uuids p v.clients ≡ uuids p w0.clients = same_at (uuid_of p) h (ap (λ (c : Client I S). c.id) h.client ∙ same.id) in
          let ids_are : (server_of p v.server).ids ≡ (server_of p w0.server).ids = ap (λ (x : Server I). x.ids) h.server ∙ ids in
          let mades : map (λ (x : Node). length (client_of p x.records).made) v.clients ≡ map (λ (x : Node). length (client_of p x.records).made) w0.clients = same_at (λ (x : Node). length (client_of p x.records).made) h (ap (λ (c : Client I S). length c.made) h.client ∙ ap length same.made) in
          record {
            own = λ c ne le. ap₂ (λ i l. class i l c) ids_are uuids_are ∙ u0.own c ne (subst (λ i. c ≤ length i) ids_are le);
            clients = λ j x there. ⊎_elim
                (λ is.
                let it : h.node ≡ x = some_same h.node x (sym (at_node p law built Never ⊥ (λ a. a) w0 name place nd0 not_server arms arms_server h) ∙ ap (at v.clients) (sym is) ∙ there) in
                subst (λ z. Plain (client_of p z.records)) it (subst Plain (sym h.client) (plain same)))
                (λ ne. u0.clients j x (sym (h.others j ne) ∙ there))
                (same_or_not j place);
            few = subst (λ k. k ≤ most) (sym (made_total v.clients ∙ ap total mades ∙ sym (made_total w0.clients))) u0.few;
          }

      -- ---- it sends what it has unsent

      stored : {v : World} {s : Server I} {st : Client I S} {n : ℕ} (h : At v s st n) → SameClient p st0 st → s.ids ≡ (server_of p w0.server).ids → (k : ℕ) (hs : List Change) → message_at v (suc k) ≡ Some (Upload st.ident hs) → Answers (λ why. ⊥) (serve_changes p s st.ident hs).answer
      stored {v} {s} {st} h same ids k hs there =
          let i = holds p law built Never ⊥ (λ a. a) w0 name place nd0 not_server arms arms_server h in
          let t = i.tells k (Upload st.ident hs) there in
          let ident : (client_of p h.node.records).ident ≡ st.ident = ap (λ (c : Client I S). c.ident) h.client in
          let so = subst (λ c. Fewer p of most size harmless law within c i.n) ident (fewer v i (undisturbed h same ids) place h.node (at_node p law built Never ⊥ (λ a. a) w0 name place nd0 not_server arms arms_server h)) in
          subst (λ x. Answers (λ why. ⊥) (serve_changes p x st.ident hs).answer) h.server
          (answers_by p law v.clients v.injected (Fewer p of most size harmless law within) (λ why. ⊥) (never_refused p of most size harmless law within v.clients v.injected) (lasts p of most size harmless law within v.clients v.injected) hs (server_of p v.server) i.n i.sim st.ident t.1.from t.0.given t.0.there t.0.own t.1.known t.1.changes so)

      no_answer : {A : Type 0} (a : A) (why : ClientRefusal) → Ok a ≡ Err why → ⊥
      no_answer a why e = cc

      took_stored : (st : Client I S) (number : ℕ) (id : Uuid) → st.id ≡ Some id → take_message p st (Stored st.ident number) ≡ answers st.cursor
      took_stored st number id born = ap (λ o. if_born o (take_born p st (Stored st.ident number))) born ∙ yes (st.ident == st.ident) (answers st.cursor) (refuse NotMine) (test_true st.ident st.ident refl)

      uploaded : {v : World} {s : Server I} {st : Client I S} {n : ℕ} → At v s st n → SameClient p st0 st → s.ids ≡ (server_of p w0.server).ids → (rest : List (Event I)) (r : World → Type 0)
          → ((v2 : World) (s2 : Server I) → At v2 s2 st (suc (suc n)) → HasServed p s s2 st.ident (to_upload p st) (Stored st.ident (count s2 st.ident)) → Each (λ x. x.number ≤ count s2 st.ident) (to_upload p st) → Leads v2 rest r)
          → Leads v (uploads_at name n ++ rest) r
      uploaded {v} {s} {st} {n} h same ids rest r then_ =
          messages p law built Never ⊥ (λ a. a) w0 name place nd0 not_server arms arms_server h (Uploads name) (upload p) refl (Upload st.ident hs) (named_calls p law built Never ⊥ (λ a. a) w0 name place nd0 not_server arms arms_server st (answers (Upload st.ident hs)) f.id f.born ne) (Delivers (suc n) server_name ∷ Delivers (suc (suc n)) name ∷ rest) r
          (λ v2 h2 there. serves p law built Never ⊥ (λ a. a) w0 name place nd0 not_server arms arms_server h2 (suc n) (Upload st.ident hs) there (serve_changes p s st.ident hs) (yes (is_given s st.ident) (serve_changes p s st.ident hs) (refuses st.ident 0 (NoSuchIdent (length s.ids))) f.given) (Delivers (suc (suc n)) name ∷ rest) r
          (λ v3 h3 replied. inr (replies_ v3 h3 replied (stored h2 same ids n hs there) (has_served p hs s st.ident))))
        where
          ne : st.ident ≢ 0
          ne = (plain same).named

          f : Facts p law built Never ⊥ (λ a. a) w0 name place nd0 not_server arms arms_server s st
          f = known h ne

          hs : List Change
          hs = to_upload p st

          replies_ : (v3 : World) → At v3 (after_all p s (serve_changes p s st.ident (to_upload p st)).records) st (suc (suc n)) → message_at v3 (suc (suc n)) ≡ Some (serve_changes p s st.ident (to_upload p st)).answer → Answers (λ why. ⊥) (serve_changes p s st.ident (to_upload p st)).answer
              → HasServed p s (after_all p s (serve_changes p s st.ident (to_upload p st)).records) st.ident (to_upload p st) (serve_changes p s st.ident (to_upload p st)).answer
              → Leads v3 (Delivers (suc (suc n)) name ∷ rest) r
          replies_ v3 h3 replied fair x = ⊎_elim
              (λ a. takes p law built Never ⊥ (λ a. a) w0 name place nd0 not_server arms arms_server h3 (suc (suc n)) (Stored st.ident (count (after_all p s (serve_changes p s st.ident (to_upload p st)).records) st.ident)) (replied ∙ ap (λ z. Some z) a.0) (answers st.cursor) (took_stored st (count (after_all p s (serve_changes p s st.ident (to_upload p st)).records) st.ident) f.id f.born) rest r
              (λ why e. no_answer st.cursor why e)
              (λ j v4 e h4. then_ v4 (after_all p s (serve_changes p s st.ident (to_upload p st)).records) h4 (record { ids = x.ids; more = x.more; log = x.log; counts = x.counts; others = x.others; answer = inl (refl, a.1) }) a.1))
              (λ a. let t = subst (Answers (λ why. ⊥)) a.2 fair in absurd t.3)
              x.answer

      -- ---- it asks for what is new

      abbrev lacked : Server I → Client I S → List Sent
      lacked s st = map (sent_of p) (entries_from p s.log (length s.log - st.cursor) st.cursor)

      record Told (s : Server I) (st : Client I S) (did : ServerStep) : Type 0 where
        answer : did.answer ≡ Download st.ident st.cursor (load p (lacked s st))
        log : (after_all p s did.records).log ≡ s.log
        ids : (after_all p s did.records).ids ≡ s.ids

      marks_keep : (s : Server I) (c mark cursor settled : ℕ) (m : Message) → ((after_all p s (marking c mark cursor settled m).records).log ≡ s.log) × ((after_all p s (marking c mark cursor settled m).records).ids ≡ s.ids)
      marks_keep s c mark cursor settled m = on (marks_new mark cursor settled m)
        where
          on : (t : Bool) → ((after_all p s (if t then Settled c settled ∷ [] else [])).log ≡ s.log) × ((after_all p s (if t then Settled c settled ∷ [] else [])).ids ≡ s.ids)
          on true = (refl, refl)
          on false = (refl, refl)

      module _ (s : Server I) (st : Client I S) (given : is_given s st.ident ≡ true) (in_it : st.cursor ≤ length s.log) where
        told_by : (go : List (Changeset I) → ServerStep) → (go (entries_from p s.log (length s.log - st.cursor) st.cursor)).answer ≡ Download st.ident st.cursor (load p (lacked s st)) → Told s st (if_there p s st.ident st.cursor (settled_from st.cursor st.unsent) go)
        told_by go is =
            let to = ap (λ t. if not t then refuses st.ident 0 (NoSuchIdent (length s.ids)) else (if nat_lt (length s.log) st.cursor then refuses st.ident 0 (AheadOfHistory (length s.log)) else marking st.ident (s.marks st.ident) st.cursor (settled_from st.cursor st.unsent) (go (entries_from p s.log (length s.log - st.cursor) st.cursor)).answer)) given
            ∙ no_else (nat_lt (length s.log) st.cursor) (refuses st.ident 0 (AheadOfHistory (length s.log))) (marking st.ident (s.marks st.ident) st.cursor (settled_from st.cursor st.unsent) (go (entries_from p s.log (length s.log - st.cursor) st.cursor)).answer) (not_below (length s.log) st.cursor in_it) in
            let m = marks_keep s st.ident (s.marks st.ident) st.cursor (settled_from st.cursor st.unsent) (go (entries_from p s.log (length s.log - st.cursor) st.cursor)).answer in
            record { answer = ap (λ d. d.answer) to ∙ is; log = ap (λ d. (after_all p s d.records).log) to ∙ m.0; ids = ap (λ d. (after_all p s d.records).ids) to ∙ m.1 }

        all_first : (xs : List (Changeset I)) → Each (λ x. needs p x.instrs ≡ false) xs → first_form p xs ≡ xs
        all_first [] no_more = refl
        all_first (x ∷ xs) (and_each f fs) = no_else (needs p x.instrs) [] (x ∷ first_form p xs) f ∙ ap (λ l. x ∷ l) (all_first xs fs)

        of_first : (xs : List (Changeset I)) → Each (λ x. needs p x.instrs ≡ false) xs → (download_first p st.ident st.cursor xs).answer ≡ Download st.ident st.cursor (load p (map (sent_of p) xs))
        of_first [] no_more = refl
        of_first (x ∷ xs) (and_each f fs) = ap (λ d. d.answer) (no_else (needs p x.instrs) (refuses st.ident 0 (NeedsForm2 st.cursor)) (download p st.ident st.cursor (first_form p (x ∷ xs))) f) ∙ ap (λ l. Download st.ident st.cursor (load p (map (sent_of p) l))) (all_first (x ∷ xs) (and_each f fs))

        told : Each (λ x. needs p x.instrs ≡ false) (entries_from p s.log (length s.log - st.cursor) st.cursor) → Told s st (serve p s (question st None))
        told old = by_form st.second
          where
            by_form : (t : Bool) → Told s st (serve p s (if t then Ask2 st.ident st.cursor (settled_from st.cursor st.unsent) else Ask st.ident st.cursor (settled_from st.cursor st.unsent)))
            by_form true = told_by (download p st.ident st.cursor) refl
            by_form false = told_by (download_first p st.ident st.cursor) (of_first (entries_from p s.log (length s.log - st.cursor) st.cursor) old)

      -- what it has unsent is harmless as it stands
      unsent_of : {v : World} {s : Server I} {st : Client I S} {n : ℕ} (h : At v s st n) → SameClient p st0 st → s.ids ≡ (server_of p w0.server).ids → Each (λ u. of st.ident st.cursor u.current) st.unsent
      unsent_of {v} {s} {st} h same ids = subst (λ (c : Client I S). Each (λ u. of c.ident c.cursor u.current) c.unsent) h.client (at_world (⊎_elim (λ f. f.1) (λ f. absurd (ne (sym ident_is ∙ f.0))) ((valid_facts p law built v h.reached).clients place h.node there_is)))
        where
          there_is : at v.clients place ≡ Some h.node
          there_is = at_node p law built Never ⊥ (λ a. a) w0 name place nd0 not_server arms arms_server h

          i : Holds p v
          i = holds p law built Never ⊥ (λ a. a) w0 name place nd0 not_server arms arms_server h

          u : Undisturbed (server_of p v.server).ids v.clients
          u = undisturbed h same ids

          ne : (client_of p h.node.records).ident ≢ 0
          ne = (u.clients place h.node there_is).named

          ident_is : ident_of p v h.node ≡ (client_of p h.node.records).ident
          ident_is =
              let x = named_as p law (server_of p v.server) v.injected v.clients i.n i.sim place h.node there_is ne in
              ap (ident_by (server_of p v.server).ids) x.born ∙ x.place

          each_back : (c n : ℕ) (us : List (Unsent I)) → Each (λ x. of c n x.instrs) (map (changeset_of c) us) → Each (λ x. of c n x.current) us
          each_back c n [] f = no_more
          each_back c n (x ∷ us) (and_each f fs) = and_each f (each_back c n us fs)

          at_world : NamedFacts p v h.node → Each (λ u. of (client_of p h.node.records).ident (client_of p h.node.records).cursor u.current) (client_of p h.node.records).unsent
          at_world f =
              let le = log_within v i u in
              let in_it = f.within in
              let mades = mades_of v i u in
              let all = pending_of p of most size harmless (made p v) (order p v) (λ c k. subst (λ l. Each (λ x. of c 0 x.instrs) (made_at l k)) (sym (made_same p law v i c)) (made_sets p of most size harmless c (i.n.mades c) k (mades c))) (client_of p h.node.records).cursor (ident_of p v h.node) (omega arith) in
              each_back (client_of p h.node.records).ident (client_of p h.node.records).cursor (client_of p h.node.records).unsent (subst (λ c. Each (λ x. of c (client_of p h.node.records).cursor x.instrs) (map (changeset_of c) (client_of p h.node.records).unsent)) ident_is (subst (Each (λ x. of (ident_of p v h.node) (client_of p h.node.records).cursor x.instrs)) (sym f.unsent) all))

      -- the entries that it lacks
      record Lacks (s : Server I) (st : Client I S) : Type 0 where
        all : Each (SentOf p of most size harmless law within) (lacked s st)
        old : Each (λ x. needs p x.instrs ≡ false) (entries_from p s.log (length s.log - st.cursor) st.cursor)
        many : length (lacked s st) ≡ length s.log - st.cursor
        in_it : st.cursor ≤ length s.log
        bounded : length s.log ≤ most

      lacks : {v : World} {s : Server I} {st : Client I S} {n : ℕ} (h : At v s st n) → SameClient p st0 st → s.ids ≡ (server_of p w0.server).ids → Lacks s st
      lacks {v} {s} {st} h same ids = subst (λ x. Lacks x st) h.server at_world
        where
          i : Holds p v
          i = holds p law built Never ⊥ (λ a. a) w0 name place nd0 not_server arms arms_server h

          at_world : Lacks (server_of p v.server) st
          at_world =
              let u = undisturbed h same ids in
              let f = (known h (plain same).named).within in
              let in_it : st.cursor ≤ length (server_of p v.server).log = subst (λ (x : Server I). st.cursor ≤ length x.log) (sym h.server) f in
              record {
                all = entries_sent v i u (length (server_of p v.server).log - st.cursor) st.cursor (omega arith);
                old = entries_old v i u (length (server_of p v.server).log - st.cursor) st.cursor (omega arith);
                many = entries_count v i u (length (server_of p v.server).log - st.cursor) st.cursor (omega arith);
                in_it = in_it;
                bounded = log_within v i u;
              }

      asked : {v : World} {s : Server I} {st : Client I S} {n : ℕ} → At v s st n → SameClient p st0 st → s.ids ≡ (server_of p w0.server).ids → (rest : List (Event I)) (r : World → Type 0)
          → ((v2 : World) (s2 : Server I) (st2 : Client I S) → At v2 s2 st2 (suc (suc n)) → s2.log ≡ s.log → s2.ids ≡ s.ids → SameClient p st st2 → st2.cursor ≡ st.cursor + length (load p (lacked s st)) → Leads v2 rest r) → Leads v (asks_at name n ++ rest) r
      asked {v} {s} {st} {n} h same ids rest r then_ =
          messages p law built Never ⊥ (λ a. a) w0 name place nd0 not_server arms arms_server h (Asks name) ask refl (question st st.subset) (named_calls p law built Never ⊥ (λ a. a) w0 name place nd0 not_server arms arms_server st (answers (question st st.subset)) f.id f.born ne) (Delivers (suc n) server_name ∷ Delivers (suc (suc n)) name ∷ rest) r
          (λ v2 h2 there. serves p law built Never ⊥ (λ a. a) w0 name place nd0 not_server arms arms_server h2 (suc n) (question st st.subset) there (serve p s (question st st.subset)) refl (Delivers (suc (suc n)) name ∷ rest) r
          (λ v3 h3 there3. inr (taken v3 h3 (there3 ∙ ap (λ z. Some z) t.answer))))
        where
          ne : st.ident ≢ 0
          ne = (plain same).named

          f : Facts p law built Never ⊥ (λ a. a) w0 name place nd0 not_server arms arms_server s st
          f = known h ne

          l : Lacks s st
          l = lacks h same ids

          t : Told s st (serve p s (question st st.subset))
          t = subst (λ o. Told s st (serve p s (question st o))) (sym (plain same).all_tables) (told s st f.given f.within l.old)

          to : take_message p st (Download st.ident st.cursor (load p (lacked s st))) ≡ take_entries p st (load p (lacked s st))
          to =
              let nothing : st.cursor - st.cursor ≡ 0 = omega arith in
              ap (λ o. if_born o (take_born p st (Download st.ident st.cursor (load p (lacked s st))))) f.born
              ∙ yes (st.ident == st.ident) _ (refuse NotMine) (test_true st.ident st.ident refl)
              ∙ no_else (nat_lt st.cursor st.cursor) (refuse (Gap st.cursor st.cursor)) (take_entries p st (drop (st.cursor - st.cursor) (load p (lacked s st)))) (not_below st.cursor st.cursor (omega arith))
              ∙ ap (λ k. take_entries p st (drop k (load p (lacked s st)))) nothing

          taken : (v3 : World) → At v3 (after_all p s (serve p s (question st st.subset)).records) st (suc (suc n)) → message_at v3 (suc (suc n)) ≡ Some (Download st.ident st.cursor (load p (lacked s st))) → Leads v3 (Delivers (suc (suc n)) name ∷ rest) r
          taken v3 h3 there3 =
              let x = has_taken p (load p (lacked s st)) st in
              let fewer_ = fitting_few (λ (e : Sent). length e.body) p.most p.room (lacked s st) in
              let many = l.many in
              let in_it = l.in_it in
              let few_ = l.bounded in
              let go = takes_all p of most size harmless law within (load p (lacked s st)) st st.cursor (omega arith) (unsent_of h same ids) (fitting_each (λ (e : Sent). length e.body) p.most p.room (lacked s st) l.all) in
              takes p law built Never ⊥ (λ a. a) w0 name place nd0 not_server arms arms_server h3 (suc (suc n)) (Download st.ident st.cursor (load p (lacked s st))) there3 (take_entries p st (load p (lacked s st))) to rest r
              (λ why e. ⊎_elim
              (λ a. no_answer _ why (sym a.0 ∙ e))
              (λ a. go why e (stops_it why (declined p law built Never ⊥ (λ z. z) w0 name place nd0 not_server arms arms_server h3 (suc n) (Download st.ident st.cursor (load p (lacked s st))) there3 why (ap (λ d. d.answer) to ∙ e)) (subst IsOfTake (errs a.0 why (sym a.1 ∙ e)) a.2)))
              x.ends)
              (λ j v4 e h4. ⊎_elim
              (λ a. then_ v4 (after_all p s (serve p s (question st st.subset)).records) (after_records p st (take_entries p st (load p (lacked s st))).records) h4 t.log t.ids x.same a.1)
              (λ a. absurd (no_answer j a.0 (sym e ∙ a.1)))
              x.ends)
            where
              errs : (a b : ClientRefusal) → ◌≡◌ {A = Result ℕ ClientRefusal} (Err a) (Err b) → a ≡ b
              errs a b e = cc

      -- ---- a round

      number_at : {v : World} {s : Server I} {st : Client I S} {n : ℕ} (h : At v s st n) (ne : st.ident ≢ 0) (j : ℕ) (x : Unsent I) → at st.unsent j ≡ Some x → x.original.number ≡ suc (length (known h ne).sent + j)
      number_at {v} {s} {st} h ne j x here =
          let f = known h ne in
          let i = holds p law built Never ⊥ (λ a. a) w0 name place nd0 not_server arms arms_server h in
          let named_ : (client_of p h.node.records).ident ≢ 0 = λ z. ne (sym (ap (λ (c : Client I S). c.ident) h.client) ∙ z) in
          let g = (named_as p law (server_of p v.server) v.injected v.clients i.n i.sim place h.node (at_node p law built Never ⊥ (λ a. a) w0 name place nd0 not_server arms arms_server h) named_).given in
          let mades : i.n.mades st.ident ≡ map (as_log st.ident) st.made = subst (λ (c : Client I S). i.n.mades c.ident ≡ map (as_log c.ident) c.made) h.client g.mades in
          let spot : at (f.sent ++ map (λ (u : Unsent I). u.original) st.unsent) (length f.sent + j) ≡ Some x.original = at_behind f.sent (map (λ (u : Unsent I). u.original) st.unsent) j ∙ at_map (λ (u : Unsent I). u.original) st.unsent j x here in
          let there_is : at (i.n.mades st.ident) (length f.sent + j) ≡ Some (as_log st.ident x.original) = ap (λ l. at l (length f.sent + j)) (mades ∙ ap (map (as_log st.ident)) f.split) ∙ at_map (as_log st.ident) (f.sent ++ map (λ (u : Unsent I). u.original) st.unsent) (length f.sent + j) x.original spot in
          let k = (numbered_at (length f.sent + j) (as_log st.ident x.original) (i.sim.numbered st.ident) there_is).0 in
          omega arith

      -- so many of what is unsent come to the server at least
      sent_far : {v : World} {s : Server I} {st : Client I S} {n : ℕ} (h : At v s st n) → SameClient p st0 st → (ne : st.ident ≢ 0) (count_ : ℕ) → Each (λ x. x.number ≤ count_) (to_upload p st) → (j : ℕ) → j < b → j < length st.unsent → suc (length (known h ne).sent + j) ≤ count_
      sent_far {v} {s} {st} h same ne count_ each j lt in_it =
          let f = known h ne in
          let x = there st.unsent j in_it in
          let light = each_map {Q = λ (c : Change). length c.body ≤ size} (λ (u : Unsent I). change_of p u.original) (λ u g. g) (lights st.unsent (behind f.sent (map (λ (u : Unsent I). u.original) st.unsent) (subst (λ l. Each (λ o. of st.ident 0 o.instrs) l) f.split (plain same).made))) in
          let fit = first_fit (λ (c : Change). length c.body) size b p.most p.room (map (λ (u : Unsent I). change_of p u.original) st.unsent) light few fits in
          let first = first_each (take b (map (λ (u : Unsent I). change_of p u.original) st.unsent)) fit.0 (subst (Each (λ c. c.number ≤ count_)) fit.1 each) in
          let spot = at_take b j (map (λ (u : Unsent I). change_of p u.original) st.unsent) lt ∙ at_map (λ (u : Unsent I). change_of p u.original) st.unsent j x.0 x.1 in
          let le = each_at (take b (map (λ (u : Unsent I). change_of p u.original) st.unsent)) j (change_of p x.0.original) first spot in
          let number = number_at h ne j x.0 x.1 in
          omega arith
        where
          behind : {A : Type 0} {P : A → Type 0} (xs ys : List A) → Each P (xs ++ ys) → Each P ys
          behind [] ys g = g
          behind (x ∷ xs) ys (and_each g gs) = behind xs ys gs

          lights : (us : List (Unsent I)) → Each (λ o. of st.ident 0 o.instrs) (map (λ (u : Unsent I). u.original) us) → Each (λ u. length (p.spell u.original.instrs) ≤ size) us
          lights [] g = no_more
          lights (u ∷ us) (and_each g gs) = and_each (harmless.light st.ident 0 u.original.instrs g) (lights us gs)

      -- and so many of what it lacks come to it
      told_far : {v : World} {s : Server I} {st : Client I S} {n : ℕ} (h : At v s st n) → SameClient p st0 st → s.ids ≡ (server_of p w0.server).ids → (b ≤ length (load p (lacked s st))) ⊎ (length s.log ≤ st.cursor + length (load p (lacked s st)))
      told_far {v} {s} {st} h same ids =
          let l = lacks h same ids in
          let fit = first_fit (λ (e : Sent). length e.body) size b p.most p.room (lacked s st) (each_weaker (λ e g. light e g) l.all) few fits in
          let long = ap length fit.1 ∙ length-append (take b (lacked s st)) fit.0 in
          let many = l.many in
          ⊎_elim
          (λ le. let t = length_take b (lacked s st) le in inl (omega arith))
          (λ gt. let t = ap length (all_taken b (lacked s st) (omega arith)) in inr (omega arith))
          (le_or_lt b (length (lacked s st)))
        where
          light : (e : Sent) → SentOf p of most size harmless law within e → length e.body ≤ size
          light e g = let a = harmless.light e.origin g.met g.instrs g.is_of in let c = ap length g.body in omega arith

      pub round : {v : World} {s : Server I} {st : Client I S} {n : ℕ} → At v s st n → SameClient p st0 st → s.ids ≡ (server_of p w0.server).ids → (rest : List (Event I)) (r : World → Type 0)
          → ((v2 : World) (s2 : Server I) (st2 : Client I S) → At v2 s2 st2 (suc (suc (suc (suc n)))) → SameClient p st st2 → Onto s s2 st.ident → Gains b s2 st st2 → Leads v2 rest r)
          → Leads v (uploads_at name n ++ (asks_at name (suc (suc n)) ++ rest)) r
      round {v} {s} {st} {n} h same ids rest r then_ =
          uploaded h same ids (asks_at name (suc (suc n)) ++ rest) r (λ v2 s2 h2 x each.
          asked h2 same (x.ids ∙ ids) rest r (λ v3 s3 st3 h3 log_is ids3 same3 cursor.
          then_ v3 s3 st3 h3 same3
          (record { ids = ids3 ∙ x.ids; more = x.more; log = ap length log_is ∙ x.log; counts = ap (λ l. length (of_origin st.ident l)) log_is ∙ x.counts; others = λ d ne. ap (of_origin d) log_is ∙ x.others d ne })
          (gained v2 s2 s3 st3 h2 x each log_is cursor)))
        where
          ne : st.ident ≢ 0
          ne = (plain same).named

          gained : (v2 : World) (s2 s3 : Server I) (st3 : Client I S) (h2 : At v2 s2 st (suc (suc n))) → HasServed p s s2 st.ident (to_upload p st) (Stored st.ident (count s2 st.ident)) → Each (λ x. x.number ≤ count s2 st.ident) (to_upload p st) → s3.log ≡ s2.log → st3.cursor ≡ st.cursor + length (load p (lacked s2 st)) → Gains b s3 st st3
          gained v2 s2 s3 st3 h2 x each log_is cursor =
              let f = known h2 ne in
              let behind = own_behind st.ident st.cursor s2.log in
              let sent_count = f.sent_count in
              let split = ap length f.split ∙ length-append f.sent (map (λ (u : Unsent I). u.original) st.unsent) in
              let many = Rattle.sync_model.proofs.Lists.length_map (λ (u : Unsent I). u.original) st.unsent in
              let l = lacks h2 same (x.ids ∙ ids) in
              let in_it = l.in_it in
              let count_is : count s3 st.ident ≡ count s2 st.ident = ap (λ z. length (of_origin st.ident z)) log_is in
              let len = ap length log_is in
              let far = sent_far h2 same ne (count s2 st.ident) each in
              let told_ = told_far h2 same (x.ids ∙ ids) in
              record {
                uploads = by_size (le_or_lt b (length st.unsent)) far told_ behind sent_count split many in_it count_is len cursor;
                takes = ⊎_elim (λ le. inl (omega arith)) (λ le. inr (omega arith)) told_;
              }
            where
              by_size : (b ≤ length st.unsent) ⊎ (length st.unsent < b) → ((j : ℕ) → j < b → j < length st.unsent → suc (length (known h2 ne).sent + j) ≤ count s2 st.ident)
                  → (b ≤ length (load p (lacked s2 st))) ⊎ (length s2.log ≤ st.cursor + length (load p (lacked s2 st)))
                  → length (of_origin st.ident s2.log) ≤ length (of_origin st.ident (take st.cursor s2.log)) + (length s2.log - st.cursor)
                  → length (known h2 ne).sent ≡ length (of_origin st.ident (take st.cursor s2.log)) → length st.made ≡ length (known h2 ne).sent + length (map (λ (u : Unsent I). u.original) st.unsent) → length (map (λ (u : Unsent I). u.original) st.unsent) ≡ length st.unsent
                  → st.cursor ≤ length s2.log → count s3 st.ident ≡ count s2 st.ident → length s3.log ≡ length s2.log → st3.cursor ≡ st.cursor + length (load p (lacked s2 st))
                  → (st.cursor + b ≤ st3.cursor) ⊎ (length st.made ≤ count s3 st.ident)
              by_size (inl le) far told_ behind sent_count split many in_it count_is len cursor = all_of b le far told_
                where
                  all_of : (k : ℕ) → k ≤ length st.unsent → ((j : ℕ) → j < k → j < length st.unsent → suc (length (known h2 ne).sent + j) ≤ count s2 st.ident) → (k ≤ length (load p (lacked s2 st))) ⊎ (length s2.log ≤ st.cursor + length (load p (lacked s2 st))) → (st.cursor + k ≤ st3.cursor) ⊎ (length st.made ≤ count s3 st.ident)
                  all_of zero le far t = inl (omega arith)
                  all_of (suc k) le far t = let g = far k (omega arith) (omega arith) in ⊎_elim (λ a. inl (omega arith)) (λ a. inl (omega arith)) t
              by_size (inr gt) far told_ behind sent_count split many in_it count_is len cursor = inr (all_of (length st.unsent) refl)
                where
                  all_of : (k : ℕ) → length st.unsent ≡ k → length st.made ≤ count s3 st.ident
                  all_of zero is = taken_all (of_origin_first st.ident st.cursor s2.log)
                    where
                      of_origin_first : (c k : ℕ) (log : List (LogEntry (Changeset I))) → length (of_origin c (take k log)) ≤ length (of_origin c log)
                      of_origin_first c k log = Rattle.sync_model.proofs.Progress.Batches.own_before c k log

                      taken_all : length (of_origin st.ident (take st.cursor s2.log)) ≤ length (of_origin st.ident s2.log) → length st.made ≤ count s3 st.ident
                      taken_all le = omega arith
                  all_of (suc k) is = let g = far k (omega arith) (omega arith) in omega arith
