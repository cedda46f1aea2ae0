-- The server answers a message.
use Rattle.std.proofs.Common.{◌≡◌, ◌≢◌, ◌⊎◌, inl, inr, ⊎_elim, ℕ, zero, suc, ◌+◌, ◌-◌, ◌<◌, ◌≤◌, Bool, true, false, ◌&&◌, not, List, [], ◌∷◌, ◌++◌, Option, Some, None, Result, Ok, Err, refl, sym, ap, ◌∙◌, subst, subst₂, arith, append_assoc, if◌then◌else◌, ◌==◌, length, take, map, length-append, nat_le, nat_lt, eqb-true}
use Rattle.std.proofs.lemmas.Bool.Decides.{nat_tests}
use Rattle.std.proofs.lemmas.Bool.{ltb-false}
use Rattle.sync_model.specs.Bytes.{Uuid, Tables}
use Rattle.sync_theory.specs.Lists.{kept}
use Rattle.sync_theory.specs.Grid.{Carried, carry, reciprocal, tail}
use Rattle.sync_theory.specs.Logs.{Made as LogMade, Entry as LogEntry, made_at, of_origin, origin_at, Nodes, world_of}
use Rattle.sync_theory.proofs.Recip.{carry_carried}
use Rattle.sync_theory.proofs.Server.{test_true}
use Rattle.sync_theory.specs.Changesets.{Changeset}
use Rattle.sync_theory.specs.Lists.{ok_state}
use Rattle.sync_model.specs.Profile.{Profile, Stuck, apply_all, act_changeset, cross_changesets, is_small, restricted, Lawful, needs, fitting}
use Rattle.sync_model.specs.Messages.{Change, Sent, Message, Bind, Ident, Upload, Ask, Download, Refused, Stored, Ask2, Retire, Retired, AskTables}
use Rattle.sync_model.specs.Clients.{state_or, ok_list, change_of}
use Rattle.sync_model.specs.Servers.{Server, ServerRecord, Client, Entry, Form, ServerStep, ServerRefusal, NumberGap, BaseBack, AheadOfHistory, HistoryFull, IdentRetired, SelfRetire, RetiredBy, code_of, at_place, heir_of, is_retired, retire_for, serve_retire, place_of, last_base, after_server, after_all, entry_of, made_in, history_of, state_of, entries_from, server_objects, count, new_records, merge_applied, merge_carried, carried_change, merge_read, merge, merged, serve_changes, sent_of, serve_bind, download, first_form, download_first, download_tables, if_there, is_given, serve, refuses, replies, Settled, marking, marks_new}
use Rattle.sync_model.specs.Worlds.{Node, at}
use Rattle.sync_model.specs.Each.{no_more, and_each}
use Rattle.sync_theory.proofs.Logs.{Rising}
use Rattle.sync_model.proofs.Limits.{each_at, each_map}
use Rattle.sync_model.proofs.Small.{SmallSets, SmallMade, SmallLog, entries_small, read_small, client_lists}
use Rattle.sync_model.proofs.Restricting.{restricted_small}
use Rattle.sync_model.proofs.Stamps.{SameStamp, apply_is, carry_stamp}
use Rattle.sync_model.proofs.Moves.{waiting_here, waiting_none}
use Rattle.sync_model.proofs.Lists.{class, place_new, take_all, find_uuid, at_of_map, own_class, own_not_zero}
use Rattle.sync_model.proofs.Sim.{as_log, Numbered, no_numbers, a_number, uuid_of, uuids, Bears, no_entries, an_entry, Uploaded, a_change, Sim, TellsUpload, Tells, Away, Later, HasForm, HasTables, AllOld, no_more_old, an_old, Reads, longer}
use Rattle.sync_model.proofs.Steps.{later_refl}
use Rattle.sync_model.proofs.Idents.{with_id, bind_own, bind_foreign, form_sim, retired_sim, mark_sim}
use Rattle.sync_model.proofs.Entries.{with_entry, entry_own, entry_own_later, entry_foreign, entry_foreign_later}
use Rattle.sync_model.proofs.Own.{good_of}

-- ---- a test that doesn't refuse

pub not_err : {A E : Type 0} (b : Bool) (w : E) (r : Result A E) (v : A) → (if b then Err w else r) ≡ Ok v → (b ≡ false) × (r ≡ Ok v)
not_err true w r v e = cc
not_err false w r v e = (refl, e)

pub nobody : (o : Option ℕ) → is_retired o ≡ false → o ≡ None
nobody None e = refl
nobody (Some by) e = cc

at_head : {A : Type 0} (xs ys : List A) (m : A) → at (xs ++ ys) (length xs) ≡ Some m → ys ≡ m ∷ tail ys
at_head [] [] m e = cc
at_head [] (y ∷ ys) m e = let h : y ≡ m = cc in ap (λ z. z ∷ ys) h
at_head (x ∷ xs) ys m e = at_head xs ys m e

pub numbered_at : {I : Type 0} {c k : ℕ} {ms : List (LogMade (Changeset I))} (i : ℕ) (m : LogMade (Changeset I)) → Numbered c k ms → at ms i ≡ Some m → (m.change.number ≡ k + i) × (m.change.origin ≡ c)
numbered_at i m no_numbers e = cc
numbered_at zero m (a_number {m = q} g h r) e = let f : q ≡ m = cc in (ap (λ x. x.change.number) (sym f) ∙ h ∙ plus_zero, ap (λ x. x.change.origin) (sym f) ∙ g)
  where
    plus_zero : {k : ℕ} → k ≡ k + 0
    plus_zero = omega arith
numbered_at (suc i) m (a_number g h r) e = let f = numbered_at i m r e in (omega arith, f.1)

module _ {I S : Type 0} (p : Profile I S) where
  pub later_then : {n m o : Nodes (Changeset I) S} {ids ids2 ids3 : List Uuid} {cls cls2 cls3 : List Node} → Later p n ids cls m ids2 cls2 → Later p m ids2 cls2 o ids3 cls3 → Later p n ids cls o ids3 cls3
  later_then {n} {m} {o} {ids} {ids2} a b =
      let g = a.grows in
      let h = b.grows in
      let l = longer p g in
      let more_len = ap length a.ids_are ∙ length-append ids a.more_ids in
      record {
        grows = record { more = g.more ++ h.more; log = h.log ∙ ap (λ x. x ++ h.more) g.log ∙ append_assoc n.log g.more h.more; entries = λ k lt. h.entries k (omega arith) ∙ g.entries k lt };
        mades = λ c. ((a.mades c).0 ++ (b.mades c).0, (b.mades c).1 ∙ ap (λ x. x ++ (b.mades c).0) (a.mades c).1 ∙ append_assoc (n.mades c) (a.mades c).0 (b.mades c).0);
        more_ids = a.more_ids ++ b.more_ids;
        ids_are = b.ids_are ∙ ap (λ x. x ++ b.more_ids) a.ids_are ∙ append_assoc ids a.more_ids b.more_ids;
        still_own = λ c ne le. b.still_own c ne (omega arith) ∙ a.still_own c ne le;
        still_there = λ i u e. b.still_there i u (a.still_there i u e);
        cursors = λ c. let x = a.cursors c in let y = b.cursors c in omega arith;
        forms = λ c f. b.forms c (a.forms c f);
        subsets = λ c t f. b.subsets c t (a.subsets c t f);
      }

  pub record ServerNext (s : Server I) (cls : List Node) (inj : List Uuid) (n : Nodes (Changeset I) S) (s2 : Server I) : Type 0 where
    pub m : Nodes (Changeset I) S
    pub sim : Sim p s2 cls inj m
    pub later : Later p n s.ids cls m s2.ids cls

  abbrev pub stay : (s : Server I) (cls : List Node) (inj : List Uuid) (n : Nodes (Changeset I) S) → Sim p s cls inj n → ServerNext s cls inj n s
  stay s cls inj n sim = record { m = n; sim = sim; later = later_refl p n s.ids cls }

  next_then : {s s2 s3 : Server I} {cls : List Node} {inj : List Uuid} {n : Nodes (Changeset I) S} → (a : ServerNext s cls inj n s2) → ServerNext s2 cls inj a.m s3 → ServerNext s cls inj n s3
  next_then a b = record { m = b.m; sim = b.sim; later = later_then a.later b.later }

  -- the records of an answer may be cut anywhere
  pub record Served (s : Server I) (cls : List Node) (inj : List Uuid) (n : Nodes (Changeset I) S) (did : ServerStep) : Type 0 where
    pub cut : (j : ℕ) → ServerNext s cls inj n (after_all p s (take j did.records))
    pub done : ServerNext s cls inj n (after_all p s did.records)
    pub tells : Tells p done.m (after_all p s did.records).ids cls did.answer

  -- no records
  silent : (s : Server I) (cls : List Node) (inj : List Uuid) (n : Nodes (Changeset I) S) → Sim p s cls inj n → (j : ℕ) → ServerNext s cls inj n (after_all p s (take j []))
  silent s cls inj n sim zero = stay s cls inj n sim
  silent s cls inj n sim (suc j) = stay s cls inj n sim

  answered : (s : Server I) (cls : List Node) (inj : List Uuid) (n : Nodes (Changeset I) S) → Sim p s cls inj n → (m : Message) → Tells p n s.ids cls m → Served s cls inj n (replies m)
  answered s cls inj n sim m t = record { cut = silent s cls inj n sim; done = stay s cls inj n sim; tells = t }

  -- the record of a settled number, if it is new
  abbrev marked_next : (s : Server I) (cls : List Node) (inj : List Uuid) (n : Nodes (Changeset I) S) → Sim p s cls inj n → (c settled : ℕ) → ServerNext s cls inj n (after_server p s (Settled c settled))
  marked_next s cls inj n sim c settled = record { m = n; sim = mark_sim p s cls inj n (Rattle.sync_theory.specs.World.put_at c settled s.marks) sim; later = later_refl p n s.ids cls }

  marked : (s : Server I) (cls : List Node) (inj : List Uuid) (n : Nodes (Changeset I) S) → Sim p s cls inj n → (c mark cursor settled : ℕ) (m : Message) → Tells p n s.ids cls m → Served s cls inj n (marking c mark cursor settled m)
  marked s cls inj n sim c mark cursor settled m t = on (marks_new mark cursor settled m)
    where
      cut : (j : ℕ) → ServerNext s cls inj n (after_all p s (take j (Settled c settled ∷ [])))
      cut zero = stay s cls inj n sim
      cut (suc zero) = marked_next s cls inj n sim c settled
      cut (suc (suc j)) = marked_next s cls inj n sim c settled

      on : (b : Bool) → Served s cls inj n (record { records = if b then Settled c settled ∷ [] else []; answer = m })
      on false = record { cut = silent s cls inj n sim; done = stay s cls inj n sim; tells = t }
      on true = record { cut = cut; done = marked_next s cls inj n sim c settled; tells = t }

  -- ---- a change that is integrated

  pub record Merging (s : Server I) (c : ℕ) (h : Change) (new : List ServerRecord) : Type 0 where
    pub active : heir_of c s.retired ≡ None
    pub gap : h.number ≤ suc (count s c)
    pub back : last_base (of_origin c s.log) ≤ h.base
    pub ahead : h.base ≤ length s.log
    pub unfilled : length s.log ≢ p.full
    pub instrs : List I
    pub read : p.unspell h.body ≡ Ok instrs
    pub entry : Changeset I
    pub others : List (Changeset I)
    pub carried : carried_change p s c h instrs ≡ Ok (entry, others)
    pub state : S
    pub acts : act_changeset p entry (server_objects p s) ≡ Some state
    pub new_is : new ≡ new_records p s c h instrs

  record Applied (s : Server I) (x : Changeset I) (mine new : List ServerRecord) : Type 0 where
    state : S
    acts : act_changeset p x (server_objects p s) ≡ Some state
    new_is : new ≡ mine

  applied : (s : Server I) (x : Changeset I) (mine new : List ServerRecord) (r : Result S (ℕ × ℕ)) → apply_all p x.instrs (server_objects p s) ≡ r → merge_applied mine r ≡ Ok new → Applied s x mine new
  applied s x mine new (Ok t) is e = record { state = t; acts = apply_is p x.instrs (server_objects p s) ∙ ap ok_state is; new_is = cc }
  applied s x mine new (Err b) is e = cc

  record CarriedOn (s : Server I) (mine new : List ServerRecord) (r : Result (Changeset I × List (Changeset I)) Stuck) : Type 0 where
    entry : Changeset I
    others : List (Changeset I)
    is : r ≡ Ok (entry, others)
    then_ : Applied s entry mine new

  carried_on : (s : Server I) (mine new : List ServerRecord) (r : Result (Changeset I × List (Changeset I)) Stuck) → merge_carried p s mine r ≡ Ok new → CarriedOn s mine new r
  carried_on s mine new (Ok q) e = record { entry = q.0; others = q.1; is = refl; then_ = applied s q.0 mine new (apply_all p q.0.instrs (server_objects p s)) refl e }
  carried_on s mine new (Err m) e = cc

  record ReadOn (s : Server I) (c : ℕ) (h : Change) (new : List ServerRecord) (r : Result (List I) (ℕ × ℕ)) : Type 0 where
    instrs : List I
    is : r ≡ Ok instrs
    then_ : CarriedOn s (new_records p s c h instrs) new (carried_change p s c h instrs)

  read_on : (s : Server I) (c : ℕ) (h : Change) (new : List ServerRecord) (r : Result (List I) (ℕ × ℕ)) → merge_read p s c h r ≡ Ok new → ReadOn s c h new r
  read_on s c h new (Ok is) e = record { instrs = is; is = refl; then_ = carried_on s (new_records p s c h is) new (carried_change p s c h is) e }
  read_on s c h new (Err f) e = cc

  pub merging : (s : Server I) (c : ℕ) (h : Change) (new : List ServerRecord) → merge p s c h ≡ Ok new → Merging s c h new
  merging s c h new e =
      let z = not_err (is_retired (heir_of c s.retired)) _ _ new e in
      let a = not_err (nat_lt (suc (count s c)) h.number) _ _ new z.1 in
      let b = not_err (nat_lt h.base (last_base (of_origin c s.log))) _ _ new a.1 in
      let d = not_err (nat_lt (length s.log) h.base) _ _ new b.1 in
      let f = not_err (length s.log == p.full) _ _ new d.1 in
      let r = read_on s c h new (p.unspell h.body) f.1 in
      record {
        active = nobody (heir_of c s.retired) z.0;
        gap = ltb-false (suc (count s c)) h.number a.0;
        back = ltb-false h.base (last_base (of_origin c s.log)) b.0;
        ahead = ltb-false (length s.log) h.base d.0;
        unfilled = λ z. let t = test_true (length s.log) p.full z in let u = f.0 in cc;
        instrs = r.instrs;
        read = r.is;
        entry = r.then_.entry;
        others = r.then_.others;
        carried = r.then_.is;
        state = r.then_.then_.state;
        acts = r.then_.then_.acts;
        new_is = r.then_.then_.new_is;
      }

  -- ---- an upload

  abbrev pub made_of : ℕ → Change → List I → LogMade (Changeset I)
  made_of c h is = record { base = h.base; change = record { origin = c; number = h.number; ms = h.ms; instrs = is } }

  -- of a message that is known to carry nothing
  abbrev pub IsPlain : Message → Type 0
  IsPlain (Bind u) = ⊥
  IsPlain (Ident u c) = ⊥
  IsPlain (Upload c hs) = ⊥
  IsPlain (Ask c cursor settled) = ⊥
  IsPlain (Ask2 c cursor settled) = ⊥
  IsPlain (AskTables c cursor settled second tables) = ⊥
  IsPlain (Download c from es) = ⊥
  IsPlain (Refused c number code place) = Unit {0}
  IsPlain (Stored c number) = Unit {0}
  IsPlain (Retire c by) = ⊥
  IsPlain (Retired c by number) = Unit {0}

  plain_tells : (n : Nodes (Changeset I) S) (ids : List Uuid) (cls : List Node) (m : Message) → IsPlain m → Tells p n ids cls m
  plain_tells n ids us (Bind u) t = absurd t
  plain_tells n ids us (Ident u c) t = absurd t
  plain_tells n ids us (Upload c hs) t = absurd t
  plain_tells n ids us (Ask c cursor settled) t = absurd t
  plain_tells n ids us (Ask2 c cursor settled) t = absurd t
  plain_tells n ids us (AskTables c cursor settled second tables) t = absurd t
  plain_tells n ids us (Download c from es) t = absurd t
  plain_tells n ids us (Refused c number code place) t = tt
  plain_tells n ids us (Stored c number) t = tt
  plain_tells n ids us (Retire c by) t = absurd t
  plain_tells n ids us (Retired c by number) t = tt

  upload_plain : (s : Server I) (c : ℕ) (hs : List Change) → IsPlain (serve_changes p s c hs).answer
  upload_plain s c [] = tt
  upload_plain s c (h ∷ hs) = go (nat_le h.number (count s c)) (merge p s c h) (upload_plain s c hs) (λ new. upload_plain (after_all p s new) c hs)
    where
      on : (r : Result (List ServerRecord) ServerRefusal) → ((new : List ServerRecord) → IsPlain (serve_changes p (after_all p s new) c hs).answer) → IsPlain (merged c h.number r (λ new. serve_changes p (after_all p s new) c hs)).answer
      on (Ok new) t = t new
      on (Err why) t = tt

      go : (b : Bool) (r : Result (List ServerRecord) ServerRefusal) → IsPlain (serve_changes p s c hs).answer → ((new : List ServerRecord) → IsPlain (serve_changes p (after_all p s new) c hs).answer) → IsPlain (if b then serve_changes p s c hs else merged c h.number r (λ new. serve_changes p (after_all p s new) c hs)).answer
      go true r skip t = skip
      go false r skip t = on r t

  module _ {Fits : S → Type 0} (law : Lawful p Fits) (cls : List Node) (inj : List Uuid) where
    abbrev us : List (Option Uuid)
    us = uuids p cls

    pub carried_of : (s : Server I) (n : Nodes (Changeset I) S) (sim : Sim p s cls inj n) (c : ℕ) (h : Change) (is : List I) (x : Changeset I) (es : List (Changeset I)) → h.base ≤ length s.log → carried_change p s c h is ≡ Ok (x, es) → Carried (cross_changesets p) (λ c k. made_at (of_origin c n.log) k) (λ k. origin_at n.log k) c h.base (made_of c h is).change (length n.log) x
    carried_of s n sim c h is x es a r =
        let good = good_of p law s cls inj n sim in
        let e = subst (λ l. carry (cross_changesets p) (made_of c h is).change (reciprocal (cross_changesets p) (made_in p l) (λ k. origin_at l k) c (length l - h.base) h.base) ≡ Ok (x, es)) (sym sim.log_is) r in
        let l = ap length sim.log_is in
        carry_carried (cross_changesets p) (λ c k. made_at (of_origin c n.log) k) (λ k. origin_at n.log k) c (length n.log - h.base) h.base (made_of c h is).change x es (length n.log) (omega arith) (λ k b lt ne. good.log.clear c k lt ne) e

    pub objects_of : (s : Server I) (n : Nodes (Changeset I) S) → Sim p s cls inj n → server_objects p s ≡ n.objects
    objects_of s n sim = ap (λ l. state_or p.empty (state_of p l (length l))) (sym sim.log_is) ∙ ap (state_or p.empty) (good_of p law s cls inj n sim).log.state

    -- what the server's merge gives the abstract world
    module _ (s : Server I) (n : Nodes (Changeset I) S) (sim : Sim p s cls inj n) (c : ℕ) (h : Change) (new : List ServerRecord) (g : Merging s c h new) where
      pub carried_here : Carried (cross_changesets p) (λ c k. made_at (of_origin c n.log) k) (λ k. origin_at n.log k) c h.base (made_of c h g.instrs).change (length n.log) g.entry
      carried_here = carried_of s n sim c h g.instrs g.entry g.others g.ahead g.carried

      objects_are : server_objects p s ≡ n.objects
      objects_are = objects_of s n sim

      pub acts_here : act_changeset p g.entry n.objects ≡ Some g.state
      acts_here = ap (act_changeset p g.entry) (sym objects_are) ∙ g.acts

      pub stamp_here : SameStamp (made_of c h g.instrs).change g.entry
      stamp_here = carry_stamp p (reciprocal (cross_changesets p) (made_in p s.log) (λ k. origin_at s.log k) c (length s.log - h.base) h.base) (made_of c h g.instrs).change g.entry g.others g.carried

      after_entry : (s1 : Server I) → after_server p s1 (Entry c h.number h.base h.ms h.body) ≡ with_entry p s1 c (made_of c h g.instrs)
      after_entry s1 = ap (λ r. record s1 { log = s1.log ++ entry_of c h (ok_list r) ∷ [] }) g.read

      -- the records may be cut before, between and behind
      module _ (o : Nodes (Changeset I) S) (entry1 : (s1 : Server I) → Sim p s1 cls inj n → s1.log ≡ s.log → s1.ids ≡ s.ids → Sim p (with_entry p s1 c (made_of c h g.instrs)) cls inj o) (later1 : Later p n s.ids cls o s.ids cls) where
        to_entry : (s1 : Server I) → Sim p s1 cls inj n → s1.log ≡ s.log → s1.ids ≡ s.ids → ServerNext s cls inj n (after_server p s1 (Entry c h.number h.base h.ms h.body))
        to_entry s1 sim1 l i = record {
          m = o;
          sim = subst (λ z. Sim p z cls inj o) (sym (after_entry s1)) (entry1 s1 sim1 l i);
          later = subst (λ z. Later p n s.ids cls o z cls) (sym (ap (λ z. z.ids) (after_entry s1) ∙ i)) later1;
        }

        -- the records of the change, and then any more
        pub cut_at : (rest : List ServerRecord) → ((s2 : Server I) (b : ServerNext s cls inj n s2) → (b.m ≡ o) → s2 ≡ after_all p s new → s2.ids ≡ s.ids → (j : ℕ) → ServerNext s2 cls inj b.m (after_all p s2 (take j rest))) → (j : ℕ) → ServerNext s cls inj n (after_all p s (take j (new ++ rest)))
        unfolding to_entry
        cut_at rest go = subst (λ l. ((s2 : Server I) (b : ServerNext s cls inj n s2) → (b.m ≡ o) → s2 ≡ after_all p s l → s2.ids ≡ s.ids → (j : ℕ) → ServerNext s2 cls inj b.m (after_all p s2 (take j rest))) → (j : ℕ) → ServerNext s cls inj n (after_all p s (take j (l ++ rest)))) (sym g.new_is) (cuts (needs p g.instrs && not s.second)) go
          where
            cuts : (b : Bool) → ((s2 : Server I) (b1 : ServerNext s cls inj n s2) → (b1.m ≡ o) → s2 ≡ after_all p s ((if b then Form ∷ [] else []) ++ Entry c h.number h.base h.ms h.body ∷ []) → s2.ids ≡ s.ids → (j : ℕ) → ServerNext s2 cls inj b1.m (after_all p s2 (take j rest))) → (j : ℕ) → ServerNext s cls inj n (after_all p s (take j (((if b then Form ∷ [] else []) ++ Entry c h.number h.base h.ms h.body ∷ []) ++ rest)))
            cuts true go zero = stay s cls inj n sim
            cuts true go (suc zero) = record { m = n; sim = form_sim p s cls inj n sim; later = later_refl p n s.ids cls }
            cuts true go (suc (suc j)) =
                let a = to_entry (record s { second = true }) (form_sim p s cls inj n sim) refl refl in
                next_then a (go (after_server p (record s { second = true }) (Entry c h.number h.base h.ms h.body)) a refl refl refl j)
            cuts false go zero = stay s cls inj n sim
            cuts false go (suc j) =
                let a = to_entry s sim refl refl in
                next_then a (go (after_server p s (Entry c h.number h.base h.ms h.body)) a refl refl refl j)

        -- all of them
        pub record Entered : Type 0 where
          pub whole : ServerNext s cls inj n (after_all p s new)
          pub is : whole.m ≡ o
          pub ids_are : (after_all p s new).ids ≡ s.ids

        pub entered : Entered
        entered = on (needs p g.instrs && not s.second) g.new_is
          where
            form1 : Sim p (record s { second = true }) cls inj n
            form1 = form_sim p s cls inj n sim

            made : (l : List ServerRecord) (s1 : Server I) → Sim p s1 cls inj n → s1.log ≡ s.log → s1.ids ≡ s.ids → after_all p s l ≡ after_server p s1 (Entry c h.number h.base h.ms h.body) → new ≡ l → Entered
            made l s1 sim1 log_ ids_ l_is is =
                let all = ap (after_all p s) is ∙ l_is ∙ after_entry s1 in
                record {
                  whole = record { m = o; sim = subst (λ z. Sim p z cls inj o) (sym all) (entry1 s1 sim1 log_ ids_); later = subst (λ z. Later p n s.ids cls o z cls) (sym (ap (λ z. z.ids) all ∙ ids_)) later1 };
                  is = refl;
                  ids_are = ap (λ z. z.ids) all ∙ ids_;
                }

            on : (b : Bool) → new ≡ (if b then Form ∷ [] else []) ++ Entry c h.number h.base h.ms h.body ∷ [] → Entered
            on true is = made (Form ∷ Entry c h.number h.base h.ms h.body ∷ []) (record s { second = true }) form1 refl refl refl is
            on false is = made (Entry c h.number h.base h.ms h.body ∷ []) s sim refl refl refl is

    -- the changes of a client of the exchange

    pub own_change : (n : Nodes (Changeset I) S) (c f : ℕ) (m : LogMade (Changeset I)) (h : Change) (is : List I) → Numbered c 1 (n.mades c) → at (n.mades c) f ≡ Some m → h ≡ change_of p (record { base = m.base; number = m.change.number; ms = m.change.ms; instrs = m.change.instrs }) → is_small p m.change.instrs ≡ true → p.unspell h.body ≡ Ok is → made_of c h is ≡ m
    own_change n c f m h is numbered here h_is small read =
        let b = ap (λ z. z.base) h_is in
        let k = ap (λ z. z.number) h_is in
        let ms = ap (λ z. z.ms) h_is in
        let o = (numbered_at f m numbered here).1 in
        let body = ap (λ z. p.unspell z.body) h_is in
        let back = law.spelled m.change.instrs small in
        let instrs : is ≡ m.change.instrs = cc (read, body, back) in
        λ i. record { base = b i; change = record { origin = sym o i; number = k i; ms = ms i; instrs = instrs i } }

    -- what a client of the exchange made is within the limits of a changeset
    pub made_small : (s : Server I) (n : Nodes (Changeset I) S) (sim : Sim p s cls inj n) (c k : ℕ) (m : LogMade (Changeset I)) → class s.ids us c ≡ true → at (n.mades c) k ≡ Some m → is_small p m.change.instrs ≡ true
    made_small s n sim c k m mine here =
        let o = own_class s.ids us c mine in
        let nd = at_of_map (uuid_of p) cls o.0 (Some o.1) o.2 in
        let w = sim.clients o.0 nd.0 nd.1 in
        let a = w.born in
        let b = nd.2 in
        let same : w.id ≡ o.1 = cc (a, b) in
        let is : c ≡ place_of w.id s.ids = o.3 ∙ ap (λ x. place_of x s.ids) (sym same) in
        ⊎_elim (λ f. absurd (own_not_zero s.ids us c mine (is ∙ f.0)))
        (λ g. each_at (n.mades c) k m (subst (λ l. SmallMade p l) (sym (ap n.mades is ∙ g.1.mades)) (each_map (as_log (place_of w.id s.ids)) (λ q h. h) (client_lists p law nd.0.records).made)) here)
        w.is

    pub serve_own : (hs : List Change) (s : Server I) (n : Nodes (Changeset I) S) (sim : Sim p s cls inj n) (c f : ℕ) → c ≢ 0 → c ≤ length s.ids → class s.ids us c ≡ true → f ≤ length (of_origin c n.log) → Uploaded p (n.mades c) f hs → (j : ℕ) → ServerNext s cls inj n (after_all p s (take j (serve_changes p s c hs).records))
    serve_own [] s n sim c f given there mine known up = silent s cls inj n sim
    serve_own (h ∷ hs) s n sim c f given there mine known (a_change m here h_is up) =
        go (nat_le h.number (count s c)) refl (merge p s c h) refl (serve_own hs)
      where
        number_is : h.number ≡ suc f
        number_is = let a = ap (λ z. z.number) h_is in let b = (numbered_at f m (sim.numbered c) here).0 in omega arith

        count_is : count s c ≡ length (of_origin c n.log)
        count_is = ap (λ l. length (of_origin c l)) (sym sim.log_is)

        at_end : (xs ys : List (LogMade (Changeset I))) → n.mades c ≡ xs ++ ys → f ≡ length xs → n.mades c ≡ xs ++ m ∷ tail ys
        at_end xs ys e is = e ∙ ap (λ l. xs ++ l) (at_head xs ys m (subst₂ (λ l k. at l k ≡ Some m) e is here))

        go : (b : Bool) → nat_le h.number (count s c) ≡ b → (r : Result (List ServerRecord) ServerRefusal) → merge p s c h ≡ r
            → ((s2 : Server I) (n2 : Nodes (Changeset I) S) (sim2 : Sim p s2 cls inj n2) (c2 f2 : ℕ) → c2 ≢ 0 → c2 ≤ length s2.ids → class s2.ids us c2 ≡ true → f2 ≤ length (of_origin c2 n2.log) → Uploaded p (n2.mades c2) f2 hs → (j : ℕ) → ServerNext s2 cls inj n2 (after_all p s2 (take j (serve_changes p s2 c2 hs).records)))
            → (j : ℕ) → ServerNext s cls inj n (after_all p s (take j (if b then serve_changes p s c hs else merged c h.number r (λ new. serve_changes p (after_all p s new) c hs)).records))
        go true b_is r r_is rec =
            let le : h.number ≤ count s c = grind (arith, nat_tests) in
            let a = number_is in
            let b = count_is in
            rec s n sim c (suc f) given there mine (omega arith) up
        go false b_is (Err why) r_is rec = silent s cls inj n sim
        go false b_is (Ok new) r_is rec =
            let gt : count s c < h.number = grind (arith, nat_tests) in
            let a = number_is in
            let b = count_is in
            let f_is : f ≡ length (of_origin c n.log) = omega arith in
            let g = merging s c h new r_is in
            let same = own_change n c f m h g.instrs (sim.numbered c) here h_is (made_small s n sim c f m mine here) g.read in
            let ahead = sim.ahead c in
            let next : n.mades c ≡ of_origin c n.log ++ made_of c h g.instrs ∷ tail ahead.0 = at_end (of_origin c n.log) ahead.0 ahead.1 f_is ∙ ap (λ z. of_origin c n.log ++ z ∷ tail ahead.0) (sym same) in
            let o : Nodes (Changeset I) S = Rattle.sync_theory.specs.Logs.nodes_integrate n c (made_of c h g.instrs) g.entry g.state in
            let longer_ = ap length (Rattle.sync_model.proofs.Moves.origin_here c (made_of c h g.instrs) n.log) ∙ Rattle.sync_theory.proofs.Logs.length_snoc (of_origin c n.log) (made_of c h g.instrs) in
            cut_at s n sim c h new g o
            (λ s1 sim1 l i. entry_own p s1 cls inj n sim1 c (made_of c h g.instrs) g.entry g.state (stamp_here s n sim c h new g) refl (read_small p law h.body g.instrs g.read) (carried_here s n sim c h new g) (acts_here s n sim c h new g) (tail ahead.0) next (ap (λ z. class z us c) i ∙ mine))
            (entry_own_later p s cls inj n sim c (made_of c h g.instrs) g.entry g.state (stamp_here s n sim c h new g) refl (read_small p law h.body g.instrs g.read) (carried_here s n sim c h new g) (acts_here s n sim c h new g) (tail ahead.0) next mine)
            (serve_changes p (after_all p s new) c hs).records
            (λ s2 b1 m_is s2_is ids_are j.
            let up2 : Uploaded p (b1.m.mades c) (suc f) hs = subst (λ z. Uploaded p (z.mades c) (suc f) hs) (sym m_is) up in
            let known2 : suc f ≤ length (of_origin c b1.m.log) = subst (λ z. suc f ≤ length (of_origin c z.log)) (sym m_is) (omega (arith, longer_)) in
            subst (λ z. ServerNext s2 cls inj b1.m (after_all p s2 (take j (serve_changes p z c hs).records))) s2_is
            (rec s2 b1.m b1.sim c (suc f) given (subst (λ z. c ≤ length z) (sym ids_are) there) (ap (λ z. class z us c) ids_are ∙ mine) known2 up2 j))

    -- the changes of a stranger

    pub serve_foreign : (hs : List Change) (s : Server I) (n : Nodes (Changeset I) S) (sim : Sim p s cls inj n) (c : ℕ) → c ≢ 0 → c ≤ length s.ids → class s.ids us c ≡ false → (j : ℕ) → ServerNext s cls inj n (after_all p s (take j (serve_changes p s c hs).records))
    serve_foreign [] s n sim c given there theirs = silent s cls inj n sim
    serve_foreign (h ∷ hs) s n sim c given there theirs =
        go (nat_le h.number (count s c)) refl (merge p s c h) refl (serve_foreign hs)
      where
        go : (b : Bool) → nat_le h.number (count s c) ≡ b → (r : Result (List ServerRecord) ServerRefusal) → merge p s c h ≡ r
            → ((s2 : Server I) (n2 : Nodes (Changeset I) S) (sim2 : Sim p s2 cls inj n2) (c2 : ℕ) → c2 ≢ 0 → c2 ≤ length s2.ids → class s2.ids us c2 ≡ false → (j : ℕ) → ServerNext s2 cls inj n2 (after_all p s2 (take j (serve_changes p s2 c2 hs).records)))
            → (j : ℕ) → ServerNext s cls inj n (after_all p s (take j (if b then serve_changes p s c hs else merged c h.number r (λ new. serve_changes p (after_all p s new) c hs)).records))
        go true b_is r r_is rec = rec s n sim c given there theirs
        go false b_is (Err why) r_is rec = silent s cls inj n sim
        go false b_is (Ok new) r_is rec =
            let gt : count s c < h.number = grind (arith, nat_tests) in
            let g = merging s c h new r_is in
            let gap = g.gap in
            let count_is : count s c ≡ length (of_origin c n.log) = ap (λ l. length (of_origin c l)) (sym sim.log_is) in
            let number : h.number ≡ suc (length (of_origin c n.log)) = omega arith in
            let back = subst (λ l. last_base (of_origin c l) ≤ h.base) (sym sim.log_is) g.back in
            let ahead = subst (λ l. h.base ≤ length l) (sym sim.log_is) g.ahead in
            let o : Nodes (Changeset I) S = Rattle.sync_model.proofs.Moves.nodes_foreign n c (made_of c h g.instrs) g.entry g.state in
            cut_at s n sim c h new g o
            (λ s1 sim1 l i. entry_foreign p s1 cls inj n sim1 c (made_of c h g.instrs) g.entry g.state (stamp_here s n sim c h new g) refl (read_small p law h.body g.instrs g.read) (carried_here s n sim c h new g) (acts_here s n sim c h new g) (ap (λ z. class z us c) i ∙ theirs) given (subst (λ z. c ≤ length z) (sym i) there) number back ahead)
            (entry_foreign_later p s cls inj n sim c (made_of c h g.instrs) g.entry g.state (stamp_here s n sim c h new g) refl (read_small p law h.body g.instrs g.read) (carried_here s n sim c h new g) (acts_here s n sim c h new g) theirs given there number back ahead)
            (serve_changes p (after_all p s new) c hs).records
            (λ s2 b1 m_is s2_is ids_are j.
            subst (λ z. ServerNext s2 cls inj b1.m (after_all p s2 (take j (serve_changes p z c hs).records))) s2_is
            (rec s2 b1.m b1.sim c given (subst (λ z. c ≤ length z) (sym ids_are) there) (ap (λ z. class z us c) ids_are ∙ theirs) j))

    -- ---- a download

    pub entries_bear : (s : Server I) (n : Nodes (Changeset I) S) → Sim p s cls inj n → (o : Option Tables) (d k : ℕ) → k + d ≤ length n.log → Bears p n o k (map (λ x. sent_of p (restricted p o x)) (entries_from p s.log d k))
    entries_bear s n sim o zero k h = no_entries
    entries_bear s n sim o (suc d) k h =
        let w = (good_of p law s cls inj n sim).log.whole k (omega arith) in
        let is : history_of p s.log k ≡ Some (n.entries k) = ap (λ l. history_of p l k) (sym sim.log_is) ∙ w in
        subst (λ r. Bears p n o k (map (λ x. sent_of p (restricted p o x)) (kept r ++ entries_from p s.log d (suc k)))) (sym is) (an_entry (omega arith) refl (entries_bear s n sim o d (suc k) (omega arith)))

    sent_twice : (o : Option Tables) (xs : List (Changeset I)) → map (λ x. sent_of p (restricted p o x)) xs ≡ map (sent_of p) (map (restricted p o) xs)
    sent_twice o [] = refl
    sent_twice o (x ∷ xs) = ap (λ l. sent_of p (restricted p o x) ∷ l) (sent_twice o xs)

    bears_fitting : (n : Nodes (Changeset I) S) (o : Option Tables) (k most room : ℕ) (es : List Sent) → Bears p n o k es → Bears p n o k (fitting (λ e. length e.body) most room es)
    bears_fitting n o k most room [] b = b
    bears_fitting n o k zero room (e ∷ es) b = no_entries
    bears_fitting n o k (suc most) room (e ∷ es) (an_entry lt is b) = go (nat_le (length e.body) room) (bears_fitting n o (suc k) most (room - length e.body) es b)
      where
        go : (t : Bool) → Bears p n o (suc k) (fitting (λ e. length e.body) most (room - length e.body) es) → Bears p n o k (if t then e ∷ fitting (λ e. length e.body) most (room - length e.body) es else [])
        go true r = an_entry lt is r
        go false r = no_entries

    bears_first : (n : Nodes (Changeset I) S) (o : Option Tables) (k : ℕ) (xs : List (Changeset I)) → Bears p n o k (map (sent_of p) xs) → Bears p n o k (map (sent_of p) (first_form p xs))
    bears_first n o k [] b = no_entries
    bears_first n o k (x ∷ xs) (an_entry lt is b) = go (needs p x.instrs) (bears_first n o (suc k) xs b)
      where
        go : (t : Bool) → Bears p n o (suc k) (map (sent_of p) (first_form p xs)) → Bears p n o k (map (sent_of p) (if t then [] else x ∷ first_form p xs))
        go true r = no_entries
        go false r = an_entry lt is r

    old_fitting : (most room : ℕ) (es : List Sent) → AllOld p es → AllOld p (fitting (λ e. length e.body) most room es)
    old_fitting most room [] o = o
    old_fitting zero room (e ∷ es) o = no_more_old
    old_fitting (suc most) room (e ∷ es) (an_old h o) = go (nat_le (length e.body) room) (old_fitting most (room - length e.body) es o)
      where
        go : (t : Bool) → AllOld p (fitting (λ e. length e.body) most (room - length e.body) es) → AllOld p (if t then e ∷ fitting (λ e. length e.body) most (room - length e.body) es else [])
        go true r = an_old h r
        go false r = no_more_old

    old_first : (xs : List (Changeset I)) → SmallSets p xs → AllOld p (map (sent_of p) (first_form p xs))
    old_first [] no_more = no_more_old
    old_first (x ∷ xs) (and_each small smalls) = go (needs p x.instrs) refl (old_first xs smalls)
      where
        go : (t : Bool) → needs p x.instrs ≡ t → AllOld p (map (sent_of p) (first_form p xs)) → AllOld p (map (sent_of p) (if t then [] else x ∷ first_form p xs))
        go true is r = no_more_old
        go false is r = an_old (ap (λ q. needs p (ok_list q)) (law.spelled x.instrs small) ∙ is) r

    module _ (s : Server I) (n : Nodes (Changeset I) S) (sim : Sim p s cls inj n) where
      downloaded : (o : Option Tables) (c cursor : ℕ) (xs : List (Changeset I)) → c ≢ 0 → c ≤ length s.ids → Bears p n o cursor (map (sent_of p) xs) → (class s.ids us c ≡ true → Reads p n cls s.ids c o cursor (map (sent_of p) xs)) → Tells p n s.ids cls (download p c cursor xs).answer
      downloaded o c cursor xs given there b reads = (
        given,
        there,
        record {
          tables = o;
          bears = bears_fitting n o cursor p.most p.room (map (sent_of p) xs) b;
          reads = λ own. let r = reads own in record { before = r.before; form = ⊎_elim (λ o. inl (old_fitting p.most p.room (map (sent_of p) xs) o)) (λ f. inr f) r.form; tables = r.tables };
        },
      )

      downloaded_first : (o : Option Tables) (c cursor : ℕ) (xs : List (Changeset I)) → SmallSets p xs → c ≢ 0 → c ≤ length s.ids → Bears p n o cursor (map (sent_of p) xs) → (class s.ids us c ≡ true → (cursor ≤ n.cursor c) × HasTables p cls s.ids c o) → Tells p n s.ids cls (download_first p c cursor xs).answer
      downloaded_first o c cursor [] smalls given there b before = downloaded o c cursor [] given there b (λ own. let h = before own in record { before = h.0; form = inl no_more_old; tables = h.1 })
      downloaded_first o c cursor (x ∷ xs) smalls given there b before = go (needs p x.instrs) (downloaded o c cursor (first_form p (x ∷ xs)) given there (bears_first n o cursor (x ∷ xs) b) (λ own. let h = before own in record { before = h.0; form = inl (old_first (x ∷ xs) smalls); tables = h.1 }))
        where
          go : (t : Bool) → Tells p n s.ids cls (download p c cursor (first_form p (x ∷ xs))).answer → Tells p n s.ids cls (if t then refuses c 0 (Rattle.sync_model.specs.Servers.NeedsForm2 cursor) else download p c cursor (first_form p (x ∷ xs))).answer
          go true r = tt
          go false r = r

      -- for a client of these tables, in either form
      downloaded_tables : (second : Bool) (tables : Tables) (c cursor : ℕ) (xs : List (Changeset I)) → SmallSets p xs → c ≢ 0 → c ≤ length s.ids → Bears p n (Some tables) cursor (map (λ x. sent_of p (restricted p (Some tables) x)) xs) → (class s.ids us c ≡ true → (cursor ≤ n.cursor c) × HasTables p cls s.ids c (Some tables) × (second ≡ true → HasForm p cls s.ids c)) → Tells p n s.ids cls (download_tables p second tables c cursor xs).answer
      downloaded_tables true tables c cursor xs smalls given there b comes =
          downloaded (Some tables) c cursor (map (restricted p (Some tables)) xs) given there (subst (Bears p n (Some tables) cursor) (sent_twice (Some tables) xs) b)
          (λ own. let h = comes own in record { before = h.0; form = inr (h.2 refl); tables = h.1 })
      downloaded_tables false tables c cursor xs smalls given there b comes =
          downloaded_first (Some tables) c cursor (map (restricted p (Some tables)) xs) (restricted_small p (Some tables) xs smalls) given there (subst (Bears p n (Some tables) cursor) (sent_twice (Some tables) xs) b)
          (λ own. let h = comes own in (h.0, h.1))

      asked : (c cursor settled : ℕ) (go : List (Changeset I) → ServerStep) → (c ≢ 0 → c ≤ length s.ids → (xs : List (Changeset I)) → SmallSets p xs → ((o : Option Tables) → Bears p n o cursor (map (λ x. sent_of p (restricted p o x)) xs)) → Tells p n s.ids cls (go xs).answer) → Served s cls inj n (if_there p s c cursor settled go)
      asked c cursor settled go then_ = first (is_given s c) refl (nat_lt (length s.log) cursor) refl
        where
          given_then : (a b : Bool) → (a && b) ≡ true → (a ≡ true) × (b ≡ true)
          given_then true b e = (refl, e)
          given_then false b e = cc

          first : (a : Bool) → is_given s c ≡ a → (b : Bool) → nat_lt (length s.log) cursor ≡ b → Served s cls inj n (if not a then refuses c 0 (Rattle.sync_model.specs.Servers.NoSuchIdent (length s.ids)) else (if b then refuses c 0 (Rattle.sync_model.specs.Servers.AheadOfHistory (length s.log)) else marking c (s.marks c) cursor settled (go (entries_from p s.log (length s.log - cursor) cursor)).answer))
          first false a_is b b_is = answered s cls inj n sim _ tt
          first true a_is true b_is = answered s cls inj n sim _ tt
          first true a_is false b_is =
              let one = given_then (nat_le 1 c) (nat_le c (length s.ids)) a_is in
              let one0 = one.0 in
              let one1 = one.1 in
              let given : c ≢ 0 = λ z. let le : 1 ≤ c = grind (arith, nat_tests) in omega arith in
              let there : c ≤ length s.ids = grind (arith, nat_tests) in
              let in_history : cursor ≤ length s.log = ltb-false (length s.log) cursor b_is in
              let l = ap length sim.log_is in
              marked s cls inj n sim c (s.marks c) cursor settled (go (entries_from p s.log (length s.log - cursor) cursor)).answer
              (then_ given there (entries_from p s.log (length s.log - cursor) cursor) (entries_small p law s.log (subst (λ l. SmallLog p l) sim.log_is sim.small) (length s.log - cursor) cursor) (λ o. entries_bear s n sim o (length s.log - cursor) cursor (omega arith)))

      -- ---- any message

      -- what has to be known of a message that comes to the server
      abbrev pub Comes : Message → Type 0
      Comes (Bind u) = ((i : ℕ) × (at us i ≡ Some (Some u))) ⊎ (place_of u inj ≢ 0)
      Comes (Upload c hs) = ((class s.ids us c ≡ true) × TellsUpload p n c hs) ⊎ (class s.ids us c ≡ false)
      Comes (Ident u c) = Unit {0}
      Comes (Ask c cursor settled) = class s.ids us c ≡ true → (cursor ≤ n.cursor c) × HasTables p cls s.ids c None
      Comes (Ask2 c cursor settled) = class s.ids us c ≡ true → (cursor ≤ n.cursor c) × HasTables p cls s.ids c None × HasForm p cls s.ids c
      Comes (AskTables c cursor settled second tables) = class s.ids us c ≡ true → (cursor ≤ n.cursor c) × HasTables p cls s.ids c (Some tables) × (second ≡ true → HasForm p cls s.ids c)
      Comes (Download c from es) = Unit {0}
      Comes (Refused c number code place) = Unit {0}
      Comes (Stored c number) = Unit {0}
      Comes (Retire c by) = class s.ids us c ≡ false
      Comes (Retired c by number) = Unit {0}

      uploaded : (c : ℕ) (hs : List Change) → Comes (Upload c hs) → c ≢ 0 → c ≤ length s.ids → Served s cls inj n (serve_changes p s c hs)
      uploaded c hs comes given there =
          let cut = ⊎_elim (λ own. serve_own hs s n sim c own.1.from given there own.0 own.1.known own.1.changes) (λ theirs. serve_foreign hs s n sim c given there theirs) comes in
          let done = subst (λ l. ServerNext s cls inj n (after_all p s l)) (take_all (serve_changes p s c hs).records) (cut (length (serve_changes p s c hs).records)) in
          record { cut = cut; done = done; tells = plain_tells done.m (after_all p s (serve_changes p s c hs).records).ids cls (serve_changes p s c hs).answer (upload_plain s c hs) }

      bind_next : (u : Uuid) → Comes (Bind u) → place_of u s.ids ≡ 0 → ServerNext s cls inj n (with_id p s u)
      bind_next u comes new = at_client (find_uuid u us) comes
        where
          at_client : ((i : ℕ) × (at us i ≡ Some (Some u))) ⊎ ((i : ℕ) → at us i ≡ Some (Some u) → ⊥) → Comes (Bind u) → ServerNext s cls inj n (with_id p s u)
          at_client (inl h) comes =
              let nd = at_of_map (uuid_of p) cls h.0 (Some u) h.1 in
              let b = bind_own p s cls inj n sim u new law h.0 nd.0 nd.1 nd.2 in
              record { m = b.0; sim = b.1; later = b.2 }
          at_client (inr none) (inl h) = absurd (none h.0 h.1)
          at_client (inr none) (inr injected) = let b = bind_foreign p s cls inj n sim u new injected none in record { m = n; sim = b.0; later = b.1 }

      bound : (u : Uuid) → Comes (Bind u) → Served s cls inj n (serve_bind p s u)
      bound u comes = go (place_of u s.ids == 0) refl (length s.ids == p.full)
        where
          nonzero : place_of u s.ids ≢ 0 → Tells p n s.ids cls (Ident u (place_of u s.ids))
          nonzero ne = (refl, ne)

          named : place_of u s.ids ≡ 0 → Served s cls inj n (record { records = Client u ∷ []; answer = Ident u (suc (length s.ids)) })
          named new =
              let b = bind_next u comes new in
              record { cut = cut b; done = b; tells = (place_new u s.ids new, λ z. absurd (omega arith)) }
            where
              cut : ServerNext s cls inj n (with_id p s u) → (j : ℕ) → ServerNext s cls inj n (after_all p s (take j (Client u ∷ [])))
              cut b zero = stay s cls inj n sim
              cut b (suc zero) = b
              cut b (suc (suc j)) = b

          go : (t : Bool) → (place_of u s.ids == 0) ≡ t → (f : Bool) → Served s cls inj n (if not t then replies (Ident u (place_of u s.ids)) else (if f then refuses 0 0 (Rattle.sync_model.specs.Servers.IdentsFull (length s.ids)) else record { records = Client u ∷ []; answer = Ident u (suc (length s.ids)) }))
          go false t_is f = answered s cls inj n sim (Ident u (place_of u s.ids)) (nonzero (λ z. grind (arith, nat_tests)))
          go true t_is true = answered s cls inj n sim _ tt
          go true t_is false = named (eqb-true (place_of u s.ids) 0 t_is)

      given_here : (c : ℕ) → is_given s c ≡ true → (c ≢ 0) × (c ≤ length s.ids)
      given_here c e =
          let h = there (nat_le 1 c) (nat_le c (length s.ids)) e in
          let h0 = h.0 in
          let h1 = h.1 in
          let l : 1 ≤ c = grind (arith, nat_tests) in
          let r : c ≤ length s.ids = grind (arith, nat_tests) in
          (λ z. omega arith, r)
        where
          there : (a b : Bool) → (a && b) ≡ true → (a ≡ true) × (b ≡ true)
          there true b e = (refl, e)
          there false b e = cc

      retires : (c by : ℕ) → class s.ids us c ≡ false → Served s cls inj n (serve_retire s c by)
      retires c by theirs = first (is_given s c) refl (is_given s by) (c == by)
        where
          one : Away s.ids us c → (j : ℕ) → ServerNext s cls inj n (after_all p s (take j (ServerRecord.Retired c by ∷ [])))
          one away zero = stay s cls inj n sim
          one away (suc zero) = record { m = n; sim = retired_sim p s cls inj n sim c by away; later = later_refl p n s.ids cls }
          one away (suc (suc j)) = record { m = n; sim = retired_sim p s cls inj n sim c by away; later = later_refl p n s.ids cls }

          on : Away s.ids us c → (o : Option ℕ) → Served s cls inj n (retire_for s c by o)
          on away None = record { cut = one away; done = one away 1; tells = tt }
          on away (Some other) = again (other == by)
            where
              again : (b : Bool) → Served s cls inj n (if b then replies (Retired c by (count s c)) else refuses by 0 (RetiredBy other))
              again true = answered s cls inj n sim _ tt
              again false = answered s cls inj n sim _ tt

          first : (a : Bool) → is_given s c ≡ a → (b same : Bool) → Served s cls inj n (if not (a && b) then refuses by 0 (Rattle.sync_model.specs.Servers.NoSuchIdent (length s.ids)) else (if same then refuses by 0 (SelfRetire c) else retire_for s c by (heir_of c s.retired)))
          first false a_is b same = answered s cls inj n sim _ tt
          first true a_is false same = answered s cls inj n sim _ tt
          first true a_is true true = answered s cls inj n sim _ tt
          first true a_is true false = let t = given_here c a_is in on (record { given = t.0; there = t.1; theirs = theirs }) (heir_of c s.retired)

      pub served : (m : Message) → Comes m → Served s cls inj n (serve p s m)
      served (Bind u) comes = bound u comes
      served (Upload c hs) comes = go (is_given s c) refl
        where
          there : (a b : Bool) → (a && b) ≡ true → (a ≡ true) × (b ≡ true)
          there true b e = (refl, e)
          there false b e = cc

          go : (a : Bool) → is_given s c ≡ a → Served s cls inj n (if a then serve_changes p s c hs else refuses c 0 (Rattle.sync_model.specs.Servers.NoSuchIdent (length s.ids)))
          go true a_is =
              let h = there (nat_le 1 c) (nat_le c (length s.ids)) a_is in
              let h0 = h.0 in
              let h1 = h.1 in
              let l : 1 ≤ c = grind (arith, nat_tests) in
              let r : c ≤ length s.ids = grind (arith, nat_tests) in
              uploaded c hs comes (λ z. omega arith) r
          go false a_is = answered s cls inj n sim _ tt
      served (Ask c cursor settled) comes = asked c cursor settled (download_first p c cursor) (λ given there xs smalls b. downloaded_first None c cursor xs smalls given there (b None) comes)
      served (Ask2 c cursor settled) comes = asked c cursor settled (download p c cursor) (λ given there xs smalls b. downloaded None c cursor xs given there (b None) (λ own. let x = comes own in record { before = x.0; form = inr x.2; tables = x.1 }))
      served (AskTables c cursor settled second tables) comes = asked c cursor settled (download_tables p second tables c cursor) (λ given there xs smalls b. downloaded_tables second tables c cursor xs smalls given there (b (Some tables)) comes)
      served (Ident u c) comes = answered s cls inj n sim _ tt
      served (Download c from es) comes = answered s cls inj n sim _ tt
      served (Refused c number code place) comes = answered s cls inj n sim _ tt
      served (Stored c number) comes = answered s cls inj n sim _ tt
      served (Retire c by) comes = retires c by comes
      served (Retired c by number) comes = answered s cls inj n sim _ tt
