-- A server that gave up its history before a floor, beside a client's file that goes together with the whole one.
use Rattle.std.proofs.Common.{◌≡◌, ◌≢◌, ◌⊎◌, inl, inr, ⊎_elim, ℕ, zero, suc, ◌+◌, ◌<◌, ◌≤◌, Bool, true, false, not, List, [], ◌∷◌, ◌++◌, Option, Some, None, refl, sym, ap, ◌∙◌, subst, arith, length, map, if◌then◌else◌, min, max}
use Rattle.std.specs.Prelude.{nat_le}
use Rattle.std.proofs.lemmas.Bool.{leb-true}
use Rattle.sync_theory.specs.Changesets.{Changeset}
use Rattle.sync_theory.specs.Logs.{Made as LogMade, of_origin}
use Rattle.sync_theory.proofs.Logs.{Rising, one_rises, AtLeast, and_more, AtMost, one_within}
use Rattle.sync_model.specs.Bytes.{Tables}
use Rattle.sync_model.specs.Profile.{Profile, Lawful, needs, restricted}
use Rattle.sync_model.specs.Snapshots.{Buildable}
use Rattle.sync_model.specs.Messages.{Change, Message, Upload, Ask, Ask2, Refused}
use Rattle.sync_model.specs.Clients.{ClientRecord, Original, no_client, client_of, question, settled_from, change_of}
use Rattle.sync_model.specs.Servers.{ServerStep, ServerRecord, ServerRefusal, Trimmed, no_server, server_of, place_of, heir_of, is_retired, last_base, count, refuses, serve, download, download_first, download_tables}
use Rattle.sync_model.specs.Parts.{Given, Parts, Served, at_ident, merged_by, given_of, idents_of, parts_of, ask_by, merge_by, upload_by, serve_by}
use Rattle.sync_model.specs.Trims.{is_live, least_settled, next_floor, is_trimmed, SameGiven, SameIdents, no_idents, an_ident, KeptLess, BelowFloor, trimmed}
use Rattle.sync_model.specs.Files.{client_opens, server_opens}
use Rattle.sync_model.specs.Worlds.{Node, at}
use Rattle.sync_model.specs.Later.{Later, all_later, LaterFacts}
use Rattle.sync_model.specs.Log.{as_log, IsFair}
use Rattle.sync_model.proofs.Lists.{place_within, at_map}
use Rattle.sync_model.proofs.Alone.{opened_first, opened_more}
use Rattle.sync_model.proofs.Alike.{SameSome, same_ident, served_same}
use Rattle.sync_model.proofs.Facts.{world_facts}
use Rattle.sync_model.proofs.Folding.{parts_span}
use Rattle.sync_model.proofs.Replies.{server_first, server_records}
use Rattle.sync_model.proofs.Fair.{fair}
use Rattle.sync_model.proofs.Later.{Held, full, opened_of, all_held}
use Rattle.sync_model.proofs.Parts.{at_given, serve_is}
use Rattle.sync_model.proofs.Serving.{numbered_at}
use Rattle.sync_model.proofs.Sim.{Given as GivenAt, Tells}
use Rattle.sync_model.proofs.Trims.{less_then, span_less, trims_less, ask_refused, ask_answered, refused_below, below_refused}
use Rattle.lives_law.specs.Pair.{Fit, IsActive, ident_at}
use Rattle.lives_law.specs.Trimmed.{IsTrimmed, trimmed_pair, TrimmedHolds, AnswersAlike, AsksAtFloor, UploadsAtFloor}
use Rattle.lives_law.proofs.Pair.{together, given_of as named_of, active_id}
use Rattle.lives_law.proofs.Arriving.{answers_hold}
use Rattle.lives_law.proofs.Converging.{files_converge}

-- ---- bases

least_at : {X : Type 0} (b : ℕ) (ms : List (LogMade X)) (k : ℕ) (m : LogMade X) → AtLeast b ms → at ms k ≡ Some m → b ≤ m.base
least_at b [] k m a e = cc
least_at {X = X} b (q ∷ ms) zero m (and_more h r) e = let same : q ≡ m = cc in subst (λ (x : LogMade X). b ≤ x.base) same h
least_at b (q ∷ ms) (suc k) m (and_more h r) e = least_at b ms k m r e

most_at : {X : Type 0} (b : ℕ) (ms : List (LogMade X)) (k : ℕ) (m : LogMade X) → AtMost b ms → at ms k ≡ Some m → m.base ≤ b
most_at b [] k m a e = cc
most_at {X = X} b (q ∷ ms) zero m (one_within h r) e = let same : q ≡ m = cc in subst (λ (x : LogMade X). x.base ≤ b) same h
most_at b (q ∷ ms) (suc k) m (one_within h r) e = most_at b ms k m r e

-- the next one isn't made before the last
last_rises : {X : Type 0} (ms ns : List (LogMade X)) (m : LogMade X) → Rising (ms ++ ns) → at (ms ++ ns) (length ms) ≡ Some m → last_base ms ≤ m.base
last_rises [] ns m r e = omega arith
last_rises (q ∷ []) ns m (one_rises h r) e = least_at q.base ns 0 m h e
last_rises (q ∷ x ∷ ms) ns m (one_rises h r) e = last_rises (x ∷ ms) ns m r e

module _ {I S : Type 0} (p : Profile I S) {Fits Bounded Old : S → Type 0} (law : Lawful p Fits) (built : Buildable p Fits Bounded Old) where
  held_facts : (l : Later I S) → Held p l → LaterFacts p Fits l
  held_facts l h = record {
    facts = world_facts p law l.world h.holds;
    kept = h.less;
    opens = h.opens;
    replies = λ k m here. on m (h.holds.tells k m here) (is_trimmed (serve_by p l.kept m).answer) refl;
  }
    where
      on : (m : Message) → Tells p h.holds.n (server_of p l.world.server).ids l.world.clients m → (t : Bool) → is_trimmed (serve_by p l.kept m).answer ≡ t → IsFair (serve_by p l.kept m).answer ⊎ (is_trimmed (serve_by p l.kept m).answer ≡ true)
      on m t true is = inr is
      on m t false is =
          let e = served_same p (full p l.world) l.kept h.less m is in
          let whole = serve_is p law (server_of p l.world.server) (opened_of p law built l.world h.opens) m in
          inl (subst IsFair (sym (e.1 ∙ ap (λ z. z.answer) whole)) (fair p law l.world.clients l.world.injected (server_of p l.world.server) h.holds.n h.holds.sim m t))

  pub trimmed_hold : (f : List ServerRecord) (g : List ClientRecord) (kept : Parts I S) (fit : Fit p f g) → IsActive p f g → IsTrimmed p f kept → TrimmedHolds p Fits f g fit kept
  trimmed_hold f g kept fit active less name ms all es =
      held_facts (all_later p (trimmed_pair p f g kept name ms) es)
      (all_held p law built es (trimmed_pair p f g kept name ms) (record { holds = answers_hold p law f g fit active name built ms all; opens = record { clients = λ i nd e. one i nd e; server = fit.server }; less = less }))
    where
      one : (i : ℕ) (nd : Node) → at (record { name = name; records = g } ∷ []) i ≡ Some nd → client_opens p (no_client p) nd.records ≡ true
      one zero nd e = let same : record { name = name; records = g } ≡ nd = cc in subst (λ (n : Node). client_opens p (no_client p) n.records ≡ true) same fit.client
      one (suc i) nd e = cc

  pub trimmed_alike : (f : List ServerRecord) (kept : Parts I S) (m : Message) → server_opens p no_server f ≡ true → IsTrimmed p f kept → is_trimmed (serve_by p kept m).answer ≡ false → AnswersAlike p f kept m
  trimmed_alike f kept m e less none =
      let r = served_same p (parts_of p (server_of p f)) kept less m none in
      let w = serve_is p law (server_of p f) (opened_more p law f no_server e (opened_first p)) m in
      record {
        records = r.0 ∙ ap (λ z. z.records) w;
        answer = r.1 ∙ ap (λ z. z.answer) w;
        after = subst (λ z. KeptLess z (serve_by p kept m).parts) (ap (λ z. z.parts) w) r.2;
      }

  same_idents : (floor : ℕ) (gs : List (Given I)) → SameIdents floor gs gs
  same_idents floor [] = no_idents
  same_idents floor (x ∷ gs) = an_ident (record { uuid = refl; count = refl; last = refl; heir = refl; mark = refl; pairs = λ v a b. refl }) (same_idents floor gs)

  pub whole_is : (f : List ServerRecord) → IsTrimmed p f (parts_of p (server_of p f))
  whole_is f = record {
    floor = omega arith;
    within = omega arith;
    len = refl;
    entries = refl;
    bases = refl;
    based = omega arith;
    objects = refl;
    second = refl;
    idents = same_idents 0 (idents_of p (server_of p f) 1 (server_of p f).ids);
    retired = refl;
  }

  pub trims_again : (f : List ServerRecord) (kept : Parts I S) → server_opens p no_server f ≡ true → IsTrimmed p f kept → IsTrimmed p f (trimmed p kept)
  trims_again f kept e less =
      let spans = parts_span p law (server_of p f) (opened_more p law f no_server e (opened_first p)) (server_records p f no_server e (server_first p)) in
      less_then (parts_of p (server_of p f)) kept (trimmed p kept) less (trims_less p kept (span_less (parts_of p (server_of p f)) kept spans less))

  -- ---- how far a trim goes

  pub least_is : (floor len : ℕ) (gs : List (Given I)) (k : ℕ) (it : Given I) → at gs k ≡ Some it → is_live it ≡ true → least_settled floor len gs ≤ max it.mark floor
  least_is floor len [] k it e live = cc
  least_is floor len (g ∷ gs) zero it e live =
      let same : g ≡ it = cc in
      subst (λ (x : Given I). least_settled floor len (g ∷ gs) ≤ max x.mark floor) same (on (is_live g) (ap is_live same ∙ live))
    where
      on : (t : Bool) → t ≡ true → (if t then min (max g.mark floor) (least_settled floor len gs) else least_settled floor len gs) ≤ max g.mark floor
      on true h = omega arith
      on false h = cc
  least_is floor len (g ∷ gs) (suc k) it e live = on (is_live g) (least_is floor len gs k it e live)
    where
      on : (t : Bool) → least_settled floor len gs ≤ max it.mark floor → (if t then min (max g.mark floor) (least_settled floor len gs) else least_settled floor len gs) ≤ max it.mark floor
      on true h = omega arith
      on false h = h

  pub no_further : (kept : Parts I S) (c : ℕ) (it : Given I) → at_ident c kept.idents ≡ Some it → is_live it ≡ true → next_floor kept ≤ max it.mark kept.floor
  no_further kept zero it e live = cc
  no_further kept (suc k) it e live = least_is kept.floor kept.len kept.idents k it e live

  -- ---- code 71

  module _ (f : List ServerRecord) (g : List ClientRecord) (kept : Parts I S) (fit : Fit p f g) (less : IsTrimmed p f kept) (named : (client_of p g).ident ≢ 0) where
    abbrev i : ℕ
    i = (client_of p g).ident

    place : ident_at p f fit.id ≡ (client_of p g).ident
    place = ⊎_elim (λ z. absurd (named z)) (λ h. sym h) fit.ident

    -- what the server keeps of the client
    record It : Type 0 where
      it : Given I
      there : at_ident (client_of p g).ident kept.idents ≡ Some it
      heir : it.heir ≡ heir_of (client_of p g).ident (server_of p f).retired
      counted : it.count ≡ count (server_of p f) (client_of p g).ident
      last : it.last ≡ last_base (of_origin (client_of p g).ident (server_of p f).log)

    kept_it : It
    unfolding SameSome
    kept_it =
        let w = place_within fit.id (server_of p f).ids in
        let pl = place in
        let whole = at_given p (server_of p f) (client_of p g).ident named (omega arith) in
        on (at_ident (client_of p g).ident kept.idents) refl whole.0 (subst (λ o. SameSome kept.floor o (at_ident (client_of p g).ident kept.idents)) whole.1 (same_ident kept.floor less.idents (client_of p g).ident))
      where
        on : (o : Option (Given I)) → at_ident (client_of p g).ident kept.idents ≡ o → (u : List ℕ) → SameSome kept.floor (Some (given_of p (server_of p f) (client_of p g).ident u)) (at_ident (client_of p g).ident kept.idents) → It
        on None is u s = absurd (subst (λ o. SameSome kept.floor (Some (given_of p (server_of p f) (client_of p g).ident u)) o) is s)
        on (Some b) is u s =
            let t : SameGiven kept.floor (given_of p (server_of p f) (client_of p g).ident u) b = subst (λ o. SameSome kept.floor (Some (given_of p (server_of p f) (client_of p g).ident u)) o) is s in
            record { it = b; there = is; heir = t.heir; counted = t.count; last = t.last }

    within : (client_of p g).cursor ≤ kept.len
    within = let c = (files_converge p law built f g fit).within in let l = less.len in omega arith

    asked_below : (settled : ℕ) (go : List (Changeset I) → ServerStep) → (client_of p g).cursor < kept.floor
        → (ask_by kept (client_of p g).ident (client_of p g).cursor settled (at_ident (client_of p g).ident kept.idents) go).answer ≡ Refused (client_of p g).ident 0 71 kept.floor
    asked_below settled go lt =
        ap (λ (z : Served I S). z.answer) (ap (λ o. ask_by kept (client_of p g).ident (client_of p g).cursor settled o go) kept_it.there ∙ ask_refused kept (client_of p g).ident (client_of p g).cursor settled kept_it.it go within lt)

    asked_above : (settled : ℕ) (go : List (Changeset I) → ServerStep) → ((xs : List (Changeset I)) → is_trimmed (go xs).answer ≡ false) → kept.floor ≤ (client_of p g).cursor
        → is_trimmed (ask_by kept (client_of p g).ident (client_of p g).cursor settled (at_ident (client_of p g).ident kept.idents) go).answer ≡ false
    asked_above settled go none le =
        ap (λ (z : Served I S). is_trimmed z.answer) (ap (λ o. ask_by kept (client_of p g).ident (client_of p g).cursor settled o go) kept_it.there ∙ ask_answered kept (client_of p g).ident (client_of p g).cursor settled kept_it.it go within le)
        ∙ none _

    first_none : (c cursor : ℕ) (xs : List (Changeset I)) → is_trimmed (download_first p c cursor xs).answer ≡ false
    first_none c cursor [] = refl
    first_none c cursor (x ∷ xs) = on (needs p x.instrs)
      where
        on : (b : Bool) → is_trimmed (if b then refuses c 0 (Rattle.sync_model.specs.Servers.NeedsForm2 cursor) else download p c cursor (Rattle.sync_model.specs.Servers.first_form p (x ∷ xs))).answer ≡ false
        on true = refl
        on false = refl

    tables_none : (b : Bool) (ts : Tables) (c cursor : ℕ) (xs : List (Changeset I)) → is_trimmed (download_tables p b ts c cursor xs).answer ≡ false
    tables_none true ts c cursor xs = refl
    tables_none false ts c cursor xs = first_none c cursor (map (restricted p (Some ts)) xs)

    abbrev s : ℕ
    s = settled_from (client_of p g).cursor (client_of p g).unsent

    below_question : (o : Option Tables) → (client_of p g).cursor < kept.floor → (serve_by p kept (question (client_of p g) o)).answer ≡ Refused (client_of p g).ident 0 71 kept.floor
    below_question None lt = on (client_of p g).second
      where
        on : (b : Bool) → (serve_by p kept (if b then Ask2 (client_of p g).ident (client_of p g).cursor (settled_from (client_of p g).cursor (client_of p g).unsent) else Ask (client_of p g).ident (client_of p g).cursor (settled_from (client_of p g).cursor (client_of p g).unsent))).answer ≡ Refused (client_of p g).ident 0 71 kept.floor
        on true = asked_below (settled_from (client_of p g).cursor (client_of p g).unsent) (download p (client_of p g).ident (client_of p g).cursor) lt
        on false = asked_below (settled_from (client_of p g).cursor (client_of p g).unsent) (download_first p (client_of p g).ident (client_of p g).cursor) lt
    below_question (Some ts) lt = asked_below (settled_from (client_of p g).cursor (client_of p g).unsent) (download_tables p (client_of p g).second ts (client_of p g).ident (client_of p g).cursor) lt

    above_question : (o : Option Tables) → kept.floor ≤ (client_of p g).cursor → is_trimmed (serve_by p kept (question (client_of p g) o)).answer ≡ false
    above_question None le = on (client_of p g).second
      where
        on : (b : Bool) → is_trimmed (serve_by p kept (if b then Ask2 (client_of p g).ident (client_of p g).cursor (settled_from (client_of p g).cursor (client_of p g).unsent) else Ask (client_of p g).ident (client_of p g).cursor (settled_from (client_of p g).cursor (client_of p g).unsent))).answer ≡ false
        on true = asked_above (settled_from (client_of p g).cursor (client_of p g).unsent) (download p (client_of p g).ident (client_of p g).cursor) (λ xs. refl) le
        on false = asked_above (settled_from (client_of p g).cursor (client_of p g).unsent) (download_first p (client_of p g).ident (client_of p g).cursor) (λ xs. first_none (client_of p g).ident (client_of p g).cursor xs) le
    above_question (Some ts) le = asked_above (settled_from (client_of p g).cursor (client_of p g).unsent) (download_tables p (client_of p g).second ts (client_of p g).ident (client_of p g).cursor) (λ xs. tables_none (client_of p g).second ts (client_of p g).ident (client_of p g).cursor xs) le

    pub asks_at_floor : AsksAtFloor p g kept
    asks_at_floor = record { below = below_question (client_of p g).subset; above = above_question (client_of p g).subset }

    module _ (active : IsActive p f g) where
      -- the first of its changes that the server doesn't have
      record Next (o : Original I) : Type 0 where
        number : o.number ≡ suc (count (server_of p f) (client_of p g).ident)
        back : last_base (of_origin (client_of p g).ident (server_of p f).log) ≤ o.base
        ahead : o.base ≤ (client_of p g).cursor

      next : (o : Original I) → at (client_of p g).made (count (server_of p f) (client_of p g).ident) ≡ Some o → Next o
      next o e =
          let a = together p law f g fit active [] built in
          let v = subst (λ c. GivenAt p a.n c (client_of p g)) place (named_of p law f g fit active [] f g fit.born a (λ z. named (sym place ∙ z))) in
          let there : at (a.n.mades (client_of p g).ident) (count (server_of p f) (client_of p g).ident) ≡ Some (as_log (client_of p g).ident o) = ap (λ l. at l (count (server_of p f) (client_of p g).ident)) v.mades ∙ at_map (as_log (client_of p g).ident) (client_of p g).made (count (server_of p f) (client_of p g).ident) o e in
          let n = numbered_at (count (server_of p f) (client_of p g).ident) (as_log (client_of p g).ident o) (a.sim.numbered (client_of p g).ident) there in
          let n0 : o.number ≡ 1 + count (server_of p f) (client_of p g).ident = n.0 in
          let h = a.sim.ahead (client_of p g).ident in
          let split : a.n.mades (client_of p g).ident ≡ of_origin (client_of p g).ident (server_of p f).log ++ h.0 = h.1 ∙ ap (λ l. of_origin (client_of p g).ident l ++ h.0) a.sim.log_is in
          record {
            number = omega arith;
            back = last_rises (of_origin (client_of p g).ident (server_of p f).log) h.0 (as_log (client_of p g).ident o) (subst Rising split (a.sim.rising (client_of p g).ident)) (ap (λ l. at l (count (server_of p f) (client_of p g).ident)) (sym split) ∙ there);
            ahead = most_at (client_of p g).cursor (a.n.mades (client_of p g).ident) (count (server_of p f) (client_of p g).ident) (as_log (client_of p g).ident o) v.within there;
          }

      below_floor : (o : Original I) → Next o → o.base < kept.floor → BelowFloor kept kept_it.it (change_of p o)
      below_floor o n lt =
          let k = kept_it in
          let number = n.number in
          let counted = k.counted in
          let back = n.back in
          let last = k.last in
          let ahead = n.ahead in
          let w = within in
          record {
            live = ap (λ x. not (is_retired x)) (k.heir ∙ ap (λ c. heir_of c (server_of p f).retired) (sym place) ∙ active_id p f g fit active);
            gap = omega arith;
            back = omega arith;
            ahead = omega arith;
            below = lt;
          }

      upload_below : (o : Original I) (hs : List Change) → at (client_of p g).made (count (server_of p f) (client_of p g).ident) ≡ Some o → o.base < kept.floor
          → (serve_by p kept (Upload (client_of p g).ident (change_of p o ∷ hs))).answer ≡ Refused (client_of p g).ident o.number 71 kept.floor
      upload_below o hs e lt =
          let k = kept_it in
          ap (λ x. (upload_by p kept (client_of p g).ident x (change_of p o ∷ hs)).answer) k.there ∙ on (nat_le o.number k.it.count) refl
        where
          on : (b : Bool) → nat_le o.number kept_it.it.count ≡ b → (if b then upload_by p kept (client_of p g).ident (Some kept_it.it) hs else merged_by kept (client_of p g).ident o.number (merge_by p kept (client_of p g).ident kept_it.it (change_of p o)) (λ after. upload_by p after (client_of p g).ident (at_ident (client_of p g).ident after.idents) hs)).answer ≡ Refused (client_of p g).ident o.number 71 kept.floor
          on true is =
              let le = leb-true o.number kept_it.it.count is in
              let number = (next o e).number in
              let counted = kept_it.counted in
              absurd (omega arith)
          on false is = ap (λ r. (merged_by kept (client_of p g).ident o.number r (λ after. upload_by p after (client_of p g).ident (at_ident (client_of p g).ident after.idents) hs)).answer) (refused_below p kept (client_of p g).ident kept_it.it (change_of p o) (below_floor o (next o e) lt))

      pub uploads_at_floor : UploadsAtFloor p f g kept
      uploads_at_floor = record {
        below = upload_below;
        above = λ o it n e le there refused. let b = (below_refused p kept (client_of p g).ident it (change_of p o) n refused).1.below in absurd (omega arith);
      }
