-- What an upload adds to the history, and what a client has after it took entries: read off the calls alone.
use Rattle.std.proofs.Common.{◌≡◌, ◌≢◌, ◌⊎◌, inl, inr, ⊎_elim, ℕ, zero, suc, ◌+◌, ◌-◌, ◌≤◌, Bool, true, false, ◌&&◌, not, List, [], ◌∷◌, ◌++◌, Option, Some, None, Result, Ok, Err, refl, sym, ap, ◌∙◌, subst, arith, if◌then◌else◌, ◌==◌, length, map, nat_le}
use Rattle.std.proofs.lemmas.Bool.Decides.{nat_tests}
use Rattle.std.proofs.lemmas.Bool.{le-leb}
use Rattle.sync_theory.specs.Changesets.{Changeset}
use Rattle.sync_theory.specs.Grid.{rebase, tail}
use Rattle.sync_theory.specs.Logs.{of_origin}
use Rattle.sync_theory.proofs.Logs.{length_snoc}
use Rattle.sync_model.specs.Profile.{Profile, Stuck, apply_all, cross_changesets, needs, fitting}
use Rattle.sync_model.specs.Messages.{Change, Sent, Message, Refused, Stored}
use Rattle.sync_model.specs.Clients.{Client, ClientRefusal, BadBody, OldEntry, Mismatch, Forked, NotApplicable, Unsent, changeset_of, ok_list, sent_changeset, after_record, after_records, takes_entry, crossed, applied_refusal, own_refusal, crossed_refusal, read_refusal, entry_refusal, take_one, took, take_entries}
use Rattle.sync_model.specs.Servers.{Server, ServerRecord, Form, Entry, ServerRefusal, after_all, entry_of, count, merge, merged, serve_changes, code_of, at_place}
use Rattle.sync_model.specs.Each.{Each, no_more, and_each}
use Rattle.sync_model.proofs.Moves.{origin_here, origin_other}
use Rattle.sync_model.proofs.Opening.{ids_after}
use Rattle.sync_model.proofs.Holding.{server_append}
use Rattle.sync_model.proofs.Serving.{merging, made_of}

-- a beginning that fits isn't empty where the first fits
pub fits_some : {A : Type 0} (size : A → ℕ) (n room : ℕ) (x : A) (xs : List A) → 1 ≤ n → size x ≤ room → (rest : List A) × (fitting size n room (x ∷ xs) ≡ x ∷ rest)
fits_some size zero room x xs some fits = absurd (omega arith)
fits_some {A} size (suc n) room x xs some fits = on (nat_le (size x) room) (le-leb (size x) room fits)
  where
    on : (b : Bool) → b ≡ true → (rest : List A) × ((if b then x ∷ fitting size n (room - size x) xs else []) ≡ x ∷ rest)
    on true e = (fitting size n (room - size x) xs, refl)
    on false e = cc

-- what is refused of a Download's entries at all
abbrev pub IsOfTake : ClientRefusal → Type 0
IsOfTake (BadBody version offset rule) = Unit {0}
IsOfTake (OldEntry version) = Unit {0}
IsOfTake (Mismatch version number kind) = Unit {0}
IsOfTake (Forked number) = Unit {0}
IsOfTake (NotApplicable version place code) = Unit {0}
IsOfTake why = ⊥

abbrev OfTake : Option ClientRefusal → Type 0
OfTake None = Unit {0}
OfTake (Some why) = IsOfTake why

module _ {I S : Type 0} (p : Profile I S) where
  log_after : (s : Server I) (new : List ServerRecord) (c : ℕ) (h : Change) → merge p s c h ≡ Ok new → (is : List I) × ((after_all p s new).log ≡ s.log ++ entry_of c h is ∷ [])
  log_after s new c h e =
      let g = merging p s c h new e in
      (ok_list (p.unspell h.body), ap (λ l. (after_all p s l).log) g.new_is ∙ on (needs p g.instrs && not s.second))
    where
      on : (b : Bool) → (after_all p s ((if b then Form ∷ [] else []) ++ Entry c h.number h.base h.ms h.body ∷ [])).log ≡ s.log ++ entry_of c h (ok_list (p.unspell h.body)) ∷ []
      on true = refl
      on false = refl

  -- an upload of ident c adds entries of c alone; where it isn't refused, all its changes are there
  pub record HasServed (s s2 : Server I) (c : ℕ) (hs : List Change) (a : Message) : Type 0 where
    pub ids : s2.ids ≡ s.ids
    pub more : ℕ
    pub log : length s2.log ≡ length s.log + more
    pub counts : count s2 c ≡ count s c + more
    pub others : (d : ℕ) → d ≢ c → of_origin d s2.log ≡ of_origin d s.log
    pub answer : ((a ≡ Stored c (count s2 c)) × Each (λ h. h.number ≤ count s2 c) hs) ⊎ ((number : ℕ) × (why : ServerRefusal) × (a ≡ Refused c number (code_of why) (at_place why)))

  pub has_served : (hs : List Change) (s : Server I) (c : ℕ) → HasServed s (after_all p s (serve_changes p s c hs).records) c hs (serve_changes p s c hs).answer
  has_served [] s c = record { ids = refl; more = 0; log = omega arith; counts = omega arith; others = λ d ne. refl; answer = inl (refl, no_more) }
  has_served (h ∷ hs) s c = go (nat_le h.number (count s c)) refl (merge p s c h) refl (has_served hs)
    where
      go : (b : Bool) → nat_le h.number (count s c) ≡ b → (r : Result (List ServerRecord) ServerRefusal) → merge p s c h ≡ r
          → ((s1 : Server I) (d : ℕ) → HasServed s1 (after_all p s1 (serve_changes p s1 d hs).records) d hs (serve_changes p s1 d hs).answer)
          → HasServed s (after_all p s (if b then serve_changes p s c hs else merged c h.number r (λ new. serve_changes p (after_all p s new) c hs)).records) c (h ∷ hs) (if b then serve_changes p s c hs else merged c h.number r (λ new. serve_changes p (after_all p s new) c hs)).answer
      go true b_is r r_is rec =
          let le : h.number ≤ count s c = grind (arith, nat_tests) in
          let x = rec s c in
          let more = x.counts in
          record { ids = x.ids; more = x.more; log = x.log; counts = x.counts; others = x.others; answer = ⊎_elim (λ a. inl (a.0, and_each (omega arith) a.1)) (λ a. inr a) x.answer }
      go false b_is (Err why) r_is rec = record { ids = refl; more = 0; log = omega arith; counts = omega arith; others = λ d ne. refl; answer = inr (h.number, why, refl) }
      go false b_is (Ok new) r_is rec =
          let gap = (merging p s c h new r_is).gap in
          let l = log_after s new c h r_is in
          let longer = ap length l.1 ∙ length_snoc s.log (entry_of c h l.0) in
          let own = ap (λ x. length (of_origin c x)) l.1 ∙ ap length (origin_here c (made_of p c h l.0) s.log) ∙ length_snoc (of_origin c s.log) (made_of p c h l.0) in
          let x = rec (after_all p s new) c in
          let xl = x.log in
          let xc = x.counts in
          let done : HasServed s (after_all p (after_all p s new) (serve_changes p (after_all p s new) c hs).records) c (h ∷ hs) (serve_changes p (after_all p s new) c hs).answer = record {
            ids = x.ids ∙ ids_after p s new c h r_is;
            more = suc x.more;
            log = omega arith;
            counts = omega arith;
            others = λ d ne. x.others d ne ∙ ap (of_origin d) l.1 ∙ origin_other c (made_of p c h l.0) s.log d ne;
            answer = ⊎_elim (λ a. inl (a.0, and_each (omega arith) a.1)) (λ a. inr a) x.answer;
          } in
          subst (λ s2. HasServed s s2 c (h ∷ hs) (serve_changes p (after_all p s new) c hs).answer) (sym (server_append p s new (serve_changes p (after_all p s new) c hs).records)) done

  -- ---- entries are taken

  -- what taking leaves as it is
  pub record SameClient (c d : Client I S) : Type 0 where
    pub id : d.id ≡ c.id
    pub ident : d.ident ≡ c.ident
    pub second : d.second ≡ c.second
    pub subset : d.subset ≡ c.subset
    pub made : d.made ≡ c.made

  pub same_refl : (c : Client I S) → SameClient c c
  same_refl c = record { id = refl; ident = refl; second = refl; subset = refl; made = refl }

  pub takes_same : (c : Client I S) (x : Changeset I) → SameClient c (takes_entry p c x) × ((takes_entry p c x).cursor ≡ suc c.cursor)
  takes_same c x = go (x.origin == c.ident) (rebase (cross_changesets p) (map (changeset_of c.ident) c.unsent) x)
    where
      on : (r : Result (List (Changeset I) × Changeset I) (ℕ × Stuck)) → SameClient c (crossed p c r) × ((crossed p c r).cursor ≡ suc c.cursor)
      on (Ok q) = (record { id = refl; ident = refl; second = refl; subset = refl; made = refl }, refl)
      on (Err f) = (record { id = refl; ident = refl; second = refl; subset = refl; made = refl }, refl)

      go : (b : Bool) (r : Result (List (Changeset I) × Changeset I) (ℕ × Stuck)) → SameClient c (if b then record c { cursor = suc c.cursor; unsent = tail c.unsent } else crossed p c r) × ((if b then record c { cursor = suc c.cursor; unsent = tail c.unsent } else crossed p c r).cursor ≡ suc c.cursor)
      go true r = (record { id = refl; ident = refl; second = refl; subset = refl; made = refl }, refl)
      go false r = on r

  of_take : (c : Client I S) (e : Sent) → OfTake (entry_refusal p c e)
  of_take c e = read_ (p.unspell e.body)
    where
      applied_ : (r : Result S (ℕ × ℕ)) → OfTake (applied_refusal c.cursor r)
      applied_ (Ok t) = tt
      applied_ (Err b) = tt

      crossed_ : (r : Result (List (Changeset I) × Changeset I) (ℕ × Stuck)) → OfTake (crossed_refusal p c r)
      crossed_ (Ok q) = applied_ (apply_all p q.1.instrs c.objects)
      crossed_ (Err f) = tt

      if_own : (b : Bool) (number : ℕ) → OfTake (if b then None else Some (Forked number))
      if_own true number = tt
      if_own false number = tt

      own_ : (us : List (Unsent I)) → OfTake (own_refusal p us e)
      own_ [] = tt
      own_ (u ∷ us) = if_own _ e.number

      tests : (is : List I) (a b : Bool) → OfTake (if a then Some (OldEntry c.cursor) else (if b then own_refusal p c.unsent e else crossed_refusal p c (rebase (cross_changesets p) (map (changeset_of c.ident) c.unsent) (sent_changeset e is))))
      tests is true b = tt
      tests is false true = own_ c.unsent
      tests is false false = crossed_ (rebase (cross_changesets p) (map (changeset_of c.ident) c.unsent) (sent_changeset e is))

      read_ : (r : Result (List I) (ℕ × ℕ)) → OfTake (read_refusal p c e r)
      read_ (Err f) = tt
      read_ (Ok is) = tests is _ _

  -- after entries were taken, each of them or up to one that is refused
  pub record HasTaken (c d : Client I S) (es : List Sent) (a : Result ℕ ClientRefusal) : Type 0 where
    pub same : SameClient c d
    pub ends : ((a ≡ Ok d.cursor) × (d.cursor ≡ c.cursor + length es)) ⊎ ((why : ClientRefusal) × (a ≡ Err why) × IsOfTake why)

  pub has_taken : (es : List Sent) (c : Client I S) → HasTaken c (after_records p c (take_entries p c es).records) es (take_entries p c es).answer
  has_taken [] c = record { same = same_refl c; ends = inl (refl, omega arith) }
  has_taken (e ∷ es) c = go (entry_refusal p c e) (of_take c e) (has_taken es)
    where
      go : (r : Option ClientRefusal) → OfTake r → ((d : Client I S) → HasTaken d (after_records p d (take_entries p d es).records) es (take_entries p d es).answer)
          → HasTaken c (after_records p c (take_one r (took e) (take_entries p (after_record p c (took e)) es)).records) (e ∷ es) (take_one r (took e) (take_entries p (after_record p c (took e)) es)).answer
      go (Some why) of rec = record { same = same_refl c; ends = inr (why, refl, of) }
      go None of rec =
          let t = takes_same c (record { origin = e.origin; number = e.number; ms = e.ms; instrs = ok_list (p.unspell e.body) }) in
          let x = rec (after_record p c (took e)) in
          let cursor = t.1 in
          record {
            same = record { id = x.same.id ∙ t.0.id; ident = x.same.ident ∙ t.0.ident; second = x.same.second ∙ t.0.second; subset = x.same.subset ∙ t.0.subset; made = x.same.made ∙ t.0.made };
            ends = ⊎_elim (λ a. let m = a.1 in inl (a.0, omega arith)) (λ a. inr a) x.ends;
          }
