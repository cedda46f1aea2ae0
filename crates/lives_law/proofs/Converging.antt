-- The headline of a server's file and a client's file that go together, whether the client's ident is given up or not.
use Rattle.std.proofs.Common.{◌≡◌, ◌⊎◌, inl, inr, ⊎_elim, ℕ, zero, suc, ◌+◌, ◌≤◌, ◌<◌, Bool, true, false, ◌&&◌, ◌==◌, not, List, [], ◌∷◌, ◌++◌, Option, Some, None, Result, Err, refl, sym, ap, ap₂, ◌∙◌, subst, arith, length, map, drop, take, if◌then◌else◌, eqb-true, nat_le}
use Rattle.std.specs.Prelude.{nat_lt}
use Rattle.std.proofs.lemmas.Bool.Decides.{nat_tests}
use Rattle.sync_theory.specs.Lists.{run, and_then}
use Rattle.sync_theory.specs.Changesets.{Changeset}
use Rattle.sync_theory.specs.Logs.{of_origin}
use Rattle.sync_theory.proofs.Logs.{origin_append}
use Rattle.sync_theory.proofs.World.{left_nil}
use Rattle.sync_model.specs.Profile.{Profile, Lawful, act_changeset, only_by}
use Rattle.sync_model.specs.Snapshots.{Buildable}
use Rattle.sync_model.specs.Messages.{Sent, Change, Stored, Refused}
use Rattle.sync_model.specs.Clients.{Client as ClientState, ClientRecord, Original, Unsent, as_made, changeset_of, client_of, start_of}
use Rattle.sync_model.specs.Servers.{ServerStep, NumberGap, BaseBack, AheadOfHistory, HistoryFull, last_base, merge_read, merged, serve_changes, Server, ServerRecord, Client, Entry, Form, Retired, Settled, Part, Floor, Count, Carried, Past, ServerRefusal, IdentRetired, no_server, place_of, server_of, after_server, after_all, server_objects, history_of, state_of, heir_of, is_retired, is_given, count, merge}
use Rattle.sync_model.specs.Files.{is_fine, is_second, server_admits, server_opens}
use Rattle.sync_model.specs.Bytes.{Uuid}
use Rattle.sync_model.specs.Starts.{started}
use Rattle.sync_model.specs.Worlds.{Node, World, is_there}
use Rattle.sync_model.specs.Log.{WorldFacts, NamedFacts, UnnamedFacts, as_log, ident_by, state_in}
use Rattle.sync_model.proofs.Alone.{both_true}
use Rattle.sync_model.proofs.Sim.{Agrees, Given, no_change}
use Rattle.sync_model.proofs.Serving.{objects_of}
use Rattle.lives_law.specs.Pair.{IsEntry, Begun, Fit, IsActive, PairHolds, RefusesUploads, OneExchange, Converge, ident_for, pair_world, without_retired}
use Rattle.lives_law.proofs.Pair.{pairs_hold, together, given_of}
use Rattle.lives_law.proofs.Passing.{take_drop}

some_is : {A : Type 0} {x y : A} → Some x ≡ Some y → x ≡ y
some_is e = cc

-- the own idents are those of the client
agrees : (o : Option Uuid) (ids : List Uuid) → Agrees (λ i. i == ident_by ids o) ids (o ∷ [])
agrees None ids i ne le = zero_not (i == 0) refl
  where
    zero_not : (b : Bool) → (i == 0) ≡ b → b ≡ false
    zero_not true is = absurd (ne (eqb-true i 0 is))
    zero_not false is = refl
agrees (Some u) ids i ne le = on (i == place_of u ids) (i == 0) refl
  where
    on : (a b : Bool) → (i == 0) ≡ b → a ≡ is_there {A = ℕ × Option Uuid} (if a && not b then Some (0, Some u) else None)
    on true true is = absurd (ne (eqb-true i 0 is))
    on true false is = refl
    on false b is = refl

module _ {I S : Type 0} (p : Profile I S) {Fits Bounded Old : S → Type 0} (law : Lawful p Fits) (built : Buildable p Fits Bounded Old) where
  module _ (f : List ServerRecord) (g : List ClientRecord) (fit : Fit p f g) (active : IsActive p f g) where
    abbrev s : Server I
    s = server_of p f

    abbrev c : ClientState I S
    c = client_of p g

    abbrev w : World
    w = pair_world p f [] g

    abbrev node : Node
    node = record { name = []; records = g }

    facts : WorldFacts p Fits (pair_world p f [] g)
    facts = pairs_hold p law built f g fit active [] []

    -- the exchange of the theory beneath
    active_exchange : OneExchange p (server_of p f) (client_of p g)
    active_exchange =
        let a = together p law f g fit active [] built in
        record {
          any = no_change;
          nodes = a.n;
          reached = a.sim.reached (λ i. i == ident_for p (server_of p f) (client_of p g)) (agrees (client_of p g).id (server_of p f).ids);
          log = a.sim.log_is;
          objects = sym (objects_of p law (node ∷ []) (server_of p f).ids (server_of p f) a.n a.sim);
          client = λ ne.
              let place : place_of fit.id (server_of p f).ids ≡ ident_for p (server_of p f) (client_of p g) = sym (ap (ident_by (server_of p f).ids) fit.born) in
              let v = subst (λ c. Given p a.n c (client_of p g)) place (given_of p law f g fit active [] f g fit.born a (λ z. ne (sym place ∙ z))) in
              record { made = v.mades; cursor = v.cursor; unsent = v.unsent; objects = v.objects };
        }

    -- the state at a version, by the log alone
    state_is : (k : ℕ) → k ≤ length (server_of p f).log → state_of p (server_of p f).log k ≡ state_in p (pair_world p f [] g) k
    state_is zero h = refl
    state_is (suc k) h =
        let e = facts.entries k (omega arith) in
        ap₂ (λ q r. and_then q (λ s. and_then r (λ x. act_changeset p x s))) (state_is k (omega arith)) (e.carried ∙ sym e.is)

    ran : (xs : List (Changeset I)) (a b : S) → xs ≡ [] → run (act_changeset p) xs a ≡ Some b → a ≡ b
    ran xs a b e r = some_is (ap (λ l. run (act_changeset p) l a) (sym e) ∙ r)

    -- all of it, where the objects are what a state became
    from_base : (base : S) → (client_of p g).cursor ≤ length (server_of p f).log
        → map (λ u. u.original) (client_of p g).unsent ≡ drop (length (of_origin (ident_for p (server_of p f) (client_of p g)) (take (client_of p g).cursor (server_of p f).log))) (client_of p g).made
        → state_in p (pair_world p f [] g) (client_of p g).cursor ≡ Some base
        → run (act_changeset p) (map (changeset_of (ident_for p (server_of p f) (client_of p g))) (client_of p g).unsent) (only_by p (client_of p g).subset base) ≡ Some (client_of p g).objects
        → Converge p (server_of p f) (client_of p g)
    from_base base within unsent state objects = record {
      within = within;
      unsent = unsent;
      base = base;
      state = state_is (client_of p g).cursor within ∙ state;
      objects = objects;
      equal = λ current.
          let end : base ≡ server_objects p (server_of p f) = some_is (sym state ∙ ap (state_in p (pair_world p f [] g)) current.0 ∙ facts.objects) in
          sym (ran _ _ _ (ap (map (changeset_of (ident_for p (server_of p f) (client_of p g)))) current.1) objects) ∙ ap (only_by p (client_of p g).subset) end;
    }

    named : NamedFacts p (pair_world p f [] g) (record { name = []; records = g }) → Converge p (server_of p f) (client_of p g)
    named n = from_base n.base n.within n.rebased n.state (ap (λ l. run (act_changeset p) l (only_by p (client_of p g).subset n.base)) n.unsent ∙ n.objects)

    originals : (os : List (Original I)) → map (λ (u : Unsent I). u.original) (map as_made os) ≡ os
    originals [] = refl
    originals (o ∷ os) = ap (λ l. o ∷ l) (originals os)

    -- nothing in the history is of ident 0
    none_of_nobody : (i : ℕ) → i ≡ 0 → (k : ℕ) → of_origin i (take k (server_of p f).log) ≡ []
    none_of_nobody i z k =
        let a = together p law f g fit active [] built in
        let h = a.sim.ahead i in
        let none : of_origin i (server_of p f).log ≡ [] = ap (of_origin i) (sym a.sim.log_is) ∙ left_nil (of_origin i a.n.log) h.0 (sym h.1 ∙ a.sim.blank_mades i (inl z)) in
        left_nil (of_origin i (take k (server_of p f).log)) (of_origin i (drop k (server_of p f).log)) (sym (origin_append i (take k (server_of p f).log) (drop k (server_of p f).log)) ∙ ap (of_origin i) (sym (take_drop k (server_of p f).log)) ∙ none)

    unnamed : ident_for p (server_of p f) (client_of p g) ≡ 0 → UnnamedFacts p (pair_world p f [] g) (record { name = []; records = g }) → Converge p (server_of p f) (client_of p g)
    unnamed z n =
        from_base n.base n.within
        (ap (map (λ (u : Unsent I). u.original)) n.unsent ∙ originals (client_of p g).made ∙ ap (λ l. drop (length l) (client_of p g).made) (sym (none_of_nobody (ident_for p (server_of p f) (client_of p g)) z (client_of p g).cursor)))
        n.state
        (ap (λ k. run (act_changeset p) (map (changeset_of k) (client_of p g).unsent) (only_by p (client_of p g).subset n.base)) z ∙ n.objects)

    active_converge : Converge p (server_of p f) (client_of p g)
    active_converge = ⊎_elim (λ h. named h.1) (λ h. unnamed h.0 h.1) (facts.clients 0 (record { name = []; records = g }) refl)

  -- ---- where idents are given up

  pub refuses_uploads : (s : Server I) (c by : ℕ) → heir_of c s.retired ≡ Some by → RefusesUploads p s c
  refuses_uploads s c by gone [] = (refl, inl refl)
  refuses_uploads s c by gone (h ∷ hs) = on (nat_le h.number (count s c)) refl (refuses_uploads s c by gone hs)
    where
      refused : merge p s c h ≡ Err (IdentRetired (count s c))
      refused = ap (λ o. if is_retired o then Err (IdentRetired (count s c)) else (if nat_lt (suc (count s c)) h.number then Err (NumberGap (suc (count s c))) else if nat_lt h.base (last_base (of_origin c s.log)) then Err (BaseBack (last_base (of_origin c s.log))) else if nat_lt (length s.log) h.base then Err (AheadOfHistory (length s.log)) else if length s.log == p.full then Err (HistoryFull (length s.log)) else merge_read p s c h (p.unspell h.body))) gone

      Answers : ServerStep → Type 0
      Answers did = (did.records ≡ []) × ((did.answer ≡ Stored c (count s c)) ⊎ ((number : ℕ) × (count s c < number) × (did.answer ≡ Refused c number 68 (count s c))))

      on : (b : Bool) → nat_le h.number (count s c) ≡ b → ((serve_changes p s c hs).records ≡ []) × (((serve_changes p s c hs).answer ≡ Stored c (count s c)) ⊎ ((number : ℕ) × (count s c < number) × ((serve_changes p s c hs).answer ≡ Refused c number 68 (count s c))))
          → ((if b then serve_changes p s c hs else merged c h.number (merge p s c h) (λ new. serve_changes p (after_all p s new) c hs)).records ≡ []) × (((if b then serve_changes p s c hs else merged c h.number (merge p s c h) (λ new. serve_changes p (after_all p s new) c hs)).answer ≡ Stored c (count s c)) ⊎ ((number : ℕ) × (count s c < number) × ((if b then serve_changes p s c hs else merged c h.number (merge p s c h) (λ new. serve_changes p (after_all p s new) c hs)).answer ≡ Refused c number 68 (count s c))))
      on true is rest = rest
      on false is rest =
          let it = ap (λ r. merged c h.number r (λ new. serve_changes p (after_all p s new) c hs)) refused in
          let above : count s c < h.number = grind (arith, nat_tests) in
          (ap (λ (d : ServerStep). d.records) it, inr (h.number, above, ap (λ (d : ServerStep). d.answer) it))

  -- the records that say so are left out

  abbrev pub forget : Server I → Server I
  forget s = record s { retired = [] }

  without_is : (f : List ServerRecord) (s : Server I) → after_all p (forget s) (without_retired f) ≡ forget (after_all p s f)
  without_is [] s = refl
  without_is (Client id ∷ f) s = without_is f (after_server p s (Client id))
  without_is (Entry origin number base ms body ∷ f) s = without_is f (after_server p s (Entry origin number base ms body))
  without_is (Form ∷ f) s = without_is f (after_server p s Form)
  without_is (Retired c by ∷ f) s = without_is f (after_server p s (Retired c by))
  without_is (Settled c n ∷ f) s = without_is f (after_server p s (Settled c n))
  without_is (Part body ∷ f) s = without_is f s
  without_is (Floor version ∷ f) s = without_is f s
  without_is (Count c n b m ∷ f) s = without_is f s
  without_is (Carried o n b m body ∷ f) s = without_is f s
  without_is (Past c v m body ∷ f) s = without_is f s

  without_both : (f g : List ServerRecord) → without_retired (f ++ g) ≡ without_retired f ++ without_retired g
  without_both [] g = refl
  without_both (Client id ∷ f) g = ap (λ l. Client id ∷ l) (without_both f g)
  without_both (Entry origin number base ms body ∷ f) g = ap (λ l. Entry origin number base ms body ∷ l) (without_both f g)
  without_both (Form ∷ f) g = ap (λ l. Form ∷ l) (without_both f g)
  without_both (Retired c by ∷ f) g = without_both f g
  without_both (Settled c n ∷ f) g = ap (λ l. Settled c n ∷ l) (without_both f g)
  without_both (Part body ∷ f) g = ap (λ l. Part body ∷ l) (without_both f g)
  without_both (Floor version ∷ f) g = ap (λ l. Floor version ∷ l) (without_both f g)
  without_both (Count c n b m ∷ f) g = ap (λ l. Count c n b m ∷ l) (without_both f g)
  without_both (Carried o n b m body ∷ f) g = ap (λ l. Carried o n b m body ∷ l) (without_both f g)
  without_both (Past c v m body ∷ f) g = ap (λ l. Past c v m body ∷ l) (without_both f g)

  join : (a b : Bool) → a ≡ true → b ≡ true → (a && b) ≡ true
  join true b e h = h
  join false b e h = cc

  last_of : (x y z a b : Bool) → (a ≡ true → b ≡ true) → (x && (y && (z && a))) ≡ true → (x && (y && (z && b))) ≡ true
  last_of true true true a b h e = h e
  last_of true true false a b h e = cc
  last_of true false z a b h e = cc
  last_of false y z a b h e = cc

  merges : (s : Server I) (c : ℕ) (h : Change) → is_fine (merge p s c h) ≡ true → is_fine (merge p (forget s) c h) ≡ true
  merges s c h e = on (is_retired (heir_of c s.retired)) (merge p (forget s) c h) e
    where
      on : (b : Bool) (r : Result (List ServerRecord) ServerRefusal) → is_fine (if b then Err (IdentRetired (count s c)) else r) ≡ true → is_fine r ≡ true
      on true r e = cc
      on false r e = e

  -- a record more, where the rest opens
  opens_on : (s : Server I) (f : List ServerRecord) (r : ServerRecord) → server_admits p s r ≡ true → server_opens p (forget (after_server p s r)) (without_retired f) ≡ true → server_opens p (forget s) (without_retired (r ∷ f)) ≡ true
  opens_on s f (Client id) a e = join (server_admits p s (Client id)) (server_opens p (forget (after_server p s (Client id))) (without_retired f)) a e
  opens_on s f (Entry origin number base ms body) a e = join (server_admits p (forget s) (Entry origin number base ms body)) (server_opens p (forget (after_server p s (Entry origin number base ms body))) (without_retired f))
      (last_of (is_given s origin) (number == suc (count s origin)) (not (is_second p (p.unspell body) && not s.second)) (is_fine (merge p s origin (record { number = number; base = base; ms = ms; body = body }))) (is_fine (merge p (forget s) origin (record { number = number; base = base; ms = ms; body = body }))) (merges s origin (record { number = number; base = base; ms = ms; body = body })) a)
      e
  opens_on s f Form a e = join (server_admits p s Form) (server_opens p (forget (after_server p s Form)) (without_retired f)) a e
  opens_on s f (Retired c by) a e = e
  opens_on s f (Settled c n) a e = join (server_admits p s (Settled c n)) (server_opens p (forget (after_server p s (Settled c n))) (without_retired f)) a e
  opens_on s f (Part body) a e = cc
  opens_on s f (Floor version) a e = cc
  opens_on s f (Count c n base m) a e = cc
  opens_on s f (Carried o n base m body) a e = cc
  opens_on s f (Past c v m body) a e = cc

  still_opens : (f : List ServerRecord) (s : Server I) → server_opens p s f ≡ true → server_opens p (forget s) (without_retired f) ≡ true
  still_opens [] s e = refl
  still_opens (r ∷ f) s e =
      let b = both_true (server_admits p s r) (server_opens p (after_server p s r) f) e in
      opens_on s f r b.0 (still_opens f (after_server p s r) b.1)

  module _ (f : List ServerRecord) (g : List ClientRecord) (fit : Fit p f g) where
    same : server_of p (without_retired f) ≡ forget (server_of p f)
    same = without_is f no_server

    entry_without : (k : ℕ) (e : Sent) → IsEntry p f g k e → IsEntry p (without_retired f) g k e
    entry_without k e t = record {
      within = subst (λ s. k < length s.log) (sym same) t.within;
      entry = t.entry;
      is = subst (λ s. history_of p s.log k ≡ Some t.entry) (sym same) t.is;
      sent = t.sent;
    }

    begun_without : Begun p f g fit.id → Begun p (without_retired f) g fit.id
    begun_without b =
        let here : server_of p (without_retired b.before) ≡ forget (server_of p b.before) = without_is b.before no_server in
        record {
          before = without_retired b.before;
          after = without_retired b.after;
          is = sym (without_both b.before b.after) ∙ ap without_retired b.is;
          unknown = ap (λ s. place_of fit.id s.ids) here ∙ b.unknown;
          second = b.second;
          more = b.more;
          starts = ap (λ s. started p fit.id b.second (length s.log) (server_objects p s) ++ b.more) here ∙ b.starts;
          whole = b.whole;
        }

    fit_without : Fit p (without_retired f) g
    fit_without = record {
      server = still_opens f no_server fit.server;
      client = fit.client;
      id = fit.id;
      born = fit.born;
      ident = subst (λ s. ((client_of p g).ident ≡ 0) ⊎ ((client_of p g).ident ≡ place_of fit.id s.ids)) (sym same) fit.ident;
      begins = ⊎_elim (λ w. inl w) (λ b. inr (begun_without b)) fit.begins;
      took = λ k e h. entry_without (start_of (client_of p g) + k) e (fit.took k e h);
      rest = fit.rest;
      made = subst (λ s. map (as_log (place_of fit.id s.ids)) (client_of p g).made ≡ of_origin (place_of fit.id s.ids) s.log ++ fit.rest) (sym same) fit.made;
    }

    active_without : IsActive p (without_retired f) g
    active_without = subst (λ s. heir_of (ident_for p s (client_of p g)) s.retired ≡ None) (sym same) refl

    -- so all that holds of worlds holds of the two, whoever was given up
    pub pairs_hold_without : PairHolds p Fits (without_retired f) g
    pairs_hold_without = pairs_hold p law built (without_retired f) g fit_without active_without

    pub one_exchange : OneExchange p (server_of p f) (client_of p g)
    one_exchange = back (subst (λ s. OneExchange p s (client_of p g)) same (active_exchange (without_retired f) g fit_without active_without))
      where
        back : OneExchange p (forget (server_of p f)) (client_of p g) → OneExchange p (server_of p f) (client_of p g)
        back e = record { any = e.any; nodes = e.nodes; reached = e.reached; log = e.log; objects = e.objects; client = e.client }

    pub files_converge : Converge p (server_of p f) (client_of p g)
    files_converge = back (subst (λ s. Converge p s (client_of p g)) same (active_converge (without_retired f) g fit_without active_without))
      where
        back : Converge p (forget (server_of p f)) (client_of p g) → Converge p (server_of p f) (client_of p g)
        back c = record { within = c.within; unsent = c.unsent; base = c.base; state = c.state; objects = c.objects; equal = c.equal }
