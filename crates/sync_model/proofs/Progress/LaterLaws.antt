-- The laws of progress where the server may give up history.
use Rattle.std.proofs.Common.{◌≡◌, ◌≢◌, ◌⊎◌, inl, inr, ⊎_elim, ℕ, zero, suc, ◌≤◌, Bool, true, false, List, [], ◌∷◌, ◌++◌, Option, Some, None, refl, sym, ap, ◌∙◌, subst, arith, if◌then◌else◌, length, map}
use Rattle.std.specs.Prelude.{bytes_eq}
use Rattle.std.specs.Option.{option_map_or}
use Rattle.sync_theory.specs.Logs.{Made as LogMade}
use Rattle.sync_theory.proofs.Logs.{Rising, one_rises, AtLeast, and_more, AtMost, one_within}
use Rattle.sync_theory.proofs.World.{le_or_lt}
use Rattle.sync_model.specs.Bytes.{Name}
use Rattle.sync_model.specs.Profile.{Profile, Lawful, only_by}
use Rattle.sync_model.specs.Snapshots.{Buildable}
use Rattle.sync_model.specs.Messages.{Message}
use Rattle.sync_model.specs.Clients.{Client, Original, Unsent, as_made, client_of, settled_from, start_of}
use Rattle.sync_model.specs.Servers.{ServerRecord, server_of, server_objects}
use Rattle.sync_model.specs.Parts.{serve_by}
use Rattle.sync_model.specs.Later.{Later, LaterEvent, Happens, Trims, later, all_later, first_later, later_after, later_ends, later_served, later_injected, IsLater}
use Rattle.sync_model.specs.Log.{as_log, ident_of, subset_of}
use Rattle.sync_model.specs.Starts.{started}
use Rattle.sync_model.specs.Worlds.{Node, World, Event, Joins, Starts, Edits, Binds, Uploads, Asks, Upgrades, Subscribes, Delivers, Restarts, Stops, Injects, Words, at, seek, has_name, stopped, server_name, named_by, names_own, message_at, happens, outcomes, world_after}
use Rattle.sync_model.specs.Progress.{AreBorne, lacks, IsAbove, Comes, IsException, IsBelowFloor, IsArmed, AnyArmed, AnyUnnamed, AnyOld, IsBelow, AnyBelow, IsRoomy, IsCurrent, AllCurrent, HasCaughtUp, enough, enough_for_all, binds_at, uploads_at, asks_at, rounds, after_rounds, catches_up, sweep, after_sweep, all_catch_up, later_outcomes, after_events}
use Rattle.sync_model.specs.Each.{Each, no_more, and_each}
use Rattle.sync_model.proofs.Lists.{at_below, all_most, rising_drop, drop_length, map_both}
use Rattle.sync_model.proofs.Sim.{Fresh, Given}
use Rattle.sync_model.proofs.Holding.{Holds}
use Rattle.sync_model.proofs.Later.{Held, first_held, all_held, later_facts}
use Rattle.sync_model.proofs.Progress.Names.{Apart, joins_apart, named_same, happens_apart}
use Rattle.sync_model.proofs.Progress.Valid.{Valid}
use Rattle.sync_model.proofs.Progress.Quiet.{current_objects}
use Rattle.sync_model.proofs.Progress.Above.{Above}
use Rattle.sync_model.proofs.Progress.Alongside.{Along, AllPart, no_part, a_part, alongside}
use Rattle.sync_model.proofs.Progress.Readers.{reads}
use Rattle.sync_model.proofs.Progress.Laws.{catches_up_law, all_catch_up_law}

-- ---- rising bases

least_each : {I : Type 0} (c b : ℕ) (us : List (Unsent I)) → AtLeast b (map (as_log c) (map (λ u. u.original) us)) → Each (λ (u : Unsent I). b ≤ u.original.base) us
least_each c b [] l = no_more
least_each c b (u ∷ us) (and_more h l) = and_each h (least_each c b us l)

each_more : {I : Type 0} (a b : ℕ) → a ≤ b → (us : List (Unsent I)) → Each (λ (u : Unsent I). b ≤ u.original.base) us → Each (λ (u : Unsent I). a ≤ u.original.base) us
each_more a b le [] e = no_more
each_more a b le (u ∷ us) (and_each h e) = and_each (omega arith) (each_more a b le us e)

settled_above : {I : Type 0} (c floor cursor : ℕ) (us : List (Unsent I)) → Rising (map (as_log c) (map (λ u. u.original) us)) → AtMost cursor (map (as_log c) (map (λ u. u.original) us)) → floor ≤ settled_from cursor us → (floor ≤ cursor) × Each (λ (u : Unsent I). floor ≤ u.original.base) us
settled_above c floor cursor [] r m le = (le, no_more)
settled_above c floor cursor (u ∷ us) (one_rises l r) (one_within h m) le = (omega arith, and_each le (each_more floor u.original.base le us (least_each c u.original.base us l)))

most_behind : {X : Type 0} (b : ℕ) (xs ys : List (LogMade X)) → AtMost b (xs ++ ys) → AtMost b ys
most_behind b [] ys m = m
most_behind b (x ∷ xs) ys (one_within h m) = most_behind b xs ys m

originals : {I : Type 0} (os : List (Original I)) → map (λ (u : Unsent I). u.original) (map as_made os) ≡ os
originals [] = refl
originals (o ∷ os) = ap (λ l. o ∷ l) (originals os)

nothing_there : {X : Type 0} (xs : List X) (k : ℕ) (x : X) → length xs ≤ k → at xs k ≡ Some x → ⊥
nothing_there xs k x le h = let lt = at_below xs k x h in omega arith

-- below the floor nobody is
never_below : (x : Words) → IsBelowFloor ⊥ x → ⊥
never_below (Rattle.sync_model.specs.Worlds.Replied place m) b = b.1
never_below (Rattle.sync_model.specs.Worlds.Joined name) b = b
never_below (Rattle.sync_model.specs.Worlds.Made number) b = b
never_below (Rattle.sync_model.specs.Worlds.Messaged place) b = b
never_below (Rattle.sync_model.specs.Worlds.Took cursor) b = b
never_below Rattle.sync_model.specs.Worlds.Opened b = b
never_below Rattle.sync_model.specs.Worlds.Armed b = b
never_below Rattle.sync_model.specs.Worlds.Stopped b = b
never_below Rattle.sync_model.specs.Worlds.Upgraded b = b
never_below Rattle.sync_model.specs.Worlds.Current b = b
never_below Rattle.sync_model.specs.Worlds.SubscribedTo b = b
never_below (Rattle.sync_model.specs.Worlds.Declined why) b = b
never_below Rattle.sync_model.specs.Worlds.NameTaken b = b
never_below Rattle.sync_model.specs.Worlds.UuidTaken b = b
never_below Rattle.sync_model.specs.Worlds.NoNode b = b
never_below Rattle.sync_model.specs.Worlds.NoMessage b = b
never_below Rattle.sync_model.specs.Worlds.BadMessage b = b
never_below Rattle.sync_model.specs.Worlds.OwnIdent b = b

module _ {I S : Type 0} (p : Profile I S) where
  -- ---- names where the server gives up history

  pub served_same : (w : World) (kept : Rattle.sync_model.specs.Parts.Parts I S) (m : Message) → (later_served p w kept m).world.clients ≡ w.clients
  served_same w kept m = on (stopped (w.stops server_name) (serve_by p kept m).records)
    where
      on : (o : Option (List ServerRecord)) → (later_ends p w kept (serve_by p kept m) o).world.clients ≡ w.clients
      on None = refl
      on (Some stand) = refl

  later_apart : (l : Later I S) (e : LaterEvent I) → Apart l.world.clients → Apart (later p l e).world.clients
  later_apart l Trims a = a
  later_apart l (Happens (Joins name id)) a = happens_apart p l.world (Joins name id) a
  later_apart l (Happens (Starts name id)) a = joins_apart p l.world name id (started p id l.kept.second l.kept.len l.kept.objects) a
  later_apart l (Happens (Edits name ms edits)) a = happens_apart p l.world (Edits name ms edits) a
  later_apart l (Happens (Binds name)) a = happens_apart p l.world (Binds name) a
  later_apart l (Happens (Uploads name)) a = happens_apart p l.world (Uploads name) a
  later_apart l (Happens (Asks name)) a = happens_apart p l.world (Asks name) a
  later_apart l (Happens (Upgrades name)) a = happens_apart p l.world (Upgrades name) a
  later_apart l (Happens (Subscribes name tables)) a = happens_apart p l.world (Subscribes name tables) a
  later_apart l (Happens (Delivers k to)) a = on (bytes_eq to server_name) (message_at l.world k)
    where
      on : (b : Bool) (o : Option Message) → Apart (if b then option_map_or (later_served p l.world l.kept) o l else Rattle.sync_model.specs.Later.beside p l (Delivers k to)).world.clients
      on true None = a
      on true (Some m) = subst Apart (sym (served_same l.world l.kept m)) a
      on false o = happens_apart p l.world (Delivers k to) a
  later_apart l (Happens (Restarts node)) a = happens_apart p l.world (Restarts node) a
  later_apart l (Happens (Stops node k leaves)) a = happens_apart p l.world (Stops node k leaves) a
  later_apart l (Happens (Injects None)) a = a
  later_apart l (Happens (Injects (Some m))) a = on (names_own p l.world m)
    where
      on : (b : Bool) → Apart (if b then l else later_served p (named_by l.world m) l.kept m).world.clients
      on true = a
      on false = subst Apart (sym (served_same (named_by l.world m) l.kept m ∙ named_same p l.world m)) a

  all_apart : (es : List (LaterEvent I)) (l : Later I S) → Apart l.world.clients → Apart (all_later p l es).world.clients
  all_apart [] l a = a
  all_apart (e ∷ es) l a = all_apart es (later p l e) (later_apart l e a)

  module _ {Fits Bounded Old : S → Type 0} (law : Lawful p Fits) (built : Buildable p Fits Bounded Old) where
    pub later_valid : (l : Later I S) → IsLater p l → Held p l × Apart l.world.clients
    later_valid l r = (subst (Held p) r.1 (all_held p law built r.0 (first_later p) (first_held p law built)), subst (λ v. Apart v.world.clients) r.1 (all_apart r.0 (first_later p) (λ i nd h. absurd (nothing i nd h))))
      where
        nothing : (i : ℕ) (nd : Node) → at [] i ≡ Some nd → ⊥
        nothing i nd h = cc

    pub later_is_valid : (l : Later I S) → IsLater p l → Valid p l.world
    later_is_valid l r = let v = later_valid l r in record { holds = v.0.holds; opens = v.0.opens; apart = v.1 }

    -- a client whose settled number isn't below a version
    pub above_at : (w : World) (h : Holds p w) (floor i : ℕ) (nd : Node) → at w.clients i ≡ Some nd → floor ≤ settled_from (client_of p nd.records).cursor (client_of p nd.records).unsent → Above p floor (client_of p nd.records)
    above_at w h floor i nd here le =
        let k = h.sim.clients i nd here in
        ⊎_elim (λ f. fresh f.1) (λ g. given (Rattle.sync_model.specs.Servers.place_of k.id (server_of p w.server).ids) g.1) k.is
      where
        st : Client I S
        st = client_of p nd.records

        fresh : Fresh p h.n (client_of p nd.records) → Above p floor (client_of p nd.records)
        fresh f =
            let same : map (λ (u : Unsent I). u.original) (client_of p nd.records).unsent ≡ (client_of p nd.records).made = ap (map (λ (u : Unsent I). u.original)) f.unsent ∙ originals (client_of p nd.records).made in
            let r = subst (λ l. Rising (map (as_log 0) l)) (sym same) (f.rising 0) in
            let m = subst (λ l. AtMost (client_of p nd.records).cursor (map (as_log 0) l)) (sym same) (subst (λ k. AtMost k (map (as_log 0) (client_of p nd.records).made)) (sym f.at_start) (all_most (start_of (client_of p nd.records)) (f.bases 0))) in
            let a = settled_above 0 floor (client_of p nd.records).cursor (client_of p nd.records).unsent r m le in
            record { cursor = a.0; bases = a.1 }

        given : (c : ℕ) → Given p h.n c (client_of p nd.records) → Above p floor (client_of p nd.records)
        given c g =
            let parts : h.n.mades c ≡ map (as_log c) g.sent ++ map (as_log c) (map (λ (u : Unsent I). u.original) (client_of p nd.records).unsent) = g.mades ∙ ap (map (as_log c)) g.split ∙ map_both (as_log c) g.sent (map (λ (u : Unsent I). u.original) (client_of p nd.records).unsent) in
            let r0 = rising_drop (length (map (as_log c) g.sent)) _ (subst Rising parts (h.sim.rising c)) in
            let r = subst Rising (drop_length (map (as_log c) g.sent) (map (as_log c) (map (λ (u : Unsent I). u.original) (client_of p nd.records).unsent))) r0 in
            let m = most_behind (client_of p nd.records).cursor (map (as_log c) g.sent) (map (as_log c) (map (λ (u : Unsent I). u.original) (client_of p nd.records).unsent)) (subst (AtMost (client_of p nd.records).cursor) parts g.within) in
            let a = settled_above c floor (client_of p nd.records).cursor (client_of p nd.records).unsent r m le in
            record { cursor = a.0; bases = a.1 }

    -- ---- the events of catching up

    module _ (q : Words → Type 0) (armed below : Type 0) (stop : armed → q Rattle.sync_model.specs.Worlds.Stopped) (of : Name → Type 0) (floor first : ℕ) where
      abbrev Parts_ : List (Event I) → Type 0
      Parts_ es = AllPart p law built q armed below stop of floor first es

      both_part : (es fs : List (Event I)) → Parts_ es → Parts_ fs → Parts_ (es ++ fs)
      both_part [] fs no_part f = f
      both_part (e ∷ es) fs (a_part h part) f = a_part h (both_part es fs part f)

      round_part : (name : Name) → of name → (k n : ℕ) → first ≤ n → Parts_ (rounds name n k)
      round_part name part zero n le = no_part
      round_part name part (suc k) n le =
          a_part part (a_part (omega arith) (a_part (omega arith) (a_part part (a_part (omega arith) (a_part (omega arith) (round_part name part k (suc (suc (suc (suc n)))) (omega arith)))))))

      pub catch_part : (name : Name) → of name → (n k : ℕ) → first ≤ n → Parts_ (catches_up name n k)
      catch_part name part n k le = a_part tt (a_part (omega arith) (a_part (omega arith) (round_part name part k (suc (suc n)) (omega arith))))

      more_rounds : (k n : ℕ) → n ≤ after_rounds n k
      more_rounds zero n = omega arith
      more_rounds (suc k) n = let le = more_rounds k (suc (suc (suc (suc n)))) in omega arith

      more_sweep : (nds : List Node) (n k : ℕ) → n ≤ after_sweep nds n k
      more_sweep [] n k = omega arith
      more_sweep (nd ∷ nds) n k = let a = more_rounds k (suc (suc n)) in let b = more_sweep nds (after_rounds (suc (suc n)) k) k in omega arith

      sweep_part : ((name : Name) → of name) → (nds : List Node) (n k : ℕ) → first ≤ n → Parts_ (sweep nds n k)
      sweep_part all [] n k le = no_part
      sweep_part all (nd ∷ nds) n k le =
          let a = more_rounds k (suc (suc n)) in
          both_part (catches_up nd.name n k) (sweep nds (after_rounds (suc (suc n)) k) k) (catch_part nd.name (all nd.name) n k le) (sweep_part all nds (after_rounds (suc (suc n)) k) k (omega arith))

      pub all_part : ((name : Name) → of name) → (w : World) (k : ℕ) → first ≤ length w.messages → Parts_ (all_catch_up w k)
      all_part all w k le =
          let a = more_sweep w.clients (length w.messages) k in
          both_part (sweep w.clients (length w.messages) k) (sweep w.clients (after_sweep w.clients (length w.messages) k) k) (sweep_part all w.clients (length w.messages) k le) (sweep_part all w.clients (after_sweep w.clients (length w.messages) k) k (omega arith))

    -- ---- the laws

    module _ (l : Later I S) (later_is : IsLater p l) where
      held : Held p l
      held = (later_valid l later_is).0

      apart : Apart l.world.clients
      apart = (later_valid l later_is).1

      valid : Valid p l.world
      valid = record { holds = held.holds; opens = held.opens; apart = apart }

      pub later_current : (i : ℕ) (nd : Node) → at l.world.clients i ≡ Some nd → ident_of p l.world nd ≢ 0 → IsCurrent p l.world nd → (client_of p nd.records).objects ≡ only_by p (subset_of p nd) l.kept.objects
      later_current i nd here ne cur =
          let f = later_facts p law built l later_is in
          current_objects p l.world f.facts i nd here ne cur ∙ ap (only_by p (subset_of p nd)) (sym f.kept.objects)

      below_or : (i : ℕ) (nd : Node) → at l.world.clients i ≡ Some nd → Above p l.kept.floor (client_of p nd.records) ⊎ IsBelow p l nd
      below_or i nd here = ⊎_elim (λ le. inl (above_at l.world held.holds l.kept.floor i nd here le)) (λ gt. inr gt) (le_or_lt l.kept.floor (settled_from (client_of p nd.records).cursor (client_of p nd.records).unsent))

      -- one client alone has a name
      one : (i : ℕ) (nd : Node) → at l.world.clients i ≡ Some nd → (j : ℕ) (x : Node) → at l.world.clients j ≡ Some x → x.name ≡ nd.name → x ≡ nd
      one i nd here j x there same = ap (λ z. z.1) (pairs (j, x) (i, nd) (sym (apart j x there).0 ∙ ap (λ name. seek (has_name name) l.world.clients) same ∙ (apart i nd here).0))
        where
          pairs : (a b : ℕ × Node) → Some a ≡ Some b → a ≡ b
          pairs a b e = cc

      -- what came with the whole history comes here too, or a refusal for want of it
      over : (q : Words → Type 0) (armed below : Type 0) (stop : armed → q Rattle.sync_model.specs.Worlds.Stopped) (of : Name → Type 0) (es : List (Event I)) (r : World → Type 0) → Along p law built q armed below stop of l.kept.floor (length l.world.messages) l → AllPart p law built q armed below stop of l.kept.floor (length l.world.messages) es
          → Comes q (outcomes p l.world es) ⊎ r (world_after p l.world es) → Comes (λ x. q x ⊎ IsBelowFloor below x) (later_outcomes p l es) ⊎ r (after_events p l es).world
      over q armed below stop of es r along part plain = ⊎_elim
          (λ c. inl c)
          (λ e. ⊎_elim (λ c. inl (widen (later_outcomes p l es) (subst (Comes q) (sym e.0) c))) (λ h. inr (subst r (sym e.1) h)) plain)
          (alongside p law built q armed below stop of l.kept.floor (length l.world.messages) es l along part)
        where
          widen : (ws : List Words) → Comes q ws → Comes (λ x. q x ⊎ IsBelowFloor below x) ws
          widen [] c = elim c [ ]
          widen (x ∷ xs) (Rattle.sync_model.specs.Progress.comes_now h) = Rattle.sync_model.specs.Progress.comes_now (inl h)
          widen (x ∷ xs) (Rattle.sync_model.specs.Progress.comes_later c) = Rattle.sync_model.specs.Progress.comes_later (widen xs c)

      -- a client that only reads
      pub later_reads : (i : ℕ) (nd : Node) → at l.world.clients i ≡ Some nd → (client_of p nd.records).ident ≢ 0 → (client_of p nd.records).second ≡ true → (client_of p nd.records).unsent ≡ [] → IsAbove p l nd → l.world.stops nd.name ≡ None → l.world.stops server_name ≡ None → (k : ℕ) → AreBorne p k (lacks p l.world nd)
          → HasCaughtUp p (after_events p l (rounds nd.name (length l.world.messages) k)).world nd.name
      later_reads i nd here ne second none up unarmed unarmed_server k borne = ⊎_elim (λ c. absurd (never_comes (later_outcomes p l (rounds nd.name (length l.world.messages) k)) c)) (λ done. done)
          (over (λ x. ⊥) ⊥ ⊥ (λ a. a) (λ x. x ≡ nd.name) (rounds nd.name (length l.world.messages) k) (λ v. HasCaughtUp p v nd.name)
          (record {
            held = held;
            at_floor = refl;
            arms = λ ne. ne unarmed_server;
            above = λ j x there same. inl (subst (λ (y : Node). Above p l.kept.floor (client_of p y.records)) (sym (one i nd here j x there same)) (above_at l.world held.holds l.kept.floor i nd here up));
            high = λ j m gt h. absurd (nothing_there l.world.messages j m gt h);
          })
          (round_part (λ x. ⊥) ⊥ ⊥ (λ a. a) (λ x. x ≡ nd.name) l.kept.floor (length l.world.messages) nd.name refl k (length l.world.messages) (omega arith))
          (reads p law built l.world nd.name i nd (apart i nd here).1 (λ ne. ne unarmed) (λ ne. ne unarmed_server) k (record { reached = valid; node = nd; found = (apart i nd here).0; name_is = refl; stops = λ x e. e; others = λ j ne. refl; names = refl; client = refl; server = refl; messages = refl }) ne none second borne))
        where
          never_comes : (ws : List Words) → Comes (λ x. ⊥ ⊎ IsBelowFloor ⊥ x) ws → ⊥
          never_comes [] c = elim c [ ]
          never_comes (x ∷ xs) (Rattle.sync_model.specs.Progress.comes_now h) = ⊎_elim (λ z. z) (λ b. never_below x b) h
          never_comes (x ∷ xs) (Rattle.sync_model.specs.Progress.comes_later c) = never_comes xs c

      module _ (roomy : IsRoomy p) where
        pub later_one : (i : ℕ) (nd : Node) → at l.world.clients i ≡ Some nd → (k : ℕ) → enough p l.world nd ≤ k
            → Comes (λ x. IsException (IsArmed p l.world nd) (ident_of p l.world nd ≡ 0) ((client_of p nd.records).second ≡ false) x ⊎ IsBelowFloor (IsBelow p l nd) x) (later_outcomes p l (catches_up nd.name (length l.world.messages) k))
            ⊎ HasCaughtUp p (after_events p l (catches_up nd.name (length l.world.messages) k)).world nd.name
        later_one i nd here k le =
            over (IsException (IsArmed p l.world nd) (ident_of p l.world nd ≡ 0) ((client_of p nd.records).second ≡ false)) (IsArmed p l.world nd) (IsBelow p l nd) (λ a. a) (λ x. x ≡ nd.name) (catches_up nd.name (length l.world.messages) k) (λ v. HasCaughtUp p v nd.name)
            (record {
              held = held;
              at_floor = refl;
              arms = λ ne. inr ne;
              above = λ j x there same. subst (λ (y : Node). Above p l.kept.floor (client_of p y.records) ⊎ IsBelow p l nd) (sym (one i nd here j x there same)) (below_or i nd here);
              high = λ j m gt h. absurd (nothing_there l.world.messages j m gt h);
            })
            (catch_part (IsException (IsArmed p l.world nd) (ident_of p l.world nd ≡ 0) ((client_of p nd.records).second ≡ false)) (IsArmed p l.world nd) (IsBelow p l nd) (λ a. a) (λ x. x ≡ nd.name) l.kept.floor (length l.world.messages) nd.name refl (length l.world.messages) k (omega arith))
            (catches_up_law p law built roomy l.world valid i nd here k le)

        pub later_all : (k : ℕ) → enough_for_all p l.world ≤ k
            → Comes (λ x. IsException (AnyArmed p l.world) (AnyUnnamed p l.world) (AnyOld p l.world) x ⊎ IsBelowFloor (AnyBelow p l) x) (later_outcomes p l (all_catch_up l.world k)) ⊎ AllCurrent p (after_events p l (all_catch_up l.world k)).world
        later_all k le =
            over (IsException (AnyArmed p l.world) (AnyUnnamed p l.world) (AnyOld p l.world)) (AnyArmed p l.world) (AnyBelow p l) (λ a. a) (λ x. Unit {0}) (all_catch_up l.world k) (λ v. AllCurrent p v)
            (record {
              held = held;
              at_floor = refl;
              arms = λ ne. (server_name, ne);
              above = λ j x there part. ⊎_elim (λ up. inl up) (λ low. inr (j, x, there, low)) (below_or j x there);
              high = λ j m gt h. absurd (nothing_there l.world.messages j m gt h);
            })
            (all_part (IsException (AnyArmed p l.world) (AnyUnnamed p l.world) (AnyOld p l.world)) (AnyArmed p l.world) (AnyBelow p l) (λ a. a) (λ x. Unit {0}) l.kept.floor (length l.world.messages) (λ name. tt) l.world k (omega arith))
            (all_catch_up_law p law built roomy l.world valid k le)
