-- A client's file that begins with a state of the server.
use Rattle.std.proofs.Common.{◌≡◌, ℕ, zero, suc, ◌+◌, ◌<◌, ◌≤◌, Bool, true, false, ◌&&◌, ◌||◌, not, List, [], ◌∷◌, ◌++◌, Option, Some, None, Result, Ok, Err, refl, sym, ap, ap₂, ◌∙◌, subst, arith, append_assoc, append-nil, if◌then◌else◌, length, map, sum_by, nat_le}
use Rattle.std.proofs.lemmas.Bool.{leb-true}
use Rattle.std.proofs.lemmas.List.Sums.{sum_by-append}
use Rattle.std.specs.Prelude.{bytes_eq}
use Rattle.sync_theory.specs.Lists.{run, and_then}
use Rattle.sync_theory.specs.Grid.{history, state_at}
use Rattle.sync_theory.specs.Changesets.{Changeset}
use Rattle.sync_theory.specs.Logs.{Nodes, world_of}
use Rattle.sync_theory.proofs.Agree.{then_gives, run_append}
use Rattle.sync_model.specs.Bytes.{Uuid}
use Rattle.sync_model.specs.Profile.{Profile, Lawful, act, act_changeset, cross_changesets, is_small, needs}
use Rattle.sync_model.specs.Snapshots.{Buildable, part_differs, grown_as, grown_to, grown}
use Rattle.sync_model.specs.Each.{Each, no_more, and_each}
use Rattle.sync_model.specs.Clients.{Client, ClientRecord, Part, Floor, client_of, no_client, after_record, after_records, ok_list, state_or, grown_or, tooks_of}
use Rattle.sync_model.specs.Servers.{Server, ServerRecord, Entry, after_server, after_all, state_of, server_objects}
use Rattle.sync_model.specs.Starts.{started}
use Rattle.sync_model.specs.Worlds.{Node}
use Rattle.sync_model.specs.Each.{Each, no_more, and_each}
use Rattle.sync_model.specs.Files.{is_fine, is_empty, is_place, readable, read_parts, part_and, parts_grow, part_fits, bodies_ahead, client_opens, is_second, server_admits, server_opens}
use Rattle.sync_model.proofs.Bytes.{bytes_true}
use Rattle.sync_model.proofs.Limits.{both, each_append}
use Rattle.sync_model.proofs.Lists.{listed, listed_last, all_none}
use Rattle.sync_model.proofs.Olds.{Left, Log as OldLog, history_keeps}
use Rattle.sync_model.proofs.Own.{good_of, entry_small}
use Rattle.sync_model.proofs.Sim.{no_numbers, Fresh, Admits, Sim}
use Rattle.sync_model.proofs.Stamps.{sets_law}
use Rattle.sync_theory.proofs.Converge.{state_fits}
use Rattle.sync_theory.proofs.Logs.{none_rises}

-- a state of the grid is that after the entries before it
pub at_listed : {X S E : Type 0} (act : X → S → Option S) (first : S) (meet : Rattle.sync_theory.specs.Grid.Meet X E) (made : ℕ → ℕ → List X) (origin : ℕ → ℕ) (f : ℕ → X) (k : ℕ) → ((j : ℕ) → j < k → history meet made origin j ≡ Some (f j)) → state_at act first meet made origin k ≡ run act (listed f k 0) first
at_listed act first meet made origin f zero h = refl
at_listed {X} {S} act first meet made origin f (suc k) h =
    ap₂ (λ s e. and_then s (λ t. and_then e (λ x. act x t))) (at_listed act first meet made origin f k (λ j l. h j (omega arith))) (h k (omega arith))
    ∙ last (run act (listed f k 0) first)
    ∙ sym (run_append act (listed f k 0) (f k ∷ []) first)
    ∙ ap (λ l. run act l first) (sym (listed_last f k 0 ∙ ap (λ j. listed f k 0 ++ f j ∷ []) zero_plus))
  where
    zero_plus : 0 + k ≡ k
    zero_plus = omega arith

    last : (o : Option S) → and_then o (λ t. and_then (Some (f k)) (λ x. act x t)) ≡ and_then o (run act (f k ∷ []))
    last None = refl
    last (Some s) = alone_is (act (f k) s)
      where
        alone_is : (o : Option S) → o ≡ and_then o (λ t. Some t)
        alone_is None = refl
        alone_is (Some t) = refl

join : (a b : Bool) → a ≡ true → b ≡ true → (a && b) ≡ true
join true b e f = f
join false b e f = e

module _ {I S : Type 0} (p : Profile I S) where
  -- ---- the parts of a state

  -- a list is as itself
  same_parts : (k : ℕ) (ps : List (List I)) → part_differs p k ps ps ≡ None
  same_parts k [] = refl
  same_parts k (x ∷ ps) = on (bytes_eq (p.spell x) (p.spell x)) (bytes_true (p.spell x) (p.spell x) refl) ∙ same_parts (suc k) ps
    where
      on : (b : Bool) → b ≡ true → (if b then part_differs p (suc k) ps ps else Some k) ≡ part_differs p (suc k) ps ps
      on true e = refl
      on false e = cc

  module _ {Fits Bounded Old : S → Type 0} (law : Lawful p Fits) (built : Buildable p Fits Bounded Old) where
    pub grown_build : (s : S) → Fits s → Bounded s → grown p (p.build s) ≡ Ok s
    grown_build s fit bounded = ap (grown_to p (p.build s)) (built.grows s fit bounded) ∙ ap (grown_as s) (same_parts 0 (p.build s))

    -- ---- the records of a file that begins with a state

    pub parts_read : (ps : List (List I)) → Each (λ is. is_small p is ≡ true) ps → (c : Client I S) (rest : List ClientRecord) → after_records p c (map (λ is. ClientRecord.Part (p.spell is)) ps ++ rest) ≡ after_records p (record c { parts = c.parts ++ ps }) rest
    parts_read [] no_more c rest = ap (λ l. after_records p (record c { parts = l }) rest) (sym (append-nil c.parts))
    parts_read (x ∷ ps) (and_each h f) c rest =
        ap (λ is. after_records p (record c { parts = c.parts ++ is ∷ [] }) (map (λ is. ClientRecord.Part (p.spell is)) ps ++ rest)) (ap ok_list (law.spelled x h))
        ∙ parts_read ps f (record c { parts = c.parts ++ x ∷ [] }) rest
        ∙ ap (λ l. after_records p (record c { parts = l }) rest) (append_assoc c.parts (x ∷ []) ps)

    pub started_is : (id : Uuid) (second : Bool) (version : ℕ) (s : S) → Fits s → Bounded s → client_of p (started p id second version s) ≡ record { id = Some id; ident = 0; second = second; subset = None; parts = p.build s; floor = Some version; front = None; cursor = version; made = []; unsent = []; objects = s }
    started_is id second version s fit bounded = on second ∙ ap (λ r. record { id = Some id; ident = 0; second = second; subset = None; parts = p.build s; floor = Some version; front = None; cursor = version; made = []; unsent = []; objects = grown_or p.empty r }) (grown_build s fit bounded)
      where
        on : (b : Bool) → client_of p (started p id b version s) ≡ record { id = Some id; ident = 0; second = b; subset = None; parts = p.build s; floor = Some version; front = None; cursor = version; made = []; unsent = []; objects = grown_or p.empty (grown p (p.build s)) }
        on true = parts_read (p.build s) (built.small s fit bounded) (record (no_client p) { id = Some id; second = true }) (Floor version ∷ [])
        on false = parts_read (p.build s) (built.small s fit bounded) (record (no_client p) { id = Some id }) (Floor version ∷ [])

    no_tooks : (ps : List (List I)) (version : ℕ) → tooks_of (map (λ is. ClientRecord.Part (p.spell is)) ps ++ Floor version ∷ []) ≡ []
    no_tooks [] version = refl
    no_tooks (x ∷ ps) version = no_tooks ps version

    pub started_tooks : (id : Uuid) (second : Bool) (version : ℕ) (s : S) → tooks_of (started p id second version s) ≡ []
    started_tooks id true version s = no_tooks (p.build s) version
    started_tooks id false version s = no_tooks (p.build s) version

    -- ---- opening accepts them

    all_of : {A : Type 0} (rs : List A) → List (Option A)
    all_of rs = map (λ q. Some q) rs

    part_allowed : (second : Bool) (is : List I) → needs p is ≡ false → readable p second (Ok is) ≡ Some is
    part_allowed second is e = on (needs p is) e
      where
        on : (b : Bool) → b ≡ false → (if b && not second then None else Some is) ≡ Some is
        on true f = cc
        on false f = refl

    part_allowed_second : (is : List I) → readable p true (Ok is) ≡ Some is
    part_allowed_second is = on (needs p is)
      where
        on : (b : Bool) → (if b && not true then None else Some is) ≡ Some is
        on true = refl
        on false = refl

    -- each is allowed in the form
    abbrev pub Allowed : Bool → List (List I) → Type 0
    Allowed second ps = Each (λ is. readable p second (Ok is) ≡ Some is) ps

    pub each_allowed : (ps : List (List I)) → Allowed true ps
    each_allowed [] = no_more
    each_allowed (x ∷ ps) = and_each (part_allowed_second x) (each_allowed ps)

    pub each_old : (second : Bool) {ps : List (List I)} → Each (λ is. needs p is ≡ false) ps → Allowed second ps
    each_old second no_more = no_more
    each_old second (and_each {x = x} h f) = and_each (part_allowed second x h) (each_old second f)

    bodies_are : (ps : List (List I)) (version : ℕ) → bodies_ahead p (map (λ q. Some q) (map (λ is. ClientRecord.Part (p.spell is)) ps ++ Floor version ∷ [])) ≡ map (λ is. p.spell is) ps
    bodies_are [] version = refl
    bodies_are (x ∷ ps) version = ap (λ l. p.spell x ∷ l) (bodies_are ps version)

    parts_are : (second : Bool) {ps : List (List I)} → Each (λ is. is_small p is ≡ true) ps → Allowed second ps → read_parts p second (map (λ is. p.spell is) ps) ≡ Some ps
    parts_are second no_more no_more = refl
    parts_are second (and_each {x = x} h f) (and_each g e) = ap₂ part_and (ap (readable p second) (law.spelled x h) ∙ g) (parts_are second f e)

    -- a client of which some parts stand already
    abbrev begun : Uuid → Bool → List (List I) → Client I S
    begun id second before = record (no_client p) { id = Some id; second = second; parts = before }

    parts_open : (id : Uuid) (second : Bool) (version : ℕ) (s : S) → Fits s → Bounded s → (ps before : List (List I)) → before ++ ps ≡ p.build s → Each (λ is. is_small p is ≡ true) ps → Allowed second ps → client_opens p (begun id second before) (map (λ is. ClientRecord.Part (p.spell is)) ps ++ Floor version ∷ []) ≡ true
    parts_open id second version s fit bounded [] before e no_more no_more =
        join (is_fine (grown p before) && true) true (join (is_fine (grown p before)) true (ap is_fine (ap (grown p) (sym (append-nil before) ∙ e) ∙ grown_build s fit bounded)) refl) refl
    parts_open id second version s fit bounded (x ∷ ps) before e (and_each h f) (and_each g k) =
        let rest = parts_open id second version s fit bounded ps (before ++ x ∷ []) (append_assoc before (x ∷ []) ps ∙ e) f k in
        let whole : parts_grow p before x (Some ps) ≡ true = ap (λ r. not (is_place (length before) r)) (ap (grown p) e ∙ grown_build s fit bounded) in
        let bodies = bodies_are ps version in
        let fits_ : part_fits p (begun id second before) (map (λ q. Some q) (map (λ is. ClientRecord.Part (p.spell is)) ps ++ Floor version ∷ [])) (readable p second (p.unspell (p.spell x))) ≡ true =
        ap (part_fits p (begun id second before) (map (λ q. Some q) (map (λ is. ClientRecord.Part (p.spell is)) ps ++ Floor version ∷ []))) (ap (readable p second) (law.spelled x h) ∙ g)
        ∙ ap (λ l. parts_grow p before x (read_parts p second l)) bodies ∙ ap (parts_grow p before x) (parts_are second f k) ∙ whole in
        join (not (is_empty (map (λ q. Some q) (map (λ is. ClientRecord.Part (p.spell is)) ps ++ Floor version ∷ []))) && part_fits p (begun id second before) (map (λ q. Some q) (map (λ is. ClientRecord.Part (p.spell is)) ps ++ Floor version ∷ [])) (readable p second (p.unspell (p.spell x)))) (client_opens p (after_record p (begun id second before) (Part (p.spell x))) (map (λ is. ClientRecord.Part (p.spell is)) ps ++ Floor version ∷ []))
        (join (not (is_empty (map (λ q. Some q) (map (λ is. ClientRecord.Part (p.spell is)) ps ++ Floor version ∷ [])))) _ (some_more ps) fits_)
        (ap (λ is. client_opens p (begun id second (before ++ is ∷ [])) (map (λ is. ClientRecord.Part (p.spell is)) ps ++ Floor version ∷ [])) (ap ok_list (law.spelled x h)) ∙ rest)
      where
        some_more : (ps : List (List I)) → not (is_empty (map (λ q. Some q) (map (λ is. ClientRecord.Part (p.spell is)) ps ++ Floor version ∷ []))) ≡ true
        some_more [] = refl
        some_more (y ∷ ps) = refl

    pub started_opens : (id : Uuid) (second : Bool) (version : ℕ) (s : S) → Fits s → Bounded s → (second ≡ false → Old s) → client_opens p (no_client p) (started p id second version s) ≡ true
    started_opens id true version s fit bounded old = parts_open id true version s fit bounded (p.build s) [] refl (built.small s fit bounded) (each_allowed (p.build s))
    started_opens id false version s fit bounded old = parts_open id false version s fit bounded (p.build s) [] refl (built.small s fit bounded) (each_old false (built.old s fit (old refl)))

    -- ---- the server's objects

    -- each instruction of a list within the limits is light enough
    pub light_each : (is : List I) → sum_by p.weight is ≤ p.most_weight → Each (λ i. p.weight i ≤ p.most_weight) is
    light_each [] h = no_more
    light_each (i ∷ is) h =
        let e : sum_by p.weight (i ∷ is) ≡ sum_by p.weight (i ∷ []) + sum_by p.weight is = sum_by-append p.weight (i ∷ []) is in
        let f : sum_by p.weight (i ∷ []) ≡ p.weight i = one i in
        and_each (omega (arith, h, e, f)) (light_each is (omega (arith, h, e)))
      where
        one : (i : I) → 0 + p.weight i ≡ p.weight i
        one i = omega arith

    pub run_stays : (P : S → Type 0) (Q : I → Type 0) → ((i : I) (s t : S) → Q i → P s → act p i s ≡ Some t → P t) → (is : List I) (s t : S) → Each Q is → P s → run (act p) is s ≡ Some t → P t
    run_stays P Q keeps [] s t no_more h e = let same : s ≡ t = cc in subst P same h
    run_stays P Q keeps (i ∷ is) s t (and_each q f) h e =
        let g = then_gives (act p i s) (run (act p) is) t e in
        run_stays P Q keeps is g.mid t f (keeps i s g.mid q h g.was) g.on

    listed_stays : (P : S → Type 0) (Q : I → Type 0) → ((i : I) (s t : S) → Q i → P s → act p i s ≡ Some t → P t) → (f : ℕ → Changeset I) (n k : ℕ) → ((j : ℕ) → j < k + n → Each Q (f j).instrs) → (s t : S) → P s → run (act_changeset p) (listed f n k) s ≡ Some t → P t
    listed_stays P Q keeps f zero k q s t h e = let same : s ≡ t = cc in subst P same h
    listed_stays P Q keeps f (suc n) k q s t h e =
        let g = then_gives (act_changeset p (f k) s) (run (act_changeset p) (listed f n (suc k))) t e in
        listed_stays P Q keeps f n (suc k) (λ j l. q j (omega arith)) g.mid t (run_stays P Q keeps (f k).instrs s g.mid (q k (omega arith)) h g.was) g.on

    module _ (s : Server I) (cls : List Node) (inj : List Uuid) (n : Nodes (Changeset I) S) (sim : Sim p s cls inj n) where
      good : Rattle.sync_theory.specs.World.LogGood (act_changeset p) p.empty (cross_changesets p) (world_of n)
      good = (good_of p law s cls inj n sim).log

      -- they are the state after all entries
      pub objects_listed : run (act_changeset p) (listed n.entries (length n.log) 0) p.empty ≡ Some n.objects
      objects_listed = sym (at_listed (act_changeset p) p.empty (cross_changesets p) (world_of n).integrated (world_of n).origin n.entries (length n.log) (λ j l. good.whole j l)) ∙ good.state

      pub objects_are : server_objects p s ≡ n.objects
      objects_are = ap (λ l. state_or p.empty (state_of p l (length l))) (sym sim.log_is) ∙ ap (state_or p.empty) good.state

      pub objects_fit : Fits (server_objects p s)
      objects_fit = subst Fits (sym objects_are) (state_fits (act_changeset p) p.empty (cross_changesets p) (sets_law p law) (world_of n).integrated (world_of n).origin (length n.log) n.objects good.state)

      pub objects_bounded : Bounded (server_objects p s)
      objects_bounded = subst Bounded (sym objects_are) (listed_stays Bounded (λ i. p.weight i ≤ p.most_weight) built.keeps n.entries (length n.log) 0 (λ j l. light_each (n.entries j).instrs (leb-true (sum_by p.weight (n.entries j).instrs) p.most_weight (both (nat_le (length (n.entries j).instrs) p.most_instrs) _ (entry_small p law s cls inj n sim j (omega arith))).1)) p.empty n.objects built.first objects_listed)

      -- of a server in form 1 they came of instructions of version 1
      pub objects_old : OldLog p (λ i. p.needs_second i ≡ false) s.log → Old (server_objects p s)
      objects_old old = subst Old (sym objects_are) (listed_stays Old (λ i. p.needs_second i ≡ false) built.keeps_old n.entries (length n.log) 0 (λ j l. history_keeps p (λ i. p.needs_second i ≡ false) meets n.log (subst (OldLog p (λ i. p.needs_second i ≡ false)) (sym sim.log_is) old) j (n.entries j) (good.whole j (omega arith))) p.empty n.objects built.first_old objects_listed)
        where
          lefts : (o : Option I) → Rattle.std.specs.Prelude.IfSome o (λ i. p.needs_second i ≡ false) → Left p (λ i. p.needs_second i ≡ false) o
          lefts None h = tt
          lefts (Some i) h = h

          meets : (later : Bool) (a b : I) → p.needs_second a ≡ false → p.needs_second b ≡ false → Rattle.std.specs.Prelude.IfOk (p.meet a b later) (λ o. Left p (λ i. p.needs_second i ≡ false) o.0 × Left p (λ i. p.needs_second i ≡ false) o.1)
          meets later a b e f = on (p.meet a b later) (built.meets_old later a b e f)
            where
              on : (r : Result (Option I × Option I) ℕ) → Rattle.std.specs.Prelude.IfOk r (λ o. Rattle.std.specs.Prelude.IfSome o.0 (λ i. p.needs_second i ≡ false) × Rattle.std.specs.Prelude.IfSome o.1 (λ i. p.needs_second i ≡ false)) → Rattle.std.specs.Prelude.IfOk r (λ o. Left p (λ i. p.needs_second i ≡ false) o.0 × Left p (λ i. p.needs_second i ≡ false) o.1)
              on (Ok o) h = (lefts o.0 h.0, lefts o.1 h.1)
              on (Err k) h = tt

      -- a client that begins with them, which made nothing yet
      pub started_admits : (id : Uuid) → Admits p (client_of p (started p id s.second (length s.log) (server_objects p s)))
      started_admits id = subst (Admits p) (sym (started_is id s.second (length s.log) (server_objects p s) objects_fit objects_bounded)) (record { made = no_more; unsent = no_more })

      pub started_fresh : (name : List ℕ) (id : Uuid) → Fresh p n (client_of p (started p id s.second (length s.log) (server_objects p s)))
      started_fresh name id = subst (Fresh p n) (sym (started_is id s.second (length s.log) (server_objects p s) objects_fit objects_bounded)) (record {
        unnamed = refl;
        at_start = refl;
        within = let l = ap length sim.log_is in omega arith;
        unsent = refl;
        numbered = λ c. no_numbers;
        bases = λ c. all_none;
        rising = λ c. none_rises;
        first = n.objects;
        own = refl;
        began = ap (λ k. run (act_changeset p) (listed n.entries k 0) p.empty) (ap length (sym sim.log_is)) ∙ objects_listed;
        acts = λ c. ap (λ x. Some x) (sym objects_are);
      })

  -- ---- a server in form 1 has no instruction of version 2

  old_each : (is : List I) → needs p is ≡ false → Each (λ i. p.needs_second i ≡ false) is
  old_each [] e = no_more
  old_each (i ∷ is) e = let f = neither (p.needs_second i) (needs p is) e in and_each f.0 (old_each is f.1)
    where
      neither : (a b : Bool) → (a || b) ≡ false → (a ≡ false) × (b ≡ false)
      neither true b f = cc
      neither false b f = (refl, f)

  pub old_log : (rs : List ServerRecord) (s : Server I) → server_opens p s rs ≡ true → (s.second ≡ false → OldLog p (λ i. p.needs_second i ≡ false) s.log) → (after_all p s rs).second ≡ false → OldLog p (λ i. p.needs_second i ≡ false) (after_all p s rs).log
  old_log [] s e h f = h f
  old_log (r ∷ rs) s e h f =
      let b = both (server_admits p s r) (server_opens p (after_server p s r) rs) e in
      old_log rs (after_server p s r) b.1 (next r b.0) f
    where
      next : (r : ServerRecord) → server_admits p s r ≡ true → (after_server p s r).second ≡ false → OldLog p (λ i. p.needs_second i ≡ false) (after_server p s r).log
      next (ServerRecord.Client id) a g = h g
      next (ServerRecord.Form) a g = cc
      next (ServerRecord.Settled c n) a g = h g
      next (ServerRecord.Retired c by) a g = h g
      next (ServerRecord.Part body) a g = h g
      next (ServerRecord.Floor version) a g = h g
      next (ServerRecord.Count c number base n) a g = h g
      next (ServerRecord.Carried origin number base ms body) a g = h g
      next (ServerRecord.Past c version ms body) a g = h g
      next (Entry origin number base ms body) a g =
          let b = both _ _ a in
          let d = both _ _ b.1 in
          let k = both (not (is_second p (p.unspell body) && not s.second)) _ d.1 in
          each_append (h g) (and_each (old_each (ok_list (p.unspell body)) (read_old (p.unspell body) k.0 g)) no_more)
        where
          read_old : (q : Result (List I) (ℕ × ℕ)) → not (is_second p q && not s.second) ≡ true → s.second ≡ false → needs p (ok_list q) ≡ false
          read_old (Err w) k g = refl
          read_old (Ok is) k g = on (needs p is) s.second k g
            where
              on : (x y : Bool) → not (x && not y) ≡ true → y ≡ false → x ≡ false
              on true true k g = cc
              on true false k g = cc
              on false y k g = refl
