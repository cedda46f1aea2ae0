-- All clients of a world catch up, one after another.
use Rattle.std.proofs.Common.{append-nil, ◌≡◌, ◌≢◌, ◌⊎◌, inl, inr, ⊎_elim, ℕ, zero, suc, ◌+◌, ◌-◌, ◌<◌, ◌≤◌, Bool, true, false, List, [], ◌∷◌, ◌++◌, Option, Some, None, refl, sym, ap, ap₂, ◌∙◌, subst, arith, length, length-append, map}
use Rattle.std.specs.Prelude.{bytes_eq}
use Rattle.sync_theory.specs.Logs.{of_origin}
use Rattle.sync_theory.proofs.World.{same_or_not}
use Rattle.sync_model.specs.Bytes.{Name, Uuid}
use Rattle.sync_model.specs.Profile.{Profile, Lawful}
use Rattle.sync_model.specs.Snapshots.{Buildable}
use Rattle.sync_model.specs.Clients.{Client, client_of}
use Rattle.sync_model.specs.Servers.{Server, server_of, place_of, count}
use Rattle.sync_model.specs.Worlds.{Node, World, Event, Words, at, seek, has_name, server_name, happens, world_after}
use Rattle.sync_model.specs.Log.{ident_by, ident_of}
use Rattle.sync_model.specs.Progress.{Comes, comes_now, comes_later, IsException, IsRoomy, enough, missing, rounds, after_rounds, binds_at, catches_up, sweep, after_sweep, made_by_all}
use Rattle.sync_model.proofs.Lists.{place_old, place_one, at_map, at_below, length_map}
use Rattle.sync_model.proofs.Sim.{uuid_of}
use Rattle.sync_model.proofs.Calling.{named_as}
use Rattle.sync_model.proofs.Holding.{Holds}
use Rattle.sync_model.proofs.Progress.Catching.{Goes, Here, at_node}
use Rattle.sync_model.proofs.Progress.Rounds.{Onward, Bound}
use Rattle.sync_model.proofs.Progress.Names.{names_of}
use Rattle.sync_model.proofs.Progress.CatchUp.{Done, start_at, born_of, catching}
use Rattle.sync_model.proofs.Progress.Valid.{Valid}

none_comes : (q : Words → Type 0) → Comes q [] → ⊥
none_comes q c = elim c [ ]

-- what these nodes owe together
abbrev pub dues : (Node → ℕ) → List Node → ℕ
dues due [] = 0
dues due (x ∷ xs) = due x + dues due xs

pub dues_made : {I S : Type 0} (p : Profile I S) (nds : List Node) → dues (λ x. length (client_of p x.records).made) nds ≡ made_by_all p nds
dues_made p [] = refl
dues_made p (x ∷ nds) = ap (λ n. length (client_of p x.records).made + n) (dues_made p nds)

pub dues_none : (nds : List Node) → dues (λ x. 0) nds ≡ 0
dues_none [] = refl
dues_none (x ∷ nds) = let e = dues_none nds in omega arith

module _ {I S : Type 0} (p : Profile I S) where
  pub goes_cons : (q : Words → Type 0) (w : World) (e : Event I) (es : List (Event I)) (r : World → Type 0) → Goes p q (happens p w e).world es r → Goes p q w (e ∷ es) r
  goes_cons q w e es r (inl c) = inl (comes_later c)
  goes_cons q w e es r (inr h) = inr h

  pub goes_append : (q : Words → Type 0) (es fs : List (Event I)) (w : World) (r r2 : World → Type 0) → Goes p q w es r → ((v : World) → r v → Goes p q v fs r2) → Goes p q w (es ++ fs) r2
  goes_append q [] fs w r r2 (inl c) k = absurd (none_comes q c)
  goes_append q [] fs w r r2 (inr h) k = k w h
  goes_append q (e ∷ es) fs w r r2 (inl (comes_now x)) k = inl (comes_now x)
  goes_append q (e ∷ es) fs w r r2 (inl (comes_later c)) k = goes_cons q w e (es ++ fs) r2 (goes_append q es fs (happens p w e).world r r2 (inl c) k)
  goes_append q (e ∷ es) fs w r r2 (inr h) k = goes_cons q w e (es ++ fs) r2 (goes_append q es fs (happens p w e).world r r2 (inr h) k)

  -- ---- what one client's catching up does to a world

  abbrev pub of_node : Node → Client I S
  of_node nd = client_of p nd.records

  abbrev pub of_server : World → Server I
  of_server v = server_of p v.server

  pub record Stepped (v v2 : World) (i : ℕ) (nd nd2 : Node) : Type 0 where
    pub reached : Valid p v2
    pub stops : (x : Name) → v.stops x ≡ None → v2.stops x ≡ None
    pub names : names_of v2.clients ≡ names_of v.clients
    pub others : (j : ℕ) → j ≢ i → at v2.clients j ≡ at v.clients j
    pub here : at v2.clients i ≡ Some nd2
    pub ids : List Uuid
    pub ids_are : (server_of p v2.server).ids ≡ (server_of p v.server).ids ++ ids
    pub more : ℕ
    pub log : length (server_of p v2.server).log ≡ length (server_of p v.server).log + more
    pub counts : count (server_of p v2.server) (client_of p nd2.records).ident ≡ count (server_of p v.server) (client_of p nd2.records).ident + more
    pub others_log : (d : ℕ) → d ≢ (client_of p nd2.records).ident → of_origin d (server_of p v2.server).log ≡ of_origin d (server_of p v.server).log
    pub id : (client_of p nd2.records).id ≡ (client_of p nd.records).id
    pub made : (client_of p nd2.records).made ≡ (client_of p nd.records).made
    pub second : (client_of p nd2.records).second ≡ (client_of p nd.records).second
    pub kept_ident : (client_of p nd.records).ident ≢ 0 → (client_of p nd2.records).ident ≡ (client_of p nd.records).ident
    pub done : Done (server_of p v2.server) (client_of p nd2.records)

  pub record After (v v2 : World) (i : ℕ) (nd : Node) (n : ℕ) : Type 0 where
    pub node : Node
    pub messages : length v2.messages ≡ n
    pub stepped : Stepped v v2 i nd node

  module _ {Fits Bounded Old : S → Type 0} (law : Lawful p Fits) (built : Buildable p Fits Bounded Old) (roomy : IsRoomy p) where
    holds_at : (v : World) → Valid p v → Holds p v
    holds_at v r = r.holds

    module _ (A U O : Type 0) (v : World) (reached : Valid p v) (i : ℕ) (nd : Node) (found : seek (has_name nd.name) v.clients ≡ Some (i, nd)) (not_server : bytes_eq nd.name server_name ≡ false) (arms : (x : Name) → v.stops x ≢ None → A) where
      abbrev At : World → Server I → Client I S → ℕ → Type 0
      At v2 s st n = Here p law built (IsException A U O) A (λ a. a) v nd.name i nd not_server (arms nd.name) (arms server_name) v2 s st n

      to_after : {v2 : World} {s1 s2 : Server I} {st1 st2 : Client I S} {n : ℕ} (h : At v2 s2 st2 n) (id : Uuid) → (client_of p nd.records).id ≡ Some id
          → Bound p law built A U O v nd.name i nd not_server (arms nd.name) (arms server_name) roomy (server_of p v.server) s1 (client_of p nd.records) st1 id
          → Rattle.sync_model.proofs.Progress.Serves.SameClient p st1 st2 → Onward p law built A U O v nd.name i nd not_server (arms nd.name) (arms server_name) roomy s1 s2 st1.ident → Done s2 st2 → After v v2 i nd n
      to_after {v2} {s1} {s2} {st1} {st2} h id born b same on done = record {
        node = h.node;
        messages = h.messages;
        stepped = record {
          reached = h.reached;
          stops = h.stops;
          names = h.names;
          others = h.others;
          here = at_node p law built (IsException A U O) A (λ a. a) v nd.name i nd not_server (arms nd.name) (arms server_name) h;
          ids = b.more;
          ids_are = ap (λ (x : Server I). x.ids) h.server ∙ on.ids ∙ b.ids;
          more = on.more;
          log = ap (λ (x : Server I). length x.log) h.server ∙ on.log ∙ ap (λ l. length l + on.more) b.log;
          counts = ap₂ (λ (x : Server I) (c : Client I S). count x c.ident) h.server h.client ∙ ap (count s2) same.ident ∙ on.counts ∙ ap₂ (λ l c. length (of_origin c l) + on.more) b.log (sym same.ident ∙ sym (ap (λ (c : Client I S). c.ident) h.client));
          others_log = λ d ne. ap (λ (x : Server I). of_origin d x.log) h.server ∙ on.others d (λ z. ne (z ∙ sym same.ident ∙ sym (ap (λ (c : Client I S). c.ident) h.client))) ∙ ap (of_origin d) b.log;
          id = ap (λ (c : Client I S). c.id) h.client ∙ same.id ∙ b.same_id;
          made = ap (λ (c : Client I S). c.made) h.client ∙ same.made ∙ b.made;
          second = ap (λ (c : Client I S). c.second) h.client ∙ same.second ∙ b.second;
          kept_ident = λ ne. ap (λ (c : Client I S). c.ident) h.client ∙ same.ident ∙ b.kept_ident ne;
          done = Rattle.std.proofs.Common.subst₂ Done (sym h.server) (sym h.client) done;
        };
      }

      pub stepping : (ident_of p v nd ≡ 0 → U) → ((client_of p nd.records).second ≡ false → O) → (k : ℕ) → enough p v nd ≤ k → (n : ℕ) → length v.messages ≡ n → Goes p (IsException A U O) v (catches_up nd.name n k) (λ v2. After v v2 i nd (after_rounds (suc (suc n)) k))
      stepping naming olding k le n n_is =
          let start = start_at p law built roomy A U O v nd.name i nd not_server (arms nd.name) (arms server_name) reached found n n_is in
          let b = born_of p law built roomy A U O v nd.name i nd not_server (arms nd.name) (arms server_name) start in
          let id_is : ident_of p v nd ≡ place_of b.0 (server_of p v.server).ids = ap (ident_by (server_of p v.server).ids) b.1 in
          let c_is = ap (count (server_of p v.server)) id_is in
          subst (λ l. Goes p (IsException A U O) v l (λ v2. After v v2 i nd (after_rounds (suc (suc n)) k))) (ap (λ l. binds_at nd.name n ++ l) (append-nil (rounds nd.name (suc (suc n)) k)))
          (catching p law built roomy A U O v nd.name i nd not_server (arms nd.name) (arms server_name) start b.0 b.1 (λ z. naming (id_is ∙ z)) olding k (omega arith) [] (λ v2. After v v2 i nd (after_rounds (suc (suc n)) k))
          (λ v2 s1 s2 st1 st2 h2 bd same on d. inr (to_after h2 b.0 b.1 bd same on d)))

    -- ---- what it leaves of the other clients

    -- all that a client made is in the history
    abbrev pub Flushed : World → Node → Type 0
    Flushed v nd = ((client_of p nd.records).ident ≢ 0) × (count (server_of p v.server) (client_of p nd.records).ident ≡ length (client_of p nd.records).made)

    abbrev pub Ended : World → Node → Type 0
    Ended v nd = Done (server_of p v.server) (client_of p nd.records)

    named_at : (v : World) (r : Valid p v) (j : ℕ) (x : Node) → at v.clients j ≡ Some x → (client_of p x.records).ident ≢ 0 → (id : Uuid) × ((client_of p x.records).id ≡ Some id) × (place_of id (server_of p v.server).ids ≡ (client_of p x.records).ident)
    named_at v r j x h ne =
        let i = holds_at v r in
        let a = named_as p law (server_of p v.server) v.injected v.clients i.n i.sim j x h ne in
        (a.id, a.born, a.place)

    pub ident_at : (v : World) (r : Valid p v) (j : ℕ) (x : Node) → at v.clients j ≡ Some x → (client_of p x.records).ident ≢ 0 → ident_of p v x ≡ (client_of p x.records).ident
    ident_at v r j x h ne = let a = named_at v r j x h ne in ap (ident_by (server_of p v.server).ids) a.1 ∙ a.2

    idents_differ : (v : World) (r : Valid p v) (i j : ℕ) (x y : Node) → at v.clients i ≡ Some x → at v.clients j ≡ Some y → i ≢ j → (client_of p x.records).ident ≢ 0 → (client_of p y.records).ident ≢ 0 → (client_of p x.records).ident ≢ (client_of p y.records).ident
    idents_differ v r i j x y hx hy ne nx ny e =
        let h = holds_at v r in
        let a = named_at v r i x hx nx in
        let b = named_at v r j y hy ny in
        let same : a.0 ≡ b.0 = place_one a.0 b.0 (server_of p v.server).ids (λ z. nx (sym a.2 ∙ z)) (a.2 ∙ e ∙ sym b.2) in
        ne (h.sim.distinct i j b.0 (at_map (uuid_of p) v.clients i x hx ∙ ap (λ o. Some o) (a.1 ∙ ap (λ u. Some u) same)) (at_map (uuid_of p) v.clients j y hy ∙ ap (λ o. Some o) b.1))

    pub flushed_stays : (v v2 : World) (i : ℕ) (nd nd2 : Node) → Stepped v v2 i nd nd2 → (j : ℕ) (x : Node) → j ≢ i → at v.clients j ≡ Some x → Flushed v x → Flushed v2 x
    flushed_stays v v2 i nd nd2 t j x ne h f = (f.0, ap length (t.others_log (client_of p x.records).ident (idents_differ v2 t.reached j i x nd2 (t.others j ne ∙ h) t.here ne f.0 t.done.named)) ∙ f.1)

    pub flushed_now : (v v2 : World) (i : ℕ) (nd nd2 : Node) → Stepped v v2 i nd nd2 → Flushed v2 nd2
    flushed_now v v2 i nd nd2 t = (t.done.named, t.done.all)

    nothing_more : (v v2 : World) (i : ℕ) (nd nd2 : Node) → Flushed v nd → Stepped v v2 i nd nd2 → length (server_of p v2.server).log ≡ length (server_of p v.server).log
    nothing_more v v2 i nd nd2 f t =
        let same = ap (count (server_of p v.server)) (t.kept_ident f.0) in
        let made = ap length t.made in
        let all = t.done.all in
        let counts = t.counts in
        let before = f.1 in
        let log = t.log in
        omega arith

    pub ended_stays : (v v2 : World) (i : ℕ) (nd nd2 : Node) → Flushed v nd → Stepped v v2 i nd nd2 → (j : ℕ) (x : Node) → j ≢ i → at v.clients j ≡ Some x → Ended v x → Ended v2 x
    ended_stays v v2 i nd nd2 f t j x ne h d = record {
      named = d.named;
      cursor = d.cursor ∙ sym (nothing_more v v2 i nd nd2 f t);
      unsent = d.unsent;
      all = (flushed_stays v v2 i nd nd2 t j x ne h (d.named, d.all)).1;
    }

    -- the history grows by no more than a client made, and by nothing where all that is there
    pub adds_made : (v v2 : World) (i : ℕ) (nd nd2 : Node) → Stepped v v2 i nd nd2 → length (server_of p v2.server).log ≤ length (server_of p v.server).log + length (client_of p nd.records).made
    adds_made v v2 i nd nd2 t =
        let l = t.log in
        let c = t.counts in
        let d = t.done.all in
        let m = ap length t.made in
        omega arith

    pub adds_none : (v v2 : World) (i : ℕ) (nd nd2 : Node) → Flushed v nd → Stepped v v2 i nd nd2 → length (server_of p v2.server).log ≤ length (server_of p v.server).log + 0
    adds_none v v2 i nd nd2 f t = let e = nothing_more v v2 i nd nd2 f t in omega arith

    pub owes_none : (v : World) → Valid p v → (i : ℕ) (nd : Node) → at v.clients i ≡ Some nd → Flushed v nd → missing p v nd ≤ 0
    owes_none v r i nd here f =
        let e : length (of_origin (ident_of p v nd) (server_of p v.server).log) ≡ length (client_of p nd.records).made = ap (count (server_of p v.server)) (ident_at v r i nd here f.0) ∙ f.1 in
        omega arith

    -- ---- a sweep

    -- a node of this world that stands for one that is still to catch up
    pub record StandsFor (U O : Type 0) (v : World) (i : ℕ) (x : Node) : Type 0 where
      pub node : Node
      pub here : at v.clients i ≡ Some node
      pub name : node.name ≡ x.name
      pub made : length (client_of p node.records).made ≡ length (client_of p x.records).made
      pub naming : ident_of p v node ≡ 0 → U
      pub olding : (client_of p node.records).second ≡ false → O

    still_unnamed : (ids more : List Uuid) (o : Option Uuid) → ident_by (ids ++ more) o ≡ 0 → ident_by ids o ≡ 0
    still_unnamed ids more None e = refl
    still_unnamed ids more (Some u) e = ⊎_elim (λ z. z) (λ ne. absurd (ne (sym (place_old u ids more ne) ∙ e))) (same_or_not (place_of u ids) 0)

    stands_still : {U O : Type 0} (v v2 : World) (i : ℕ) (nd nd2 : Node) → Stepped v v2 i nd nd2 → (j : ℕ) (x : Node) → j ≢ i → StandsFor U O v j x → StandsFor U O v2 j x
    stands_still v v2 i nd nd2 t j x ne s = record {
      node = s.node;
      here = t.others j ne ∙ s.here;
      name = s.name;
      made = s.made;
      naming = λ z. s.naming (still_unnamed (server_of p v.server).ids t.ids (client_of p s.node.records).id (sym (ap (λ l. ident_by l (client_of p s.node.records).id) t.ids_are) ∙ z));
      olding = s.olding;
    }

    pub record SameNode (v : World) (j : ℕ) (x : Node) : Type 0 where
      pub node : Node
      pub here : at v.clients j ≡ Some node
      pub made : length (client_of p node.records).made ≡ length (client_of p x.records).made
      pub second : (client_of p node.records).second ≡ (client_of p x.records).second

    pub record Swept (Inv : World → Type 0) (P : World → Node → Type 0) (v v2 : World) (n extra : ℕ) : Type 0 where
      pub reached : Valid p v2
      pub stops : (x : Name) → v.stops x ≡ None → v2.stops x ≡ None
      pub names : names_of v2.clients ≡ names_of v.clients
      pub messages : length v2.messages ≡ n
      pub inv : Inv v2
      pub log : length (server_of p v2.server).log ≤ length (server_of p v.server).log + extra
      pub same : (j : ℕ) (x : Node) → at v.clients j ≡ Some x → SameNode v2 j x
      pub all : (j : ℕ) (y : Node) → at v2.clients j ≡ Some y → P v2 y

    pub goes_map : (q : Words → Type 0) (v : World) (es : List (Event I)) (r r2 : World → Type 0) → ((v2 : World) → r v2 → r2 v2) → Goes p q v es r → Goes p q v es r2
    goes_map q v es r r2 f (inl c) = inl c
    goes_map q v es r r2 f (inr h) = inr (f (world_after p v es) h)

    module _ (A U O : Type 0) (Inv : World → Type 0) (P : World → Node → Type 0)
        (inv_stays : (v v2 : World) (i : ℕ) (nd nd2 : Node) → Inv v → at v.clients i ≡ Some nd → Stepped v v2 i nd nd2 → Inv v2)
        (stays : (v v2 : World) (i : ℕ) (nd nd2 : Node) → Inv v → at v.clients i ≡ Some nd → Stepped v v2 i nd nd2 → (j : ℕ) (x : Node) → j ≢ i → at v.clients j ≡ Some x → P v x → P v2 x)
        (now : (v v2 : World) (i : ℕ) (nd nd2 : Node) → Stepped v v2 i nd nd2 → P v2 nd2) (due : Node → ℕ)
        (owes : (v : World) → Valid p v → (i : ℕ) (nd x : Node) → Inv v → at v.clients i ≡ Some nd → length (client_of p nd.records).made ≡ length (client_of p x.records).made → missing p v nd ≤ due x)
        (adds : (v v2 : World) (i : ℕ) (nd nd2 x : Node) → Inv v → at v.clients i ≡ Some nd → length (client_of p nd.records).made ≡ length (client_of p x.records).made → Stepped v v2 i nd nd2 → length (server_of p v2.server).log ≤ length (server_of p v.server).log + due x) (k : ℕ) where
      same_node : (v v2 : World) (i : ℕ) (nd nd2 : Node) → at v.clients i ≡ Some nd → Stepped v v2 i nd nd2 → (j : ℕ) (x : Node) → at v.clients j ≡ Some x → SameNode v2 j x
      same_node v v2 i nd nd2 here t j x h = ⊎_elim
          (λ is.
          let at_i : at v.clients i ≡ Some x = ap (at v.clients) (sym is) ∙ h in
          let one : nd ≡ x = cc in
          record {
            node = nd2;
            here = ap (at v2.clients) is ∙ t.here;
            made = ap length t.made ∙ ap (λ (y : Node). length (client_of p y.records).made) one;
            second = t.second ∙ ap (λ (y : Node). (client_of p y.records).second) one;
          })
          (λ ne. record { node = x; here = t.others j ne ∙ h; made = refl; second = refl })
          (same_or_not j i)

      same_then_ : (v : World) (j : ℕ) (x : Node) (a : SameNode v j x) (v2 : World) → SameNode v2 j a.node → SameNode v2 j x
      same_then_ v j x a v2 b = record { node = b.node; here = b.here; made = b.made ∙ a.made; second = b.second ∙ a.second }

      -- clients from place i on catch up; those before are as wanted
      pub sweeps : (nds : List Node) (i : ℕ) (v : World) (n : ℕ) → Valid p v → length v.messages ≡ n → ((x : Name) → v.stops x ≢ None → A) → Inv v → ((j : ℕ) (x : Node) → at nds j ≡ Some x → StandsFor U O v (i + j) x) → length v.clients ≡ i + length nds
          → length (server_of p v.server).log + dues due nds ≤ k
          → ((j : ℕ) (y : Node) → j < i → at v.clients j ≡ Some y → P v y)
          → Goes p (IsException A U O) v (sweep nds n k) (λ v2. Swept Inv P v v2 (after_sweep nds n k) (dues due nds))
      sweeps [] i v n reached n_is arms inv left len budget before = inr (record {
        reached = reached;
        stops = λ x e. e;
        names = refl;
        messages = n_is;
        inv = inv;
        log = omega arith;
        same = λ j x h. record { node = x; here = h; made = refl; second = refl };
        all = λ j y h. let b = at_below v.clients j y h in before j y (omega arith) h;
      })
      sweeps (x ∷ nds) i v n reached n_is arms inv left len budget before =
          goes_append (IsException A U O) (catches_up x.name n k) (sweep nds (after_rounds (suc (suc n)) k) k) v (λ v2. After v v2 i s.node (after_rounds (suc (suc n)) k)) (λ v3. Swept Inv P v v3 (after_sweep nds (after_rounds (suc (suc n)) k) k) (due x + dues due nds))
          (subst (λ name. Goes p (IsException A U O) v (catches_up name n k) (λ v2. After v v2 i s.node (after_rounds (suc (suc n)) k))) s.name
          (stepping A U O v reached i s.node apart.0 apart.1 arms s.naming s.olding k enough_ n n_is))
          (λ v2 a.
          goes_map (IsException A U O) v2 (sweep nds (after_rounds (suc (suc n)) k) k) (λ v3. Swept Inv P v2 v3 (after_sweep nds (after_rounds (suc (suc n)) k) k) (dues due nds)) (λ v3. Swept Inv P v v3 (after_sweep nds (after_rounds (suc (suc n)) k) k) (due x + dues due nds)) (λ v3 w. joined v2 a v3 w)
          (sweeps nds (suc i) v2 (after_rounds (suc (suc n)) k) a.stepped.reached a.messages (λ y ne. arms y (λ z. ne (a.stepped.stops y z)))
          (inv_stays v v2 i s.node a.node inv s.here a.stepped)
          (λ j y h. later v2 a j y h)
          (longer v2 a)
          (cheaper v2 a)
          (λ j y lt h. earlier v2 a j y lt h)))
        where
          s : StandsFor U O v i x
          s = let z : i + 0 ≡ i = omega arith in subst (λ j. StandsFor U O v j x) z (left 0 x refl)

          apart : (seek (has_name s.node.name) v.clients ≡ Some (i, s.node)) × (bytes_eq s.node.name server_name ≡ false)
          apart = reached.apart i s.node s.here

          enough_ : enough p v s.node ≤ k
          enough_ = let le = owes v reached i s.node x inv s.here s.made in omega arith

          added : (v2 : World) (a : After v v2 i s.node (after_rounds (suc (suc n)) k)) → length (server_of p v2.server).log ≤ length (server_of p v.server).log + due x
          added v2 a = adds v v2 i s.node a.node x inv s.here s.made a.stepped

          cheaper : (v2 : World) (a : After v v2 i s.node (after_rounds (suc (suc n)) k)) → length (server_of p v2.server).log + dues due nds ≤ k
          cheaper v2 a = let le = added v2 a in omega arith

          longer : (v2 : World) (a : After v v2 i s.node (after_rounds (suc (suc n)) k)) → length v2.clients ≡ suc i + length nds
          longer v2 a =
              let e = ap length a.stepped.names in
              let f = length_map (λ (y : Node). y.name) v2.clients in
              let g = length_map (λ (y : Node). y.name) v.clients in
              omega arith

          later : (v2 : World) (a : After v v2 i s.node (after_rounds (suc (suc n)) k)) (j : ℕ) (y : Node) → at nds j ≡ Some y → StandsFor U O v2 (suc i + j) y
          later v2 a j y h =
              let e : i + suc j ≡ suc i + j = omega arith in
              subst (λ m. StandsFor U O v2 m y) e (stands_still v v2 i s.node a.node a.stepped (i + suc j) y (λ z. absurd (omega arith)) (left (suc j) y h))

          earlier : (v2 : World) (a : After v v2 i s.node (after_rounds (suc (suc n)) k)) (j : ℕ) (y : Node) → j < suc i → at v2.clients j ≡ Some y → P v2 y
          earlier v2 a j y lt h = ⊎_elim
              (λ is.
              let at_i : at v2.clients i ≡ Some y = ap (at v2.clients) (sym is) ∙ h in
              let here = a.stepped.here in
              let one : a.node ≡ y = cc in
              subst (P v2) one (now v v2 i s.node a.node a.stepped))
              (λ ne.
              let old : at v.clients j ≡ Some y = sym (a.stepped.others j ne) ∙ h in
              stays v v2 i s.node a.node inv s.here a.stepped j y ne old (before j y (below ne) old))
              (same_or_not j i)
            where
              below : j ≢ i → j < i
              below ne = omega (arith, ne)

          joined : (v2 : World) (a : After v v2 i s.node (after_rounds (suc (suc n)) k)) (v3 : World) → Swept Inv P v2 v3 (after_sweep nds (after_rounds (suc (suc n)) k) k) (dues due nds) → Swept Inv P v v3 (after_sweep nds (after_rounds (suc (suc n)) k) k) (due x + dues due nds)
          joined v2 a v3 w = record {
            reached = w.reached;
            stops = λ y e. w.stops y (a.stepped.stops y e);
            names = w.names ∙ a.stepped.names;
            messages = w.messages;
            inv = w.inv;
            log = let l = w.log in let m = added v2 a in omega arith;
            same = λ j y h. let b = same_node v v2 i s.node a.node s.here a.stepped j y h in same_then_ v2 j y b v3 (w.same j b.node b.here);
            all = w.all;
          }
