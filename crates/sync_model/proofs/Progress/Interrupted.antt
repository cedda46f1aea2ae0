-- A client's turns, whatever happens between them.
use Rattle.std.proofs.Common.{◌≡◌, ◌≢◌, ◌⊎◌, inl, inr, ⊎_elim, ℕ, suc, ◌+◌, ◌<◌, ◌≤◌, Bool, true, false, List, [], ◌∷◌, ◌++◌, Some, None, refl, sym, ap, ap₂, ◌∙◌, subst, arith, length, length-append}
use Rattle.std.specs.Prelude.{bytes_eq}
use Rattle.sync_theory.specs.Logs.{of_origin}
use Rattle.sync_theory.proofs.World.{same_or_not}
use Rattle.sync_model.specs.Bytes.{Name, Uuid}
use Rattle.sync_model.specs.Profile.{Profile, Lawful}
use Rattle.sync_model.specs.Snapshots.{Buildable}
use Rattle.sync_model.specs.Clients.{Client, client_of}
use Rattle.sync_model.specs.Servers.{Server, server_of, place_of, count}
use Rattle.sync_model.specs.Worlds.{Node, World, Event, Words, at, seek, has_name, server_name, outcomes, world_after}
use Rattle.sync_model.specs.Log.{as_log, ident_by, ident_of, log}
use Rattle.sync_model.specs.Progress.{IsException, IsRoomy, IsCurrent, rounds, turn, after_turn, after_turns, turns, Gets, gets_exception, gets_current, gets_later}
use Rattle.sync_model.proofs.Lists.{length_map}
use Rattle.sync_model.proofs.Holding.{Holds}
use Rattle.sync_model.proofs.Progress.Catching.{Goes, Here, at_node}
use Rattle.sync_model.proofs.Progress.Rounds.{Within, Bound, bound, round_gains}
use Rattle.sync_model.proofs.Progress.Growing.{LaterNode, node_later, count_longer, ident_later}
use Rattle.sync_model.proofs.Progress.CatchUp.{done, start_at, born_of, still_count, ident_named}
use Rattle.sync_model.proofs.Progress.Valid.{Valid, valid_after}

module _ {I S : Type 0} (p : Profile I S) where
  pub after_append : (es fs : List (Event I)) (w : World) → world_after p w (es ++ fs) ≡ world_after p (world_after p w es) fs
  after_append [] fs w = refl
  after_append (e ∷ es) fs w = after_append es fs (Rattle.sync_model.specs.Worlds.happens p w e).world

  -- the turns are these events
  pub turns_are : (name : Name) (ess : List (List (Event I))) (w : World) → world_after p w (turns p name w ess) ≡ after_turns p name w ess
  turns_are name [] w = refl
  turns_are name (es ∷ ess) w =
      after_append es (turn p name (world_after p w es) ++ turns p name (after_turn p name w es) ess) w
      ∙ after_append (turn p name (world_after p w es)) (turns p name (after_turn p name w es) ess) (world_after p w es)
      ∙ turns_are name ess (after_turn p name w es)

  -- how far a client is
  abbrev pub reach_of : World → Node → ℕ
  reach_of v nd = (client_of p nd.records).cursor + count (server_of p v.server) (ident_of p v nd)

  pub record Turned (v v2 : World) (i : ℕ) (nd : Node) : Type 0 where
    pub reached : Valid p v2
    pub node : Node
    pub here : at v2.clients i ≡ Some node
    pub name : node.name ≡ nd.name
    pub second : (client_of p node.records).second ≡ (client_of p nd.records).second
    pub named : ident_of p v2 node ≢ 0
    pub gains : (reach_of v nd < reach_of v2 node) ⊎ IsCurrent p v2 node

  module _ {Fits Bounded Old : S → Type 0} (law : Lawful p Fits) (built : Buildable p Fits Bounded Old) (roomy : IsRoomy p) where
    module _ (A U O : Type 0) (v : World) (reached : Valid p v) (i : ℕ) (nd : Node) (found : seek (has_name nd.name) v.clients ≡ Some (i, nd)) (not_server : bytes_eq nd.name server_name ≡ false) (arms : (x : Name) → v.stops x ≢ None → A) where
      abbrev At : World → Server I → Client I S → ℕ → Type 0
      At v2 s st n = Here p law built (IsException A U O) A (λ a. a) v nd.name i nd not_server (arms nd.name) (arms server_name) v2 s st n

      turned : {v2 : World} {s1 s2 : Server I} {st1 st2 : Client I S} {n : ℕ} (h : At v2 s2 st2 n) (id : Uuid) → (client_of p nd.records).id ≡ Some id
          → Bound p law built A U O v nd.name i nd not_server (arms nd.name) (arms server_name) roomy (server_of p v.server) s1 (client_of p nd.records) st1 id
          → count (server_of p v.server) (place_of id (server_of p v.server).ids) ≤ count s1 st1.ident
          → Rattle.sync_model.proofs.Progress.Serves.SameClient p st1 st2
          → (st1.cursor + count s1 st1.ident < st2.cursor + count s2 st2.ident) ⊎ Within p law built A U O v nd.name i nd not_server (arms nd.name) (arms server_name) roomy s2 st2 0 → Turned v v2 i nd
      turned {v2} {s1} {s2} {st1} {st2} h id born b more same gain =
          let ne : st2.ident ≢ 0 = λ z. b.named (sym same.ident ∙ z) in
          let is = ident_named p law built roomy A U O v nd.name i nd not_server (arms nd.name) (arms server_name) h ne in
          record {
            reached = h.reached;
            node = h.node;
            here = at_node p law built (IsException A U O) A (λ a. a) v nd.name i nd not_server (arms nd.name) (arms server_name) h;
            name = h.name_is;
            second = ap (λ (c : Client I S). c.second) h.client ∙ same.second ∙ b.second;
            named = λ z. ne (sym is ∙ z);
            gains = ⊎_elim
                (λ lt.
                let place_is = ap (count (server_of p v.server)) (ap (ident_by (server_of p v.server).ids) born) in
                let count_is : count (server_of p v2.server) (ident_of p v2 h.node) ≡ count s2 st2.ident = ap₂ (λ (x : Server I) c. count x c) h.server is in
                let cursor_is = ap (λ (c : Client I S). c.cursor) h.client in
                let cursor_was = b.cursor in
                inl (omega arith))
                (λ none.
                let d = done p law built roomy A U O v nd.name i nd not_server (arms nd.name) (arms server_name) h ne none in
                inr (record { cursor = ap (λ (c : Client I S). c.cursor) h.client ∙ d.cursor ∙ ap (λ (x : Server I). length x.log) (sym h.server); unsent = ap (λ (c : Client I S). c.unsent) h.client ∙ d.unsent }))
                gain;
          }

      pub one_turn : (ident_of p v nd ≡ 0 → U) → ((client_of p nd.records).second ≡ false → O) → Goes p (IsException A U O) v (turn p nd.name v) (λ v2. Turned v v2 i nd)
      one_turn naming olding =
          let start = start_at p law built roomy A U O v nd.name i nd not_server (arms nd.name) (arms server_name) reached found (length v.messages) refl in
          let b = born_of p law built roomy A U O v nd.name i nd not_server (arms nd.name) (arms server_name) start in
          let id_is : ident_of p v nd ≡ place_of b.0 (server_of p v.server).ids = ap (ident_by (server_of p v.server).ids) b.1 in
          bound p law built A U O v nd.name i nd not_server (arms nd.name) (arms server_name) roomy start b.0 b.1 (λ z. naming (id_is ∙ z)) (rounds nd.name (suc (suc (length v.messages))) 1) (λ v2. Turned v v2 i nd) (λ v1 s1 st1 h1 bd.
          round_gains p law built A U O v nd.name i nd not_server (arms nd.name) (arms server_name) roomy h1 bd.named (λ z. olding (sym bd.second ∙ z)) [] (λ v2. Turned v v2 i nd) (λ v2 s2 st2 h2 same gain.
          inr (turned h2 b.0 b.1 bd (still_count p law built roomy A U O v nd.name i nd not_server (arms nd.name) (arms server_name) start h1 b.0 b.1 bd) same gain)))

    -- how far a client may be
    within_all : (w : World) → Valid p w → (i : ℕ) (nd : Node) → at w.clients i ≡ Some nd → reach_of w nd ≤ length (server_of p w.server).log + length (client_of p nd.records).made
    within_all w r i nd h = ⊎_elim
        (λ f.
        let cursor = f.1.at_start in
        let within = f.1.within in
        let long = ap length hs.sim.log_is in
        let e = ap (count (server_of p w.server)) (is ∙ f.0) in
        let z = blank in
        omega arith)
        (λ g.
        let a = hs.sim.ahead (place_of k.id (server_of p w.server).ids) in
        let l = ap length (sym g.1.mades ∙ a.1) ∙ length-append (of_origin (place_of k.id (server_of p w.server).ids) hs.n.log) a.0 in
        let m = length_map (as_log (place_of k.id (server_of p w.server).ids)) (client_of p nd.records).made in
        let c = ap₂ (λ l c. length (of_origin c l)) hs.sim.log_is (sym is) in
        let len = ap length hs.sim.log_is in
        let reach = g.1.reach in
        omega arith)
        k.is
      where
        hs : Holds p w
        hs = r.holds

        k : Rattle.sync_model.proofs.Sim.ClientIs p hs.n (server_of p w.server).ids nd.records
        k = hs.sim.clients i nd h

        is : ident_of p w nd ≡ place_of k.id (server_of p w.server).ids
        is = ap (ident_by (server_of p w.server).ids) k.born

        blank : count (server_of p w.server) 0 ≡ 0
        blank =
            let a = hs.sim.ahead 0 in
            let b = ap length (sym a.1 ∙ hs.sim.blank_mades 0 (inl refl)) in
            let l = length-append (of_origin 0 hs.n.log) a.0 in
            let c = ap (λ x. length (of_origin 0 x)) hs.sim.log_is in
            omega arith

    -- whatever happens it never falls back
    reach_later : (es : List (Event I)) (w : World) (r : Valid p w) (i : ℕ) (nd : Node) (h : at w.clients i ≡ Some nd) → reach_of w nd ≤ reach_of (world_after p w es) (node_later p law built es w r i nd h).node
    reach_later es w r i nd h = ⊎_elim
        (λ z.
        let a = within_all_zero z in
        let c = (node_later p law built es w r i nd h).client.cursor in
        omega arith)
        (λ ne.
        let c = (node_later p law built es w r i nd h).client.cursor in
        let e = ap (count (server_of p (world_after p w es).server)) (ident_later p law built es w r i nd h ne) in
        let l = count_longer p law built es w r (ident_of p w nd) in
        omega arith)
        (same_or_not (ident_of p w nd) 0)
      where
        within_all_zero : ident_of p w nd ≡ 0 → count (server_of p w.server) (ident_of p w nd) ≡ 0
        within_all_zero z =
            let hs : Holds p w = r.holds in
            let a = hs.sim.ahead 0 in
            let b = ap length (sym a.1 ∙ hs.sim.blank_mades 0 (inl refl)) in
            let l = length-append (of_origin 0 hs.n.log) a.0 in
            let c = ap (λ x. length (of_origin 0 x)) hs.sim.log_is in
            let d = ap (count (server_of p w.server)) z in
            omega arith

    -- more turns than there are entries and own changes in the end
    pub gets : (O : Type 0) (name : Name) (i most : ℕ) (ess : List (List (Event I))) (w : World) → Valid p w → (nd : Node) → at w.clients i ≡ Some nd → nd.name ≡ name → ((client_of p nd.records).second ≡ false → O)
        → ((y : Node) → at (after_turns p name w ess).clients i ≡ Some y → length (log p (after_turns p name w ess)) + length (client_of p y.records).made ≤ most) → most < reach_of w nd + length ess → Gets p (IsException (Unit {0}) (Unit {0}) O) name w ess
    gets O name i most [] w r nd h name_is olding bounded lt = let a = bounded nd h in let b = within_all w r i nd h in absurd (omega arith)
    gets O name i most (es ∷ ess) w r nd h name_is olding bounded lt =
        on (subst (λ x. Goes p (IsException (Unit {0}) (Unit {0}) O) v (turn p x v) (λ v2. Turned v v2 i nd1)) (later.name ∙ name_is)
        (one_turn (Unit {0}) (Unit {0}) O v (valid_after p law built es w r) i nd1 apart.0 apart.1 (λ x ne. tt) (λ z. tt) old_now))
        (λ t gain. gets O name i most ess (after_turn p name w es) t.reached t.node t.here (t.name ∙ later.name ∙ name_is) (λ z. old_now (sym t.second ∙ z)) bounded (further t gain))
      where
        v : World
        v = world_after p w es

        later : LaterNode p w (world_after p w es) i nd
        later = node_later p law built es w r i nd h

        nd1 : Node
        nd1 = later.node

        apart : (seek (has_name later.node.name) (world_after p w es).clients ≡ Some (i, later.node)) × (bytes_eq later.node.name server_name ≡ false)
        apart = (valid_after p law built es w r).apart i later.node later.here

        old_now : (client_of p later.node.records).second ≡ false → O
        old_now z = on (client_of p nd.records).second refl
          where
            on : (b : Bool) → (client_of p nd.records).second ≡ b → O
            on true e = let t = later.client.second e in absurd (clash z t)
              where
                clash : {b : Bool} → b ≡ false → b ≡ true → ⊥
                clash e f = cc
            on false e = olding e

        further : (t : Turned (world_after p w es) (after_turn p name w es) i later.node) → reach_of (world_after p w es) later.node < reach_of (after_turn p name w es) t.node → most < reach_of (after_turn p name w es) t.node + length ess
        further t gain = let a = reach_later es w r i nd h in omega arith

        on : Goes p (IsException (Unit {0}) (Unit {0}) O) (world_after p w es) (turn p name (world_after p w es)) (λ v2. Turned (world_after p w es) v2 i later.node)
            → ((t : Turned (world_after p w es) (after_turn p name w es) i later.node) → reach_of (world_after p w es) later.node < reach_of (after_turn p name w es) t.node → Gets p (IsException (Unit {0}) (Unit {0}) O) name (after_turn p name w es) ess)
            → Gets p (IsException (Unit {0}) (Unit {0}) O) name w (es ∷ ess)
        on (inl c) rec = gets_exception c
        on (inr t) rec = ⊎_elim
            (λ gain. gets_later (rec t gain))
            (λ cur.
            let a = t.reached.apart i t.node t.here in
            gets_current (record { place = i; node = t.node; found = subst (λ x. seek (has_name x) (after_turn p name w es).clients ≡ Some (i, t.node)) (t.name ∙ later.name ∙ name_is) a.0; named = t.named; current = cur }))
            t.gains
