-- From a world to a later one: messages, a client's ident and all that grows.
use Rattle.std.proofs.Common.{append_assoc, ◌≡◌, ◌≢◌, ℕ, ◌≤◌, Bool, true, false, ◌&&◌, ◌||◌, not, List, [], ◌∷◌, ◌++◌, Option, Some, None, refl, sym, ap, ◌∙◌, ◌==◌, length, map, eqb-true, arith}
use Rattle.sync_theory.specs.Changesets.{Changeset}
use Rattle.sync_theory.specs.Logs.{Entry as LogEntry}
use Rattle.sync_model.specs.Profile.{Profile, Lawful}
use Rattle.sync_model.specs.Snapshots.{Buildable}
use Rattle.sync_model.specs.Messages.{Message}
use Rattle.sync_model.specs.Clients.{Client, Original, is_late, has_floor, ClientRecord, Born, Named, Made, Took, Form, Subset, Resumed, Waits, ok_list, no_client, client_of, after_record, after_records}
use Rattle.sync_model.specs.Servers.{entries_from, server_of, count}
use Rattle.sync_model.specs.Files.{client_admits, client_opens, is_empty, is_growing, tables_fit}
use Rattle.sync_model.specs.Worlds.{Node, World, Event, at, is_there, message_at, world_after}
use Rattle.sync_model.specs.Log.{ident_of, log}
use Rattle.sync_model.proofs.Own.{after_append}
use Rattle.sync_model.proofs.Acknowledged.{events_grow, made_more}
use Rattle.sync_model.proofs.Progress.Valid.{Valid, valid_after}
use Rattle.sync_model.proofs.Progress.Serves.{takes_same}
use Rattle.sync_model.proofs.Progress.Growing.{Onto, node_later, server_later, count_longer, ident_later}
use Rattle.progress_law.proofs.Growing.{stays_there, entries_later}

both : (a b : Bool) → (a && b) ≡ true → (a ≡ true) × (b ≡ true)
both true b e = (refl, e)
both false b e = cc

pub one_node : (a b : Node) → Some a ≡ Some b → a ≡ b
one_node a b e = cc

module _ {I S : Type 0} (p : Profile I S) where
  -- ---- a client's ident

  -- a client that has its ident keeps it, and its tables
  abbrev pub Keeps : Client I S → Client I S → Type 0
  Keeps c d = (d.ident ≡ c.ident) × (d.subset ≡ c.subset)

  one_keeps : (c : Client I S) (ahead : List (Option ClientRecord)) (r : ClientRecord) → client_admits p c ahead r ≡ true → c.ident ≢ 0 → Keeps c (after_record p c r)
  one_keeps c ahead (Born id) e ne = (refl, refl)
  one_keeps c ahead (Named ident) e ne = absurd (some c.ident (both (c.ident == 0) (not (ident == 0)) (both (not (is_growing c)) _ (both (is_there c.id) _ e).1).1).0 ne)
    where
      some : (k : ℕ) → (k == 0) ≡ true → k ≢ 0 → ⊥
      some k g ne = ne (eqb-true k 0 g)
  one_keeps c ahead (Made number ms body) e ne = (refl, refl)
  one_keeps c ahead (Took origin number ms body) e ne =
      let t = (takes_same p c (record { origin = origin; number = number; ms = ms; instrs = ok_list (p.unspell body) })).0 in
      (t.ident, t.subset)
  one_keeps c ahead Form e ne = (refl, refl)
  one_keeps c ahead (Subset tables) e ne = absurd (early c.front e)
    where
      named : (b : Bool) → (c.ident == 0) ≡ b → (f : Bool) → not (not b || f) ≡ true → ⊥
      named true is f g = ne (eqb-true c.ident 0 is)
      named false is f g = cc

      early : (o : Option ℕ) → tables_fit c (not (is_empty ahead)) o (is_there c.id && (not (is_growing c) && (not (is_there c.subset) && not (is_late c)))) ≡ true → ⊥
      early (Some n) h = ne (eqb-true c.ident 0 (both (c.ident == 0) _ h).0)
      early None h =
          let late = (both (not (is_there c.subset)) (not (is_late c)) (both (not (is_growing c)) _ (both (is_there c.id) _ h).1).1).1 in
          named (c.ident == 0) refl (has_floor c.floor || (not (length c.made == 0) || not (c.cursor == 0))) late
  one_keeps c ahead (ClientRecord.Part body) e ne = (refl, refl)
  one_keeps c ahead (ClientRecord.Floor version) e ne = (refl, refl)
  one_keeps c ahead (Resumed number waiting) e ne = (refl, refl)
  one_keeps c ahead (Waits number base ms body current) e ne = (refl, refl)

  all_keep : (rs : List ClientRecord) (c : Client I S) → client_opens p c rs ≡ true → c.ident ≢ 0 → Keeps c (after_records p c rs)
  all_keep [] c e ne = (refl, refl)
  all_keep (r ∷ rs) c e ne =
      let b = both (client_admits p c (map (λ q. Some q) rs) r) (client_opens p (after_record p c r) rs) e in
      let one = one_keeps c (map (λ q. Some q) rs) r b.0 ne in
      let rest = all_keep rs (after_record p c r) b.1 (λ z. ne (sym one.0 ∙ z)) in
      (rest.0 ∙ one.0, rest.1 ∙ one.1)

  opens_rest : (rs ts : List ClientRecord) (c : Client I S) → client_opens p c (rs ++ ts) ≡ true → client_opens p (after_records p c rs) ts ≡ true
  opens_rest [] ts c e = e
  opens_rest (r ∷ rs) ts c e = opens_rest rs ts (after_record p c r) (both (client_admits p c (map (λ q. Some q) (rs ++ ts)) r) (client_opens p (after_record p c r) (rs ++ ts)) e).1

  -- ---- all of it

  -- a client of a world in a later one
  pub record Since (w v : World) (i : ℕ) (nd : Node) : Type 0 where
    pub reached : Valid p v
    pub node : Node
    pub here : at v.clients i ≡ Some node
    pub name : node.name ≡ nd.name
    pub client : Onto p (client_of p nd.records) (client_of p node.records)
    pub ident : (client_of p nd.records).ident ≢ 0 → (client_of p node.records).ident ≡ (client_of p nd.records).ident
    pub ident_is : ident_of p w nd ≢ 0 → ident_of p v node ≡ ident_of p w nd
    pub counts : (c : ℕ) → count (server_of p w.server) c ≤ count (server_of p v.server) c
    pub more : List (LogEntry (Changeset I))
    pub log_is : log p v ≡ log p w ++ more
    pub messages : (k : ℕ) (m : Message) → message_at w k ≡ Some m → message_at v k ≡ Some m
    pub made_more : List (Original I)
    pub made_is : (client_of p node.records).made ≡ (client_of p nd.records).made ++ made_more
    pub subset_is : (client_of p nd.records).ident ≢ 0 → (client_of p node.records).subset ≡ (client_of p nd.records).subset
    pub entries_more : List (Changeset I)
    pub entries_are : entries_from p (log p v) (length (log p v)) 0 ≡ entries_from p (log p w) (length (log p w)) 0 ++ entries_more

  module _ {Fits Bounded Old : S → Type 0} (law : Lawful p Fits) (built : Buildable p Fits Bounded Old) where
    pub since : (es : List (Event I)) (w : World) → Valid p w → (i : ℕ) (nd : Node) → at w.clients i ≡ Some nd → Since w (world_after p w es) i nd
    since es w reached i nd h =
        let l = node_later p law built es w reached i nd h in
        let s = server_later p law built es w reached in
        record {
          reached = valid_after p law built es w reached;
          node = l.node;
          here = l.here;
          name = l.name;
          client = l.client;
          ident = kept;
          ident_is = ident_later p law built es w reached i nd h;
          counts = count_longer p law built es w reached;
          more = s.log;
          log_is = s.log_is;
          messages = stays_there p es w;
          made_more = made_later.0;
          made_is = made_later.1;
          subset_is = subset_kept;
          entries_more = (entries_later p law built es w reached).0;
          entries_are = (entries_later p law built es w reached).1;
        }
      where
        same : (node_later p law built es w reached i nd h).node ≡ (events_grow p es w i nd h).0
        same = one_node (node_later p law built es w reached i nd h).node (events_grow p es w i nd h).0 (sym (node_later p law built es w reached i nd h).here ∙ (events_grow p es w i nd h).1)

        -- what its records stand for
        stands : client_of p (node_later p law built es w reached i nd h).node.records ≡ after_records p (client_of p nd.records) (events_grow p es w i nd h).2.more
        stands = ap (λ (x : Node). client_of p x.records) same ∙ ap (client_of p) (events_grow p es w i nd h).2.records ∙ after_append p (no_client p) nd.records (events_grow p es w i nd h).2.more

        opened : client_opens p (client_of p nd.records) (events_grow p es w i nd h).2.more ≡ true
        opened =
            let g = events_grow p es w i nd h in
            let open_ : client_opens p (no_client p) (nd.records ++ g.2.more) ≡ true = ap (client_opens p (no_client p)) (sym g.2.records) ∙ (valid_after p law built es w reached).opens.clients i g.0 g.1 in
            opens_rest nd.records g.2.more (no_client p) open_

        kept : (client_of p nd.records).ident ≢ 0 → (client_of p (node_later p law built es w reached i nd h).node.records).ident ≡ (client_of p nd.records).ident
        kept ne = ap (λ (c : Client I S). c.ident) stands ∙ (all_keep (events_grow p es w i nd h).2.more (client_of p nd.records) opened ne).0

        subset_kept : (client_of p nd.records).ident ≢ 0 → (client_of p (node_later p law built es w reached i nd h).node.records).subset ≡ (client_of p nd.records).subset
        subset_kept ne = ap (λ (c : Client I S). c.subset) stands ∙ (all_keep (events_grow p es w i nd h).2.more (client_of p nd.records) opened ne).1

        made_later : (more : List (Original I)) × ((client_of p (node_later p law built es w reached i nd h).node.records).made ≡ (client_of p nd.records).made ++ more)
        made_later =
            let m = made_more p (client_of p nd.records) (events_grow p es w i nd h).2.more in
            (m.0, ap (λ (c : Client I S). c.made) stands ∙ m.1)

  -- and on to a later one
  pub since_then : {u v w : World} {i : ℕ} {nd : Node} (a : Since u v i nd) → Since v w i a.node → Since u w i nd
  since_then {u} {v} {w} {i} {nd} a b =
      let ac = a.client.cursor in
      let bc = b.client.cursor in
      let am = a.client.made in
      let bm = b.client.made in
      record {
        reached = b.reached;
        node = b.node;
        here = b.here;
        name = b.name ∙ a.name;
        client = record { cursor = omega arith; made = omega arith; id = λ x e. b.client.id x (a.client.id x e); second = λ e. b.client.second (a.client.second e) };
        ident = λ ne. b.ident (λ z. ne (sym (a.ident ne) ∙ z)) ∙ a.ident ne;
        ident_is = λ ne. b.ident_is (λ z. ne (sym (a.ident_is ne) ∙ z)) ∙ a.ident_is ne;
        counts = λ c. let x = a.counts c in let y = b.counts c in omega arith;
        more = a.more ++ b.more;
        log_is = b.log_is ∙ ap (λ l. l ++ b.more) a.log_is ∙ append_assoc (log p u) a.more b.more;
        messages = λ k m e. b.messages k m (a.messages k m e);
        made_more = a.made_more ++ b.made_more;
        made_is = b.made_is ∙ ap (λ l. l ++ b.made_more) a.made_is ∙ append_assoc (client_of p nd.records).made a.made_more b.made_more;
        subset_is = λ ne. b.subset_is (λ z. ne (sym (a.ident ne) ∙ z)) ∙ a.subset_is ne;
        entries_more = a.entries_more ++ b.entries_more;
        entries_are = b.entries_are ∙ ap (λ l. l ++ b.entries_more) a.entries_are ∙ append_assoc (entries_from p (log p u) (length (log p u)) 0) a.entries_more b.entries_more;
      }
