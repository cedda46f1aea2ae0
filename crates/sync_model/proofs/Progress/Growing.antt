-- Whatever happens, the history, cursors and what clients made only grow, and a uuid and its ident stay.
use Rattle.std.proofs.Common.{append-nil, append_assoc, ◌≡◌, ◌≢◌, ℕ, zero, suc, ◌≤◌, Bool, true, false, ◌&&◌, ◌||◌, not, List, [], ◌∷◌, ◌++◌, Option, Some, None, Result, Ok, Err, refl, sym, ap, ◌∙◌, subst, arith, if◌then◌else◌, length, length-append, eqb-true, ◌==◌, map}
use Rattle.std.specs.Prelude.{bytes_eq, ⊤}
use Rattle.sync_theory.specs.Changesets.{Changeset}
use Rattle.sync_theory.specs.Logs.{Entry as LogEntry, of_origin}
use Rattle.sync_theory.proofs.Logs.{length_snoc, origin_append}
use Rattle.sync_model.specs.Bytes.{Name, Uuid}
use Rattle.sync_model.specs.Profile.{Profile, Lawful, Stuck, cross_changesets}
use Rattle.sync_model.specs.Snapshots.{Buildable, grown}
use Rattle.sync_model.specs.Messages.{Message, Bind, Ident, Upload, Ask, Download, Refused, Stored, Ask2, Retire, Retired, AskTables}
use Rattle.sync_model.specs.Clients.{Client, ClientRecord, Born, Named, Made, Took, Form, ClientRefusal, ClientStep, ok_list, no_client, client_of, after_record, after_records, commit, upgrade, bind, upload, ask, take as take_message, Subset, subscribe, Resumed, Waits, blanks, one_less, changeset_of, crossed, takes_entry}
use Rattle.sync_model.specs.Servers.{Server, ServerRecord, Entry, no_server, server_of, after_server, after_all, entry_of, place_of, count, serve, server_objects}
use Rattle.sync_theory.specs.Grid.{rebase, tail}
use Rattle.sync_model.specs.Files.{client_admits, client_opens, is_empty, is_growing, is_blank, is_fine, all_came, may_grow}
use Rattle.sync_model.specs.Worlds.{Node, World, Event, Joins, Edits, Binds, Uploads, Asks, Upgrades, Delivers, Restarts, Stops, Injects, Outcome, says, NoNode, NameTaken, UuidTaken, Joined, Armed, OwnIdent, at, seek, is_there, stopped, has_name, has_id, server_name, message_words, made_words, took_words, upgrade_words, client_moved, client_ends, client_called, client_calls, server_ends, server_called, is_node, delivers, named_by, names_own, message_at, arm, happens, world_after, Starts, Subscribes, subscribe_words}
use Rattle.sync_model.specs.Log.{ident_by, ident_of}
use Rattle.sync_model.proofs.Lists.{place_old}
use Rattle.sync_model.proofs.Own.{after_append}
use Rattle.sync_model.proofs.Holding.{server_append}
use Rattle.sync_model.proofs.Acknowledged.{events_grow}
use Rattle.sync_model.proofs.Progress.Valid.{Valid, valid_after}
use Rattle.sync_model.proofs.Progress.Serves.{takes_same}
use Rattle.sync_model.specs.Starts.{started}
use Rattle.sync_theory.proofs.Server.{test_true}

both : (a b : Bool) → (a && b) ≡ true → (a ≡ true) × (b ≡ true)
both true b e = (refl, e)
both false b e = cc

module _ {I S : Type 0} (p : Profile I S) where
  -- ---- a client's records

  pub record Onto (c d : Client I S) : Type 0 where
    pub cursor : c.cursor ≤ d.cursor
    pub made : length c.made ≤ length d.made
    pub id : (u : Uuid) → c.id ≡ Some u → d.id ≡ Some u
    pub second : c.second ≡ true → d.second ≡ true

  -- a client that has no ident and didn't begin with a state took nothing; nor has one in the front of a short file
  pub record AtFirst (c : Client I S) : Type 0 where
    none : c.ident ≡ 0 → c.floor ≡ None → c.cursor ≡ 0
    front : is_there c.front ≡ true → (c.cursor ≡ 0) × (c.ident ≡ 0)

  some : (k : ℕ) → not (k == 0) ≡ true → k ≡ 0 → ⊥
  some k g z = let t = test_true k 0 z in cc

  grows : (c : Client I S) → is_there c.front ≡ true → not (is_growing c) ≡ true → ⊥
  grows c g e = go c.front g e
    where
      go : (o : Option ℕ) → is_there o ≡ true → not (is_there o || (not (is_empty c.parts) && not (is_there c.floor))) ≡ true → ⊥
      go None g e = cc
      go (Some n) g e = cc

  blank : (c : Client I S) → is_blank c ≡ true → (c.floor ≡ None) × (c.ident ≡ 0)
  blank c e =
      let more = both (not (is_there c.floor)) _ (both (not (is_there c.subset)) _ (both (is_there c.id) _ e).1).1 in
      (no_floor c.floor more.0, eqb-true c.ident 0 (both (c.ident == 0) _ more.1).0)
    where
      no_floor : (o : Option ℕ) → not (is_there o) ≡ true → o ≡ None
      no_floor None f = refl
      no_floor (Some v) f = cc

  -- it took nothing where parts of a state may come
  ready : (c : Client I S) → AtFirst c → may_grow c ≡ true → c.cursor ≡ 0
  ready c f e = go c.front refl e
    where
      go : (o : Option ℕ) → c.front ≡ o → all_came o (is_blank c) ≡ true → c.cursor ≡ 0
      go None is t = let h = blank c t in f.none h.1 h.0
      go (Some n) is t = (f.front (ap is_there is)).0

  still : (o : Option ℕ) → is_there (one_less o) ≡ true → is_there o ≡ true
  still None g = g
  still (Some zero) g = refl
  still (Some (suc n)) g = refl

  first_one : (c : Client I S) (ahead : List (Option ClientRecord)) (r : ClientRecord) → client_admits p c ahead r ≡ true → AtFirst c → AtFirst (after_record p c r)
  first_one c ahead (Born id) e f = record { none = f.none; front = f.front }
  first_one c ahead (Named ident) e f =
      let b = both (not (is_growing c)) _ (both (is_there c.id) _ e).1 in
      record { none = λ z n. absurd (some ident (both (c.ident == 0) (not (ident == 0)) b.1).1 z); front = λ g. absurd (grows c g b.0) }
  first_one c ahead (Made number ms body) e f = record { none = f.none; front = f.front }
  first_one c ahead (Took origin number ms body) e f =
      let same = (takes_same p c (record { origin = origin; number = number; ms = ms; instrs = ok_list (p.unspell body) })).0 in
      let named = some c.ident (both (not (c.ident == 0)) _ e).0 in
      record {
        none = λ z n. absurd (named (sym same.ident ∙ z));
        front = λ g. absurd (named (f.front (sym (took_front (record { origin = origin; number = number; ms = ms; instrs = ok_list (p.unspell body) })) ∙ g)).1);
      }
    where
      took_front : (x : Changeset I) → is_there (takes_entry p c x).front ≡ is_there c.front
      took_front x = go (x.origin == c.ident) (rebase (cross_changesets p) (map (changeset_of c.ident) c.unsent) x)
        where
          go : (t : Bool) (q : Result (List (Changeset I) × Changeset I) (ℕ × Stuck)) → is_there (if t then record c { cursor = suc c.cursor; unsent = tail c.unsent } else crossed p c q).front ≡ is_there c.front
          go true q = refl
          go false (Ok q) = refl
          go false (Err f) = refl
  first_one c ahead Form e f = record { none = f.none; front = f.front }
  first_one c ahead (Subset tables) e f = record { none = f.none; front = f.front }
  first_one c ahead (ClientRecord.Part body) e f = record { none = f.none; front = f.front }
  first_one c ahead (ClientRecord.Floor version) e f = record { none = λ z n. cc; front = λ g. cc }
  first_one c ahead (Resumed number waiting) e f =
      let h = blank c (both (is_blank c) _ e).0 in
      record { none = f.none; front = λ g. (f.none h.1 h.0, h.1) }
  first_one c ahead (Waits number base ms body current) e f = record { none = f.none; front = λ g. f.front (still c.front g) }

  first_all : (rs : List ClientRecord) (c : Client I S) → client_opens p c rs ≡ true → AtFirst c → AtFirst (after_records p c rs)
  first_all [] c e f = f
  first_all (r ∷ rs) c e f = let b = both (client_admits p c (map (λ q. Some q) rs) r) (client_opens p (after_record p c r) rs) e in first_all rs (after_record p c r) b.1 (first_one c (map (λ q. Some q) rs) r b.0 f)

  onto_refl : (c : Client I S) → Onto c c
  onto_refl c = record { cursor = omega arith; made = omega arith; id = λ u e. e; second = λ e. e }

  onto_then : {a b c : Client I S} → Onto a b → Onto b c → Onto a c
  onto_then x y =
      let xc = x.cursor in
      let yc = y.cursor in
      let xm = x.made in
      let ym = y.made in
      record { cursor = omega arith; made = omega arith; id = λ u e. y.id u (x.id u e); second = λ e. y.second (x.second e) }

  onto_one : (c : Client I S) (ahead : List (Option ClientRecord)) (r : ClientRecord) → client_admits p c ahead r ≡ true → AtFirst c → Onto c (after_record p c r)
  onto_one c ahead (Born id) e first = record { cursor = omega arith; made = omega arith; id = λ u f. absurd (none c.id e u f); second = λ f. f }
    where
      none : (o : Option Uuid) → not (is_there o) ≡ true → (u : Uuid) → o ≡ Some u → ⊥
      none None e u f = cc
      none (Some v) e u f = cc
  onto_one c ahead (Named ident) e first = record { cursor = omega arith; made = omega arith; id = λ u f. f; second = λ f. f }
  onto_one c ahead (Made number ms body) e first =
      let l = length_snoc c.made (record { base = c.cursor; number = number; ms = ms; instrs = ok_list (p.unspell body) }) in
      record { cursor = omega arith; made = omega arith; id = λ u f. f; second = λ f. f }
  onto_one c ahead (Took origin number ms body) e first =
      let t = takes_same p c (record { origin = origin; number = number; ms = ms; instrs = ok_list (p.unspell body) }) in
      let cursor = t.1 in
      let made = ap length t.0.made in
      record { cursor = omega arith; made = omega arith; id = λ u f. t.0.id ∙ f; second = λ f. t.0.second ∙ f }
  onto_one c ahead Form e first = record { cursor = omega arith; made = omega arith; id = λ u f. f; second = λ f. refl }
  onto_one c ahead (Subset tables) e first = record { cursor = omega arith; made = omega arith; id = λ u f. f; second = λ f. f }
  onto_one c ahead (ClientRecord.Part body) e first = record { cursor = omega arith; made = omega arith; id = λ u f. f; second = λ f. f }
  onto_one c ahead (ClientRecord.Floor version) e first =
      let z = ready c first (both (may_grow c) _ e).0 in
      record { cursor = omega arith; made = omega arith; id = λ u f. f; second = λ f. f }
  onto_one c ahead (Resumed number waiting) e first =
      let l = length-append c.made (blanks {I = I} (suc (length c.made)) number) in
      record { cursor = omega arith; made = omega (arith, l); id = λ u f. f; second = λ f. f }
  onto_one c ahead (Waits number base ms body current) e first =
      let l = length_snoc c.made (record { base = base; number = number; ms = ms; instrs = ok_list (p.unspell body) }) in
      record { cursor = omega arith; made = omega arith; id = λ u f. f; second = λ f. f }

  onto : (rs : List ClientRecord) (c : Client I S) → client_opens p c rs ≡ true → AtFirst c → Onto c (after_records p c rs)
  onto [] c e first = onto_refl c
  onto (r ∷ rs) c e first = let b = both (client_admits p c (map (λ q. Some q) rs) r) (client_opens p (after_record p c r) rs) e in onto_then (onto_one c (map (λ q. Some q) rs) r b.0 first) (onto rs (after_record p c r) b.1 (first_one c (map (λ q. Some q) rs) r b.0 first))

  opens_rest : (rs ts : List ClientRecord) (c : Client I S) → client_opens p c (rs ++ ts) ≡ true → client_opens p (after_records p c rs) ts ≡ true
  opens_rest [] ts c e = e
  opens_rest (r ∷ rs) ts c e = opens_rest rs ts (after_record p c r) (both (client_admits p c (map (λ q. Some q) (rs ++ ts)) r) (client_opens p (after_record p c r) (rs ++ ts)) e).1

  -- ---- a server's records

  pub record ServerOnto (s t : Server I) : Type 0 where
    pub ids : List Uuid
    pub ids_are : t.ids ≡ s.ids ++ ids
    pub log : List (LogEntry (Changeset I))
    pub log_is : t.log ≡ s.log ++ log

  pub server_onto : (rs : List ServerRecord) (s : Server I) → ServerOnto s (after_all p s rs)
  server_onto [] s = record { ids = []; ids_are = sym (append-nil s.ids); log = []; log_is = sym (append-nil s.log) }
  server_onto (ServerRecord.Client id ∷ rs) s =
      let o = server_onto rs (after_server p s (ServerRecord.Client id)) in
      record { ids = id ∷ o.ids; ids_are = o.ids_are ∙ append_assoc s.ids (id ∷ []) o.ids; log = o.log; log_is = o.log_is }
  server_onto (Entry origin number base ms body ∷ rs) s =
      let o = server_onto rs (after_server p s (Entry origin number base ms body)) in
      let x = entry_of origin (record { number = number; base = base; ms = ms; body = body }) (ok_list (p.unspell body)) in
      record { ids = o.ids; ids_are = o.ids_are; log = x ∷ o.log; log_is = o.log_is ∙ append_assoc s.log (x ∷ []) o.log }
  server_onto (ServerRecord.Form ∷ rs) s = let o = server_onto rs (after_server p s ServerRecord.Form) in record { ids = o.ids; ids_are = o.ids_are; log = o.log; log_is = o.log_is }
  server_onto (ServerRecord.Retired c by ∷ rs) s = let o = server_onto rs (after_server p s (ServerRecord.Retired c by)) in record { ids = o.ids; ids_are = o.ids_are; log = o.log; log_is = o.log_is }
  server_onto (ServerRecord.Settled c k ∷ rs) s = let o = server_onto rs (after_server p s (ServerRecord.Settled c k)) in record { ids = o.ids; ids_are = o.ids_are; log = o.log; log_is = o.log_is }
  server_onto (ServerRecord.Part body ∷ rs) s = server_onto rs s
  server_onto (ServerRecord.Floor version ∷ rs) s = server_onto rs s
  server_onto (ServerRecord.Count c number base settled ∷ rs) s = server_onto rs s
  server_onto (ServerRecord.Carried origin number base ms body ∷ rs) s = server_onto rs s
  server_onto (ServerRecord.Past c version ms body ∷ rs) s = server_onto rs s

  -- ---- the server over an event

  abbrev pub Appends : World → World → Type 0
  Appends w v = (more : List ServerRecord) × (v.server ≡ w.server ++ more)

  none_appended : (w v : World) → v.server ≡ w.server → Appends w v
  none_appended w v e = ([], e ∙ sym (append-nil w.server))

  module _ (w : World) where
    called : {A : Type 0} (name : Name) (call : Client I S → ClientStep A) (words : World → Result A ClientRefusal → Outcome) → ((v : World) (a : Result A ClientRefusal) → (words v a).world.server ≡ v.server) → (client_calls p w name call words).world.server ≡ w.server
    called name call words same = on (seek (has_name name) w.clients)
      where
        ends : (q : ℕ × Node) (r : Option (List ClientRecord)) → (client_ends w q.0 q.1 (call (client_of p q.1.records)) words r).world.server ≡ w.server
        ends q None = same (client_moved w q.0 q.1 (call (client_of p q.1.records)).records) (call (client_of p q.1.records)).answer
        ends q (Some stand) = refl

        on : (o : Option (ℕ × Node)) → (client_called p w call words o).world.server ≡ w.server
        on None = refl
        on (Some q) = ends q (stopped (w.stops q.1.name) (call (client_of p q.1.records)).records)

    message_same : (v : World) (a : Result Message ClientRefusal) → (message_words v a).world.server ≡ v.server
    message_same v (Ok m) = refl
    message_same v (Err r) = refl

    made_same : (v : World) (a : Result ℕ ClientRefusal) → (made_words v a).world.server ≡ v.server
    made_same v (Ok m) = refl
    made_same v (Err r) = refl

    took_same : (v : World) (a : Result ℕ ClientRefusal) → (took_words v a).world.server ≡ v.server
    took_same v (Ok m) = refl
    took_same v (Err r) = refl

    upgrade_same : (v : World) (a : Result Bool ClientRefusal) → (upgrade_words v a).world.server ≡ v.server
    upgrade_same v (Ok b) = refl
    upgrade_same v (Err r) = refl

    subscribe_same : (v : World) (a : Result ⊤ ClientRefusal) → (subscribe_words v a).world.server ≡ v.server
    subscribe_same v (Ok b) = refl
    subscribe_same v (Err r) = refl

  served : (w : World) (m : Message) → Appends w (server_called p w m).world
  served w m = on (stopped (w.stops server_name) (serve p (server_of p w.server) m).records)
    where
      on : (r : Option (List ServerRecord)) → Appends w (server_ends w (serve p (server_of p w.server) m) r).world
      on None = ((serve p (server_of p w.server) m).records, refl)
      on (Some stand) = (stand, refl)

  named_server : (w : World) (m : Message) → (named_by w m).server ≡ w.server
  named_server w (Bind u) = refl
  named_server w (Ident u c) = refl
  named_server w (Upload c hs) = refl
  named_server w (Ask c k s) = refl
  named_server w (Ask2 c k s) = refl
  named_server w (Download c k es) = refl
  named_server w (Refused c k a b) = refl
  named_server w (Stored c k) = refl
  named_server w (Retire c by) = refl
  named_server w (Retired c by k) = refl
  named_server w (AskTables c k s second tables) = refl

  event_appends : (w : World) (e : Event I) → Appends w (happens p w e).world
  event_appends w (Joins name id) = go (is_node w name) (is_there (seek (has_id p id) w.clients) || is_there (seek (λ u. bytes_eq id u) w.injected))
    where
      go : (a b : Bool) → Appends w (if a then says w NameTaken else (if b then says w UuidTaken else says (record w { clients = w.clients ++ record { name = name; records = Born id ∷ [] } ∷ [] }) (Joined name))).world
      go true b = none_appended w w refl
      go false true = none_appended w w refl
      go false false = ([], sym (append-nil w.server))
  event_appends w (Starts name id) = go (is_node w name) (is_there (seek (has_id p id) w.clients) || is_there (seek (λ u. bytes_eq id u) w.injected))
    where
      go : (a b : Bool) → Appends w (if a then says w NameTaken else (if b then says w UuidTaken else says (record w { clients = w.clients ++ record { name = name; records = started p id (server_of p w.server).second (length (server_of p w.server).log) (server_objects p (server_of p w.server)) } ∷ [] }) (Joined name))).world
      go true b = none_appended w w refl
      go false true = none_appended w w refl
      go false false = ([], sym (append-nil w.server))
  event_appends w (Subscribes name tables) = none_appended w (client_calls p w name (λ c. subscribe c tables) subscribe_words).world (called w name (λ c. subscribe c tables) subscribe_words (subscribe_same w))
  event_appends w (Edits name ms edits) = none_appended w (client_calls p w name (λ c. commit p c ms edits) made_words).world (called w name (λ c. commit p c ms edits) made_words (made_same w))
  event_appends w (Binds name) = none_appended w (client_calls p w name bind message_words).world (called w name bind message_words (message_same w))
  event_appends w (Uploads name) = none_appended w (client_calls p w name (upload p) message_words).world (called w name (upload p) message_words (message_same w))
  event_appends w (Asks name) = none_appended w (client_calls p w name ask message_words).world (called w name ask message_words (message_same w))
  event_appends w (Upgrades name) = none_appended w (client_calls p w name upgrade upgrade_words).world (called w name upgrade upgrade_words (upgrade_same w))
  event_appends w (Delivers m to) = go (is_node w to) (message_at w m)
    where
      comes : (b : Bool) (m : Message) → Appends w (if b then server_called p w m else client_calls p w to (λ c. take_message p c m) took_words).world
      comes true m = served w m
      comes false m = none_appended w (client_calls p w to (λ c. take_message p c m) took_words).world (called w to (λ c. take_message p c m) took_words (took_same w))

      go : (b : Bool) (o : Option Message) → Appends w (if b then delivers p w to o else says w NoNode).world
      go true None = none_appended w w refl
      go true (Some m) = comes (bytes_eq to server_name) m
      go false o = none_appended w w refl
  event_appends w (Restarts node) = none_appended w w refl
  event_appends w (Stops node k leaves) = go (is_node w node)
    where
      go : (b : Bool) → Appends w (if b then says (record w { stops = arm node (Some (record { at = k; leaves = leaves })) w.stops }) Armed else says w NoNode).world
      go true = ([], sym (append-nil w.server))
      go false = none_appended w w refl
  event_appends w (Injects None) = none_appended w w refl
  event_appends w (Injects (Some m)) = go (names_own p w m)
    where
      go : (b : Bool) → Appends w (if b then says w OwnIdent else server_called p (named_by w m) m).world
      go true = none_appended w w refl
      go false = let a = served (named_by w m) m in (a.0, a.1 ∙ ap (λ l. l ++ a.0) (named_server w m))

  events_append : (es : List (Event I)) (w : World) → Appends w (world_after p w es)
  events_append [] w = none_appended w w refl
  events_append (e ∷ es) w =
      let a = event_appends w e in
      let b = events_append es (happens p w e).world in
      (a.0 ++ b.0, b.1 ∙ ap (λ l. l ++ b.0) a.1 ∙ append_assoc w.server a.0 b.0)

  -- ---- both, from a world to a later one

  pub record LaterNode (w v : World) (i : ℕ) (nd : Node) : Type 0 where
    pub node : Node
    pub here : at v.clients i ≡ Some node
    pub name : node.name ≡ nd.name
    pub client : Onto (client_of p nd.records) (client_of p node.records)

  module _ {Fits Bounded Old : S → Type 0} (law : Lawful p Fits) (built : Buildable p Fits Bounded Old) (es : List (Event I)) (w : World) (reached : Valid p w) where
    pub server_later : ServerOnto (server_of p w.server) (server_of p (world_after p w es).server)
    server_later =
        let a = events_append es w in
        subst (ServerOnto (server_of p w.server)) (sym (ap (server_of p) a.1 ∙ server_append p no_server w.server a.0)) (server_onto a.0 (server_of p w.server))

    pub node_later : (i : ℕ) (nd : Node) → at w.clients i ≡ Some nd → LaterNode w (world_after p w es) i nd
    node_later i nd h =
        let g = events_grow p es w i nd h in
        let open_ : client_opens p (no_client p) (nd.records ++ g.2.more) ≡ true = ap (client_opens p (no_client p)) (sym g.2.records) ∙ (valid_after p law built es w reached).opens.clients i g.0 g.1 in
        record {
          node = g.0;
          here = g.1;
          name = g.2.name;
          client = subst (Onto (client_of p nd.records)) (sym (ap (client_of p) g.2.records ∙ after_append p (no_client p) nd.records g.2.more)) (onto g.2.more (client_of p nd.records) (opens_rest nd.records g.2.more (no_client p) open_) (first_all nd.records (no_client p) (reached.opens.clients i nd h) (record { none = λ z n. refl; front = λ g. cc })));
        }

    pub log_longer : length (server_of p w.server).log ≤ length (server_of p (world_after p w es).server).log
    log_longer =
        let o = server_later in
        let e = ap length o.log_is in
        let l = length-append (server_of p w.server).log o.log in
        omega arith

    pub count_longer : (c : ℕ) → count (server_of p w.server) c ≤ count (server_of p (world_after p w es).server) c
    count_longer c =
        let o = server_later in
        let e = ap (λ l. length (of_origin c l)) o.log_is ∙ ap length (origin_append c (server_of p w.server).log o.log) in
        let l = length-append (of_origin c (server_of p w.server).log) (of_origin c o.log) in
        omega arith

    -- a client keeps its ident, once it is given
    pub ident_later : (i : ℕ) (nd : Node) (h : at w.clients i ≡ Some nd) → ident_of p w nd ≢ 0 → ident_of p (world_after p w es) (node_later i nd h).node ≡ ident_of p w nd
    ident_later i nd h ne = on (client_of p nd.records).id refl
      where
        on : (o : Option Uuid) → (client_of p nd.records).id ≡ o → ident_of p (world_after p w es) (node_later i nd h).node ≡ ident_of p w nd
        on None e = absurd (ne (ap (ident_by (server_of p w.server).ids) e))
        on (Some u) e =
            let o = server_later in
            let is : ident_of p w nd ≡ place_of u (server_of p w.server).ids = ap (ident_by (server_of p w.server).ids) e in
            let now : ident_of p (world_after p w es) (node_later i nd h).node ≡ place_of u (server_of p (world_after p w es).server).ids = ap (ident_by (server_of p (world_after p w es).server).ids) ((node_later i nd h).client.id u e) in
            now ∙ ap (place_of u) o.ids_are ∙ place_old u (server_of p w.server).ids o.ids (λ z. ne (is ∙ z)) ∙ sym is
