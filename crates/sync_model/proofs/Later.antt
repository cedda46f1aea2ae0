-- What holds of every exchange in which the server may give up history.
use Rattle.std.proofs.Common.{◌≡◌, ◌⊎◌, inl, inr, ⊎_elim, ℕ, zero, suc, Bool, true, false, ◌||◌, List, [], ◌∷◌, ◌++◌, Option, Some, None, Result, Ok, Err, refl, sym, ap, ap₂, ◌∙◌, subst, subst₂, if◌then◌else◌, ◌==◌, length, take}
use Rattle.std.specs.Prelude.{⊤, bytes_eq}
use Rattle.std.specs.Option.{option_map_or}
use Rattle.sync_model.specs.Bytes.{Name, Uuid}
use Rattle.sync_model.specs.Profile.{Profile, Lawful}
use Rattle.sync_model.specs.Snapshots.{Buildable}
use Rattle.sync_model.specs.Messages.{Message, Bind, Ident, Upload, Ask, Download, Refused, Stored, Ask2, Retire, Retired, AskTables}
use Rattle.sync_model.specs.Clients.{Client, ClientStep, ClientRefusal, client_of, commit, upgrade, subscribe, bind, upload, ask, take as take_message}
use Rattle.sync_model.specs.Servers.{Server, ServerRecord, no_server, server_of, serve}
use Rattle.sync_model.specs.Parts.{Parts, Served, parts_of, served_of, serve_by, after_parts, parts_open}
use Rattle.sync_model.specs.Trims.{trimmed, is_trimmed, KeptLess, Spans, no_idents}
use Rattle.sync_model.specs.Worlds.{Node, World, Event, Joins, Starts, Edits, Binds, Uploads, Asks, Upgrades, Subscribes, Delivers, Restarts, Stops, Injects, Outcome, says, at, seek, is_there, stopped, has_name, has_id, server_name, server_moved, server_ends, server_called, client_ends, client_called, client_calls, message_words, made_words, took_words, upgrade_words, subscribe_words, reply_words, is_node, joins, starts_at, delivers, message_at, named_by, names_own, happens, empty_world}
use Rattle.sync_model.specs.Files.{FilesOpen, server_opens}
use Rattle.sync_model.specs.Log.{IsFair}
use Rattle.sync_model.specs.Later.{Later, LaterEvent, Happens, Trims, first_later, later_ends, later_served, later_injected, beside, later_after, later, all_later, IsLater, LaterFacts}
use Rattle.sync_model.proofs.Alone.{Opened, opened_first, opened_more}
use Rattle.sync_model.proofs.Facts.{world_facts}
use Rattle.sync_model.proofs.Folding.{records_after, parts_span}
use Rattle.sync_model.proofs.Holding.{Holds, one_more_message, server_append, cut_by, comes_told, injected_comes, happens_holds, empty_holds}
use Rattle.sync_model.proofs.Opening.{server_opens_on, server_opens_cut, serve_opens}
use Rattle.sync_model.proofs.Parts.{serve_is}
use Rattle.sync_model.proofs.Replies.{server_first, server_records}
use Rattle.sync_model.proofs.Restarting.{event_opens}
use Rattle.sync_model.proofs.Serving.{Comes, Served as ServedAs, served}
use Rattle.sync_model.proofs.Fair.{fair}
use Rattle.sync_model.proofs.Sim.{Tells, Inv, inv_later}
use Rattle.sync_model.proofs.Alike.{served_same}
use Rattle.sync_model.proofs.Trims.{trims_less, less_then, span_less, less_records, serve_begins}
use Rattle.sync_model.proofs.Written.{open_cut, serve_writes}

-- a refusal tells nothing
trimmed_tells : {I S : Type 0} (p : Profile I S) (n : Rattle.sync_theory.specs.Logs.Nodes (Rattle.sync_theory.specs.Changesets.Changeset I) S) (ids : List Uuid) (cls : List Node) (m : Message) → is_trimmed m ≡ true → Tells p n ids cls m
trimmed_tells p n ids cls (Refused c number code place) e = tt
trimmed_tells p n ids cls (Bind u) e = cc
trimmed_tells p n ids cls (Ident u c) e = cc
trimmed_tells p n ids cls (Upload c hs) e = cc
trimmed_tells p n ids cls (Ask c cursor settled) e = cc
trimmed_tells p n ids cls (Ask2 c cursor settled) e = cc
trimmed_tells p n ids cls (Download c from es) e = cc
trimmed_tells p n ids cls (Stored c number) e = cc
trimmed_tells p n ids cls (Retire c by) e = cc
trimmed_tells p n ids cls (Retired c by number) e = cc
trimmed_tells p n ids cls (AskTables c cursor settled second tables) e = cc

take_both : {X : Type 0} (i j : ℕ) (xs : List X) → (k : ℕ) × (take i (take j xs) ≡ take k xs)
take_both zero j xs = (0, refl)
take_both (suc i) zero xs = (0, refl)
take_both (suc i) (suc j) [] = (0, refl)
take_both (suc i) (suc j) (x ∷ xs) = let r = take_both i j xs in (suc r.0, ap (λ l. x ∷ l) r.1)

module _ {I S : Type 0} (p : Profile I S) where
  -- ---- a client's event leaves the server

  pub calls_leave : {A : Type 0} (w : World) (name : Name) (call : Client I S → ClientStep A) (words : World → Result A ClientRefusal → Outcome) → ((v : World) (a : Result A ClientRefusal) → (words v a).world.server ≡ v.server) → (client_calls p w name call words).world.server ≡ w.server
  calls_leave {A} w name call words same = on (seek (has_name name) w.clients)
    where
      ends : (q : ℕ × Node) (o : Option (List Rattle.sync_model.specs.Clients.ClientRecord)) → (client_ends w q.0 q.1 (call (client_of p q.1.records)) words o).world.server ≡ w.server
      ends q None = same (Rattle.sync_model.specs.Worlds.client_moved w q.0 q.1 (call (client_of p q.1.records)).records) (call (client_of p q.1.records)).answer
      ends q (Some stand) = refl

      on : (o : Option (ℕ × Node)) → (client_called p w call words o).world.server ≡ w.server
      on None = refl
      on (Some q) = ends q (stopped (w.stops q.1.name) (call (client_of p q.1.records)).records)

  pub messages_leave : (v : World) (a : Result Message ClientRefusal) → (message_words v a).world.server ≡ v.server
  messages_leave v (Ok m) = refl
  messages_leave v (Err r) = refl

  pub made_leave : (v : World) (a : Result ℕ ClientRefusal) → (made_words v a).world.server ≡ v.server
  made_leave v (Ok n) = refl
  made_leave v (Err r) = refl

  pub took_leave : (v : World) (a : Result ℕ ClientRefusal) → (took_words v a).world.server ≡ v.server
  took_leave v (Ok n) = refl
  took_leave v (Err r) = refl

  pub upgrade_leave : (v : World) (a : Result Bool ClientRefusal) → (upgrade_words v a).world.server ≡ v.server
  upgrade_leave v (Ok b) = refl
  upgrade_leave v (Err r) = refl

  pub subscribe_leave : (v : World) (a : Result ⊤ ClientRefusal) → (subscribe_words v a).world.server ≡ v.server
  subscribe_leave v (Ok m) = refl
  subscribe_leave v (Err r) = refl

  pub starts_leave : (w : World) (name id : Uuid) (second : Bool) (version : ℕ) (objects : S) → (starts_at p w name id second version objects).world.server ≡ w.server
  starts_leave w name id second version objects = on (is_node w name) (is_there (seek (has_id p id) w.clients) || is_there (seek (λ u. bytes_eq id u) w.injected))
    where
      on : (a b : Bool) → (if a then says w Rattle.sync_model.specs.Worlds.NameTaken else (if b then says w Rattle.sync_model.specs.Worlds.UuidTaken else says (record w { clients = w.clients ++ record { name = name; records = Rattle.sync_model.specs.Starts.started p id second version objects } ∷ [] }) (Rattle.sync_model.specs.Worlds.Joined name))).world.server ≡ w.server
      on true b = refl
      on false true = refl
      on false false = refl

  pub joins_leave : (w : World) (name id : Uuid) → (joins p w name id).world.server ≡ w.server
  joins_leave w name id = on (is_node w name) (is_there (seek (has_id p id) w.clients) || is_there (seek (λ u. bytes_eq id u) w.injected))
    where
      on : (a b : Bool) → (if a then says w Rattle.sync_model.specs.Worlds.NameTaken else (if b then says w Rattle.sync_model.specs.Worlds.UuidTaken else says (record w { clients = w.clients ++ record { name = name; records = Rattle.sync_model.specs.Clients.Born id ∷ [] } ∷ [] }) (Rattle.sync_model.specs.Worlds.Joined name))).world.server ≡ w.server
      on true b = refl
      on false true = refl
      on false false = refl

  pub delivers_leave : (w : World) (to : Name) (k : ℕ) → bytes_eq to server_name ≡ false → (happens p w (Delivers k to)).world.server ≡ w.server
  delivers_leave w to k off = on (is_node w to) (message_at w k)
    where
      some : (b : Bool) (m : Message) → b ≡ false → (if b then server_called p w m else client_calls p w to (λ c. take_message p c m) took_words).world.server ≡ w.server
      some true m e = cc
      some false m e = calls_leave w to (λ c. take_message p c m) took_words took_leave

      on : (a : Bool) (o : Option Message) → (if a then delivers p w to o else says w Rattle.sync_model.specs.Worlds.NoNode).world.server ≡ w.server
      on true None = refl
      on true (Some m) = some (bytes_eq to server_name) m off
      on false o = refl

  pub stops_leave : (w : World) (node : Name) (k : ℕ) (leaves : Rattle.sync_model.specs.Worlds.Leaves) → (happens p w (Stops node k leaves)).world.server ≡ w.server
  stops_leave w node k leaves = on (is_node w node)
    where
      on : (b : Bool) → (if b then says (record w { stops = Rattle.sync_model.specs.Worlds.arm node (Some (record { at = k; leaves = leaves })) w.stops }) Rattle.sync_model.specs.Worlds.Armed else says w Rattle.sync_model.specs.Worlds.NoNode).world.server ≡ w.server
      on true = refl
      on false = refl

  -- ---- what holds

  abbrev pub full : World → Parts I S
  full w = parts_of p (server_of p w.server)

  pub record Held (l : Later I S) : Type 0 where
    pub holds : Holds p l.world
    pub opens : FilesOpen p l.world
    pub less : KeptLess (full l.world) l.kept

  module _ {Fits Bounded Old : S → Type 0} (law : Lawful p Fits) (built : Buildable p Fits Bounded Old) where
    pub opened_of : (w : World) → FilesOpen p w → Opened p (server_of p w.server)
    opened_of w f = opened_more p law w.server no_server f.server (opened_first p)

    full_spans : (w : World) → FilesOpen p w → Spans (full w)
    full_spans w f = parts_span p law (server_of p w.server) (opened_of w f) (server_records p w.server no_server f.server (server_first p))

    -- what doesn't come to the server
    beside_held : (l : Later I S) → Held l → (e : Event I) → (happens p l.world e).world.server ≡ l.world.server → Held (beside p l e)
    beside_held l h e same = record {
      holds = happens_holds p law built l.world h.holds e;
      opens = event_opens p law built l.world h.holds h.opens e;
      less = subst (λ rs. KeptLess (parts_of p (server_of p rs)) l.kept) (sym same) h.less;
    }

    -- a message to the server

    module _ (w : World) (kept : Parts I S) (h : Holds p w) (f : FilesOpen p w) (less : KeptLess (full w) kept) (m : Message) (comes : Comes p law w.clients w.injected (server_of p w.server) h.n h.sim m) where
      abbrev s : Server I
      s = server_of p w.server

      abbrev did : Served I S
      did = serve_by p kept m

      whole : serve_by p (full w) m ≡ served_of p s (serve p s m)
      whole = serve_is p law s (opened_of w f) m

      v : ServedAs p s w.clients w.injected h.n (serve p s m)
      v = served p law w.clients w.injected s h.n h.sim m comes

      -- its records are the first of those that the longer history gives
      begins : (j : ℕ) × (did.records ≡ take j (serve p s m).records)
      begins = let b = serve_begins p (full w) kept less m in (b.0, b.1 ∙ ap (λ z. take b.0 z.records) whole)

      begun : (i : ℕ) → (j : ℕ) × (take i did.records ≡ take j (serve p s m).records)
      begun i = let t = take_both i begins.0 (serve p s m).records in (t.0, ap (take i) begins.1 ∙ t.1)

      moved : (rs : List ServerRecord) → (j : ℕ) × (rs ≡ take j (serve p s m).records) → Holds p (server_moved w rs)
      moved rs b = subst (λ l. Holds p (server_moved w l)) (sym b.1)
          (let x = v.cut b.0 in subst (λ z. Inv p z w.clients w.messages w.injected) (sym (server_append p _ w.server (take b.0 (serve p s m).records))) (inv_later p h x.m x.sim x.later))

      opens_rest : (rs : List ServerRecord) → (j : ℕ) × (rs ≡ take j (serve p s m).records) → server_opens p s rs ≡ true
      opens_rest rs b = subst (λ l. server_opens p s l ≡ true) (sym b.1) (server_opens_cut p b.0 s (serve p s m).records (serve_opens p s m))

      opens_moved : (rs : List ServerRecord) → (j : ℕ) × (rs ≡ take j (serve p s m).records) → server_opens p no_server (w.server ++ rs) ≡ true
      opens_moved rs b = server_opens_on p no_server w.server rs f.server (opens_rest rs b)

      less_moved : (rs : List ServerRecord) → (j : ℕ) × (rs ≡ take j (serve p s m).records) → parts_open p kept rs ≡ true → KeptLess (parts_of p (server_of p (w.server ++ rs))) (after_parts p kept rs)
      less_moved rs b fine = subst (λ z. KeptLess z (after_parts p kept rs)) (records_after p law rs s (opened_of w f) (opens_rest rs b) ∙ ap (parts_of p) (sym (server_append p _ w.server rs))) (less_records p rs (full w) kept less fine)

      replied : (t : Bool) → is_trimmed did.answer ≡ t → Holds p (reply_words (server_moved w did.records) did.answer).world
      replied true is = one_more_message p (moved did.records begins) did.answer (trimmed_tells p _ _ _ did.answer is)
      replied false is =
          let e = served_same p (full w) kept less m is in
          let x = v.done in
          let base : Inv p (server_of p (w.server ++ (serve p s m).records)) w.clients (w.messages ++ (serve p s m).answer ∷ []) w.injected =
          subst (λ z. Inv p z w.clients (w.messages ++ (serve p s m).answer ∷ []) w.injected) (sym (server_append p _ w.server (serve p s m).records)) (one_more_message p (inv_later p h x.m x.sim x.later) (serve p s m).answer v.tells) in
          subst₂ (λ rs a. Inv p (server_of p (w.server ++ rs)) w.clients (w.messages ++ a ∷ []) w.injected) (sym (e.0 ∙ ap (λ z. z.records) whole)) (sym (e.1 ∙ ap (λ z. z.answer) whole)) base

      pub served_held : Held (later_served p w kept m)
      served_held = on (stopped (w.stops server_name) did.records) refl
        where
          writes : Rattle.sync_model.proofs.Written.Writes p kept (serve_by p kept m).records (serve_by p kept m).parts
          writes = serve_writes p kept m

          on : (o : Option (List ServerRecord)) → stopped (w.stops server_name) (serve_by p kept m).records ≡ o → Held (later_ends p w kept (serve_by p kept m) o)
          on None is = record {
            holds = replied (is_trimmed (serve_by p kept m).answer) refl;
            opens = record { clients = f.clients; server = opens_moved (serve_by p kept m).records begins };
            less = subst (λ z. KeptLess (parts_of p (server_of p (w.server ++ (serve_by p kept m).records))) z) writes.gives (less_moved (serve_by p kept m).records begins writes.opens);
          }
          on (Some stand) is =
              let c = cut_by (w.stops server_name) (serve_by p kept m).records stand is in
              subst (λ l. Held (record { world = server_moved w l; kept = after_parts p kept l })) c.1 (record {
                holds = moved (take c.0 (serve_by p kept m).records) (begun c.0);
                opens = record { clients = f.clients; server = opens_moved (take c.0 (serve_by p kept m).records) (begun c.0) };
                less = less_moved (take c.0 (serve_by p kept m).records) (begun c.0) (open_cut p c.0 kept (serve_by p kept m).records writes.opens);
              })

    -- ---- events

    some_held : (l : Later I S) (h : Held l) (o : Option Message) → ((m : Message) → o ≡ Some m → Tells p h.holds.n (server_of p l.world.server).ids l.world.clients m) → Held (option_map_or (later_served p l.world l.kept) o l)
    some_held l h None t = h
    some_held l h (Some m) t = served_held l.world l.kept h.holds h.opens h.less m (comes_told p law built l.world h.holds m (t m refl))

    none_some : {m : Message} → None ≡ Some m → ⊥
    none_some e = cc

    pub named_open : (w : World) (m : Message) → FilesOpen p w → FilesOpen p (named_by w m)
    named_open w (Bind u) f = record { clients = f.clients; server = f.server }
    named_open w (Ident u c) f = f
    named_open w (Upload c hs) f = f
    named_open w (Ask c cursor settled) f = f
    named_open w (Ask2 c cursor settled) f = f
    named_open w (Download c from es) f = f
    named_open w (Refused c number code place) f = f
    named_open w (Stored c number) f = f
    named_open w (Retire c by) f = f
    named_open w (Retired c by number) f = f
    named_open w (AskTables c cursor settled second tables) f = f

    injected_held : (l : Later I S) → Held l → (m : Option Message) → Held (option_map_or (later_injected p l) m l)
    injected_held l h None = h
    injected_held l h (Some m) = on (names_own p l.world m) refl
      where
        go : (m : Message) → names_own p l.world m ≡ false → Held (later_served p (named_by l.world m) l.kept m)
        go (Bind u) f = let c = injected_comes p law built l.world h.holds (Bind u) f in served_held (named_by l.world (Bind u)) l.kept c.0 (named_open l.world (Bind u) h.opens) h.less (Bind u) c.1
        go (Upload c hs) f = let k = injected_comes p law built l.world h.holds (Upload c hs) f in served_held l.world l.kept k.0 h.opens h.less (Upload c hs) k.1
        go (Ident u c) f = let k = injected_comes p law built l.world h.holds (Ident u c) f in served_held l.world l.kept k.0 h.opens h.less (Ident u c) k.1
        go (Ask c cursor settled) f = let k = injected_comes p law built l.world h.holds (Ask c cursor settled) f in served_held l.world l.kept k.0 h.opens h.less (Ask c cursor settled) k.1
        go (Ask2 c cursor settled) f = let k = injected_comes p law built l.world h.holds (Ask2 c cursor settled) f in served_held l.world l.kept k.0 h.opens h.less (Ask2 c cursor settled) k.1
        go (Download c from es) f = let k = injected_comes p law built l.world h.holds (Download c from es) f in served_held l.world l.kept k.0 h.opens h.less (Download c from es) k.1
        go (Refused c number code place) f = let k = injected_comes p law built l.world h.holds (Refused c number code place) f in served_held l.world l.kept k.0 h.opens h.less (Refused c number code place) k.1
        go (Stored c number) f = let k = injected_comes p law built l.world h.holds (Stored c number) f in served_held l.world l.kept k.0 h.opens h.less (Stored c number) k.1
        go (Retire c by) f = let k = injected_comes p law built l.world h.holds (Retire c by) f in served_held l.world l.kept k.0 h.opens h.less (Retire c by) k.1
        go (Retired c by number) f = let k = injected_comes p law built l.world h.holds (Retired c by number) f in served_held l.world l.kept k.0 h.opens h.less (Retired c by number) k.1
        go (AskTables c cursor settled second tables) f = let k = injected_comes p law built l.world h.holds (AskTables c cursor settled second tables) f in served_held l.world l.kept k.0 h.opens h.less (AskTables c cursor settled second tables) k.1

        on : (b : Bool) → names_own p l.world m ≡ b → Held (if b then l else later_served p (named_by l.world m) l.kept m)
        on true is = h
        on false is = go m is

    starts_held : (l : Later I S) → Held l → (name id : Uuid) → Held (later_after p l (Starts name id))
    starts_held l h name id =
        let k = h.less in
        let e : starts_at p l.world name id l.kept.second l.kept.len l.kept.objects ≡ starts_at p l.world name id (full l.world).second (full l.world).len (full l.world).objects = λ i. starts_at p l.world name id (k.second i) (k.len i) (k.objects i) in
        subst (λ o. Held (record l { world = o.world })) (sym e) (beside_held l h (Starts name id) (starts_leave l.world name id (full l.world).second (full l.world).len (full l.world).objects))

    pub event_held : (l : Later I S) → Held l → (e : Event I) → Held (later_after p l e)
    event_held l h (Joins name id) = beside_held l h (Joins name id) (joins_leave l.world name id)
    event_held l h (Starts name id) = starts_held l h name id
    event_held l h (Edits name ms edits) = beside_held l h (Edits name ms edits) (calls_leave l.world name (λ c. commit p c ms edits) made_words made_leave)
    event_held l h (Binds name) = beside_held l h (Binds name) (calls_leave l.world name bind message_words messages_leave)
    event_held l h (Uploads name) = beside_held l h (Uploads name) (calls_leave l.world name (upload p) message_words messages_leave)
    event_held l h (Asks name) = beside_held l h (Asks name) (calls_leave l.world name ask message_words messages_leave)
    event_held l h (Upgrades name) = beside_held l h (Upgrades name) (calls_leave l.world name upgrade upgrade_words upgrade_leave)
    event_held l h (Subscribes name tables) = beside_held l h (Subscribes name tables) (calls_leave l.world name (λ c. subscribe c tables) subscribe_words subscribe_leave)
    event_held l h (Delivers k to) = on (bytes_eq to server_name) refl k
      where
        on : (b : Bool) → bytes_eq to server_name ≡ b → (k : ℕ) → Held (if b then option_map_or (later_served p l.world l.kept) (message_at l.world k) l else beside p l (Delivers k to))
        on true is zero = some_held l h None (λ m e. absurd (none_some e))
        on true is (suc k) = some_held l h (at l.world.messages k) (λ m e. h.holds.tells k m e)
        on false is k = beside_held l h (Delivers k to) (delivers_leave l.world to k is)
    event_held l h (Restarts node) = beside_held l h (Restarts node) refl
    event_held l h (Stops node k leaves) = beside_held l h (Stops node k leaves) (stops_leave l.world node k leaves)
    event_held l h (Injects m) = injected_held l h m

    pub later_held : (l : Later I S) → Held l → (e : LaterEvent I) → Held (later p l e)
    later_held l h (Happens e) = event_held l h e
    later_held l h Trims = record { holds = h.holds; opens = h.opens; less = less_then (full l.world) l.kept (trimmed p l.kept) h.less (trims_less p l.kept (span_less (full l.world) l.kept (full_spans l.world h.opens) h.less)) }

    pub first_held : Held (first_later p)
    first_held = record {
      holds = empty_holds p law built;
      opens = record { clients = λ i nd e. absurd (nothing i nd e); server = refl };
      less = record { floor = Rattle.std.proofs.Common.le_refl 0; within = Rattle.std.proofs.Common.le_refl 0; len = refl; entries = refl; bases = refl; based = Rattle.std.proofs.Common.le_refl 0; objects = refl; second = refl; idents = no_idents; retired = refl };
    }
      where
        nothing : (i : ℕ) (nd : Node) → at [] i ≡ Some nd → ⊥
        nothing i nd e = cc

    pub all_held : (es : List (LaterEvent I)) (l : Later I S) → Held l → Held (all_later p l es)
    all_held [] l h = h
    all_held (e ∷ es) l h = all_held es (later p l e) (later_held l h e)

    held_facts : (l : Later I S) → Held l → LaterFacts p Fits l
    held_facts l h = record {
      facts = world_facts p law l.world h.holds;
      kept = h.less;
      opens = h.opens;
      replies = λ k m here. on m (h.holds.tells k m here) (is_trimmed (serve_by p l.kept m).answer) refl;
    }
      where
        on : (m : Message) → Tells p h.holds.n (server_of p l.world.server).ids l.world.clients m → (t : Bool) → is_trimmed (serve_by p l.kept m).answer ≡ t → IsFair (serve_by p l.kept m).answer ⊎ (is_trimmed (serve_by p l.kept m).answer ≡ true)
        on m t true is = inr is
        on m t false is =
            let e = served_same p (full l.world) l.kept h.less m is in
            let whole = serve_is p law (server_of p l.world.server) (opened_of l.world h.opens) m in
            inl (subst IsFair (sym (e.1 ∙ ap (λ z. z.answer) whole)) (fair p law l.world.clients l.world.injected (server_of p l.world.server) h.holds.n h.holds.sim m t))

    pub later_facts : (l : Later I S) → IsLater p l → LaterFacts p Fits l
    later_facts l r = subst (LaterFacts p Fits) r.1 (held_facts (all_later p (first_later p) r.0) (all_held r.0 (first_later p) first_held))

  one_more : (es : List (LaterEvent I)) (v : Later I S) (e : LaterEvent I) → all_later p v (es ++ e ∷ []) ≡ later p (all_later p v es) e
  one_more [] v e = refl
  one_more (x ∷ es) v e = one_more es (later p v x) e

  pub later_first : IsLater p (first_later p)
  later_first = ([], refl)

  pub later_step : (l : Later I S) (e : LaterEvent I) → IsLater p l → IsLater p (later p l e)
  later_step l e r = (r.0 ++ e ∷ [], one_more r.0 (first_later p) e ∙ ap (λ v. later p v e) r.1)
