-- Each client of an exchange has its uuid.
use Rattle.std.proofs.Common.{◌≡◌, ℕ, Bool, true, false, if◌then◌else◌, ◌||◌, List, [], ◌∷◌, ◌++◌, map, Option, None, Some, Result, Ok, Err, refl, ap, subst, sym, suc, ◌∙◌}
use Rattle.std.specs.Prelude.{⊤, bytes_eq, ◌==◌}
use Rattle.sync_theory.specs.Grid.{rebase, tail}
use Rattle.sync_theory.specs.Changesets.{Changeset}
use Rattle.sync_model.specs.Bytes.{Name, Uuid}
use Rattle.sync_model.specs.Profile.{Profile, Stuck, cross_changesets}
use Rattle.sync_model.specs.Each.{Each, no_more, and_each}
use Rattle.sync_model.specs.Messages.{Message, Bind, Ident, Upload, Ask, Download, Refused, Stored, Ask2, Retire, Retired, AskTables}
use Rattle.sync_model.specs.Clients.{Client, ClientRecord, Born, Named, Made, Took, Form, Subset, Part, Floor, Resumed, Waits, ClientRefusal, ClientStep, after_record, after_records, ask, bind, changeset_of, client_of, commit, crossed, no_client, ok_list, take as take_message, takes_entry, upgrade, subscribe, upload}
use Rattle.sync_model.specs.Servers.{ServerRecord, serve, server_of}
use Rattle.sync_model.specs.Worlds as worlds
use Rattle.sync_model.specs.Worlds.{World, Node, Event, Joins, Starts, Edits, Binds, Uploads, Asks, Upgrades, Subscribes, Delivers, Restarts, Stops, Injects, Outcome, at, arm, client_called, client_calls, client_ends, client_moved, delivers, empty_world, happens, has_id, has_name, is_node, is_there, made_words, message_at, message_words, named_by, names_own, put, says, seek, server_called, server_ends, server_name, stopped, subscribe_words, took_words, upgrade_words, world_after}
use Rattle.sync_model.proofs.Lists.{seek_found}
use Rattle.sync_model.proofs.Limits.{each_append, each_at}
use Rattle.sync_world.proofs.Moves.{each_put}

-- the first record is a birth
pub record IsBorn (nd : Node) : Type 0 where
  pub id : Uuid
  pub more : List ClientRecord
  pub records : nd.records ≡ Born id ∷ more

abbrev pub AllBorn : World → Type 0
AllBorn w = Each IsBorn w.clients

born_on : (nd : Node) (new : List ClientRecord) → IsBorn nd → IsBorn (record nd { records = nd.records ++ new })
born_on nd new b = record { id = b.id; more = b.more ++ new; records = ap (λ rs. rs ++ new) b.records }

moved_born : (w : World) (place : ℕ) (nd : Node) (new : List ClientRecord) → AllBorn w → at w.clients place ≡ Some nd → AllBorn (client_moved w place nd new)
moved_born w place nd new all here = each_put w.clients place (record nd { records = nd.records ++ new }) all (born_on nd new (each_at w.clients place nd all here))

module _ {I S : Type 0} (p : Profile I S) where
  -- ---- a record takes no uuid away
  entry_id : (c : Client I S) (e : Changeset I) → (takes_entry p c e).id ≡ c.id
  entry_id c e = go (e.origin == c.ident) (rebase (cross_changesets p) (map (changeset_of c.ident) c.unsent) e)
    where
      on : (r : Result (List (Changeset I) × Changeset I) (ℕ × Stuck)) → (crossed p c r).id ≡ c.id
      on (Ok q) = refl
      on (Err f) = refl

      go : (b : Bool) (r : Result (List (Changeset I) × Changeset I) (ℕ × Stuck)) → (if b then record c { cursor = suc c.cursor; unsent = tail c.unsent } else crossed p c r).id ≡ c.id
      go true r = refl
      go false r = on r

  id_stays : (rs : List ClientRecord) (c : Client I S) (u : Uuid) → c.id ≡ Some u → (v : Uuid) × ((after_records p c rs).id ≡ Some v)
  id_stays [] c u is = (u, is)
  id_stays (Born id ∷ rs) c u is = id_stays rs (after_record p c (Born id)) id refl
  id_stays (Named ident ∷ rs) c u is = id_stays rs (after_record p c (Named ident)) u is
  id_stays (Made number ms body ∷ rs) c u is = id_stays rs (after_record p c (Made number ms body)) u is
  id_stays (Took origin number ms body ∷ rs) c u is = id_stays rs (after_record p c (Took origin number ms body)) u (entry_id c (record { origin = origin; number = number; ms = ms; instrs = ok_list (p.unspell body) }) ∙ is)
  id_stays (Form ∷ rs) c u is = id_stays rs (after_record p c Form) u is
  id_stays (Subset tables ∷ rs) c u is = id_stays rs (after_record p c (Subset tables)) u is
  id_stays (Part body ∷ rs) c u is = id_stays rs (after_record p c (Part body)) u is
  id_stays (Floor version ∷ rs) c u is = id_stays rs (after_record p c (Floor version)) u is
  id_stays (Resumed number waiting ∷ rs) c u is = id_stays rs (after_record p c (Resumed number waiting)) u is
  id_stays (Waits number base ms body current ∷ rs) c u is = id_stays rs (after_record p c (Waits number base ms body current)) u is

  pub born_id : (nd : Node) → IsBorn nd → (v : Uuid) × ((client_of p nd.records).id ≡ Some v)
  born_id nd b =
      let there = id_stays b.more (after_record p (no_client p) (Born b.id)) b.id refl in
      (there.0, ap (λ rs. (client_of p rs).id) b.records ∙ there.1)

  -- ---- the clients after an event
  ends_born : {A : Type 0} (w : World) (place : ℕ) (nd : Node) (did : ClientStep A) (words : World → Result A ClientRefusal → Outcome) → ((v : World) (a : Result A ClientRefusal) → (words v a).world.clients ≡ v.clients)
      → AllBorn w → at w.clients place ≡ Some nd → (o : Option (List ClientRecord)) → AllBorn (client_ends w place nd did words o).world
  ends_born w place nd did words same all here None = subst (Each IsBorn) (sym (same (client_moved w place nd did.records) did.answer)) (moved_born w place nd did.records all here)
  ends_born w place nd did words same all here (Some stand) = moved_born w place nd stand all here

  calls_born : {A : Type 0} (w : World) (name : Name) (call : Client I S → ClientStep A) (words : World → Result A ClientRefusal → Outcome) → ((v : World) (a : Result A ClientRefusal) → (words v a).world.clients ≡ v.clients)
      → AllBorn w → AllBorn (client_calls p w name call words).world
  calls_born w name call words same all = on (seek (has_name name) w.clients) refl
    where
      on : (o : Option (ℕ × Node)) → seek (has_name name) w.clients ≡ o → AllBorn (client_called p w call words o).world
      on None is = all
      on (Some q) is = let f = seek_found (has_name name) w.clients q is in ends_born w q.0 q.1 (call (client_of p q.1.records)) words same all f.here (stopped (w.stops q.1.name) (call (client_of p q.1.records)).records)

  messages_same : (v : World) (a : Result Message ClientRefusal) → (message_words v a).world.clients ≡ v.clients
  messages_same v (Ok m) = refl
  messages_same v (Err r) = refl

  made_same : (v : World) (a : Result ℕ ClientRefusal) → (made_words v a).world.clients ≡ v.clients
  made_same v (Ok m) = refl
  made_same v (Err r) = refl

  took_same : (v : World) (a : Result ℕ ClientRefusal) → (took_words v a).world.clients ≡ v.clients
  took_same v (Ok m) = refl
  took_same v (Err r) = refl

  upgrade_same : (v : World) (a : Result Bool ClientRefusal) → (upgrade_words v a).world.clients ≡ v.clients
  upgrade_same v (Ok m) = refl
  upgrade_same v (Err r) = refl

  subscribe_same : (v : World) (a : Result ⊤ ClientRefusal) → (subscribe_words v a).world.clients ≡ v.clients
  subscribe_same v (Ok done) = refl
  subscribe_same v (Err r) = refl

  server_born : (w : World) (m : Message) → AllBorn w → AllBorn (server_called p w m).world
  server_born w m all = on (stopped (w.stops server_name) (serve p (server_of p w.server) m).records)
    where
      on : (o : Option (List ServerRecord)) → AllBorn (server_ends w (serve p (server_of p w.server) m) o).world
      on None = all
      on (Some stand) = all

  named_born : (w : World) (m : Message) → AllBorn w → AllBorn (named_by w m)
  named_born w (Bind u) all = all
  named_born w (Ident u c) all = all
  named_born w (Upload c hs) all = all
  named_born w (Ask c cursor settled) all = all
  named_born w (Ask2 c cursor settled) all = all
  named_born w (Retire c by) all = all
  named_born w (Retired c by number) all = all
  named_born w (AskTables c cursor settled second tables) all = all
  named_born w (Download c from es) all = all
  named_born w (Refused c number code place) all = all
  named_born w (Stored c number) all = all

  joins_born : (w : World) (name : Name) (id : Uuid) (more : List ClientRecord) → AllBorn w → (a b : Bool)
      → AllBorn (if a then says w worlds.NameTaken else (if b then says w worlds.UuidTaken else says (record w { clients = w.clients ++ record { name = name; records = Born id ∷ more } ∷ [] }) (worlds.Joined name))).world
  joins_born w name id more all true b = all
  joins_born w name id more all false true = all
  joins_born w name id more all false false = each_append all (and_each (record { id = id; more = more; records = refl }) no_more)

  event_born : (w : World) (e : Event I) → AllBorn w → AllBorn (happens p w e).world
  event_born w (Joins name id) all = joins_born w name id [] all (is_node w name) (is_there (seek (has_id p id) w.clients) || is_there (seek (λ u. bytes_eq id u) w.injected))
  event_born w (Starts name id) all = joins_born w name id _ all (is_node w name) (is_there (seek (has_id p id) w.clients) || is_there (seek (λ u. bytes_eq id u) w.injected))
  event_born w (Edits name ms edits) all = calls_born w name (λ c. commit p c ms edits) made_words made_same all
  event_born w (Binds name) all = calls_born w name bind message_words messages_same all
  event_born w (Uploads name) all = calls_born w name (upload p) message_words messages_same all
  event_born w (Asks name) all = calls_born w name ask message_words messages_same all
  event_born w (Upgrades name) all = calls_born w name upgrade upgrade_words upgrade_same all
  event_born w (Subscribes name tables) all = calls_born w name (λ c. subscribe c tables) subscribe_words subscribe_same all
  event_born w (Delivers message to) all = go (is_node w to) (message_at w message)
    where
      comes : (b : Bool) (m : Message) → AllBorn (if b then server_called p w m else client_calls p w to (λ c. take_message p c m) took_words).world
      comes true m = server_born w m all
      comes false m = calls_born w to (λ c. take_message p c m) took_words took_same all

      go : (b : Bool) (m : Option Message) → AllBorn (if b then delivers p w to m else says w worlds.NoNode).world
      go true None = all
      go true (Some m) = comes (bytes_eq to server_name) m
      go false m = all
  event_born w (Restarts node) all = all
  event_born w (Stops node k leaves) all = go (is_node w node)
    where
      go : (b : Bool) → AllBorn (if b then says (record w { stops = arm node (Some (record { at = k; leaves = leaves })) w.stops }) worlds.Armed else says w worlds.NoNode).world
      go true = all
      go false = all
  event_born w (Injects None) all = all
  event_born w (Injects (Some m)) all = go (names_own p w m)
    where
      go : (b : Bool) → AllBorn (if b then says w worlds.OwnIdent else server_called p (named_by w m) m).world
      go true = all
      go false = server_born (named_by w m) m (named_born w m all)

  after_born : (es : List (Event I)) (w : World) → AllBorn w → AllBorn (world_after p w es)
  after_born [] w all = all
  after_born (e ∷ es) w all = after_born es (happens p w e).world (event_born w e all)

  pub events_born : (es : List (Event I)) → AllBorn (world_after p empty_world es)
  events_born es = after_born es empty_world no_more
