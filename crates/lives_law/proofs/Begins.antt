-- The file of a client that began with the server's objects goes together with the server's, whatever came since.
use Rattle.std.proofs.Common.{◌≡◌, ◌⊎◌, inr, ⊎_elim, ℕ, Bool, true, false, ◌&&◌, ◌||◌, not, List, [], ◌∷◌, ◌++◌, Option, Some, None, refl, sym, ap, ◌∙◌, subst, append_assoc, append-nil, if◌then◌else◌, length, map}
use Rattle.std.specs.Prelude.{bytes_eq}
use Rattle.sync_theory.proofs.World.{same_or_not}
use Rattle.sync_model.specs.Bytes.{Name, Uuid}
use Rattle.sync_model.specs.Profile.{Profile, Lawful}
use Rattle.sync_model.specs.Snapshots.{Buildable}
use Rattle.sync_model.specs.Each.{Each, no_more, and_each}
use Rattle.sync_model.specs.Messages.{Message, Bind, Ident, Upload, Ask, Download, Refused, Stored, Ask2, Retire, Retired, AskTables}
use Rattle.sync_model.specs.Clients.{Client, ClientRecord, Born, Named, Made, Took, Form, Subset, Part, Floor, Resumed, Waits, no_client, client_of, after_record, after_records, commit, upgrade, subscribe, bind, upload, ask}
use Rattle.sync_model.specs.Servers.{ServerRecord, server_of, server_objects, place_of, serve}
use Rattle.sync_model.specs.Files.{FilesOpen, all_came, client_admits, client_opens, is_blank, may_grow, some_come}
use Rattle.sync_model.specs.Starts.{started}
use Rattle.sync_model.specs.Worlds.{Node, World, Event, Joins, Starts, Edits, Binds, Uploads, Asks, Upgrades, Subscribes, Delivers, Restarts, Stops, Injects, Outcome, Joined, NameTaken, UuidTaken, says, at, seek, is_there, id_is, has_id, stopped, server_name, server_called, server_ends, message_words, made_words, upgrade_words, subscribe_words, is_node, message_at, named_by, names_own, happens, world_after, empty_world, IsReached}
use Rattle.sync_model.proofs.Acknowledged.{events_grow}
use Rattle.sync_model.proofs.Alone.{both_true}
use Rattle.sync_model.proofs.Bytes.{bytes_true}
use Rattle.sync_model.proofs.Holding.{Holds, all_hold, not_named}
use Rattle.sync_model.proofs.Later.{calls_leave, messages_leave, made_leave, upgrade_leave, subscribe_leave, starts_leave, joins_leave, delivers_leave, stops_leave}
use Rattle.sync_model.proofs.Lists.{at_new, at_of_map, seek_there}
use Rattle.sync_model.proofs.Reached.{reached_open}
use Rattle.sync_model.proofs.Sim.{uuid_of}
use Rattle.sync_model.proofs.Starting.{started_is, objects_fit, objects_bounded}
use Rattle.lives_law.specs.Pair.{IsWhole, Begun, Fit, IsActive}
use Rattle.lives_law.proofs.Instances.{records_on}
use Rattle.lives_law.proofs.Pair.{floor_stays, front_stays, opens_after, ids_kept}
use Rattle.lives_law.proofs.Converse.{fit_here, active_here}

neither : (a b : Bool) → (a || b) ≡ false → (a ≡ false) × (b ≡ false)
neither true b e = cc
neither false b e = (refl, e)

-- the server's records stand, and more may follow
record Longer (v w : World) : Type 0 where
  more : List ServerRecord
  is : w.server ≡ v.server ++ more

stays : (v w : World) → w.server ≡ v.server → Longer v w
stays v w e = record { more = []; is = e ∙ sym (append-nil v.server) }

named_server : (w : World) (m : Message) → (named_by w m).server ≡ w.server
named_server w (Bind u) = refl
named_server w (Ident u c) = refl
named_server w (Upload c hs) = refl
named_server w (Ask c cursor settled) = refl
named_server w (Ask2 c cursor settled) = refl
named_server w (AskTables c cursor settled second tables) = refl
named_server w (Download c from es) = refl
named_server w (Refused c number code place) = refl
named_server w (Stored c number) = refl
named_server w (Retire c by) = refl
named_server w (Retired c by number) = refl

module _ {I S : Type 0} (p : Profile I S) where
  served : (v w : World) (m : Message) → w.server ≡ v.server → Longer v (server_called p w m).world
  served v w m e = on (stopped (w.stops server_name) (serve p (server_of p w.server) m).records)
    where
      on : (o : Option (List ServerRecord)) → Longer v (server_ends w (serve p (server_of p w.server) m) o).world
      on None = record { more = (serve p (server_of p w.server) m).records; is = ap (λ l. l ++ (serve p (server_of p w.server) m).records) e }
      on (Some stand) = record { more = stand; is = ap (λ l. l ++ stand) e }

  one_longer : (w : World) (e : Event I) → Longer w (happens p w e).world
  one_longer w (Joins name id) = stays w _ (joins_leave p w name id)
  one_longer w (Starts name id) = stays w _ (starts_leave p w name id (server_of p w.server).second (length (server_of p w.server).log) (server_objects p (server_of p w.server)))
  one_longer w (Edits name ms edits) = stays w _ (calls_leave p w name (λ c. commit p c ms edits) made_words (made_leave p))
  one_longer w (Binds name) = stays w _ (calls_leave p w name bind message_words (messages_leave p))
  one_longer w (Uploads name) = stays w _ (calls_leave p w name (upload p) message_words (messages_leave p))
  one_longer w (Asks name) = stays w _ (calls_leave p w name ask message_words (messages_leave p))
  one_longer w (Upgrades name) = stays w _ (calls_leave p w name upgrade upgrade_words (upgrade_leave p))
  one_longer w (Subscribes name tables) = stays w _ (calls_leave p w name (λ c. subscribe c tables) subscribe_words (subscribe_leave p))
  one_longer w (Delivers k to) = on (bytes_eq to server_name) refl
    where
      comes : (a : Bool) (o : Option Message) → bytes_eq to server_name ≡ true → Longer w (if a then Rattle.sync_model.specs.Worlds.delivers p w to o else says w Rattle.sync_model.specs.Worlds.NoNode).world
      comes false o is = stays w w refl
      comes true None is = stays w w refl
      comes true (Some m) is = some (bytes_eq to server_name) is
        where
          some : (b : Bool) → b ≡ true → Longer w (if b then server_called p w m else Rattle.sync_model.specs.Worlds.client_calls p w to (λ c. Rattle.sync_model.specs.Clients.take p c m) Rattle.sync_model.specs.Worlds.took_words).world
          some true e = served w w m refl
          some false e = cc

      on : (b : Bool) → bytes_eq to server_name ≡ b → Longer w (happens p w (Delivers k to)).world
      on true is = comes (is_node w to) (message_at w k) is
      on false is = stays w _ (delivers_leave p w to k is)
  one_longer w (Restarts node) = stays w _ refl
  one_longer w (Stops node k leaves) = stays w _ (stops_leave p w node k leaves)
  one_longer w (Injects None) = stays w w refl
  one_longer w (Injects (Some m)) = on (names_own p w m)
    where
      on : (b : Bool) → Longer w (if b then says w Rattle.sync_model.specs.Worlds.OwnIdent else server_called p (named_by w m) m).world
      on true = stays w w refl
      on false = served w (named_by w m) m (named_server w m)

  all_longer : (es : List (Event I)) (w : World) → Longer w (world_after p w es)
  all_longer [] w = stays w w refl
  all_longer (e ∷ es) w =
      let a = one_longer w e in
      let b = all_longer es (happens p w e).world in
      record { more = a.more ++ b.more; is = b.is ∙ ap (λ l. l ++ b.more) a.is ∙ append_assoc w.server a.more b.more }

  after_both : (xs ys : List (Event I)) (w : World) → world_after p w (xs ++ ys) ≡ world_after p (world_after p w xs) ys
  after_both [] ys w = refl
  after_both (x ∷ xs) ys w = after_both xs ys (happens p w x).world

  -- behind its floor a file that opens has no part
  after_floor : (rs : List ClientRecord) (c : Client I S) (v : ℕ) → c.front ≡ None → c.floor ≡ Some v → client_opens p c rs ≡ true → Each IsWhole rs
  after_floor [] c v none e opens = no_more
  after_floor (r ∷ rs) c v none e opens =
      let b = both_true (client_admits p c (map (λ q. Some q) rs) r) (client_opens p (after_record p c r) rs) opens in
      let h = whole r b.0 in
      and_each h (after_floor rs (after_record p c r) v (front_stays p c r h none) (floor_stays p c r h (Some v) e) b.1)
    where
      no_floor : (a b d : Bool) (o : Option ℕ) → o ≡ Some v → (a && (b && (not (is_there o) && d))) ≡ true → ⊥
      no_floor true true d None h k = cc
      no_floor true true d (Some x) h k = cc
      no_floor true false d o h k = cc
      no_floor false b d o h k = cc

      floored : may_grow c ≡ true → ⊥
      floored h = no_floor _ _ _ c.floor e (sym (ap (λ o. all_came o (is_blank c)) none) ∙ h)

      unfronted : some_come c.front ≡ true → ⊥
      unfronted h = let k : false ≡ true = sym (ap some_come none) ∙ h in cc

      whole : (r : ClientRecord) → client_admits p c (map (λ q. Some q) rs) r ≡ true → IsWhole r
      whole (Born id) a = tt
      whole (Named ident) a = tt
      whole (Made number ms body) a = tt
      whole (Took origin number ms body) a = tt
      whole Form a = tt
      whole (Subset tables) a = tt
      whole (Part body) a = absurd (floored (both_true _ _ a).0)
      whole (Floor version) a = absurd (floored (both_true _ _ a).0)
      whole (Resumed number waiting) a = absurd (no_floor _ _ _ c.floor e (both_true _ _ a).0)
      whole (Waits number base ms body current) a = absurd (unfronted (both_true _ _ a).0)

  module _ {Fits Bounded Old : S → Type 0} (law : Lawful p Fits) (built : Buildable p Fits Bounded Old) where
    abbrev begun_file : World → Uuid → List ClientRecord
    begun_file w id = started p id (server_of p w.server).second (length (server_of p w.server).log) (server_objects p (server_of p w.server))

    -- the world in which the client is there
    record Here (w : World) (name : Name) (id : Uuid) : Type 0 where
      is : (happens p w (Starts name id)).world ≡ record w { clients = w.clients ++ record { name = name; records = begun_file w id } ∷ [] }
      free : (is_there (seek (has_id p id) w.clients) || is_there (seek (λ u. bytes_eq id u) w.injected)) ≡ false

    joined : (w : World) (name id : Uuid) → (happens p w (Starts name id)).words ≡ Joined name → Here w name id
    joined w name id said = on (is_node w name) (is_there (seek (has_id p id) w.clients) || is_there (seek (λ u. bytes_eq id u) w.injected)) refl refl said
      where
        new : World
        new = record w { clients = w.clients ++ record { name = name; records = begun_file w id } ∷ [] }

        on : (a b : Bool) → is_node w name ≡ a → (is_there (seek (has_id p id) w.clients) || is_there (seek (λ u. bytes_eq id u) w.injected)) ≡ b → (if a then says w NameTaken else (if b then says w UuidTaken else says new (Joined name))).words ≡ Joined name → Here w name id
        on true b a_is b_is e = cc
        on false true a_is b_is e = cc
        on false false a_is b_is e = record { is = ap (λ t. (if t then says w NameTaken else (if is_there (seek (has_id p id) w.clients) || is_there (seek (λ u. bytes_eq id u) w.injected) then says w UuidTaken else says new (Joined name))).world) a_is ∙ ap (λ t. (if t then says w UuidTaken else says new (Joined name)).world) b_is; free = b_is }

    -- nobody has the uuid, and no injected Bind named it: so the server doesn't know it
    unknown : (w : World) → Holds p w → (id : Uuid) → (is_there (seek (has_id p id) w.clients) || is_there (seek (λ u. bytes_eq id u) w.injected)) ≡ false → place_of id (server_of p w.server).ids ≡ 0
    unknown w h id free = ⊎_elim (λ z. z) (λ ne. absurd (⊎_elim (λ t. theirs t.0 t.1) (λ k. k (not_named id w.injected (neither (is_there (seek (has_id p id) w.clients)) (is_there (seek (λ u. bytes_eq id u) w.injected)) free).1)) (h.sim.known id ne))) (same_or_not (place_of id (server_of p w.server).ids) 0)
      where
        theirs : (i : ℕ) → at (map (uuid_of p) w.clients) i ≡ Some (Some id) → ⊥
        theirs i e =
            let nd = at_of_map (uuid_of p) w.clients i (Some id) e in
            let there = seek_there (has_id p id) w.clients i nd.0 nd.1 (ap (id_is id) nd.2 ∙ bytes_true id id refl) in
            let none = (neither (is_there (seek (has_id p id) w.clients)) (is_there (seek (λ u. bytes_eq id u) w.injected)) free).0 in
            cc (there, none)

    pub start_fits_here : (w : World) (name id : Uuid) (es : List (Event I)) (nd : Node) → IsReached p w → (happens p w (Starts name id)).words ≡ Joined name → at (world_after p (happens p w (Starts name id)).world es).clients (length w.clients) ≡ Some nd
        → Fit p (world_after p (happens p w (Starts name id)).world es).server nd.records × IsActive p (world_after p (happens p w (Starts name id)).world es).server nd.records
    start_fits_here w name id es nd r said there = (fit_here p law last holds opens (length w.clients) nd there begins, active_here p law last holds opens (length w.clients) nd there begins)
      where
        last : World
        last = world_after p (happens p w (Starts name id)).world es

        first : World
        first = (happens p w (Starts name id)).world

        here : Here w name id
        here = joined w name id said

        before : Holds p w
        before = subst (Holds p) r.1 (all_hold p law built r.0)

        events : List (Event I)
        events = r.0 ++ Starts name id ∷ es

        reached : IsReached p last
        reached = (events, after_both r.0 (Starts name id ∷ es) empty_world ∙ ap (λ v. world_after p v (Starts name id ∷ es)) r.1)

        holds : Holds p last
        holds = subst (Holds p) reached.1 (all_hold p law built reached.0)

        opens : FilesOpen p last
        opens = reached_open p law built last reached

        begins : (u : Uuid) → (client_of p nd.records).id ≡ Some u → Each IsWhole nd.records ⊎ Begun p last.server nd.records u
        begins u born =
            let s = server_of p w.server in
            let at_first : at first.clients (length w.clients) ≡ Some (record { name = name; records = begun_file w id }) = ap (λ v. at v.clients (length w.clients)) here.is ∙ at_new w.clients (record { name = name; records = begun_file w id }) in
            let g = events_grow p es first (length w.clients) (record { name = name; records = begun_file w id }) at_first in
            let same : g.0 ≡ nd = some_is (sym g.1 ∙ there) in
            let records : nd.records ≡ begun_file w id ++ g.2.more = ap (λ (n : Node). n.records) (sym same) ∙ g.2.records in
            let long = all_longer es first in
            let server : last.server ≡ w.server ++ long.more = long.is ∙ ap (λ v. v.server ++ long.more) here.is in
            let is = started_is p law built id (server_of p w.server).second (length (server_of p w.server).log) (server_objects p (server_of p w.server)) (objects_fit p law built (server_of p w.server) w.clients w.injected before.n before.sim) (objects_bounded p law built (server_of p w.server) w.clients w.injected before.n before.sim) in
            let open_ : client_opens p (no_client p) (begun_file w id ++ g.2.more) ≡ true = subst (λ l. client_opens p (no_client p) l ≡ true) records (opens.clients (length w.clients) nd there) in
            let whole = after_floor g.2.more (client_of p (begun_file w id)) (length (server_of p w.server).log) (ap (λ c. c.front) is) (ap (λ c. c.floor) is) (opens_after p (begun_file w id) g.2.more (no_client p) open_) in
            let kept = ids_kept p g.2.more (client_of p (begun_file w id)) (opens_after p (begun_file w id) g.2.more (no_client p) open_) id (ap (λ c. c.id) is) in
            let id_is_ : Some id ≡ Some u = sym kept ∙ sym (ap (λ c. c.id) (ap (client_of p) records ∙ records_on p (no_client p) (begun_file w id) g.2.more)) ∙ born in
            inr (record {
              before = w.server;
              after = long.more;
              is = sym server;
              unknown = ap (λ v. place_of v (server_of p w.server).ids) (sym (some_is id_is_)) ∙ unknown w before id here.free;
              second = (server_of p w.server).second;
              more = g.2.more;
              starts = ap (λ v. started p v (server_of p w.server).second (length (server_of p w.server).log) (server_objects p (server_of p w.server)) ++ g.2.more) (sym (some_is id_is_)) ∙ sym records;
              whole = whole;
            })
          where
            some_is : {A : Type 0} {x y : A} → Some x ≡ Some y → x ≡ y
            some_is e = cc
