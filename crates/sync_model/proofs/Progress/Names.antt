-- The names of a world's clients differ from one another and from the server's.
use Rattle.std.proofs.Common.{◌≡◌, ⊎_elim, ℕ, suc, Bool, true, false, ◌||◌, List, [], ◌∷◌, ◌++◌, Option, Some, None, Result, Ok, Err, refl, sym, ap, ◌∙◌, subst, if◌then◌else◌, length, map}
use Rattle.std.specs.Prelude.{bytes_eq, ⊤}
use Rattle.sync_model.specs.Bytes.{Name, Uuid}
use Rattle.sync_model.proofs.Bytes.{bytes_true}
use Rattle.sync_model.specs.Profile.{Profile}
use Rattle.sync_model.specs.Messages.{Message, Bind, Ident, Upload, Ask, Download, Refused, Stored, Ask2, Retire, Retired, AskTables}
use Rattle.sync_model.specs.Clients.{Client, ClientRecord, ClientRefusal, ClientStep, Born, client_of, commit, upgrade, bind, upload, ask, take as take_message, subscribe}
use Rattle.sync_model.specs.Servers.{ServerRecord, server_of, serve, server_objects}
use Rattle.sync_model.specs.Worlds.{Node, World, Event, Joins, Edits, Binds, Uploads, Asks, Upgrades, Delivers, Restarts, Stops, Injects, Outcome, says, NoNode, NoMessage, NameTaken, UuidTaken, Joined, Stopped, at, put, seek, further, is_there, stopped, has_name, has_id, id_is, server_name, message_words, made_words, took_words, upgrade_words, client_moved, client_ends, client_called, client_calls, server_ends, server_called, is_node, joins, delivers, injects, named_by, names_own, message_at, happens, world_after, empty_world, IsReached, Starts, Subscribes, subscribe_words}
use Rattle.sync_model.proofs.Lists.{seek_found, map_put, at_of_map, at_map, at_snoc}
use Rattle.sync_model.specs.Starts.{started}

abbrev pub names_of : List Node → List Name
names_of cls = map (λ x. x.name) cls

-- each client is found by its name, which isn't the server's
abbrev pub Apart : List Node → Type 0
Apart cls = (i : ℕ) (nd : Node) → at cls i ≡ Some nd → (seek (has_name nd.name) cls ≡ Some (i, nd)) × (bytes_eq nd.name server_name ≡ false)

pairs : {A : Type 0} (a b : ℕ × A) → Some a ≡ Some b → a ≡ b
pairs a b f = cc

pub seek_names : (cls cls2 : List Node) → names_of cls ≡ names_of cls2 → (x : Name) (i : ℕ) (nd : Node) → seek (has_name x) cls ≡ Some (i, nd) → (nd2 : Node) × (seek (has_name x) cls2 ≡ Some (i, nd2))
seek_names [] cls2 e x i nd h = cc
seek_names (z ∷ zs) [] e x i nd h = cc
seek_names (z ∷ zs) (y ∷ ys) e x i nd h = go (bytes_eq x z.name) refl h (λ j a g. seek_names zs ys rest x j a g)
  where
    same : z.name ≡ y.name
    same = cc

    rest : names_of zs ≡ names_of ys
    rest = cc

    there : (b : Bool) (q : Option (ℕ × Node)) → b ≡ true → (if b then Some (0, y) else q) ≡ Some (0, y)
    there true q f = refl
    there false q f = cc

    later : (b : Bool) (q : Option (ℕ × Node)) → b ≡ false → (if b then Some (0, y) else further q) ≡ further q
    later true q f = cc
    later false q f = refl

    on : bytes_eq x z.name ≡ false → (r : Option (ℕ × Node)) → seek (has_name x) zs ≡ r → further r ≡ Some (i, nd) → ((j : ℕ) (a : Node) → seek (has_name x) zs ≡ Some (j, a) → (nd2 : Node) × (seek (has_name x) ys ≡ Some (j, nd2))) → (nd2 : Node) × (seek (has_name x) (y ∷ ys) ≡ Some (i, nd2))
    on f None r_is g rec = cc
    on f (Some v) r_is g rec =
        let i_is : suc v.0 ≡ i = ap (λ a. a.0) (pairs (suc v.0, v.1) (i, nd) g) in
        let k = rec v.0 v.1 r_is in
        (k.0, later (bytes_eq x y.name) (seek (has_name x) ys) (ap (bytes_eq x) (sym same) ∙ f) ∙ ap further k.1 ∙ ap (λ j. Some (j, k.0)) i_is)

    go : (b : Bool) → bytes_eq x z.name ≡ b → (if b then Some (0, z) else further (seek (has_name x) zs)) ≡ Some (i, nd) → ((j : ℕ) (a : Node) → seek (has_name x) zs ≡ Some (j, a) → (nd2 : Node) × (seek (has_name x) ys ≡ Some (j, nd2))) → (nd2 : Node) × (seek (has_name x) (y ∷ ys) ≡ Some (i, nd2))
    go true f g rec =
        let i_is : 0 ≡ i = ap (λ a. a.0) (pairs (0, z) (i, nd) g) in
        (y, there (bytes_eq x y.name) (further (seek (has_name x) ys)) (ap (bytes_eq x) (sym same) ∙ f) ∙ ap (λ j. Some (j, y)) i_is)
    go false f g rec = on f (seek (has_name x) zs) refl g rec

-- only the names count
pub apart_names : (cls cls2 : List Node) → names_of cls ≡ names_of cls2 → Apart cls → Apart cls2
apart_names cls cls2 e a i nd h =
    let here : at (names_of cls) i ≡ Some nd.name = ap (λ l. at l i) e ∙ at_map (λ (x : Node). x.name) cls2 i nd h in
    let old = at_of_map (λ (x : Node). x.name) cls i nd.name here in
    let b = a i old.0 old.1 in
    let f = seek_names cls cls2 e old.0.name i old.0 b.0 in
    let g = (seek_found (has_name old.0.name) cls2 (i, f.0) f.1).here in
    let same : f.0 ≡ nd = cc in
    (ap (λ x. seek (has_name x) cls2) (sym old.2) ∙ f.1 ∙ ap (λ x. Some (i, x)) same, ap (λ x. bytes_eq x server_name) (sym old.2) ∙ b.1)

seek_old : {A : Type 0} (test : A → Bool) (xs ys : List A) (q : ℕ × A) → seek test xs ≡ Some q → seek test (xs ++ ys) ≡ Some q
seek_old test [] ys q e = cc
seek_old {A} test (x ∷ xs) ys q e = go (test x) (seek test xs) refl e (seek_old test xs ys)
  where
    go : (b : Bool) (r : Option (ℕ × A)) → seek test xs ≡ r → (if b then Some (0, x) else further r) ≡ Some q → ((v : ℕ × A) → seek test xs ≡ Some v → seek test (xs ++ ys) ≡ Some v) → (if b then Some (0, x) else further (seek test (xs ++ ys))) ≡ Some q
    go true r r_is f rec = f
    go false None r_is f rec = cc
    go false (Some v) r_is f rec = ap further (rec v r_is) ∙ f

yes : {A : Type 0} (b : Bool) (x y : A) → b ≡ true → (if b then x else y) ≡ x
yes true x y e = refl
yes false x y e = cc

seek_new : {A : Type 0} (test : A → Bool) (xs : List A) (y : A) → is_there (seek test xs) ≡ false → test y ≡ true → seek test (xs ++ y ∷ []) ≡ Some (length xs, y)
seek_new test [] y none t = yes (test y) (Some (0, y)) None t
seek_new {A} test (x ∷ xs) y none t = go (test x) (seek test xs) refl none (λ f. seek_new test xs y f t)
  where
    go : (b : Bool) (r : Option (ℕ × A)) → seek test xs ≡ r → is_there (if b then Some (0, x) else further r) ≡ false → (is_there (seek test xs) ≡ false → seek test (xs ++ y ∷ []) ≡ Some (length xs, y)) → (if b then Some (0, x) else further (seek test (xs ++ y ∷ []))) ≡ Some (suc (length xs), y)
    go true r r_is f rec = cc
    go false None r_is f rec = ap further (rec (ap is_there r_is))
    go false (Some v) r_is f rec = cc

apart_joined : (cls : List Node) (nd : Node) → Apart cls → is_there (seek (has_name nd.name) cls) ≡ false → bytes_eq nd.name server_name ≡ false → Apart (cls ++ nd ∷ [])
apart_joined cls nd a none not_server i x h = ⊎_elim
    (λ old. let b = a i x old in (seek_old (has_name x.name) cls (nd ∷ []) (i, x) b.0, b.1))
    (λ new.
    let f = seek_new (has_name nd.name) cls nd none (bytes_true nd.name nd.name refl) in
    (subst (λ y. seek (has_name y.name) (cls ++ nd ∷ []) ≡ Some (i, y)) new.1 (f ∙ ap (λ j. Some (j, nd)) (sym new.0)), ap (λ y. bytes_eq y.name server_name) (sym new.1) ∙ not_server))
    (at_snoc cls nd i x h)

module _ {I S : Type 0} (p : Profile I S) where
  module _ (w : World) where
    moved : (q : ℕ × Node) (rs : List ClientRecord) → at w.clients q.0 ≡ Some q.1 → names_of (client_moved w q.0 q.1 rs).clients ≡ names_of w.clients
    moved q rs h = map_put (λ (x : Node). x.name) w.clients q.0 q.1 (record { name = q.1.name; records = q.1.records ++ rs }) h refl

    called : {A : Type 0} (name : Name) (call : Client I S → ClientStep A) (words : World → Result A ClientRefusal → Outcome) → ((v : World) (a : Result A ClientRefusal) → (words v a).world.clients ≡ v.clients) → names_of (client_calls p w name call words).world.clients ≡ names_of w.clients
    called name call words same = on (seek (has_name name) w.clients) refl
      where
        on : (o : Option (ℕ × Node)) → seek (has_name name) w.clients ≡ o → names_of (client_called p w call words o).world.clients ≡ names_of w.clients
        on None is = refl
        on (Some q) is = ends (stopped (w.stops q.1.name) (call (client_of p q.1.records)).records)
          where
            here : at w.clients q.0 ≡ Some q.1
            here = (seek_found (has_name name) w.clients q is).here

            ends : (r : Option (List ClientRecord)) → names_of (client_ends w q.0 q.1 (call (client_of p q.1.records)) words r).world.clients ≡ names_of w.clients
            ends None = ap names_of (same (client_moved w q.0 q.1 (call (client_of p q.1.records)).records) (call (client_of p q.1.records)).answer) ∙ moved q (call (client_of p q.1.records)).records here
            ends (Some stand) = moved q stand here

    message_same : (v : World) (a : Result Message ClientRefusal) → (message_words v a).world.clients ≡ v.clients
    message_same v (Ok m) = refl
    message_same v (Err r) = refl

    made_same : (v : World) (a : Result ℕ ClientRefusal) → (made_words v a).world.clients ≡ v.clients
    made_same v (Ok m) = refl
    made_same v (Err r) = refl

    took_same : (v : World) (a : Result ℕ ClientRefusal) → (took_words v a).world.clients ≡ v.clients
    took_same v (Ok m) = refl
    took_same v (Err r) = refl

    upgrade_same : (v : World) (a : Result Bool ClientRefusal) → (upgrade_words v a).world.clients ≡ v.clients
    upgrade_same v (Ok b) = refl
    upgrade_same v (Err r) = refl

    subscribe_same : (v : World) (a : Result ⊤ ClientRefusal) → (subscribe_words v a).world.clients ≡ v.clients
    subscribe_same v (Ok b) = refl
    subscribe_same v (Err r) = refl

  serve_same : (w : World) (m : Message) → (server_called p w m).world.clients ≡ w.clients
  serve_same w m = on (stopped (w.stops server_name) (serve p (server_of p w.server) m).records)
    where
      on : (r : Option (List ServerRecord)) → (server_ends w (serve p (server_of p w.server) m) r).world.clients ≡ w.clients
      on None = refl
      on (Some stand) = refl

  -- a new client of these records
  abbrev pub new_client : World → Name → Uuid → List ClientRecord → Outcome
  new_client w name id rs =
      if is_node w name then says w NameTaken
      else if is_there (seek (has_id p id) w.clients) || is_there (seek (λ u. bytes_eq id u) w.injected) then says w UuidTaken
      else says (record w { clients = w.clients ++ record { name = name; records = rs } ∷ [] }) (Joined name)

  pub joins_apart : (w : World) (name : Name) (id : Uuid) (rs : List ClientRecord) → Apart w.clients → Apart (new_client w name id rs).world.clients
  joins_apart w name id rs a = go (bytes_eq name server_name) refl (is_there (seek (has_name name) w.clients)) refl (is_there (seek (has_id p id) w.clients) || is_there (seek (λ u. bytes_eq id u) w.injected))
    where
      go : (x : Bool) → bytes_eq name server_name ≡ x → (y : Bool) → is_there (seek (has_name name) w.clients) ≡ y → (t : Bool) → Apart (if x || y then says w NameTaken else (if t then says w UuidTaken else says (record w { clients = w.clients ++ record { name = name; records = rs } ∷ [] }) (Joined name))).world.clients
      go true x_is y y_is t = a
      go false x_is true y_is t = a
      go false x_is false y_is true = a
      go false x_is false y_is false = apart_joined w.clients (record { name = name; records = rs }) a y_is x_is

  pub delivers_names : (w : World) (to : Name) (m : Option Message) → names_of (delivers p w to m).world.clients ≡ names_of w.clients
  delivers_names w to None = refl
  delivers_names w to (Some m) = go (bytes_eq to server_name)
    where
      go : (b : Bool) → names_of (if b then server_called p w m else client_calls p w to (λ c. take_message p c m) took_words).world.clients ≡ names_of w.clients
      go true = ap names_of (serve_same w m)
      go false = called w to (λ c. take_message p c m) took_words (took_same w)

  pub named_same : (w : World) (m : Message) → (named_by w m).clients ≡ w.clients
  named_same w (Bind u) = refl
  named_same w (Ident u c) = refl
  named_same w (Upload c hs) = refl
  named_same w (Ask c k s) = refl
  named_same w (Ask2 c k s) = refl
  named_same w (Download c k es) = refl
  named_same w (Refused c k a b) = refl
  named_same w (Stored c k) = refl
  named_same w (Retire c by) = refl
  named_same w (Retired c by k) = refl
  named_same w (AskTables c k s second tables) = refl

  injects_names : (w : World) (m : Option Message) → names_of (injects p w m).world.clients ≡ names_of w.clients
  injects_names w None = refl
  injects_names w (Some m) = go (names_own p w m)
    where
      go : (b : Bool) → names_of (if b then says w Rattle.sync_model.specs.Worlds.OwnIdent else server_called p (named_by w m) m).world.clients ≡ names_of w.clients
      go true = refl
      go false = ap names_of (serve_same (named_by w m) m ∙ named_same w m)

  pub happens_apart : (w : World) (e : Event I) → Apart w.clients → Apart (happens p w e).world.clients
  happens_apart w (Joins name id) a = joins_apart w name id (Born id ∷ []) a
  happens_apart w (Starts name id) a = joins_apart w name id (started p id (server_of p w.server).second (length (server_of p w.server).log) (server_objects p (server_of p w.server))) a
  happens_apart w (Subscribes name tables) a = apart_names w.clients _ (sym (called w name (λ c. subscribe c tables) subscribe_words (subscribe_same w))) a
  happens_apart w (Edits name ms edits) a = apart_names w.clients _ (sym (called w name (λ c. commit p c ms edits) made_words (made_same w))) a
  happens_apart w (Binds name) a = apart_names w.clients _ (sym (called w name bind message_words (message_same w))) a
  happens_apart w (Uploads name) a = apart_names w.clients _ (sym (called w name (upload p) message_words (message_same w))) a
  happens_apart w (Asks name) a = apart_names w.clients _ (sym (called w name ask message_words (message_same w))) a
  happens_apart w (Upgrades name) a = apart_names w.clients _ (sym (called w name upgrade upgrade_words (upgrade_same w))) a
  happens_apart w (Delivers m to) a = go (is_node w to)
    where
      go : (b : Bool) → Apart (if b then delivers p w to (message_at w m) else says w NoNode).world.clients
      go true = apart_names w.clients (delivers p w to (message_at w m)).world.clients (sym (delivers_names w to (message_at w m))) a
      go false = a
  happens_apart w (Restarts node) a = a
  happens_apart w (Stops node k leaves) a = go (is_node w node)
    where
      go : (b : Bool) → Apart (if b then says (record w { stops = Rattle.sync_model.specs.Worlds.arm node (Some (record { at = k; leaves = leaves })) w.stops }) Rattle.sync_model.specs.Worlds.Armed else says w NoNode).world.clients
      go true = a
      go false = a
  happens_apart w (Injects m) a = apart_names w.clients _ (sym (injects_names w m)) a

  all_apart : (es : List (Event I)) (w : World) → Apart w.clients → Apart (world_after p w es).clients
  all_apart [] w a = a
  all_apart (e ∷ es) w a = all_apart es (happens p w e).world (happens_apart w e a)

  pub names_apart : (w : World) → IsReached p w → Apart w.clients
  names_apart w r = subst (λ v. Apart v.clients) r.1 (all_apart r.0 empty_world (λ i nd h. absurd (nothing i nd h)))
    where
      nothing : (i : ℕ) (nd : Node) → at [] i ≡ Some nd → ⊥
      nothing i nd h = cc
