-- An exchange in which clients put short files in place of theirs is the exchange without these replacements.
use Rattle.std.proofs.Common.{◌≡◌, ℕ, zero, suc, Bool, true, false, ◌||◌, List, [], ◌∷◌, ◌++◌, Option, Some, None, Result, Ok, Err, refl, sym, ap, ◌∙◌, subst, append-nil, if◌then◌else◌, ◌==◌, length, map, drop}
use Rattle.std.specs.Prelude.{bytes_eq, ⊤}
use Rattle.std.specs.Option.{option_map_or}
use Rattle.sync_model.specs.Bytes.{Name, Uuid}
use Rattle.sync_model.specs.Profile.{Profile}
use Rattle.sync_model.specs.Messages.{Message, Bind, Ident, Upload, Ask, Download, Refused, Stored, Ask2, Retire, Retired, AskTables}
use Rattle.sync_model.specs.Clients.{Client, ClientRecord, Born, ClientRefusal, ClientStep, no_client, client_of, after_records, commit, upgrade, subscribe, bind, upload, ask, take as take_message, NotNamed, answers, if_born, question, refuse, to_upload}
use Rattle.sync_model.specs.Servers.{ServerRecord}
use Rattle.sync_model.specs.Parts.{Parts, serve_by}
use Rattle.sync_model.specs.Starts.{started}
use Rattle.sync_model.specs.Worlds.{World, Node, Outcome, Words, Leaves, Event, Joins, Starts, Edits, Binds, Uploads, Asks, Upgrades, Subscribes, Delivers, Restarts, Stops, Injects, NameTaken, UuidTaken, Joined, NoNode, Armed, says, at, put, seek, is_there, stopped, has_name, has_id, server_name, client_moved, client_ends, client_called, client_calls, server_called, arm, message_at, is_node, delivers, named_by, names_own, happens, message_words, made_words, took_words, upgrade_words, subscribe_words}
use Rattle.sync_model.specs.Later.{Later, LaterEvent, Happens, Trims, first_later, later, later_after, later_ends, later_served, beside, all_later}
use Rattle.sync_model.specs.Progress.{later_words, delivered_words}
use Rattle.sync_model.proofs.Lists.{seek_found}
use Rattle.sync_model.proofs.Own.{after_append}
use Rattle.sync_model.proofs.Holding.{cut_by}
use Rattle.shrink_law.specs.Short.{Alike, shrunk}
use Rattle.shrink_law.specs.Exchanges.{Shrinking, ShrinkEvent, Goes, Shrinks, ShrinkOutcome, without_shrink, without_shrinks, kept_at, kept_ends, kept_called, kept_calls, kept_gets, beside_clients, kept_happens, shrinks, shrinking, all_shrinking, first_shrinking, said, AllAlike, nobody, and_alike, IsSame}
use Rattle.shrink_law.proofs.Answering.{commit_alike, upgrade_alike, subscribe_alike, bind_alike, upload_alike, ask_alike, take_alike}
use Rattle.shrink_law.proofs.Staying.{ArePlain, plain_take, records_alike, commit_plain, upgrade_plain, subscribe_plain, take_plain}
use Rattle.shrink_law.proofs.Shrinking.{alike_refl, alike_then, keeps_alike, client_keeps, shrunk_alike}
use Rattle.sync_model.specs.Each.{no_more}

-- ---- words leave the clients

made_same : (v : World) (a : Result ℕ ClientRefusal) → (made_words v a).world.clients ≡ v.clients
made_same v (Ok n) = refl
made_same v (Err r) = refl

messages_same : (v : World) (a : Result Message ClientRefusal) → (message_words v a).world.clients ≡ v.clients
messages_same v (Ok m) = refl
messages_same v (Err r) = refl

took_same : (v : World) (a : Result ℕ ClientRefusal) → (took_words v a).world.clients ≡ v.clients
took_same v (Ok n) = refl
took_same v (Err r) = refl

upgrade_same : (v : World) (a : Result Bool ClientRefusal) → (upgrade_words v a).world.clients ≡ v.clients
upgrade_same v (Ok b) = refl
upgrade_same v (Err r) = refl

subscribe_same : (v : World) (a : Result ⊤ ClientRefusal) → (subscribe_words v a).world.clients ≡ v.clients
subscribe_same v (Ok t) = refl
subscribe_same v (Err r) = refl

named_same : (w : World) (m : Message) → (named_by w m).clients ≡ w.clients
named_same w (Bind u) = refl
named_same w (Ident u c) = refl
named_same w (Upload c hs) = refl
named_same w (Ask c cursor settled) = refl
named_same w (Ask2 c cursor settled) = refl
named_same w (AskTables c cursor settled second tables) = refl
named_same w (Download c from es) = refl
named_same w (Refused c number code place) = refl
named_same w (Stored c number) = refl
named_same w (Retire c by) = refl
named_same w (Retired c by number) = refl

module _ {I S : Type 0} (p : Profile I S) where
  -- ---- the clients by their places

  at_alike : {nds : List Node} {cs : List (Client I S)} → AllAlike p nds cs → (i : ℕ) (nd : Node) → at nds i ≡ Some nd → Alike (client_of p nd.records) (kept_at p cs i)
  at_alike nobody i nd e = cc
  at_alike (and_alike {nd = x} {c = c} a f) zero nd e = let same : x ≡ nd = cc in subst (λ z. Alike (client_of p z.records) c) same a
  at_alike (and_alike a f) (suc i) nd e = at_alike f i nd e

  put_alike : {nds : List Node} {cs : List (Client I S)} → AllAlike p nds cs → (i : ℕ) (nd : Node) (c : Client I S) → Alike (client_of p nd.records) c → AllAlike p (put nds i nd) (put cs i c)
  put_alike nobody i nd c a = nobody
  put_alike (and_alike b f) zero nd c a = and_alike a f
  put_alike (and_alike b f) (suc i) nd c a = and_alike b (put_alike f i nd c a)

  -- the same node
  put_kept : {nds : List Node} {cs : List (Client I S)} → AllAlike p nds cs → (i : ℕ) (nd : Node) → at nds i ≡ Some nd → (c : Client I S) → Alike (client_of p nd.records) c → AllAlike p nds (put cs i c)
  put_kept nobody i nd e c a = cc
  put_kept (and_alike {nd = x} b f) zero nd e c a = let same : nd ≡ x = cc in and_alike (subst (λ z. Alike (client_of p z.records) c) same a) f
  put_kept (and_alike b f) (suc i) nd e c a = and_alike b (put_kept f i nd e c a)

  whole_alike : (nds : List Node) → AllAlike p nds (map (λ nd. client_of p nd.records) nds)
  whole_alike [] = nobody
  whole_alike (nd ∷ nds) = and_alike (alike_refl (client_of p nd.records)) (whole_alike nds)

  grown_alike : {nds : List Node} {cs : List (Client I S)} → AllAlike p nds cs → (ms : List Node) → AllAlike p (nds ++ ms) (cs ++ map (λ nd. client_of p nd.records) (drop (length cs) (nds ++ ms)))
  grown_alike nobody ms = whole_alike ms
  grown_alike (and_alike a f) ms = and_alike a (grown_alike f ms)

  still_alike : {nds : List Node} {cs : List (Client I S)} → AllAlike p nds cs → AllAlike p nds (cs ++ map (λ nd. client_of p nd.records) (drop (length cs) nds))
  still_alike {nds} {cs} f = subst (λ l. AllAlike p l (cs ++ map (λ nd. client_of p nd.records) (drop (length cs) l))) (append-nil nds) (grown_alike f [])

  -- ---- a client's call

  -- an event's outcome is that of the exchange without replacements
  record Same (o : ShrinkOutcome I S) (l : Later I S) (words : Words) : Type 0 where
    exchange : o.after.later ≡ l
    words_are : o.words ≡ words
    clients : AllAlike p o.after.later.world.clients o.after.clients

  moved_alike : (l : Shrinking I S) → AllAlike p l.later.world.clients l.clients → (place : ℕ) (nd : Node) → at l.later.world.clients place ≡ Some nd → (rs : List ClientRecord) → ArePlain rs
      → AllAlike p (client_moved l.later.world place nd rs).clients (put l.clients place (after_records p (kept_at p l.clients place) rs))
  moved_alike l f place nd here rs h =
      put_alike f place (record nd { records = nd.records ++ rs }) (after_records p (kept_at p l.clients place) rs)
      (subst (λ z. Alike z (after_records p (kept_at p l.clients place) rs)) (sym (after_append p (no_client p) nd.records rs)) (records_alike p rs (client_of p nd.records) (kept_at p l.clients place) (at_alike f place nd here) h))

  ends_same : {A : Type 0} (l : Shrinking I S) → AllAlike p l.later.world.clients l.clients → (place : ℕ) (nd : Node) → at l.later.world.clients place ≡ Some nd → (did : ClientStep A) (words : World → Result A ClientRefusal → Outcome)
      → ((v : World) (a : Result A ClientRefusal) → (words v a).world.clients ≡ v.clients) → ArePlain did.records → (o : Option (List ClientRecord)) → stopped (l.later.world.stops nd.name) did.records ≡ o
      → Same (kept_ends p l place nd did words o) (record l.later { world = (client_ends l.later.world place nd did words o).world }) (client_ends l.later.world place nd did words o).words
  ends_same l f place nd here did words same h None is = record {
    exchange = refl;
    words_are = refl;
    clients = subst (λ z. AllAlike p z (put l.clients place (after_records p (kept_at p l.clients place) did.records))) (sym (same (client_moved l.later.world place nd did.records) did.answer)) (moved_alike l f place nd here did.records h);
  }
  ends_same l f place nd here did words same h (Some stand) is =
      let c = cut_by (l.later.world.stops nd.name) did.records stand is in
      record {
        exchange = refl;
        words_are = refl;
        clients = moved_alike l f place nd here stand (subst ArePlain c.1 (plain_take c.0 h));
      }

  calls_same : {A : Type 0} (l : Shrinking I S) → AllAlike p l.later.world.clients l.clients → (name : Name) (call : Client I S → ClientStep A) (words : World → Result A ClientRefusal → Outcome)
      → ((v : World) (a : Result A ClientRefusal) → (words v a).world.clients ≡ v.clients) → ((c d : Client I S) → Alike c d → call d ≡ call c) → ((c : Client I S) → ArePlain (call c).records)
      → Same (kept_calls p l name call words) (record l.later { world = (client_calls p l.later.world name call words).world }) (client_calls p l.later.world name call words).words
  calls_same l f name call words same alike plain_ = on (seek (has_name name) l.later.world.clients) refl
    where
      on : (o : Option (ℕ × Node)) → seek (has_name name) l.later.world.clients ≡ o
          → Same (kept_called p l call words o) (record l.later { world = (client_called p l.later.world call words o).world }) (client_called p l.later.world call words o).words
      on None is = record { exchange = refl; words_are = refl; clients = f }
      on (Some q) is =
          let g = seek_found (has_name name) l.later.world.clients q is in
          let a = at_alike f q.0 q.1 g.here in
          let c = client_of p q.1.records in
          let done = client_ends l.later.world q.0 q.1 (call c) words (stopped (l.later.world.stops q.1.name) (call c).records) in
          subst (λ z. Same (kept_ends p l q.0 q.1 z words (stopped (l.later.world.stops q.1.name) z.records)) (record l.later { world = done.world }) done.words)
          (sym (alike c (kept_at p l.clients q.0) a))
          (ends_same l f q.0 q.1 g.here (call c) words same (plain_ c) (stopped (l.later.world.stops q.1.name) (call c).records) refl)

  -- ---- what leaves the clients

  served_leaves : (w : World) (kept : Parts I S) (m : Message) → (later_served p w kept m).world.clients ≡ w.clients
  served_leaves w kept m = on (stopped (w.stops server_name) (serve_by p kept m).records)
    where
      on : (o : Option (List ServerRecord)) → (later_ends p w kept (serve_by p kept m) o).world.clients ≡ w.clients
      on None = refl
      on (Some stand) = refl

  injects_leave : (l : Later I S) (m : Option Message) → (later_after p l (Injects m)).world.clients ≡ l.world.clients
  injects_leave l None = refl
  injects_leave l (Some m) = on (names_own p l.world m)
    where
      on : (b : Bool) → (if b then l else later_served p (named_by l.world m) l.kept m).world.clients ≡ l.world.clients
      on true = refl
      on false = served_leaves (named_by l.world m) l.kept m ∙ named_same l.world m

  gets_leave : (l : Later I S) (o : Option Message) → (option_map_or (later_served p l.world l.kept) o l).world.clients ≡ l.world.clients
  gets_leave l None = refl
  gets_leave l (Some m) = served_leaves l.world l.kept m

  stops_leave : (w : World) (node : Name) (k : ℕ) (leaves : Leaves) → (happens p w (Stops node k leaves)).world.clients ≡ w.clients
  stops_leave w node k leaves = on (is_node w node)
    where
      on : (b : Bool) → (if b then says (record w { stops = arm node (Some (record { at = k; leaves = leaves })) w.stops }) Armed else says w NoNode).world.clients ≡ w.clients
      on true = refl
      on false = refl

  -- a client that joins, or doesn't
  joined_alike : {nds : List Node} {cs : List (Client I S)} → AllAlike p nds cs → (w : World) → w.clients ≡ nds → (name : Name) (rs : List ClientRecord) (a b : Bool)
      → let after = (if a then says w NameTaken else if b then says w UuidTaken else says (record w { clients = w.clients ++ record { name = name; records = rs } ∷ [] }) (Joined name)).world.clients in
      AllAlike p after (cs ++ map (λ nd. client_of p nd.records) (drop (length cs) after))
  joined_alike {nds} {cs} f w e name rs true b = subst (λ l. AllAlike p l (cs ++ map (λ nd. client_of p nd.records) (drop (length cs) l))) (sym e) (still_alike f)
  joined_alike {nds} {cs} f w e name rs false true = subst (λ l. AllAlike p l (cs ++ map (λ nd. client_of p nd.records) (drop (length cs) l))) (sym e) (still_alike f)
  joined_alike {nds} {cs} f w e name rs false false = subst (λ l. AllAlike p (l ++ record { name = name; records = rs } ∷ []) (cs ++ map (λ nd. client_of p nd.records) (drop (length cs) (l ++ record { name = name; records = rs } ∷ [])))) (sym e) (grown_alike f (record { name = name; records = rs } ∷ []))

  -- ---- events

  AsLater : Shrinking I S → Event I → Type 0
  AsLater l e = Same (kept_happens p l e) (later_after p l.later e) (later_words p l.later e)

  -- a message comes to a client
  gets_same : (l : Shrinking I S) → AllAlike p l.later.world.clients l.clients → (to : Name) → bytes_eq to server_name ≡ false → (t : Bool) (o : Option Message)
      → Same (if t then kept_gets p l to o else record { after = l; words = NoNode }) (record l.later { world = (if t then delivers p l.later.world to o else says l.later.world NoNode).world }) (if t then delivers p l.later.world to o else says l.later.world NoNode).words
  gets_same l f to e false o = record { exchange = refl; words_are = refl; clients = f }
  gets_same l f to e true None = record { exchange = refl; words_are = refl; clients = f }
  gets_same l f to e true (Some m) =
      subst (λ b. Same (kept_calls p l to (λ c. take_message p c m) took_words) (record l.later { world = (if b then server_called p l.later.world m else client_calls p l.later.world to (λ c. take_message p c m) took_words).world }) (if b then server_called p l.later.world m else client_calls p l.later.world to (λ c. take_message p c m) took_words).words)
      (sym e)
      (calls_same l f to (λ c. take_message p c m) took_words took_same (λ c d a. take_alike p c d a m) (λ c. take_plain p c m))

  delivers_same : (l : Shrinking I S) → AllAlike p l.later.world.clients l.clients → (k : ℕ) (to : Name) → Same (kept_happens p l (Delivers k to)) (later_after p l.later (Delivers k to)) (later_words p l.later (Delivers k to))
  delivers_same l f k to = on (bytes_eq to server_name) refl
    where
      on : (b : Bool) → bytes_eq to server_name ≡ b
          → Same (if b then beside_clients p l (Delivers k to) else if is_node l.later.world to then kept_gets p l to (message_at l.later.world k) else record { after = l; words = NoNode }) (later_after p l.later (Delivers k to)) (later_words p l.later (Delivers k to))
      on true e = record {
        exchange = refl;
        words_are = refl;
        clients = subst (λ z. AllAlike p z l.clients) (sym (ap (λ b. (if b then option_map_or (later_served p l.later.world l.later.kept) (message_at l.later.world k) l.later else beside p l.later (Delivers k to)).world.clients) e ∙ gets_leave l.later (message_at l.later.world k))) f;
      }
      on false e =
          let x = gets_same l f to e (is_node l.later.world to) (message_at l.later.world k) in
          let after : later_after p l.later (Delivers k to) ≡ beside p l.later (Delivers k to) = ap (λ b. if b then option_map_or (later_served p l.later.world l.later.kept) (message_at l.later.world k) l.later else beside p l.later (Delivers k to)) e in
          let words : later_words p l.later (Delivers k to) ≡ (happens p l.later.world (Delivers k to)).words = ap (λ b. if b then delivered_words p l.later (message_at l.later.world k) else (happens p l.later.world (Delivers k to)).words) e in
          record {
            exchange = x.exchange ∙ sym after;
            words_are = x.words_are ∙ sym words;
            clients = x.clients;
          }

  event_same : (l : Shrinking I S) → AllAlike p l.later.world.clients l.clients → (e : Event I) → Same (kept_happens p l e) (later_after p l.later e) (later_words p l.later e)
  event_same l f (Joins name id) = record {
    exchange = refl;
    words_are = refl;
    clients = joined_alike f l.later.world refl name (Born id ∷ []) (is_node l.later.world name) (is_there (seek (has_id p id) l.later.world.clients) || is_there (seek (λ u. bytes_eq id u) l.later.world.injected));
  }
  event_same l f (Starts name id) = record {
    exchange = refl;
    words_are = refl;
    clients = joined_alike f l.later.world refl name (started p id l.later.kept.second l.later.kept.len l.later.kept.objects) (is_node l.later.world name) (is_there (seek (has_id p id) l.later.world.clients) || is_there (seek (λ u. bytes_eq id u) l.later.world.injected));
  }
  event_same l f (Edits name ms edits) = calls_same l f name (λ c. commit p c ms edits) made_words made_same (λ c d a. commit_alike p c d a ms edits) (λ c. commit_plain p c ms edits)
  event_same l f (Binds name) = calls_same l f name bind message_words messages_same (λ c d a. bind_alike p c d a) bind_plain
    where
      bind_plain : (c : Client I S) → ArePlain (bind c).records
      bind_plain c = nothing c.id
        where
          nothing : (o : Option Uuid) → ArePlain (if_born o (λ id. answers (Bind id))).records
          nothing None = no_more
          nothing (Some id) = no_more
  event_same l f (Uploads name) = calls_same l f name (upload p) message_words messages_same (λ c d a. upload_alike p c d a) named_plain
    where
      named_plain : (c : Client I S) → ArePlain (upload p c).records
      named_plain c = nothing c.id (c.ident == 0)
        where
          nothing : (o : Option Uuid) (b : Bool) → ArePlain (if_born o (λ id. if b then refuse NotNamed else answers (Upload c.ident (to_upload p c)))).records
          nothing None b = no_more
          nothing (Some id) true = no_more
          nothing (Some id) false = no_more
  event_same l f (Asks name) = calls_same l f name ask message_words messages_same (λ c d a. ask_alike p c d a) named_plain
    where
      named_plain : (c : Client I S) → ArePlain (ask c).records
      named_plain c = nothing c.id (c.ident == 0)
        where
          nothing : (o : Option Uuid) (b : Bool) → ArePlain (if_born o (λ id. if b then refuse NotNamed else answers (question c c.subset))).records
          nothing None b = no_more
          nothing (Some id) true = no_more
          nothing (Some id) false = no_more
  event_same l f (Upgrades name) = calls_same l f name upgrade upgrade_words upgrade_same (λ c d a. upgrade_alike p c d a) (λ c. upgrade_plain p c)
  event_same l f (Subscribes name tables) = calls_same l f name (λ c. subscribe c tables) subscribe_words subscribe_same (λ c d a. subscribe_alike p c d a tables) (λ c. subscribe_plain p c tables)
  event_same l f (Delivers k to) = delivers_same l f k to
  event_same l f (Restarts node) = record { exchange = refl; words_are = refl; clients = f }
  event_same l f (Stops node k leaves) = record {
    exchange = refl;
    words_are = refl;
    clients = subst (λ z. AllAlike p z l.clients) (sym (stops_leave l.later.world node k leaves)) f;
  }
  event_same l f (Injects m) = record {
    exchange = refl;
    words_are = refl;
    clients = subst (λ z. AllAlike p z l.clients) (sym (injects_leave l.later m)) f;
  }

  shrinks_same : (l : Shrinking I S) → AllAlike p l.later.world.clients l.clients → (name : Name) → (shrinks p l (seek (has_name name) l.later.world.clients)).later ≡ l.later
  shrinks_same l f name = on (seek (has_name name) l.later.world.clients)
    where
      on : (o : Option (ℕ × Node)) → (shrinks p l o).later ≡ l.later
      on None = refl
      on (Some q) = refl

  shrinks_alike : (l : Shrinking I S) → AllAlike p l.later.world.clients l.clients → (name : Name) → AllAlike p l.later.world.clients (shrinks p l (seek (has_name name) l.later.world.clients)).clients
  shrinks_alike l f name = on (seek (has_name name) l.later.world.clients) refl
    where
      on : (o : Option (ℕ × Node)) → seek (has_name name) l.later.world.clients ≡ o → AllAlike p l.later.world.clients (shrinks p l o).clients
      on None is = f
      on (Some q) is =
          let g = seek_found (has_name name) l.later.world.clients q is in
          let a = at_alike f q.0 q.1 g.here in
          put_kept f q.0 q.1 g.here (shrunk p (kept_at p l.clients q.0)) (alike_then a (shrunk_alike p (kept_at p l.clients q.0) (keeps_alike (client_of p q.1.records) (kept_at p l.clients q.0) a (client_keeps p q.1.records))))

  -- ---- all events

  pub one_same : (l : Shrinking I S) → AllAlike p l.later.world.clients l.clients → (e : ShrinkEvent I) → ((shrinking p l e).after.later ≡ all_later p l.later (without_shrink e)) × AllAlike p (shrinking p l e).after.later.world.clients (shrinking p l e).after.clients × ((shrinking p l e).words ≡ said p l.later e)
  one_same l f (Goes (Happens e)) = let x = event_same l f e in (x.exchange, x.clients, x.words_are)
  one_same l f (Goes Trims) = (refl, f, refl)
  one_same l f (Shrinks name) = (shrinks_same l f name, subst (λ z. AllAlike p z.world.clients (shrinks p l (seek (has_name name) l.later.world.clients)).clients) (sym (shrinks_same l f name)) (shrinks_alike l f name), refl)

  later_append : (m : Later I S) (es fs : List (LaterEvent I)) → all_later p m (es ++ fs) ≡ all_later p (all_later p m es) fs
  later_append m [] fs = refl
  later_append m (e ∷ es) fs = later_append (later p m e) es fs

  pub all_same : (es : List (ShrinkEvent I)) (l : Shrinking I S) (m : Later I S) → l.later ≡ m → AllAlike p l.later.world.clients l.clients → IsSame p (all_shrinking p l es) (all_later p m (without_shrinks es))
  all_same [] l m e f = record { exchange = e; clients = f }
  all_same (x ∷ es) l m e f =
      let o = one_same l f x in
      subst (λ z. IsSame p (all_shrinking p (shrinking p l x).after es) z) (sym (later_append m (without_shrink x) (without_shrinks es)))
      (all_same es (shrinking p l x).after (all_later p m (without_shrink x)) (o.0 ∙ ap (λ z. all_later p z (without_shrink x)) e) o.1)

  pub first_same : (es : List (ShrinkEvent I)) → IsSame p (all_shrinking p (first_shrinking p) es) (all_later p (first_later p) (without_shrinks es))
  first_same es = all_same es (first_shrinking p) (first_later p) refl nobody
