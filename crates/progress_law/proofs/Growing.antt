-- Messages, the server's records and its history only grow.
use Rattle.std.proofs.Common.{append-nil, append_assoc, ◌≡◌, ℕ, zero, suc, Bool, true, false, ◌&&◌, ◌||◌, List, [], ◌∷◌, ◌++◌, Option, Some, None, Result, Ok, Err, refl, sym, ap, ◌∙◌, if◌then◌else◌, length}
use Rattle.std.specs.Prelude.{bytes_eq, ⊤}
use Rattle.sync_theory.specs.Changesets.{Changeset}
use Rattle.sync_model.specs.Bytes.{Name}
use Rattle.sync_model.specs.Profile.{Profile, Lawful}
use Rattle.sync_model.specs.Snapshots.{Buildable}
use Rattle.sync_model.specs.Messages.{Message, Bind, Ident, Upload, Ask, Download, Refused, Stored, Ask2, Retire, Retired, AskTables}
use Rattle.sync_model.specs.Clients.{Client, ClientRecord, Born, ClientRefusal, ClientStep, client_of, commit, upgrade, bind, upload, ask, take as take_message, subscribe}
use Rattle.sync_model.specs.Servers.{ServerRecord, server_of, serve, server_objects}
use Rattle.sync_model.specs.Files.{server_admits, server_opens}
use Rattle.sync_model.specs.Starts.{started}
use Rattle.sync_model.specs.Worlds.{Node, World, Event, Joins, Starts, Edits, Binds, Uploads, Asks, Upgrades, Subscribes, Delivers, Restarts, Stops, Injects, Outcome, says, NoNode, NameTaken, UuidTaken, Joined, Armed, OwnIdent, at, seek, is_there, stopped, has_name, has_id, server_name, message_words, made_words, took_words, upgrade_words, subscribe_words, client_ends, client_called, client_calls, client_moved, server_ends, server_called, is_node, delivers, named_by, names_own, message_at, arm, happens, world_after}
use Rattle.sync_model.specs.Log.{log}
use Rattle.sync_model.proofs.Progress.Valid.{Valid, valid_after}
use Rattle.sync_model.specs.Profile.{Stuck, apply_all}
use Rattle.sync_model.specs.Messages.{Change}
use Rattle.sync_model.specs.Servers.{Server, ServerRefusal, NumberGap, BaseBack, AheadOfHistory, HistoryFull, IdentRetired, Trimmed, Client as ClientIs, Entry, Settled, is_retired, no_server, after_all, after_server, entries_from}
use Rattle.sync_model.specs.Parts.{Parts, Given, Merged, merge_by, merge_read_by, merge_carried_by, merge_applied_by, after_change, after_entry, after_part, after_parts, parts_of, at_ident}
use Rattle.sync_model.proofs.Alone.{Opened, opened_first, opened_more}
use Rattle.sync_model.proofs.Folding.{records_after}
use Rattle.sync_model.proofs.Holding.{server_append}

pub at_front : {A : Type 0} (xs ys : List A) (k : ℕ) (x : A) → at xs k ≡ Some x → at (xs ++ ys) k ≡ Some x
at_front [] ys k x e = cc
at_front (y ∷ xs) ys zero x e = e
at_front (y ∷ xs) ys (suc k) x e = at_front xs ys k x e

both : (a b : Bool) → (a && b) ≡ true → (a ≡ true) × (b ≡ true)
both true b e = (refl, e)
both false b e = cc

and_true : (a b : Bool) → a ≡ true → b ≡ true → (a && b) ≡ true
and_true true b e f = f
and_true false b e f = cc

module _ {I S : Type 0} (p : Profile I S) where
  -- ---- messages, and the server's records

  pub record More (w v : World) : Type 0 where
    pub messages : List Message
    pub messages_are : v.messages ≡ w.messages ++ messages
    pub records : List ServerRecord
    pub records_are : v.server ≡ w.server ++ records

  no_more_of : (w v : World) → v.messages ≡ w.messages → v.server ≡ w.server → More w v
  no_more_of w v e f = record { messages = []; messages_are = e ∙ sym (append-nil w.messages); records = []; records_are = f ∙ sym (append-nil w.server) }

  module _ (w : World) where
    called : {A : Type 0} (name : Name) (call : Client I S → ClientStep A) (words : World → Result A ClientRefusal → Outcome) → ((v : World) (a : Result A ClientRefusal) → More v (words v a).world) → More w (client_calls p w name call words).world
    called name call words more = on (seek (has_name name) w.clients)
      where
        ends : (q : ℕ × Node) (r : Option (List ClientRecord)) → More w (client_ends w q.0 q.1 (call (client_of p q.1.records)) words r).world
        ends q None = let m = more (client_moved w q.0 q.1 (call (client_of p q.1.records)).records) (call (client_of p q.1.records)).answer in record { messages = m.messages; messages_are = m.messages_are; records = m.records; records_are = m.records_are }
        ends q (Some stand) = no_more_of w (client_moved w q.0 q.1 stand) refl refl

        on : (o : Option (ℕ × Node)) → More w (client_called p w call words o).world
        on None = no_more_of w w refl refl
        on (Some q) = ends q (stopped (w.stops q.1.name) (call (client_of p q.1.records)).records)

  message_more : (v : World) (a : Result Message ClientRefusal) → More v (message_words v a).world
  message_more v (Ok m) = record { messages = m ∷ []; messages_are = refl; records = []; records_are = sym (append-nil v.server) }
  message_more v (Err r) = no_more_of v v refl refl

  made_more : (v : World) (a : Result ℕ ClientRefusal) → More v (made_words v a).world
  made_more v (Ok m) = no_more_of v v refl refl
  made_more v (Err r) = no_more_of v v refl refl

  took_more : (v : World) (a : Result ℕ ClientRefusal) → More v (took_words v a).world
  took_more v (Ok m) = no_more_of v v refl refl
  took_more v (Err r) = no_more_of v v refl refl

  upgrade_more : (v : World) (a : Result Bool ClientRefusal) → More v (upgrade_words v a).world
  upgrade_more v (Ok b) = no_more_of v v refl refl
  upgrade_more v (Err r) = no_more_of v v refl refl

  subscribe_more : (v : World) (a : Result ⊤ ClientRefusal) → More v (subscribe_words v a).world
  subscribe_more v (Ok b) = no_more_of v v refl refl
  subscribe_more v (Err r) = no_more_of v v refl refl

  served : (w : World) (m : Message) → More w (server_called p w m).world
  served w m = on (stopped (w.stops server_name) (serve p (server_of p w.server) m).records)
    where
      on : (r : Option (List ServerRecord)) → More w (server_ends w (serve p (server_of p w.server) m) r).world
      on None = record { messages = (serve p (server_of p w.server) m).answer ∷ []; messages_are = refl; records = (serve p (server_of p w.server) m).records; records_are = refl }
      on (Some stand) = record { messages = []; messages_are = sym (append-nil w.messages); records = stand; records_are = refl }

  named_messages : (w : World) (m : Message) → (named_by w m).messages ≡ w.messages
  named_messages w (Bind u) = refl
  named_messages w (Ident u c) = refl
  named_messages w (Upload c hs) = refl
  named_messages w (Ask c k s) = refl
  named_messages w (Ask2 c k s) = refl
  named_messages w (Download c k es) = refl
  named_messages w (Refused c k a b) = refl
  named_messages w (Stored c k) = refl
  named_messages w (Retire c by) = refl
  named_messages w (Retired c by k) = refl
  named_messages w (AskTables c k s second tables) = refl

  named_server : (w : World) (m : Message) → (named_by w m).server ≡ w.server
  named_server w (Bind u) = refl
  named_server w (Ident u c) = refl
  named_server w (Upload c hs) = refl
  named_server w (Ask c k s) = refl
  named_server w (Ask2 c k s) = refl
  named_server w (Download c k es) = refl
  named_server w (Refused c k a b) = refl
  named_server w (Stored c k) = refl
  named_server w (Retire c by) = refl
  named_server w (Retired c by k) = refl
  named_server w (AskTables c k s second tables) = refl

  event_more : (w : World) (e : Event I) → More w (happens p w e).world
  event_more w (Joins name id) = go (is_node w name) (is_there (seek (has_id p id) w.clients) || is_there (seek (λ u. bytes_eq id u) w.injected))
    where
      go : (a b : Bool) → More w (if a then says w NameTaken else (if b then says w UuidTaken else says (record w { clients = w.clients ++ record { name = name; records = Born id ∷ [] } ∷ [] }) (Joined name))).world
      go true b = no_more_of w w refl refl
      go false true = no_more_of w w refl refl
      go false false = record { messages = []; messages_are = sym (append-nil w.messages); records = []; records_are = sym (append-nil w.server) }
  event_more w (Starts name id) = go (is_node w name) (is_there (seek (has_id p id) w.clients) || is_there (seek (λ u. bytes_eq id u) w.injected))
    where
      go : (a b : Bool) → More w (if a then says w NameTaken else (if b then says w UuidTaken else says (record w { clients = w.clients ++ record { name = name; records = started p id (server_of p w.server).second (length (server_of p w.server).log) (server_objects p (server_of p w.server)) } ∷ [] }) (Joined name))).world
      go true b = no_more_of w w refl refl
      go false true = no_more_of w w refl refl
      go false false = record { messages = []; messages_are = sym (append-nil w.messages); records = []; records_are = sym (append-nil w.server) }
  event_more w (Subscribes name tables) = called w name (λ c. subscribe c tables) subscribe_words subscribe_more
  event_more w (Edits name ms edits) = called w name (λ c. commit p c ms edits) made_words made_more
  event_more w (Binds name) = called w name bind message_words message_more
  event_more w (Uploads name) = called w name (upload p) message_words message_more
  event_more w (Asks name) = called w name ask message_words message_more
  event_more w (Upgrades name) = called w name upgrade upgrade_words upgrade_more
  event_more w (Delivers m to) = go (is_node w to) (message_at w m)
    where
      comes : (b : Bool) (m : Message) → More w (if b then server_called p w m else client_calls p w to (λ c. take_message p c m) took_words).world
      comes true m = served w m
      comes false m = called w to (λ c. take_message p c m) took_words took_more

      go : (b : Bool) (o : Option Message) → More w (if b then delivers p w to o else says w NoNode).world
      go true None = no_more_of w w refl refl
      go true (Some m) = comes (bytes_eq to server_name) m
      go false o = no_more_of w w refl refl
  event_more w (Restarts node) = no_more_of w w refl refl
  event_more w (Stops node k leaves) = go (is_node w node)
    where
      go : (b : Bool) → More w (if b then says (record w { stops = arm node (Some (record { at = k; leaves = leaves })) w.stops }) Armed else says w NoNode).world
      go true = record { messages = []; messages_are = sym (append-nil w.messages); records = []; records_are = sym (append-nil w.server) }
      go false = no_more_of w w refl refl
  event_more w (Injects None) = no_more_of w w refl refl
  event_more w (Injects (Some m)) = go (names_own p w m)
    where
      go : (b : Bool) → More w (if b then says w OwnIdent else server_called p (named_by w m) m).world
      go true = no_more_of w w refl refl
      go false = let a = served (named_by w m) m in record { messages = a.messages; messages_are = a.messages_are ∙ ap (λ l. l ++ a.messages) (named_messages w m); records = a.records; records_are = a.records_are ∙ ap (λ l. l ++ a.records) (named_server w m) }

  pub records_more : (es : List (Event I)) (w : World) → (rs : List ServerRecord) × ((world_after p w es).server ≡ w.server ++ rs)
  records_more [] w = ([], sym (append-nil w.server))
  records_more (e ∷ es) w =
      let a = event_more w e in
      let b = records_more es (happens p w e).world in
      (a.records ++ b.0, b.1 ∙ ap (λ l. l ++ b.0) a.records_are ∙ append_assoc w.server a.records b.0)

  pub stays_there : (es : List (Event I)) (w : World) (k : ℕ) (m : Message) → message_at w k ≡ Some m → message_at (world_after p w es) k ≡ Some m
  stays_there [] w k m e = e
  stays_there (x ∷ es) w zero m e = cc
  stays_there (x ∷ es) w (suc k) m e =
      let a = event_more w x in
      stays_there es (happens p w x).world (suc k) m (ap (λ l. at l k) a.messages_are ∙ at_front w.messages a.messages k m e)

  -- ---- the server's history

  -- after these the history has more entries
  abbrev pub Longer : Parts I S → Parts I S → Type 0
  Longer b a = (more : List (Changeset I)) × (a.entries ≡ b.entries ++ more)

  abbrev LongerBy : Parts I S → Result (Merged I S) ServerRefusal → Type 0
  LongerBy b (Ok m) = Longer b m.parts
  LongerBy b (Err why) = Unit {0}

  merge_longer : (b : Parts I S) (c : ℕ) (g : Given I) (h : Change) → LongerBy b (merge_by p b c g h)
  merge_longer b c g h = tests (is_retired g.heir) _ _ _ _ _
    where
      applied : (is : List I) (x : Changeset I) (es : List (Changeset I)) (r : Result S (ℕ × ℕ)) → LongerBy b (merge_applied_by p b c h is x es r)
      applied is x es (Ok t) = (x ∷ [], refl)
      applied is x es (Err f) = tt

      carried : (is : List I) (r : Result (Changeset I × List (Changeset I)) Stuck) → LongerBy b (merge_carried_by p b c h is r)
      carried is (Ok q) = applied is q.0 q.1 (apply_all p q.0.instrs b.objects)
      carried is (Err m) = tt

      read_ : (r : Result (List I) (ℕ × ℕ)) → LongerBy b (merge_read_by p b c g h r)
      read_ (Ok is) = carried is _
      read_ (Err f) = tt

      tests : (a1 a2 a3 a4 a5 a6 : Bool) → LongerBy b (if a1 then Err (IdentRetired g.count) else if a2 then Err (NumberGap (suc g.count)) else if a3 then Err (BaseBack g.last) else if a4 then Err (AheadOfHistory b.len) else if a5 then Err (Trimmed b.floor) else if a6 then Err (HistoryFull b.len) else merge_read_by p b c g h (p.unspell h.body))
      tests true a2 a3 a4 a5 a6 = tt
      tests false true a3 a4 a5 a6 = tt
      tests false false true a4 a5 a6 = tt
      tests false false false true a5 a6 = tt
      tests false false false false true a6 = tt
      tests false false false false false true = tt
      tests false false false false false false = read_ (p.unspell h.body)

  as_long : (b a : Parts I S) → a.entries ≡ b.entries → Longer b a
  as_long b a e = ([], e ∙ sym (append-nil b.entries))

  change_longer : (b : Parts I S) (r : Result (Merged I S) ServerRefusal) → LongerBy b r → Longer b (after_change b r)
  change_longer b (Ok m) f = f
  change_longer b (Err why) f = as_long b b refl

  part_longer : (b : Parts I S) (r : ServerRecord) → Longer b (after_part p b r)
  part_longer b (ClientIs u) = as_long b (after_part p b (ClientIs u)) refl
  part_longer b (Entry c number base ms body) = on (at_ident c b.idents)
    where
      on : (o : Option (Given I)) → Longer b (after_entry p b c (record { number = number; base = base; ms = ms; body = body }) o)
      on None = as_long b b refl
      on (Some g) = change_longer b (merge_by p b c g (record { number = number; base = base; ms = ms; body = body })) (merge_longer b c g (record { number = number; base = base; ms = ms; body = body }))
  part_longer b ServerRecord.Form = as_long b (after_part p b ServerRecord.Form) refl
  part_longer b (ServerRecord.Retired c by) = as_long b (after_part p b (ServerRecord.Retired c by)) refl
  part_longer b (Settled c n) = as_long b (after_part p b (Settled c n)) refl
  part_longer b (ServerRecord.Part body) = as_long b b refl
  part_longer b (ServerRecord.Floor version) = as_long b b refl
  part_longer b (ServerRecord.Count c number base n) = as_long b b refl
  part_longer b (ServerRecord.Carried origin number base ms body) = as_long b b refl
  part_longer b (ServerRecord.Past c version ms body) = as_long b b refl

  parts_longer : (rs : List ServerRecord) (b : Parts I S) → Longer b (after_parts p b rs)
  parts_longer [] b = as_long b b refl
  parts_longer (r ∷ rs) b =
      let a = part_longer b r in
      let t = parts_longer rs (after_part p b r) in
      (a.0 ++ t.0, t.1 ∙ ap (λ l. l ++ t.0) a.1 ∙ append_assoc b.entries a.0 t.0)

  server_rest : (rs ts : List ServerRecord) (s : Server I) → server_opens p s (rs ++ ts) ≡ true → (server_opens p s rs ≡ true) × (server_opens p (after_all p s rs) ts ≡ true)
  server_rest [] ts s e = (refl, e)
  server_rest (r ∷ rs) ts s e =
      let b = both (server_admits p s r) (server_opens p (after_server p s r) (rs ++ ts)) e in
      let t = server_rest rs ts (after_server p s r) b.1 in
      (and_true (server_admits p s r) (server_opens p (after_server p s r) rs) b.0 t.0, t.1)

  module _ {Fits Bounded Old : S → Type 0} (law : Lawful p Fits) (built : Buildable p Fits Bounded Old) where
    pub entries_later : (es : List (Event I)) (w : World) → Valid p w → (more : List (Changeset I)) × (entries_from p (log p (world_after p w es)) (length (log p (world_after p w es))) 0 ≡ entries_from p (log p w) (length (log p w)) 0 ++ more)
    entries_later es w reached =
        let a = records_more es w in
        let open_ : server_opens p no_server (w.server ++ a.0) ≡ true = ap (server_opens p no_server) (sym a.1) ∙ (valid_after p law built es w reached).opens.server in
        let s = server_rest w.server a.0 no_server open_ in
        let o : Opened p (server_of p w.server) = opened_more p law w.server no_server s.0 (opened_first p) in
        let folded : after_parts p (parts_of p (server_of p w.server)) a.0 ≡ parts_of p (after_all p (server_of p w.server) a.0) = records_after p law a.0 (server_of p w.server) o s.1 in
        let now : server_of p (world_after p w es).server ≡ after_all p (server_of p w.server) a.0 = ap (server_of p) a.1 ∙ server_append p no_server w.server a.0 in
        let l = parts_longer a.0 (parts_of p (server_of p w.server)) in
        (l.0, ap (λ (x : Server I). entries_from p x.log (length x.log) 0) now ∙ ap (λ (x : Parts I S). x.entries) (sym folded) ∙ l.1)
