-- Each event of an exchange is refused by a named rule alone.
use Rattle.std.proofs.Common.{◌≡◌, ◌≤◌, ⊎_elim, ℕ, zero, suc, Bool, true, false, not, ◌&&◌, ◌||◌, if◌then◌else◌, nat_lt, List, [], ◌∷◌, ◌++◌, length, Option, None, Some, Result, Ok, Err, refl, sym, ap, ◌∙◌, subst, arith}
use Rattle.std.specs.Prelude.{⊤, bytes_eq, ◌==◌, ◌-◌, map}
use Rattle.sync_data.specs.declared.instr.Instr.{Instr}
use Rattle.sync_base.specs.States.{IsState}
use Rattle.sync_exchange.specs.Profile.{the_profile}
use Rattle.sync_theory.specs.Changesets.{Changeset}
use Rattle.sync_model.specs.Bytes.{Name, Uuid, Tables}
use Rattle.sync_model.specs.Profile.{Profile, all_admitted, apply_all, first_need, first_outside, is_small, needs, restricted}
use Rattle.sync_model.specs.Log.{IsFair, MayRefuse, WorldFacts}
use Rattle.sync_model.specs.Messages.{Change, Message, Bind, Ident, Upload, Ask, Download, Refused, Stored, Ask2, Retire, Retired, AskTables}
use Rattle.sync_model.specs.Clients as clients
use Rattle.sync_model.specs.Clients.{Client, ClientRecord, ClientRefusal, ClientStep, answers, appends, ask, bind, change_of, client_of, commit, commit_applied, commit_born, if_born, if_named, is_late, question, refuse, settled_from, subscribe, subscribed_once, take as take_message, to_upload, upgrade, upload}
use Rattle.sync_model.specs.Servers as servers
use Rattle.sync_model.specs.Servers.{Server, ServerRecord, ServerRefusal, ServerStep, code_of, download, download_first, download_tables, entries_from, first_form, heir_of, if_there, is_given, marking, place_of, refuses, retire_for, serve_retire, replies, serve, server_of}
use Rattle.sync_model.specs.Worlds as worlds
use Rattle.sync_model.specs.Worlds.{World, Node, Event, Joins, Starts, Edits, Binds, Uploads, Asks, Upgrades, Subscribes, Delivers, Restarts, Stops, Injects, Outcome, Words, arm, at, client_called, client_calls, client_ends, client_moved, delivers, empty_world, happens, has_id, has_name, is_node, is_there, made_words, message_at, message_words, named_by, names_own, says, seek, server_called, server_ends, server_moved, server_name, starts_at, stopped, subscribe_words, took_words, upgrade_words}
use Rattle.sync_model.proofs.Lists.{seek_found}
use Rattle.sync_model.proofs.Limits.{each_at}
use Rattle.sync_top.specs.Named.{IsDeclineOf, IsNamedOutcome, IsNamedReply, IsOfChange, IsReplyTo, MayNotCommit, MayNotSend, MayNotSubscribe, MayNotTake, RefusesBy, SaysOnly}
use Rattle.sync_model.proofs.Holding.{Holds}
use Rattle.sync_top.proofs.Born.{AllBorn, born_id}
use Rattle.sync_top.proofs.Declines.{take_named}
use Rattle.sync_top.proofs.Uploads.{upload_named}

-- a fair reply has none of the codes from 60 to 63
fair_code : (n : ℕ) → 60 ≤ n → n ≤ 63 → (why : ServerRefusal) → n ≡ code_of why → MayRefuse why → ⊥
fair_code n low high (servers.NumberGap k) is may = may
fair_code n low high (servers.BaseBack k) is may = may
fair_code n low high (servers.AheadOfHistory k) is may = may
fair_code n low high (servers.HistoryFull k) is may = omega (arith, low, high, is)
fair_code n low high (servers.BadBytes offset rule) is may = may
fair_code n low high (servers.Mismatch place kind) is may =
    ⊎_elim (λ e. ⊎_elim (λ one. omega (arith, low, high, is, one)) (λ two. omega (arith, low, high, is, two)) e) (λ four. omega (arith, low, high, is, four)) may
fair_code n low high (servers.Break place code) is may = may
fair_code n low high (servers.NoSuchIdent k) is may = may
fair_code n low high (servers.IdentsFull k) is may = omega (arith, low, high, is)
fair_code n low high servers.NotForServer is may = omega (arith, low, high, is)
fair_code n low high (servers.NeedsForm2 k) is may = omega (arith, low, high, is)
fair_code n low high (servers.IdentRetired k) is may = may
fair_code n low high (servers.SelfRetire k) is may = may
fair_code n low high (servers.RetiredBy k) is may = may
fair_code n low high (servers.Trimmed k) is may = may

-- nor one of those from 68 on
fair_below : (n : ℕ) → 68 ≤ n → (why : ServerRefusal) → n ≡ code_of why → MayRefuse why → ⊥
fair_below n low (servers.NumberGap k) is may = may
fair_below n low (servers.BaseBack k) is may = may
fair_below n low (servers.AheadOfHistory k) is may = may
fair_below n low (servers.HistoryFull k) is may = omega (arith, low, is)
fair_below n low (servers.BadBytes offset rule) is may = may
fair_below n low (servers.Mismatch place kind) is may =
    ⊎_elim (λ e. ⊎_elim (λ one. omega (arith, low, is, one)) (λ two. omega (arith, low, is, two)) e) (λ four. omega (arith, low, is, four)) may
fair_below n low (servers.Break place code) is may = may
fair_below n low (servers.NoSuchIdent k) is may = may
fair_below n low (servers.IdentsFull k) is may = omega (arith, low, is)
fair_below n low servers.NotForServer is may = omega (arith, low, is)
fair_below n low (servers.NeedsForm2 k) is may = omega (arith, low, is)
fair_below n low (servers.IdentRetired k) is may = may
fair_below n low (servers.SelfRetire k) is may = may
fair_below n low (servers.RetiredBy k) is may = may
fair_below n low (servers.Trimmed k) is may = may

module _ {I S : Type 0} (p : Profile I S) where
  -- ---- calls of clients
  module _ (c : Client I S) (u : Uuid) (born : c.id ≡ Some u) where
    commit_named : (ms : ℕ) (edits : List I) (why : ClientRefusal) → (commit p c ms edits).answer ≡ Err why → MayNotCommit why
    commit_named ms edits why e = on c.id born e
      where
        number : ℕ
        number = suc (length c.made)

        applied : (r : Result S (ℕ × ℕ)) → (commit_applied number (clients.Made number ms (p.spell edits)) r).answer ≡ Err why → MayNotCommit why
        applied (Ok s) f = cc
        applied (Err b) f = let same : clients.Break b.0 b.1 ≡ why = cc in subst MayNotCommit same tt

        go : (a b d o : Bool) → (if not a then refuse clients.TooLarge else if b then refuse clients.NumbersFull else if d then refuse (clients.OldForm (first_need p edits)) else if not o then refuse (clients.NotSubscribed (first_outside p c.subset edits)) else commit_applied number (clients.Made number ms (p.spell edits)) (apply_all p edits c.objects)).answer ≡ Err why → MayNotCommit why
        go false b d o f = let same : clients.TooLarge ≡ why = cc in subst MayNotCommit same tt
        go true true d o f = let same : clients.NumbersFull ≡ why = cc in subst MayNotCommit same tt
        go true false true o f = let same : clients.OldForm (first_need p edits) ≡ why = cc in subst MayNotCommit same tt
        go true false false false f = let same : clients.NotSubscribed (first_outside p c.subset edits) ≡ why = cc in subst MayNotCommit same tt
        go true false false true f = applied (apply_all p edits c.objects) f

        on : (o : Option Uuid) → o ≡ Some u → (if_born o (λ id. commit_born p c ms edits)).answer ≡ Err why → MayNotCommit why
        on None is f = cc
        on (Some id) is f = go (is_small p edits) (length c.made == p.full) (needs p edits && not c.second) (all_admitted p c.subset edits) f

    named_call : (did : Message) (why : ClientRefusal) → (if_named c (answers did)).answer ≡ Err why → MayNotSend why
    named_call did why e = on c.id born e
      where
        go : (b : Bool) → (if b then refuse clients.NotNamed else answers did).answer ≡ Err why → MayNotSend why
        go true f = let same : clients.NotNamed ≡ why = cc in subst MayNotSend same tt
        go false f = cc

        on : (o : Option Uuid) → o ≡ Some u → (if_born o (λ id. if c.ident == 0 then refuse clients.NotNamed else answers did)).answer ≡ Err why → MayNotSend why
        on None is f = cc
        on (Some id) is f = go (c.ident == 0) f

    bind_named : (why : ClientRefusal) → (bind c).answer ≡ Err why → ⊥
    bind_named why e = on c.id born e
      where
        on : (o : Option Uuid) → o ≡ Some u → (if_born o (λ id. answers (Bind id))).answer ≡ Err why → ⊥
        on None is f = cc
        on (Some id) is f = cc

    upgrade_named : (why : ClientRefusal) → (upgrade c).answer ≡ Err why → ⊥
    upgrade_named why e = on c.id born e
      where
        go : (b : Bool) → (if b then answers false else appends clients.Form true).answer ≡ Err why → ⊥
        go true f = cc
        go false f = cc

        on : (o : Option Uuid) → o ≡ Some u → (if_born o (λ id. if c.second then answers false else appends clients.Form true)).answer ≡ Err why → ⊥
        on None is f = cc
        on (Some id) is f = go c.second f

    subscribe_named : (tables : Tables) (why : ClientRefusal) → (subscribe c tables).answer ≡ Err why → MayNotSubscribe why
    subscribe_named tables why e = on c.id born e
      where
        go : (t : Option Tables) (b : Bool) → (subscribed_once t (if b then refuse clients.TooLate else appends {A = ⊤} (clients.Subset tables) tt)).answer ≡ Err why → MayNotSubscribe why
        go (Some t) b f = let same : clients.Subscribed ≡ why = cc in subst MayNotSubscribe same tt
        go None true f = let same : clients.TooLate ≡ why = cc in subst MayNotSubscribe same tt
        go None false f = cc

        on : (o : Option Uuid) → o ≡ Some u → (if_born o (λ id. subscribed_once c.subset (if is_late c then refuse clients.TooLate else appends {A = ⊤} (clients.Subset tables) tt))).answer ≡ Err why → MayNotSubscribe why
        on None is f = cc
        on (Some id) is f = go c.subset (is_late c) f

  -- ---- the words of a client's call
  module _ (P : ClientRefusal → Type 0) (Q : Message → Type 0) where
    made_named : (a : Result ℕ ClientRefusal) → ((why : ClientRefusal) → a ≡ Err why → P why) → (v : World) → SaysOnly P Q (made_words v a).words
    made_named (Ok n) h v = tt
    made_named (Err r) h v = h r refl

    took_named : (a : Result ℕ ClientRefusal) → ((why : ClientRefusal) → a ≡ Err why → P why) → (v : World) → SaysOnly P Q (took_words v a).words
    took_named (Ok n) h v = tt
    took_named (Err r) h v = h r refl

    message_named : (a : Result Message ClientRefusal) → ((why : ClientRefusal) → a ≡ Err why → P why) → (v : World) → SaysOnly P Q (message_words v a).words
    message_named (Ok m) h v = tt
    message_named (Err r) h v = h r refl

    upgraded_named : (a : Result Bool ClientRefusal) → ((why : ClientRefusal) → a ≡ Err why → P why) → (v : World) → SaysOnly P Q (upgrade_words v a).words
    upgraded_named (Ok true) h v = tt
    upgraded_named (Ok false) h v = tt
    upgraded_named (Err r) h v = h r refl

    subscribed_named : (a : Result ⊤ ClientRefusal) → ((why : ClientRefusal) → a ≡ Err why → P why) → (v : World) → SaysOnly P Q (subscribe_words v a).words
    subscribed_named (Ok done) h v = tt
    subscribed_named (Err r) h v = h r refl

    ends_named : {A : Type 0} (w : World) (place : ℕ) (nd : Node) (did : ClientStep A) (words : World → Result A ClientRefusal → Outcome) → ((v : World) → SaysOnly P Q (words v did.answer).words)
        → (o : Option (List ClientRecord)) → SaysOnly P Q (client_ends w place nd did words o).words
    ends_named w place nd did words each None = each (client_moved w place nd did.records)
    ends_named w place nd did words each (Some stand) = tt

    calls_named : {A : Type 0} (w : World) (name : Name) (call : Client I S → ClientStep A) (words : World → Result A ClientRefusal → Outcome)
        → ((place : ℕ) (nd : Node) → at w.clients place ≡ Some nd → (v : World) → SaysOnly P Q (words v (call (client_of p nd.records)).answer).words) → SaysOnly P Q (client_calls p w name call words).words
    calls_named w name call words each = on (seek (has_name name) w.clients) refl
      where
        on : (o : Option (ℕ × Node)) → seek (has_name name) w.clients ≡ o → SaysOnly P Q (client_called p w call words o).words
        on None is = tt
        on (Some q) is = let f = seek_found (has_name name) w.clients q is in ends_named w q.0 q.1 (call (client_of p q.1.records)) words (each q.0 q.1 f.here) (stopped (w.stops q.1.name) (call (client_of p q.1.records)).records)

    server_named : (w : World) (m : Message) → Q (serve p (server_of p w.server) m).answer → SaysOnly P Q (server_called p w m).words
    server_named w m reply = on (stopped (w.stops server_name) (serve p (server_of p w.server) m).records)
      where
        on : (o : Option (List ServerRecord)) → SaysOnly P Q (server_ends w (serve p (server_of p w.server) m) o).words
        on None = reply
        on (Some stand) = tt

  -- ---- replies
  there_named : (Code : ℕ → Type 0) (s : Server I) (c cursor settled : ℕ) (go : List (Changeset I) → ServerStep) → ((xs : List (Changeset I)) → RefusesBy Code (go xs).answer)
      → IsFair (if_there p s c cursor settled go).answer → RefusesBy Code (if_there p s c cursor settled go).answer
  there_named Code s c cursor settled go each = on (is_given s c) (nat_lt (length s.log) cursor)
    where
      on : (a b : Bool) → IsFair (if not a then refuses c 0 (servers.NoSuchIdent (length s.ids)) else (if b then refuses c 0 (servers.AheadOfHistory (length s.log)) else marking c (s.marks c) cursor settled (go (entries_from p s.log (length s.log - cursor) cursor)).answer)).answer
          → RefusesBy Code (if not a then refuses c 0 (servers.NoSuchIdent (length s.ids)) else (if b then refuses c 0 (servers.AheadOfHistory (length s.log)) else marking c (s.marks c) cursor settled (go (entries_from p s.log (length s.log - cursor) cursor)).answer)).answer
      on false b fair = absurd (fair_code 60 (omega arith) (omega arith) fair.0 fair.1 fair.3)
      on true true fair = absurd (fair_code 63 (omega arith) (omega arith) fair.0 fair.1 fair.3)
      on true false fair = each (entries_from p s.log (length s.log - cursor) cursor)

  first_named : (c cursor : ℕ) (xs : List (Changeset I)) → RefusesBy (λ code. code ≡ 67) (download_first p c cursor xs).answer
  first_named c cursor [] = tt
  first_named c cursor (x ∷ xs) = go (needs p x.instrs)
    where
      go : (b : Bool) → RefusesBy (λ code. code ≡ 67) (if b then refuses c 0 (servers.NeedsForm2 cursor) else download p c cursor (first_form p (x ∷ xs))).answer
      go true = refl
      go false = tt

  tables_named : (second : Bool) (tables : Tables) (c cursor : ℕ) (xs : List (Changeset I)) → RefusesBy (λ code. code ≡ 67) (download_tables p second tables c cursor xs).answer
  tables_named true tables c cursor xs = tt
  tables_named false tables c cursor xs = first_named c cursor (map (restricted p (Some tables)) xs)

  retire_named : (s : Server I) (c by : ℕ) → IsFair (serve_retire s c by).answer → RefusesBy (λ code. ⊥) (serve_retire s c by).answer
  retire_named s c by = on (is_given s c && is_given s by) (c == by) (heir_of c s.retired)
    where
      again : (b : Bool) (other : ℕ) → IsFair (if b then replies (Retired c by (servers.count s c)) else refuses by 0 (servers.RetiredBy other)).answer
          → RefusesBy (λ code. ⊥) (if b then replies (Retired c by (servers.count s c)) else refuses by 0 (servers.RetiredBy other)).answer
      again true other fair = tt
      again false other fair = fair_below 70 (omega arith) fair.0 fair.1 fair.3

      once : (o : Option ℕ) → IsFair (retire_for s c by o).answer → RefusesBy (λ code. ⊥) (retire_for s c by o).answer
      once None fair = tt
      once (Some other) fair = again (other == by) other fair

      on : (a b : Bool) (o : Option ℕ) → IsFair (if not a then refuses by 0 (servers.NoSuchIdent (length s.ids)) else (if b then refuses by 0 (servers.SelfRetire c) else retire_for s c by o)).answer
          → RefusesBy (λ code. ⊥) (if not a then refuses by 0 (servers.NoSuchIdent (length s.ids)) else (if b then refuses by 0 (servers.SelfRetire c) else retire_for s c by o)).answer
      on false b o fair = absurd (fair_code 60 (omega arith) (omega arith) fair.0 fair.1 fair.3)
      on true true o fair = absurd (fair_below 69 (omega arith) fair.0 fair.1 fair.3)
      on true false o fair = once o fair

  reply_named : (s : Server I) (m : Message) → IsFair (serve p s m).answer
      → ((c : ℕ) (changes : List Change) → m ≡ Upload c changes → RefusesBy IsOfChange (serve p s m).answer) → IsNamedReply m (serve p s m).answer
  reply_named s (Bind u) fair up = go (place_of u s.ids == 0) (length s.ids == p.full)
    where
      go : (a b : Bool) → RefusesBy (λ code. code ≡ 65) (if not a then replies (Ident u (place_of u s.ids)) else (if b then refuses 0 0 (servers.IdentsFull (length s.ids)) else record { records = servers.Client u ∷ []; answer = Ident u (suc (length s.ids)) })).answer
      go false b = tt
      go true true = refl
      go true false = tt
  reply_named s (Upload c changes) fair up = (fair, up c changes refl)
  reply_named s (Ask c cursor settled) fair up = there_named (λ code. code ≡ 67) s c cursor settled (download_first p c cursor) (first_named c cursor) fair
  reply_named s (Ask2 c cursor settled) fair up = there_named (λ code. ⊥) s c cursor settled (download p c cursor) (λ xs. tt) fair
  reply_named s (AskTables c cursor settled second tables) fair up = there_named (λ code. code ≡ 67) s c cursor settled (download_tables p second tables c cursor) (tables_named second tables c cursor) fair
  reply_named s (Retire c by) fair up = retire_named s c by fair
  reply_named s (Retired c by number) fair up = refl
  reply_named s (Ident u c) fair up = refl
  reply_named s (Download c from entries) fair up = refl
  reply_named s (Stored c number) fair up = refl
  reply_named s (Refused c number code place) fair up = refl

  there_message : (w : World) (k : ℕ) (m : Message) → message_at w k ≡ Some m → (n : ℕ) × (at w.messages n ≡ Some m)
  there_message w zero m is = cc
  there_message w (suc n) m is = (n, is)

-- ---- events
joins_named : (w : World) (name : Name) (records : List ClientRecord) (a b : Bool)
    → SaysOnly (λ why. ⊥) (λ reply. ⊥) (if a then says w worlds.NameTaken else (if b then says w worlds.UuidTaken else says (record w { clients = w.clients ++ record { name = name; records = records } ∷ [] }) (worlds.Joined name))).words
joins_named w name records true b = tt
joins_named w name records false true = tt
joins_named w name records false false = tt

module _ (w : World) (all : AllBorn w) (holds : Holds the_profile w) (facts : WorldFacts the_profile IsState w) where
  born : (place : ℕ) (nd : Node) → at w.clients place ≡ Some nd → (v : Uuid) × ((client_of the_profile nd.records).id ≡ Some v)
  born place nd here = born_id the_profile nd (each_at w.clients place nd all here)

  pub event_named : (e : Event Instr) → IsNamedOutcome w e (happens the_profile w e).words
  event_named (Joins name id) = joins_named w name _ (is_node w name) (is_there (seek (has_id the_profile id) w.clients) || is_there (seek (λ u. bytes_eq id u) w.injected))
  event_named (Starts name id) = joins_named w name _ (is_node w name) (is_there (seek (has_id the_profile id) w.clients) || is_there (seek (λ u. bytes_eq id u) w.injected))
  event_named (Edits name ms edits) = calls_named the_profile MayNotCommit (λ reply. ⊥) w name (λ c. commit the_profile c ms edits) made_words
      (λ place nd here. let b = born place nd here in made_named the_profile MayNotCommit (λ reply. ⊥) (commit the_profile (client_of the_profile nd.records) ms edits).answer (commit_named the_profile (client_of the_profile nd.records) b.0 b.1 ms edits))
  event_named (Binds name) = calls_named the_profile (λ why. ⊥) (λ reply. ⊥) w name bind message_words
      (λ place nd here. let b = born place nd here in message_named the_profile (λ why. ⊥) (λ reply. ⊥) (bind (client_of the_profile nd.records)).answer (bind_named the_profile (client_of the_profile nd.records) b.0 b.1))
  event_named (Uploads name) = calls_named the_profile MayNotSend (λ reply. ⊥) w name (upload the_profile) message_words
      (λ place nd here. let b = born place nd here in message_named the_profile MayNotSend (λ reply. ⊥) (upload the_profile (client_of the_profile nd.records)).answer (named_call the_profile (client_of the_profile nd.records) b.0 b.1 _))
  event_named (Asks name) = calls_named the_profile MayNotSend (λ reply. ⊥) w name ask message_words
      (λ place nd here. let b = born place nd here in message_named the_profile MayNotSend (λ reply. ⊥) (ask (client_of the_profile nd.records)).answer (named_call the_profile (client_of the_profile nd.records) b.0 b.1 _))
  event_named (Upgrades name) = calls_named the_profile (λ why. ⊥) (λ reply. ⊥) w name upgrade upgrade_words
      (λ place nd here. let b = born place nd here in upgraded_named the_profile (λ why. ⊥) (λ reply. ⊥) (upgrade (client_of the_profile nd.records)).answer (upgrade_named the_profile (client_of the_profile nd.records) b.0 b.1))
  event_named (Subscribes name tables) = calls_named the_profile MayNotSubscribe (λ reply. ⊥) w name (λ c. subscribe c tables) subscribe_words
      (λ place nd here. let b = born place nd here in subscribed_named the_profile MayNotSubscribe (λ reply. ⊥) (subscribe (client_of the_profile nd.records) tables).answer (subscribe_named the_profile (client_of the_profile nd.records) b.0 b.1 tables))
  event_named (Delivers message to) = go (is_node w to) (message_at w message) refl
    where
      comes : (b : Bool) (m : Message) (n : ℕ) → at w.messages n ≡ Some m → SaysOnly (MayNotTake m) (IsNamedReply m) (if b then server_called the_profile w m else client_calls the_profile w to (λ c. take_message the_profile c m) took_words).words
      comes true m n here = server_named the_profile (MayNotTake m) (IsNamedReply m) w m (reply_named the_profile (server_of the_profile w.server) m (facts.replies n m here) (λ c changes is.
          subst (λ z. RefusesBy IsOfChange (serve the_profile (server_of the_profile w.server) z).answer) (sym is) (upload_named w holds n c changes (here ∙ ap (λ z. Some z) is))))
      comes false m n here = calls_named the_profile (MayNotTake m) (IsNamedReply m) w to (λ c. take_message the_profile c m) took_words
          (λ place nd there. let b = born place nd there in took_named the_profile (MayNotTake m) (IsNamedReply m) (take_message the_profile (client_of the_profile nd.records) m).answer
          (λ why is. take_named the_profile (client_of the_profile nd.records) b.0 b.1 m why is (facts.declines n m here place nd there why is)))

      go : (b : Bool) (m : Option Message) → message_at w message ≡ m → SaysOnly (IsDeclineOf m) (IsReplyTo m) (if b then delivers the_profile w to m else says w worlds.NoNode).words
      go true None is = tt
      go true (Some m) is = let at_n = there_message the_profile w message m is in comes (bytes_eq to server_name) m at_n.0 at_n.1
      go false None is = tt
      go false (Some m) is = tt
  event_named (Restarts node) = go (is_node w node)
    where
      go : (b : Bool) → SaysOnly (λ why. ⊥) (λ reply. ⊥) (if b then worlds.Opened else worlds.NoNode)
      go true = tt
      go false = tt
  event_named (Stops node k leaves) = go (is_node w node)
    where
      go : (b : Bool) → SaysOnly (λ why. ⊥) (λ reply. ⊥) (if b then says (record w { stops = arm node (Some (record { at = k; leaves = leaves })) w.stops }) worlds.Armed else says w worlds.NoNode).words
      go true = tt
      go false = tt
  event_named (Injects None) = tt
  event_named (Injects (Some m)) = go (names_own the_profile w m)
    where
      go : (b : Bool) → SaysOnly (λ why. ⊥) (λ reply. Unit {0}) (if b then says w worlds.OwnIdent else server_called the_profile (named_by w m) m).words
      go true = tt
      go false = server_named the_profile (λ why. ⊥) (λ reply. Unit {0}) (named_by w m) m tt
