-- What is told of events, as the model has them: how many messages there are afterwards.
use Rattle.std.proofs.Common.{◌≡◌, ◌+◌, ℕ, Bool, true, false, List, [], ◌∷◌, ◌++◌, length, length-append, Option, None, Some, Result, Ok, Err, refl, sym, ap, ◌∙◌, add-zero, if◌then◌else◌, bytes_eq}
use Rattle.sync_model.specs.Bytes.{Name}
use Rattle.sync_model.specs.Messages.{Message}
use Rattle.sync_model.specs.Clients.{Client, ClientRecord, ClientRefusal, ClientStep, client_of, commit, upgrade, subscribe, bind, upload, ask, take as take_message}
use Rattle.sync_model.specs.Profile.{Profile}
use Rattle.sync_model.specs.Servers.{ServerRecord, ServerStep, server_of, serve}
use Rattle.sync_model.specs.Worlds.{Event, Node, Outcome, Words, World, client_called, client_calls, client_ends, client_moved, delivers, happens, has_name, injects, is_node, made_words, message_at, message_words, messaged, named_by, names_own, reply_words, says, seek, server_called, server_ends, server_moved, server_name, stopped, subscribe_words, took_words, upgrade_words}
use Rattle.sync_top.specs.Telling.{Tells, is_message, one_if}

-- ---- one outcome or another
either : {w : World} (b : Bool) (x y : Outcome) → Tells w x → Tells w y → Tells w (if b then x else y)
either true x y hx hy = hx
either false x y hx hy = hy

-- a message is one more
one_more : (v w : World) (m : Message) → v.messages ≡ w.messages → length (v.messages ++ m ∷ []) ≡ length w.messages + 1
one_more v w m same = length-append v.messages (m ∷ []) ∙ ap (λ ms. length ms + 1) same

messaged_tells : (w v : World) (m : Message) → v.messages ≡ w.messages → Tells w (messaged v m)
messaged_tells w v m same = record { messages = one_more v w m same }

reply_tells : (w v : World) (m : Message) → v.messages ≡ w.messages → Tells w (reply_words v m)
reply_tells w v m same = record { messages = one_more v w m same }

none : (v w : World) → v.messages ≡ w.messages → length v.messages ≡ length w.messages + 0
none v w same = ap length same ∙ sym (add-zero (length w.messages))

-- ---- the answers of calls
abbrev AnswerTells : {A : Type 0} → World → (World → Result A ClientRefusal → Outcome) → Type 0
AnswerTells {A} w words = (v : World) (r : Result A ClientRefusal) → v.messages ≡ w.messages → Tells w (words v r)

message_tells : (w : World) → AnswerTells w message_words
message_tells w v (Ok m) same = messaged_tells w v m same
message_tells w v (Err r) same = record { messages = none v w same }

made_tells : (w : World) → AnswerTells w made_words
made_tells w v (Ok n) same = record { messages = none v w same }
made_tells w v (Err r) same = record { messages = none v w same }

took_tells : (w : World) → AnswerTells w took_words
took_tells w v (Ok n) same = record { messages = none v w same }
took_tells w v (Err r) same = record { messages = none v w same }

upgrade_tells : (w : World) → AnswerTells w upgrade_words
upgrade_tells w v (Ok true) same = record { messages = none v w same }
upgrade_tells w v (Ok false) same = record { messages = none v w same }
upgrade_tells w v (Err r) same = record { messages = none v w same }

subscribe_tells : (w : World) → AnswerTells w subscribe_words
subscribe_tells w v (Ok done) same = record { messages = none v w same }
subscribe_tells w v (Err r) same = record { messages = none v w same }

-- a call that is answered, or stops
ends_tells : {A : Type 0} (w : World) (place : ℕ) (n : Node) (did : ClientStep A) (words : World → Result A ClientRefusal → Outcome) → AnswerTells w words → (stand : Option (List ClientRecord)) → Tells w (client_ends w place n did words stand)
ends_tells w place n did words tells None = tells (client_moved w place n did.records) did.answer refl
ends_tells w place n did words tells (Some stand) = record { messages = none (client_moved w place n stand) w refl }

served_tells : (w v : World) → v.messages ≡ w.messages → (did : ServerStep) (stand : Option (List ServerRecord)) → Tells w (server_ends v did stand)
served_tells w v same did None = reply_tells w (server_moved v did.records) did.answer same
served_tells w v same did (Some stand) = record { messages = none (server_moved v stand) w same }

nothing_tells : (w : World) (x : Words) → is_message x ≡ false → Tells w (says w x)
nothing_tells w x untold = record { messages = sym (add-zero (length w.messages)) ∙ ap (λ b. length w.messages + one_if b) (sym untold) }

named_same : (w : World) (m : Message) → (named_by w m).messages ≡ w.messages
named_same w (Message.Bind u) = refl
named_same w (Message.Ident u c) = refl
named_same w (Message.Upload c changes) = refl
named_same w (Message.Ask c cursor settled) = refl
named_same w (Message.Download c from entries) = refl
named_same w (Message.Refused c number code place) = refl
named_same w (Message.Stored c number) = refl
named_same w (Message.Ask2 c cursor settled) = refl
named_same w (Message.Retire c by) = refl
named_same w (Message.Retired c by number) = refl
named_same w (Message.AskTables c cursor settled second tables) = refl

restarts_tells : (w : World) (there : Bool) → Tells w (says w (if there then Words.Opened else Words.NoNode))
restarts_tells w true = nothing_tells w Words.Opened refl
restarts_tells w false = nothing_tells w Words.NoNode refl

module _ {I S : Type 0} (p : Profile I S) where
  called_tells : {A : Type 0} (w : World) (call : Client I S → ClientStep A) (words : World → Result A ClientRefusal → Outcome) → AnswerTells w words → (q : Option (ℕ × Node)) → Tells w (client_called p w call words q)
  called_tells w call words tells None = nothing_tells w Words.NoNode refl
  called_tells w call words tells (Some q) = ends_tells w q.0 q.1 (call (client_of p q.1.records)) words tells (stopped (w.stops q.1.name) (call (client_of p q.1.records)).records)

  calls_tells : {A : Type 0} (w : World) (name : Name) (call : Client I S → ClientStep A) (words : World → Result A ClientRefusal → Outcome) → AnswerTells w words → Tells w (client_calls p w name call words)
  calls_tells w name call words tells = called_tells w call words tells (seek (has_name name) w.clients)

  server_tells : (w v : World) → v.messages ≡ w.messages → (m : Message) → Tells w (server_called p v m)
  server_tells w v same m = served_tells w v same (serve p (server_of p v.server) m) (stopped (v.stops server_name) (serve p (server_of p v.server) m).records)

  delivers_tells : (w : World) (to : Name) (o : Option Message) → Tells w (delivers p w to o)
  delivers_tells w to None = nothing_tells w Words.NoMessage refl
  delivers_tells w to (Some m) = either (bytes_eq to server_name) (server_called p w m) (client_calls p w to (λ c. take_message p c m) took_words) (server_tells w w refl m) (calls_tells w to (λ c. take_message p c m) took_words (took_tells w))

  injects_tells : (w : World) (o : Option Message) → Tells w (injects p w o)
  injects_tells w None = nothing_tells w Words.BadMessage refl
  injects_tells w (Some m) = either (names_own p w m) (says w Words.OwnIdent) (server_called p (named_by w m) m) (nothing_tells w Words.OwnIdent refl) (server_tells w (named_by w m) (named_same w m) m)

  joins_tells : (w : World) (name : Name) (records : List ClientRecord) (taken known : Bool) → Tells w (if taken then says w Words.NameTaken else if known then says w Words.UuidTaken else says (record w { clients = w.clients ++ record { name = name; records = records } ∷ [] }) (Words.Joined name))
  joins_tells w name records true known = nothing_tells w Words.NameTaken refl
  joins_tells w name records false true = nothing_tells w Words.UuidTaken refl
  joins_tells w name records false false = record { messages = sym (add-zero (length w.messages)) }

  pub happens_tells : (w : World) (e : Event I) → Tells w (happens p w e)
  happens_tells w (Event.Joins name id) = joins_tells w name _ _ _
  happens_tells w (Event.Starts name id) = joins_tells w name _ _ _
  happens_tells w (Event.Edits name ms edits) = calls_tells w name (λ c. commit p c ms edits) made_words (made_tells w)
  happens_tells w (Event.Binds name) = calls_tells w name bind message_words (message_tells w)
  happens_tells w (Event.Uploads name) = calls_tells w name (upload p) message_words (message_tells w)
  happens_tells w (Event.Asks name) = calls_tells w name ask message_words (message_tells w)
  happens_tells w (Event.Upgrades name) = calls_tells w name upgrade upgrade_words (upgrade_tells w)
  happens_tells w (Event.Subscribes name tables) = calls_tells w name (λ c. subscribe c tables) subscribe_words (subscribe_tells w)
  happens_tells w (Event.Delivers message to) = either (is_node w to) (delivers p w to (message_at w message)) (says w Words.NoNode) (delivers_tells w to (message_at w message)) (nothing_tells w Words.NoNode refl)
  happens_tells w (Event.Restarts node) = restarts_tells w (is_node w node)
  happens_tells w (Event.Stops node k leaves) = either (is_node w node) _ (says w Words.NoNode) (record { messages = sym (add-zero (length w.messages)) }) (nothing_tells w Words.NoNode refl)
  happens_tells w (Event.Injects m) = injects_tells w m
