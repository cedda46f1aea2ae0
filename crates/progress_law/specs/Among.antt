-- A client's rounds among any other events: what was sent comes at any later time, and anything may happen before.
use Rattle.std.specs.Prelude.{◌≡◌, ◌≤◌, ℕ, suc, ◌+◌, ◌-◌, List, [], ◌∷◌, ◌++◌, Some, drop, length, map}
use Rattle.sync_theory.specs.Logs.{of_origin}
use Rattle.sync_model.specs.Bytes.{Name}
use Rattle.sync_model.specs.Profile.{Profile, fitting}
use Rattle.sync_model.specs.Messages.{Change, Sent}
use Rattle.sync_model.specs.Each.{Each}
use Rattle.sync_model.specs.Clients.{change_of, client_of, to_upload}
use Rattle.sync_model.specs.Servers.{count, server_of}
use Rattle.sync_model.specs.Worlds.{Node, World, Words, Event, Binds, Uploads, Asks, Delivers, at, server_name, happens, world_after}
use Rattle.sync_model.specs.Log.{ident_of, log}
use Rattle.sync_model.specs.Progress.{Comes, HasCaughtUp, lacks, load}

-- what happens beside a round, whatever it is
pub record Beside (I : Type 0) : Type 0 where
  -- before the client uploads, and before the server gets that
  pub uploads : List (Event I)
  pub stores : List (Event I)
  -- before the client asks, before the server gets that, and before the client gets the reply
  pub asks : List (Event I)
  pub answers : List (Event I)
  pub takes : List (Event I)

-- how long a body is, of a change and of an entry
abbrev pub change_size : Change → ℕ
change_size h = length h.body

abbrev pub entry_size : Sent → ℕ
entry_size e = length e.body

module _ {I S : Type 0} (p : Profile I S) where
  -- the message that an event makes has the next number
  abbrev pub next : World → ℕ
  next w = suc (length w.messages)

  -- the world after an event and those beside it
  abbrev pub and_then : World → Event I → List (Event I) → World
  and_then w e es = world_after p w (e ∷ es)

  -- ---- a round of the client of this name; the reply to its upload may come beside it, or never

  -- the worlds before each of its events
  abbrev pub at_upload : Name → World → Beside I → World
  at_upload name w b = world_after p w b.uploads

  abbrev pub at_store : Name → World → Beside I → World
  at_store name w b = and_then (at_upload name w b) (Uploads name) b.stores

  abbrev pub at_ask : Name → World → Beside I → World
  at_ask name w b = and_then (at_store name w b) (Delivers (next (at_upload name w b)) server_name) b.asks

  abbrev pub at_answer : Name → World → Beside I → World
  at_answer name w b = and_then (at_ask name w b) (Asks name) b.answers

  abbrev pub at_take : Name → World → Beside I → World
  at_take name w b = and_then (at_answer name w b) (Delivers (next (at_ask name w b)) server_name) b.takes

  -- and after them
  abbrev pub after_round : Name → World → Beside I → World
  after_round name w b = and_then (at_take name w b) (Delivers (next (at_answer name w b)) name) []

  -- what is said of its own events
  abbrev pub own_words : Name → World → Beside I → List Words
  own_words name w b =
      (happens p (at_upload name w b) (Uploads name)).words
      ∷ (happens p (at_store name w b) (Delivers (next (at_upload name w b)) server_name)).words
      ∷ (happens p (at_ask name w b) (Asks name)).words
      ∷ (happens p (at_answer name w b) (Delivers (next (at_ask name w b)) server_name)).words
      ∷ (happens p (at_take name w b) (Delivers (next (at_answer name w b)) name)).words
      ∷ []

  -- all events, in order
  abbrev pub round_among : Name → World → Beside I → List (Event I)
  round_among name w b =
      b.uploads ++ (Uploads name ∷ (b.stores ++ (Delivers (next (at_upload name w b)) server_name
      ∷ (b.asks ++ (Asks name ∷ (b.answers ++ (Delivers (next (at_ask name w b)) server_name
      ∷ (b.takes ++ (Delivers (next (at_answer name w b)) name ∷ [])))))))))

  -- ---- what it brings

  -- the server has each change that the upload bore, and the client as many entries more as a message bears of those that it
  -- lacked when it asked and the server answered
  pub record Brings (name : Name) (w : World) (b : Beside I) (i : ℕ) : Type 0 where
    pub sender : Node
    pub sends : at (at_upload name w b).clients i ≡ Some sender
    pub asker : Node
    pub asks : at (at_ask name w b).clients i ≡ Some asker
    pub taker : Node
    pub takes : at (after_round name w b).clients i ≡ Some taker
    pub stored : Each (λ x. x.number ≤ count (server_of p (after_round name w b).server) (client_of p sender.records).ident) (to_upload p (client_of p sender.records))
    pub told : (client_of p asker.records).cursor + length (load p (lacks p (at_answer name w b) asker)) ≤ (client_of p taker.records).cursor

  -- a message bears all that is unsent, and another all that the client lacks
  pub record BearsAll (name : Name) (w : World) (b : Beside I) (i : ℕ) : Type 0 where
    pub up : (nd : Node) → at (at_upload name w b).clients i ≡ Some nd → length (to_upload p (client_of p nd.records)) ≡ length (client_of p nd.records).unsent
    pub down : (nd : Node) → at (at_ask name w b).clients i ≡ Some nd → length (load p (lacks p (at_answer name w b) nd)) ≡ length (lacks p (at_answer name w b) nd)

  -- the client has the history that the server had when it answered, and in it are all changes that the client had made when it
  -- uploaded
  pub record HasBoth (name : Name) (w : World) (b : Beside I) (i : ℕ) : Type 0 where
    pub history : (nd : Node) → at (after_round name w b).clients i ≡ Some nd → length (log p (at_answer name w b)) ≤ (client_of p nd.records).cursor
    pub changes : (nd : Node) → at (at_upload name w b).clients i ≡ Some nd → length (client_of p nd.records).made ≤ count (server_of p (at_answer name w b).server) (client_of p nd.records).ident

  -- how many entries a client has, and how many of its changes the server has
  abbrev pub reach : World → Node → ℕ
  reach w nd = (client_of p nd.records).cursor + length (of_origin (ident_of p w nd) (log p w))

  -- it was current when it uploaded, and so it was when the server answered: nothing was added to the history between
  pub record WasCurrent (name : Name) (w : World) (b : Beside I) : Type 0 where
    pub current : HasCaughtUp p (at_upload name w b) name
    pub since : log p (at_answer name w b) ≡ log p (at_upload name w b)

  -- ---- rounds

  -- the world after a round for each of these
  abbrev pub after_all_rounds : Name → World → List (Beside I) → World
  after_all_rounds name w [] = w
  after_all_rounds name w (b ∷ bs) = after_all_rounds name (after_round name w b) bs

  -- all events, in order
  abbrev pub rounds_among : Name → World → List (Beside I) → List (Event I)
  rounds_among name w [] = []
  rounds_among name w (b ∷ bs) = round_among name w b ++ rounds_among name (after_round name w b) bs

  -- in one of the rounds an exception comes, or this is said of it
  pub data GetsAmong (q : Words → Type 0) (r : World → Beside I → Type 0) (name : Name) : World → List (Beside I) → Type 0 where
    among_exception : {w : World} {b : Beside I} {bs : List (Beside I)} → Comes q (own_words name w b) → GetsAmong q r name w (b ∷ bs)
    among_now : {w : World} {b : Beside I} {bs : List (Beside I)} → r w b → GetsAmong q r name w (b ∷ bs)
    among_later : {w : World} {b : Beside I} {bs : List (Beside I)} → GetsAmong q r name (after_round name w b) bs → GetsAmong q r name w (b ∷ bs)

  -- in one of the rounds an exception comes
  abbrev pub HinderedAmong : (Words → Type 0) → Name → World → List (Beside I) → Type 0
  HinderedAmong q name w bs = GetsAmong q (λ v b. ⊥) name w bs

  -- only changes of this client were added to the history, and it made none
  pub record IsAlone (w end : World) (nd last : Node) : Type 0 where
    pub history : length (log p end) + count (server_of p w.server) (client_of p nd.records).ident ≤ length (log p w) + count (server_of p end.server) (client_of p nd.records).ident
    pub made : length (client_of p last.records).made ≤ length (client_of p nd.records).made

  -- ---- what messages bear

  -- so many messages bear all of these, each as many of those that are left as it may
  pub data AreCarried {A : Type 0} (size : A → ℕ) : ℕ → List A → Type 0 where
    none_left : {k : ℕ} → AreCarried size k []
    a_message : {k : ℕ} {xs : List A} → AreCarried size k (drop (length (fitting size p.most p.room xs)) xs) → AreCarried size (suc k) xs

  -- the changes that a client has unsent, and those that it made since
  abbrev pub to_send : Node → Node → List Change
  to_send nd end = map (change_of p) (drop (length (client_of p nd.records).made - length (client_of p nd.records).unsent) (client_of p end.records).made)

  -- ---- a client asks for its ident, among other events

  -- the worlds before each of the three events, and after them
  abbrev pub at_bind : Name → World → List (Event I) → World
  at_bind name w before = world_after p w before

  abbrev pub at_give : Name → World → List (Event I) → List (Event I) → World
  at_give name w before between = and_then (at_bind name w before) (Binds name) between

  abbrev pub at_named : Name → World → List (Event I) → List (Event I) → List (Event I) → World
  at_named name w before between after = and_then (at_give name w before between) (Delivers (next (at_bind name w before)) server_name) after

  abbrev pub after_bind : Name → World → List (Event I) → List (Event I) → List (Event I) → World
  after_bind name w before between after = and_then (at_named name w before between after) (Delivers (next (at_give name w before between)) name) []

  -- what is said of them
  abbrev pub bind_words : Name → World → List (Event I) → List (Event I) → List (Event I) → List Words
  bind_words name w before between after =
      (happens p (at_bind name w before) (Binds name)).words
      ∷ (happens p (at_give name w before between) (Delivers (next (at_bind name w before)) server_name)).words
      ∷ (happens p (at_named name w before between after) (Delivers (next (at_give name w before between)) name)).words
      ∷ []
