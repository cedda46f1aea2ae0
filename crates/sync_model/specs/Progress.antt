-- Quiet worlds, the events by which a client catches up, and what may keep it from that.
use Rattle.std.specs.Prelude.{bytes_eq, ◌≡◌, ◌≢◌, ◌⊎◌, ◌≤◌, ◌<◌, ℕ, zero, suc, ◌+◌, ◌-◌, Bool, false, true, List, [], ◌∷◌, ◌++◌, Option, Some, None, if◌then◌else◌, length, map, drop}
use Rattle.sync_theory.specs.Logs.{of_origin}
use Rattle.sync_model.specs.Bytes.{Name}
use Rattle.sync_model.specs.Profile.{Profile, IsNamedKind, is_small, restricted, fitting}
use Rattle.sync_model.specs.Messages.{Message, Sent, Refused}
use Rattle.sync_model.specs.Clients.{ClientRefusal, Mismatch, client_of, settled_from}
use Rattle.sync_model.specs.Servers.{ServerRecord, ServerRefusal, HistoryFull, IdentsFull, NeedsForm2, code_of, at_place, sent_of, entries_from}
use Rattle.sync_model.specs.Worlds.{Node, World, Words, Declined, Replied, Stopped, NoMessage, BadMessage, OwnIdent, Event, Binds, Uploads, Asks, Delivers, Injects, at, has_name, seek, server_name, stopped, message_at, names_own, named_by, happens, outcomes, world_after}
use Rattle.sync_model.specs.Log.{ident_of, log, subset_of}
use Rattle.sync_model.specs.Parts.{Parts, Served, serve_by}
use Rattle.sync_model.specs.Trims.{is_trimmed}
use Rattle.sync_model.specs.Later.{Later, Happens, later_after, all_later}

-- ---- what may keep a client from the end of the history

-- what a client declines of a Download
abbrev pub MayStop : ClientRefusal → Type 0
MayStop (Mismatch version number kind) = IsNamedKind kind
MayStop why = ⊥

-- what the server refuses: an ident's changes by a mismatch or a full history, a new uuid where idents are full, and an Ask of a client of form 1
abbrev pub MayHinder : Type 0 → Type 0 → ServerRefusal → Type 0
MayHinder unnamed old (HistoryFull n) = Unit {0}
MayHinder unnamed old (ServerRefusal.Mismatch place kind) = IsNamedKind kind
MayHinder unnamed old (IdentsFull n) = unnamed
MayHinder unnamed old (NeedsForm2 n) = old
MayHinder unnamed old why = ⊥

-- the named exceptions: where a disk was armed, where the uuid was unknown, and where the client's file is in form 1
abbrev pub IsException : Type 0 → Type 0 → Type 0 → Words → Type 0
IsException armed unnamed old (Declined why) = MayStop why
IsException armed unnamed old (Replied place (Refused ident number code spot)) = (why : ServerRefusal) × (code ≡ code_of why) × (spot ≡ at_place why) × MayHinder unnamed old why
IsException armed unnamed old Stopped = armed
IsException armed unnamed old words = ⊥

-- code 71, where what a client settled lies before the server's floor
abbrev pub IsBelowFloor : Type 0 → Words → Type 0
IsBelowFloor below (Replied place m) = (is_trimmed m ≡ true) × below
IsBelowFloor below words = ⊥

-- one of these words is such a one
pub data Comes (q : Words → Type 0) : List Words → Type 0 where
  comes_now : {x : Words} {xs : List Words} → q x → Comes q (x ∷ xs)
  comes_later : {x : Words} {xs : List Words} → Comes q xs → Comes q (x ∷ xs)

-- ---- the events; so many messages were made before

-- a client asks for its ident
abbrev pub binds_at : {I : Type 0} → Name → ℕ → List (Event I)
binds_at name n = Binds name ∷ Delivers (suc n) server_name ∷ Delivers (suc (suc n)) name ∷ []

-- it sends what it has unsent
abbrev pub uploads_at : {I : Type 0} → Name → ℕ → List (Event I)
uploads_at name n = Uploads name ∷ Delivers (suc n) server_name ∷ Delivers (suc (suc n)) name ∷ []

-- it asks for what is new
abbrev pub asks_at : {I : Type 0} → Name → ℕ → List (Event I)
asks_at name n = Asks name ∷ Delivers (suc n) server_name ∷ Delivers (suc (suc n)) name ∷ []

-- both, so many times
abbrev pub rounds : {I : Type 0} → Name → ℕ → ℕ → List (Event I)
rounds name n zero = []
rounds name n (suc k) = uploads_at name n ++ (asks_at name (suc (suc n)) ++ rounds name (suc (suc (suc (suc n)))) k)

-- how many messages were made after them
abbrev pub after_rounds : ℕ → ℕ → ℕ
after_rounds n zero = n
after_rounds n (suc k) = after_rounds (suc (suc (suc (suc n)))) k

-- a client catches up in so many rounds
abbrev pub catches_up : {I : Type 0} → Name → ℕ → ℕ → List (Event I)
catches_up name n k = binds_at name n ++ rounds name (suc (suc n)) k

-- these clients catch up one after another
abbrev pub sweep : {I : Type 0} → List Node → ℕ → ℕ → List (Event I)
sweep [] n k = []
sweep (nd ∷ nds) n k = catches_up nd.name n k ++ sweep nds (after_rounds (suc (suc n)) k) k

-- how many messages were made after that
abbrev pub after_sweep : List Node → ℕ → ℕ → ℕ
after_sweep [] n k = n
after_sweep (nd ∷ nds) n k = after_sweep nds (after_rounds (suc (suc n)) k) k

-- all clients of a world catch up one after another, and then each once more
abbrev pub all_catch_up : {I : Type 0} → World → ℕ → List (Event I)
all_catch_up w k = sweep w.clients (length w.messages) k ++ sweep w.clients (after_sweep w.clients (length w.messages) k) k

-- what is said of a server's answer, or of a stop before it
abbrev pub answered_words : {I S : Type 0} → World → Served I S → Option (List ServerRecord) → Words
answered_words w did None = Replied (suc (length w.messages)) did.answer
answered_words w did (Some stand) = Stopped

module _ {I S : Type 0} (p : Profile I S) where
  -- a message bears at least one changeset, whichever it is
  pub record IsRoomy : Type 0 where
    pub some : 1 ≤ p.most
    pub fits : (is : List I) → is_small p is ≡ Bool.true → length (p.spell is) ≤ p.room

  -- ---- quiet

  -- a client stands at the end of the history, with nothing unsent
  pub record IsCurrent (w : World) (nd : Node) : Type 0 where
    pub cursor : (client_of p nd.records).cursor ≡ length (log p w)
    pub unsent : (client_of p nd.records).unsent ≡ []

  -- so does each that the server knows
  abbrev pub IsQuiet : World → Type 0
  IsQuiet w = (i : ℕ) (nd : Node) → at w.clients i ≡ Some nd → ident_of p w nd ≢ 0 → IsCurrent w nd

  -- ---- caught up

  -- how many changes of a client the server lacks
  abbrev pub missing : World → Node → ℕ
  missing w nd = length (client_of p nd.records).made - length (of_origin (ident_of p w nd) (log p w))

  -- how many rounds are enough: one for each entry that it lacks, and for each change that the server lacks
  abbrev pub enough : World → Node → ℕ
  enough w nd = (length (log p w) - (client_of p nd.records).cursor) + missing w nd

  -- a disk of the exchange's two nodes is armed
  abbrev pub IsArmed : World → Node → Type 0
  IsArmed w nd = (w.stops nd.name ≢ None) ⊎ (w.stops server_name ≢ None)

  -- the client of this name has its ident and is current
  pub record HasCaughtUp (w : World) (name : Name) : Type 0 where
    pub place : ℕ
    pub node : Node
    pub found : seek (has_name name) w.clients ≡ Some (place, node)
    pub named : ident_of p w node ≢ 0
    pub current : IsCurrent w node

  -- ---- all of them

  -- how many changes these clients made
  abbrev pub made_by_all : List Node → ℕ
  made_by_all [] = 0
  made_by_all (nd ∷ nds) = length (client_of p nd.records).made + made_by_all nds

  -- so many rounds are enough for each client of a world: one for each entry, and for each change that a client made
  abbrev pub enough_for_all : World → ℕ
  enough_for_all w = length (log p w) + made_by_all w.clients

  -- some disk is armed, some uuid is unknown to the server, some client's file is in form 1
  abbrev pub AnyArmed : World → Type 0
  AnyArmed w = (x : Name) × (w.stops x ≢ None)

  abbrev pub AnyUnnamed : World → Type 0
  AnyUnnamed w = (i : ℕ) × (nd : Node) × (at w.clients i ≡ Some nd) × (ident_of p w nd ≡ 0)

  abbrev pub AnyOld : World → Type 0
  AnyOld w = (i : ℕ) × (nd : Node) × (at w.clients i ≡ Some nd) × ((client_of p nd.records).second ≡ false)

  -- each client is named and current
  abbrev pub AllCurrent : World → Type 0
  AllCurrent w = (i : ℕ) (nd : Node) → at w.clients i ≡ Some nd → (ident_of p w nd ≢ 0) × IsCurrent w nd

  -- ---- whatever happens in between

  -- what a client does in one turn, where so much was done before: it asks for its ident, uploads and asks
  abbrev pub turn : Name → World → List (Event I)
  turn name w = catches_up name (length w.messages) 1

  -- the world after these events and a turn
  abbrev pub after_turn : Name → World → List (Event I) → World
  after_turn name w es = world_after p (world_after p w es) (turn name (world_after p w es))

  -- and after a turn for each list of events
  abbrev pub after_turns : Name → World → List (List (Event I)) → World
  after_turns name w [] = w
  after_turns name w (es ∷ ess) = after_turns name (after_turn name w es) ess

  -- all these events, in order
  abbrev pub turns : Name → World → List (List (Event I)) → List (Event I)
  turns name w [] = []
  turns name w (es ∷ ess) = es ++ (turn name (world_after p w es) ++ turns name (after_turn name w es) ess)

  -- in one of the turns an exception comes, or after one the client is current
  pub data Gets (q : Words → Type 0) (name : Name) : World → List (List (Event I)) → Type 0 where
    gets_exception : {w : World} {es : List (Event I)} {ess : List (List (Event I))} → Comes q (outcomes p (world_after p w es) (turn name (world_after p w es))) → Gets q name w (es ∷ ess)
    gets_current : {w : World} {es : List (Event I)} {ess : List (List (Event I))} → HasCaughtUp (after_turn name w es) name → Gets q name w (es ∷ ess)
    gets_later : {w : World} {es : List (Event I)} {ess : List (List (Event I))} → Gets q name (after_turn name w es) ess → Gets q name w (es ∷ ess)

  -- ---- where the server gives up history

  -- what is said of a message to a server that answers by what it keeps
  abbrev pub served_words : World → Parts I S → Message → Words
  served_words w kept m = answered_words w (serve_by p kept m) (stopped (w.stops server_name) (serve_by p kept m).records)

  -- of one of those that were made, if it is there
  abbrev pub delivered_words : Later I S → Option Message → Words
  delivered_words l None = NoMessage
  delivered_words l (Some m) = served_words l.world l.kept m

  -- of any bytes
  abbrev pub injected_words : Later I S → Option Message → Words
  injected_words l None = BadMessage
  injected_words l (Some m) = if names_own p l.world m then OwnIdent else served_words (named_by l.world m) l.kept m

  -- of an event
  abbrev pub later_words : Later I S → Event I → Words
  later_words l (Delivers message to) = if bytes_eq to server_name then delivered_words l (message_at l.world message) else (happens p l.world (Delivers message to)).words
  later_words l (Injects m) = injected_words l m
  later_words l e = (happens p l.world e).words

  -- of several
  abbrev pub later_outcomes : Later I S → List (Event I) → List Words
  later_outcomes l [] = []
  later_outcomes l (e ∷ es) = later_words l e ∷ later_outcomes (later_after p l e) es

  -- and what they make
  abbrev pub after_events : Later I S → List (Event I) → Later I S
  after_events l es = all_later p l (map (λ e. Happens e) es)

  -- what a client settled lies before the floor
  abbrev pub IsBelow : Later I S → Node → Type 0
  IsBelow l nd = settled_from (client_of p nd.records).cursor (client_of p nd.records).unsent < l.kept.floor

  -- it doesn't
  abbrev pub IsAbove : Later I S → Node → Type 0
  IsAbove l nd = l.kept.floor ≤ settled_from (client_of p nd.records).cursor (client_of p nd.records).unsent

  -- it does for some client
  abbrev pub AnyBelow : Later I S → Type 0
  AnyBelow l = (i : ℕ) × (nd : Node) × (at l.world.clients i ≡ Some nd) × IsBelow l nd

  -- no disk is armed, the server knows each client, its file is in form 2, and it stands above the floor
  pub record IsCalm (l : Later I S) : Type 0 where
    pub unarmed : (x : Name) → l.world.stops x ≡ None
    pub clients : (i : ℕ) (nd : Node) → at l.world.clients i ≡ Some nd → (ident_of p l.world nd ≢ 0) × ((client_of p nd.records).second ≡ Bool.true) × IsAbove l nd

  -- ---- a client that only reads

  -- what a message bears of these
  abbrev pub load : List Sent → List Sent
  load es = fitting (λ e. length e.body) p.most p.room es

  -- so many messages bear them all
  pub data AreBorne : ℕ → List Sent → Type 0 where
    none_left : {k : ℕ} → AreBorne k []
    a_message : {k : ℕ} {es : List Sent} → AreBorne k (drop (length (load es)) es) → AreBorne (suc k) es

  -- the entries that a client lacks, as it gets them
  abbrev pub lacks : World → Node → List Sent
  lacks w nd = map (λ x. sent_of p (restricted p (subset_of p nd) x)) (entries_from p (log p w) (length (log p w) - (client_of p nd.records).cursor) (client_of p nd.records).cursor)
