-- An exchange in which clients may put short files in place of theirs, as often as they may.
use Rattle.std.specs.Prelude.{bytes_eq, ◌≡◌, ℕ, List, [], ◌∷◌, ◌++◌, Option, Some, None, Result, if◌then◌else◌, map, drop, take, length}
use Rattle.sync_model.specs.Bytes.{Name, Tables, Uuid}
use Rattle.sync_model.specs.Profile.{Profile}
use Rattle.sync_model.specs.Messages.{Change, Message}
use Rattle.sync_model.specs.Clients.{Client, ClientRecord, ClientRefusal, ClientStep, no_client, client_of, after_records, born, commit, upgrade, subscribe, bind, upload, upload_from, ask, take as take_message}
use Rattle.sync_model.specs.Resets.{heir, recover}
use Rattle.sync_model.specs.Worlds.{World, Node, Outcome, Words, Event, Joins, Starts, Edits, Binds, Uploads, Asks, Upgrades, Subscribes, Delivers, Restarts, Stops, Injects, Opened, Stopped, NoNode, NoMessage, at, put, seek, stopped, has_name, server_name, client_moved, message_at, is_node, message_words, made_words, took_words, upgrade_words, subscribe_words}
use Rattle.sync_model.specs.Later.{Later, LaterEvent, Happens, Trims, first_later, later, later_after}
use Rattle.sync_model.specs.Progress.{later_words}
use Rattle.shrink_law.specs.Short.{Alike, shrunk}

-- an exchange, and what the file of each client gives, in the order in which they joined; the world has all records that
-- the clients ever wrote, and each client answers by what its file gives alone
pub record Shrinking (I S : Type 0) : Type 0 where
  pub later : Later I S
  pub clients : List (Client I S)

-- what may happen
pub data ShrinkEvent (I : Type 0) : Type 0 where
  Goes : (event : LaterEvent I) → ShrinkEvent I
  -- the file of this client is replaced by a short one
  Shrinks : (name : Name) → ShrinkEvent I

-- the exchange after an event, and what is said of it
pub record ShrinkOutcome (I S : Type 0) : Type 0 where
  pub after : Shrinking I S
  pub words : Words

-- the events but for the replacements of clients' files
abbrev pub without_shrink : {I : Type 0} → ShrinkEvent I → List (LaterEvent I)
without_shrink (Goes e) = e ∷ []
without_shrink (Shrinks name) = []

abbrev pub without_shrinks : {I : Type 0} → List (ShrinkEvent I) → List (LaterEvent I)
without_shrinks [] = []
without_shrinks (e ∷ es) = without_shrink e ++ without_shrinks es

-- a world with other words and the same clients
abbrev pub in_world : {I S : Type 0} → Shrinking I S → World → List (Client I S) → Shrinking I S
in_world l w clients = record { later = record l.later { world = w }; clients = clients }

module _ {I S : Type 0} (p : Profile I S) where
  -- ---- two clients of which each answers as the other, and goes on so

  -- whatever is called, the same records come and the same answer
  pub record AnswersAlike (c d : Client I S) : Type 0 where
    pub borns : (id : Uuid) → born d id ≡ born c id
    pub commits : (ms : ℕ) (edits : List I) → commit p d ms edits ≡ commit p c ms edits
    pub upgrades : upgrade d ≡ upgrade c
    pub subscribes : (tables : Tables) → subscribe d tables ≡ subscribe c tables
    pub binds : bind d ≡ bind c
    pub uploads : upload p d ≡ upload p c
    pub uploads_from : (after : ℕ) → upload_from p d after ≡ upload_from p c after
    pub asks : ask d ≡ ask c
    pub takes : (m : Message) → take_message p d m ≡ take_message p c m
    -- client reset
    pub saves : (by count : ℕ) (h : Change) → heir p d by count h ≡ heir p c by count h
    pub recovers : (frames : List Message) → recover p d frames ≡ recover p c frames

  -- after so many of the records of a call they are alike again
  pub record StaysAlike (c d : Client I S) : Type 0 where
    pub commits : (ms : ℕ) (edits : List I) (n : ℕ) → Alike (after_records p c (take n (commit p c ms edits).records)) (after_records p d (take n (commit p c ms edits).records))
    pub upgrades : (n : ℕ) → Alike (after_records p c (take n (upgrade c).records)) (after_records p d (take n (upgrade c).records))
    pub subscribes : (tables : Tables) (n : ℕ) → Alike (after_records p c (take n (subscribe c tables).records)) (after_records p d (take n (subscribe c tables).records))
    pub takes : (m : Message) (n : ℕ) → Alike (after_records p c (take n (take_message p c m).records)) (after_records p d (take n (take_message p c m).records))
    pub recovers : (frames : List Message) (n : ℕ) → Alike (after_records p c (take n (recover p c frames).records)) (after_records p d (take n (recover p c frames).records))

  -- ---- events

  -- what the file of a client gives, by its place
  abbrev pub there : Option (Client I S) → Client I S
  there None = no_client p
  there (Some c) = c

  abbrev pub kept_at : List (Client I S) → ℕ → Client I S
  kept_at cs i = there (at cs i)

  -- its call is answered whole, or stops
  abbrev pub kept_ends : {A : Type 0} → Shrinking I S → ℕ → Node → ClientStep A → (World → Result A ClientRefusal → Outcome) → Option (List ClientRecord) → ShrinkOutcome I S
  kept_ends l place nd did words None = record {
    after = in_world l (words (client_moved l.later.world place nd did.records) did.answer).world (put l.clients place (after_records p (kept_at l.clients place) did.records));
    words = (words (client_moved l.later.world place nd did.records) did.answer).words;
  }
  kept_ends l place nd did words (Some stand) = record {
    after = in_world l (client_moved l.later.world place nd stand) (put l.clients place (after_records p (kept_at l.clients place) stand));
    words = Stopped;
  }

  -- a client that is there makes a call, by what its file gives
  abbrev pub kept_called : {A : Type 0} → Shrinking I S → (Client I S → ClientStep A) → (World → Result A ClientRefusal → Outcome) → Option (ℕ × Node) → ShrinkOutcome I S
  kept_called l call words None = record { after = l; words = NoNode }
  kept_called l call words (Some q) = kept_ends l q.0 q.1 (call (kept_at l.clients q.0)) words (stopped (l.later.world.stops q.1.name) (call (kept_at l.clients q.0)).records)

  abbrev pub kept_calls : {A : Type 0} → Shrinking I S → Name → (Client I S → ClientStep A) → (World → Result A ClientRefusal → Outcome) → ShrinkOutcome I S
  kept_calls l name call words = kept_called l call words (seek (has_name name) l.later.world.clients)

  -- a message comes to a client
  abbrev pub kept_gets : Shrinking I S → Name → Option Message → ShrinkOutcome I S
  kept_gets l to None = record { after = l; words = NoMessage }
  kept_gets l to (Some m) = kept_calls l to (λ c. take_message p c m) took_words

  -- what comes to no client; a new one has its whole file
  abbrev pub beside_clients : Shrinking I S → Event I → ShrinkOutcome I S
  beside_clients l e = record { after = record l { later = later_after p l.later e }; words = later_words p l.later e }

  abbrev pub joined : Shrinking I S → Event I → ShrinkOutcome I S
  joined l e = record {
    after = record { later = later_after p l.later e; clients = l.clients ++ map (λ nd. client_of p nd.records) (drop (length l.clients) (later_after p l.later e).world.clients) };
    words = later_words p l.later e;
  }

  -- one event
  abbrev pub kept_happens : Shrinking I S → Event I → ShrinkOutcome I S
  kept_happens l (Joins name id) = joined l (Joins name id)
  kept_happens l (Starts name id) = joined l (Starts name id)
  kept_happens l (Edits name ms edits) = kept_calls l name (λ c. commit p c ms edits) made_words
  kept_happens l (Binds name) = kept_calls l name bind message_words
  kept_happens l (Uploads name) = kept_calls l name (upload p) message_words
  kept_happens l (Asks name) = kept_calls l name ask message_words
  kept_happens l (Upgrades name) = kept_calls l name upgrade upgrade_words
  kept_happens l (Subscribes name tables) = kept_calls l name (λ c. subscribe c tables) subscribe_words
  kept_happens l (Delivers message to) =
      if bytes_eq to server_name then beside_clients l (Delivers message to)
      else if is_node l.later.world to then kept_gets l to (message_at l.later.world message)
      else record { after = l; words = NoNode }
  kept_happens l (Restarts node) = beside_clients l (Restarts node)
  kept_happens l (Stops node k leaves) = beside_clients l (Stops node k leaves)
  kept_happens l (Injects m) = beside_clients l (Injects m)

  -- the file of a client that is there is replaced
  abbrev pub shrinks : Shrinking I S → Option (ℕ × Node) → Shrinking I S
  shrinks l None = l
  shrinks l (Some q) = record l { clients = put l.clients q.0 (shrunk p (kept_at l.clients q.0)) }

  -- an event, or a replacement
  abbrev pub shrinking : Shrinking I S → ShrinkEvent I → ShrinkOutcome I S
  shrinking l (Goes (Happens e)) = kept_happens l e
  shrinking l (Goes Trims) = record { after = record l { later = later p l.later Trims }; words = Opened }
  shrinking l (Shrinks name) = record { after = shrinks l (seek (has_name name) l.later.world.clients); words = Opened }

  -- several
  abbrev pub all_shrinking : Shrinking I S → List (ShrinkEvent I) → Shrinking I S
  all_shrinking l [] = l
  all_shrinking l (e ∷ es) = all_shrinking (shrinking l e).after es

  -- nothing yet
  abbrev pub first_shrinking : Shrinking I S
  first_shrinking = record { later = first_later p; clients = [] }

  -- what is said of an event where no client ever has its file replaced
  abbrev pub said : Later I S → ShrinkEvent I → Words
  said l (Goes (Happens e)) = later_words p l e
  said l (Goes Trims) = Opened
  said l (Shrinks name) = Opened

  -- each client's file gives a client that answers as all its records do
  pub data AllAlike : List Node → List (Client I S) → Type 0 where
    nobody : AllAlike [] []
    and_alike : {nd : Node} {c : Client I S} {nds : List Node} {cs : List (Client I S)} → Alike (client_of p nd.records) c → AllAlike nds cs → AllAlike (nd ∷ nds) (c ∷ cs)

  -- an exchange with short files is the exchange of the same events without them
  pub record IsSame (l : Shrinking I S) (whole : Later I S) : Type 0 where
    pub exchange : l.later ≡ whole
    pub clients : AllAlike l.later.world.clients l.clients
