-- A client with lives: its parts, and the notes that it writes.
use Rattle.std.specs.Prelude.{◌≡◌, IsTrue, ℕ, ◌+◌, slice_get, Bool, not, ◌||◌, ◌==◌, nat_lt, List, [], ◌∷◌, ◌++◌, length, Option, Some, None, Result, Ok, Err, map, if◌then◌else◌}
use Rattle.std.specs.Option.{is_some, unwrap_or}
use Rattle.sync_disk.specs.declared.disk.Disk.{Ghosts}
use Rattle.sync_journal.specs.Stands.{Stands, StandsNoted}
use Rattle.sync_model.specs.Clients.{ClientRecord, ClientStep, client_of}
use Rattle.sync_exchange.specs.Profile.{the_profile}
use Rattle.sync_client.specs.declared.refusal.ClientRefusal.TheVariants as clients
use Rattle.sync_client.specs.declared.replica.Replica.{Replica}
use Rattle.sync_client.specs.Clients.{Did, journal_of, is_closed as is_shut, replica_of as replica_within}
use Rattle.sync_client.specs.Refusals.{refusal_seen, IfSeen}
use Rattle.life_bytes.specs.declared.note.Note.{Note}
use Rattle.life_bytes.specs.declared.note.Note.TheVariants as notes
use Rattle.life_bytes.specs.Spelling.{note_spelling}
use Rattle.sync_model.specs.Messages.{Message as ModelMessage, Sent}
use Rattle.sync_client.specs.Taking.{SentRefused, SentTaken}
use Rattle.sync_exchange.specs.Seen.{message_seen}
use Rattle.sync_messages.specs.declared.message.Message.{Message}
use Rattle.life_bytes.specs.declared.letter.Letter.{Letter}
use Rattle.life_bytes.specs.declared.letter.Letter.TheVariants as letters
use Rattle.life_bytes.specs.declared.said.Said.TheVariants as said
use Rattle.life_bytes.specs.Parts.{GivenUpParts, SavesParts, TokenParts, most_tokens, most_uuids, most_lives}
use Rattle.life_bytes.specs.Runs.{Lives}
use Rattle.life_marks.specs.ServerMarks.{no_life}
use Rattle.life_marks.specs.ClientMarks.{Marks, seen, after_note}
use Rattle.life_marks.specs.Reached.{has}
use Rattle.marked_client.specs.declared.client.MarkedClient.{MarkedClient}
use Rattle.marked_client.specs.declared.refusal.MarkedRefusal.{MarkedRefusal}
use Rattle.marked_client.specs.declared.refusal.MarkedRefusal.TheVariants as refusals
use Rattle.marked_client.specs.declared.taking.Taken.{Taken}
use Rattle.marked_client.specs.declared.taking.Taken.TheVariants as takens
use Rattle.marked_client.specs.declared.testing.Standing.{Standing}
use Rattle.marked_client.specs.Testing.{because, has_lives, is_life}
use Rattle.marked_client.specs.Saying.{letter_of, plain_says}

-- ---- notes

abbrev pub after_notes : Marks → List Note → Marks
after_notes m [] = m
after_notes m (n ∷ ns) = after_notes (after_note m n) ns

-- an opening with a life begins it before its first transaction
abbrev pub begin_notes : Marks → List ℕ → List Note
begin_notes m life = if is_life m.life life then [] else notes.Life life ∷ []

-- before an entry of the history that is of this life
abbrev pub entry_notes : Marks → List ℕ → List Note
entry_notes m life = if is_life m.noted life then [] else notes.Of life ∷ []

-- before a transaction, where the client has lives
abbrev pub made_notes : Marks → Option (List ℕ) → List Note
made_notes m None = []
made_notes m (Some life) = if has_lives m (Some life) then begin_notes m life else []

-- before one that saves another
abbrev pub save_notes : Marks → Option (List ℕ) → SavesParts → List Note
save_notes m None saves = []
save_notes m (Some life) saves = begin_notes m life ++ notes.Saves saves ∷ []

-- why a transaction isn't saved, in this order
abbrev pub token_test : (List ℕ → ℕ) → TokenParts → List TokenParts → Option MarkedRefusal
token_test reached token frontier =
    if has reached token then Some refusals.AlreadySaved
    else (if nat_lt most_tokens (length frontier) then Some refusals.FrontierTooLong else None)

abbrev pub save_test : Marks → Option (List ℕ) → Bool → TokenParts → List TokenParts → Option MarkedRefusal
save_test m life closed token frontier =
    if closed then because clients.Closed
    else (if not (has_lives m life) then Some refusals.NoLives
    else (if not (is_some life) then Some refusals.NoLife
    else token_test m.reached token frontier))

-- why clients aren't given up, in this order
abbrev pub count_test : List (List ℕ) → Lives → Option MarkedRefusal
count_test uuids lives = if nat_lt most_uuids (length uuids) || nat_lt most_lives (length lives) then Some refusals.TooMany else None

abbrev pub give_up_test : Standing → List (List ℕ) → Lives → Option MarkedRefusal
give_up_test at uuids lives =
    if at.is_closed then because clients.Closed
    else (if not (is_some at.id) then because clients.NotBorn
    else (if at.ident == 0 then because clients.NotNamed
    else (if not at.has_lives then Some refusals.NoLives
    else count_test uuids lives)))

-- the life of the entry of a Download at this place; the first one is that of the entry before
abbrev pub entry_life : Lives → ℕ → List ℕ
entry_life lives place = unwrap_or (slice_get lives (place + 1)) no_life

-- the entry of this version is the next one of the client of these records, which has this ident
pub record IsNext (records : List ClientRecord) (ident version : ℕ) : Type 0 where
  pub born : IsTrue (is_some (client_of the_profile records).id)
  pub named : (client_of the_profile records).ident ≡ ident
  pub cursor : (client_of the_profile records).cursor ≡ version

-- the disk failed, memory ran out, or the client is closed
abbrev pub IsFault : MarkedRefusal → Type 0
IsFault (refusals.Client why) = refusal_seen why ≡ None
IsFault refusals.NoLife = ⊥
IsFault refusals.NoLives = ⊥
IsFault refusals.OtherHistory = ⊥
IsFault (refusals.Diverged version) = ⊥
IsFault (refusals.FileForked number) = ⊥
IsFault refusals.AlreadySaved = ⊥
IsFault refusals.FrontierTooLong = ⊥
IsFault refusals.TooMany = ⊥
IsFault refusals.Broken = ⊥

-- today's step has no message
abbrev pub Unsaid : ClientStep ModelMessage → MarkedRefusal → Type 0
Unsaid did (refusals.Client why) = IfSeen (refusal_seen why) (λ w. did.answer ≡ Err w)
Unsaid did refusals.NoLife = ⊥
Unsaid did refusals.NoLives = ⊥
Unsaid did refusals.OtherHistory = ⊥
Unsaid did (refusals.Diverged version) = ⊥
Unsaid did (refusals.FileForked number) = ⊥
Unsaid did refusals.AlreadySaved = ⊥
Unsaid did refusals.FrontierTooLong = ⊥
Unsaid did refusals.TooMany = ⊥
Unsaid did refusals.Broken = Unit {0}

-- the uuid of a client of these records
abbrev pub uuid_of : List ClientRecord → List ℕ
uuid_of records = unwrap_or (client_of the_profile records).id no_life

module _ {D : Type 0} {G : Ghosts D} where
  abbrev pub marks_of : MarkedClient D G → Marks
  marks_of c = seen c.marks

  abbrev pub life_of : MarkedClient D G → Option (List ℕ)
  life_of c = c.life

  abbrev pub replica_of : MarkedClient D G → Replica
  replica_of c = replica_within c.client

  abbrev pub is_closed : MarkedClient D G → Bool
  is_closed c = is_shut c.client

  -- what the tests look at, of a client of these records
  abbrev pub standing_of : List ClientRecord → MarkedClient D G → Standing
  standing_of records c = record {
    has_lives = has_lives (marks_of c) (life_of c);
    is_closed = is_closed c;
    id = (client_of the_profile records).id;
    ident = (client_of the_profile records).ident;
    cursor = (client_of the_profile records).cursor;
  }

  -- notes are added: the client's records are what they were, and the notes stand behind the records and notes before
  pub record Notes (ns : List Note) (old new : MarkedClient D G) : Type 0 where
    pub marks : marks_of new ≡ after_notes (marks_of old) ns
    pub records : (rs : List (List ℕ)) → Stands rs (journal_of old.client) → Stands rs (journal_of new.client)
    pub noted : (ps : List (List ℕ)) → StandsNoted ps (journal_of old.client) → StandsNoted (ps ++ map note_spelling ns) (journal_of new.client)

  -- whatever comes of it, the client keeps what it kept
  pub record Same (old new : MarkedClient D G) : Type 0 where
    pub replica : replica_of new ≡ replica_of old
    pub life : life_of new ≡ life_of old

  -- today's step refused, and that alone
  abbrev pub RefusedAsEver : {A : Type 0} → ClientStep A → List ClientRecord → MarkedClient D G → MarkedRefusal → Type 0
  RefusedAsEver did records new (refusals.Client why) = IfSeen (refusal_seen why) (λ w. Did did (Err w) records new.client)
  RefusedAsEver did records new refusals.NoLife = ⊥
  RefusedAsEver did records new refusals.NoLives = ⊥
  RefusedAsEver did records new refusals.OtherHistory = ⊥
  RefusedAsEver did records new (refusals.Diverged version) = ⊥
  RefusedAsEver did records new (refusals.FileForked number) = ⊥
  RefusedAsEver did records new refusals.AlreadySaved = ⊥
  RefusedAsEver did records new refusals.FrontierTooLong = ⊥
  RefusedAsEver did records new refusals.TooMany = ⊥
  RefusedAsEver did records new refusals.Broken = ⊥

  -- a transaction was made, or refused, as ever
  abbrev pub MadeAsEver : ClientStep ℕ → List ClientRecord → MarkedClient D G → Result ℕ MarkedRefusal → Type 0
  MadeAsEver did records new (Ok number) = Did did (Ok number) records new.client
  MadeAsEver did records new (Err why) = RefusedAsEver did records new why

  -- a message was taken, or refused, as ever
  abbrev pub TookAsEver : ClientStep ℕ → List ClientRecord → MarkedClient D G → Result Taken MarkedRefusal → Type 0
  TookAsEver did records new (Ok (takens.Cursor cursor)) = Did did (Ok cursor) records new.client
  TookAsEver did records new (Ok (takens.GivenUp given)) = ⊥
  TookAsEver did records new (Err why) = RefusedAsEver did records new why

  -- what the history has of given up clients is handed out
  abbrev pub GaveUp : GivenUpParts → MarkedClient D G → MarkedClient D G → Result Taken MarkedRefusal → Type 0
  GaveUp given old new (Ok taken) = (taken ≡ takens.GivenUp given) × (new ≡ old)
  GaveUp given old new (Err why) = why ≡ refusals.Client clients.NoMemory

  -- the next entry of a Download was taken, or refused, as ever
  abbrev pub EntryRefusedAsEver : List ClientRecord → MarkedClient D G → Sent → MarkedRefusal → Type 0
  EntryRefusedAsEver records new e (refusals.Client why) = IfSeen (refusal_seen why) (SentRefused records new.client e)
  EntryRefusedAsEver records new e refusals.NoLife = ⊥
  EntryRefusedAsEver records new e refusals.NoLives = ⊥
  EntryRefusedAsEver records new e refusals.OtherHistory = ⊥
  EntryRefusedAsEver records new e (refusals.Diverged version) = ⊥
  EntryRefusedAsEver records new e (refusals.FileForked number) = ⊥
  EntryRefusedAsEver records new e refusals.AlreadySaved = ⊥
  EntryRefusedAsEver records new e refusals.FrontierTooLong = ⊥
  EntryRefusedAsEver records new e refusals.TooMany = ⊥
  EntryRefusedAsEver records new e refusals.Broken = ⊥

  abbrev pub EntrySays : List ClientRecord → MarkedClient D G → Sent → Result (Unit {0}) MarkedRefusal → Type 0
  EntrySays records new e (Ok u) = SentTaken records new.client e
  EntrySays records new e (Err why) = EntryRefusedAsEver records new e why

  -- ---- what it sends

  -- a message of today, with the lives of the file where it has any
  abbrev pub LetterOf : List ClientRecord → MarkedClient D G → Message → Letter → Type 0
  LetterOf records c message letter = letter ≡ letter_of (marks_of c) (life_of c) (uuid_of records) (client_of the_profile records).cursor message

  pub record IsLetter (did : ClientStep ModelMessage) (records : List ClientRecord) (c : MarkedClient D G) (letter : Letter) : Type 0 where
    pub message : Message
    pub did_it : did.answer ≡ Ok (message_seen message)
    pub letter_is : LetterOf records c message letter

  -- the message of today's step, or its refusal
  abbrev pub LetterSays : ClientStep ModelMessage → List ClientRecord → MarkedClient D G → Result Letter MarkedRefusal → Type 0
  LetterSays did records c (Ok letter) = IsLetter did records c letter
  LetterSays did records c (Err why) = Unsaid did why

  abbrev pub GivesUp : List ClientRecord → MarkedClient D G → List (List ℕ) → Lives → Letter → Type 0
  GivesUp records c uuids lives letter =
      letter ≡ letters.Says (plain_says (marks_of c) (uuid_of records) (client_of the_profile records).cursor (said.GiveUp (record { by = (client_of the_profile records).ident; uuids = uuids; lives = lives })))
