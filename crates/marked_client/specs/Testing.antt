-- The tests of an answer with lives, by what stands in the client's file and in the answer.
use Rattle.std.specs.Prelude.{◌≡◌, ◌≤◌, IsTrue, ℕ, ◌-◌, Bool, true, false, ◌&&◌, ◌||◌, not, ◌==◌, nat_lt, bytes_eq, if◌then◌else◌, List, Option, Some, None, slice_get}
use Rattle.std.specs.Option.{is_some}
use Rattle.sync_client.specs.declared.refusal.ClientRefusal.{ClientRefusal}
use Rattle.sync_client.specs.declared.refusal.ClientRefusal.TheVariants as clients
use Rattle.sync_messages.specs.declared.message.Message.{Message}
use Rattle.sync_messages.specs.declared.message.Message.TheVariants as messages
use Rattle.sync_messages.specs.Parts.{DownloadParts}
use Rattle.life_bytes.specs.declared.mark.Mark.{Mark}
use Rattle.life_bytes.specs.declared.answered.Answered.{Answered}
use Rattle.life_bytes.specs.declared.answered.Answered.TheVariants as answered
use Rattle.life_bytes.specs.declared.letter.Letter.{Letter}
use Rattle.life_bytes.specs.declared.letter.Letter.TheVariants as letters
use Rattle.life_bytes.specs.Runs.{Lives}
use Rattle.life_bytes.specs.Envelopes.{AnswersParts}
use Rattle.life_marks.specs.ClientMarks.{Marks}
use Rattle.marked_client.specs.declared.refusal.MarkedRefusal.{MarkedRefusal}
use Rattle.marked_client.specs.declared.refusal.MarkedRefusal.TheVariants as refusals
use Rattle.marked_client.specs.declared.testing.Standing.{Standing}

-- it sends messages with lives: it was opened with one, or its file has one, and it made nothing and got no ident without
abbrev pub has_lives : Marks → Option (List ℕ) → Bool
has_lives m life = not m.is_plain && (is_some life || (is_some m.life || is_some m.birth))

abbrev pub because : ClientRefusal → Option MarkedRefusal
because why = Some (refusals.Client why)

-- the first reason
abbrev pub first_of : Option MarkedRefusal → Option MarkedRefusal → Option MarkedRefusal
first_of None other = other
first_of (Some why) other = Some why

-- it is this life
abbrev pub is_life : Option (List ℕ) → List ℕ → Bool
is_life None life = false
is_life (Some last) life = bytes_eq last life

-- ---- whose answer it is

-- it names this ident, and no other uuid; what is refused is looked at by today's step
abbrev pub is_named_in : ℕ → List ℕ → Message → Bool
is_named_in ident id (messages.Bind uuid) = true
is_named_in ident id (messages.Ident given) = bytes_eq given.uuid id
is_named_in ident id (messages.Upload upload) = true
is_named_in ident id (messages.Ask ask) = true
is_named_in ident id (messages.Download download) = download.ident == ident
is_named_in ident id (messages.Refused who number code place) = true
is_named_in ident id (messages.Stored stored) = stored.ident == ident
is_named_in ident id (messages.Ask2 ask) = true
is_named_in ident id (messages.Retire retire) = true
is_named_in ident id (messages.Retired retired) = true
is_named_in ident id (messages.AskTables asked) = true

abbrev pub is_named : ℕ → List ℕ → Answered → Bool
is_named ident id (answered.Message message) = is_named_in ident id message
is_named ident id (answered.GivenUp given) = given.by == ident

abbrev pub uuid_test : Standing → AnswersParts → Option (List ℕ) → Option MarkedRefusal
uuid_test at answers None = because clients.NotBorn
uuid_test at answers (Some id) = if at.has_lives && (bytes_eq id answers.uuid && is_named at.ident id answers.inner) then None else because clients.NotMine

abbrev pub owner_test : Standing → AnswersParts → Option MarkedRefusal
owner_test at answers = if at.is_closed then because clients.Closed else uuid_test at answers at.id

-- what comes isn't for this client
abbrev pub not_mine : Standing → MarkedRefusal
not_mine at = if at.is_closed then refusals.Client clients.Closed else (if is_some at.id then refusals.Client clients.NotMine else refusals.Client clients.NotBorn)

-- a client with lives takes answers with lives alone, and what clients say is no answer
abbrev pub is_foreign : Marks → Option (List ℕ) → Letter → Bool
is_foreign m life (letters.Message message) = has_lives m life
is_foreign m life (letters.Says says) = true
is_foreign m life (letters.Answers answers) = false

-- ---- whether it is of the history that gave the client its ident

abbrev pub is_birth : Option (List ℕ) → List ℕ → Bool
is_birth None birth = true
is_birth (Some own) birth = bytes_eq own birth

abbrev pub birth_test : Marks → Standing → List ℕ → Option MarkedRefusal
birth_test m at birth = if at.ident == 0 || is_birth m.birth birth then None else Some refusals.OtherHistory

-- ---- whether the server has a beginning of this client's file, and the client one of the history

-- the client's last transaction there has the life that the file has for its number
abbrev pub file_test : Marks → Mark → Option MarkedRefusal
file_test m last = if last.number == 0 || is_life (slice_get m.numbers (last.number - 1)) last.life then None else Some (refusals.FileForked last.number)

abbrev pub ident_test : Standing → ℕ → Option MarkedRefusal
ident_test at ident = if at.ident == 0 || at.ident == ident then None else because (clients.IdentDiffers at.ident ident)

-- the entry before the cursor has the life that the client took; what ends before the cursor is passed over
abbrev pub is_last : Option (List ℕ) → Option (List ℕ) → Bool
is_last last None = true
is_last last (Some life) = is_life last life

abbrev pub history_test : Marks → Standing → ℕ → Lives → Option MarkedRefusal
history_test m at from lives =
    if at.cursor == 0 || is_last m.last (slice_get lives (at.cursor - from)) then None else Some (refusals.Diverged at.cursor)

abbrev pub download_test : Marks → Standing → DownloadParts → AnswersParts → Option MarkedRefusal
download_test m at download answers =
    if nat_lt at.cursor download.from then because (clients.Gap at.cursor download.from)
    else first_of (history_test m at download.from answers.lives) (file_test m answers.last)

abbrev pub message_test : Marks → Standing → AnswersParts → Message → Option MarkedRefusal
message_test m at answers (messages.Bind uuid) = file_test m answers.last
message_test m at answers (messages.Ident given) = first_of (ident_test at given.ident) (file_test m answers.last)
message_test m at answers (messages.Upload upload) = file_test m answers.last
message_test m at answers (messages.Ask ask) = file_test m answers.last
message_test m at answers (messages.Download download) = download_test m at download answers
message_test m at answers (messages.Refused ident number code place) = None
message_test m at answers (messages.Stored stored) = file_test m answers.last
message_test m at answers (messages.Ask2 ask) = file_test m answers.last
message_test m at answers (messages.Retire retire) = file_test m answers.last
message_test m at answers (messages.Retired retired) = file_test m answers.last
message_test m at answers (messages.AskTables asked) = file_test m answers.last

abbrev pub inner_test : Marks → Standing → AnswersParts → Answered → Option MarkedRefusal
inner_test m at answers (answered.Message message) = message_test m at answers message
inner_test m at answers (answered.GivenUp given) = file_test m answers.last

-- all, in this order
abbrev pub answers_test : Marks → Standing → AnswersParts → Option MarkedRefusal
answers_test m at answers = first_of (owner_test at answers) (first_of (birth_test m at answers.birth) (inner_test m at answers answers.inner))

-- what holds of a Download that they let through
pub record DownloadPasses (at : Standing) (download : DownloadParts) : Type 0 where
  pub born : IsTrue (is_some at.id)
  pub named : download.ident ≡ at.ident
  pub reaches : download.from ≤ at.cursor
