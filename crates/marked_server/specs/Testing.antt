-- The tests of a message with lives, by what stands in the server's file and in the message.
use Rattle.std.specs.Prelude.{ℕ, ◌-◌, Bool, true, false, ◌&&◌, ◌||◌, not, ◌==◌, nat_le, nat_lt, bytes_eq, if◌then◌else◌, List, [], ◌∷◌, Option, Some, None, slice_get}
use Rattle.std.specs.Option.{unwrap_or, is_some}
use Rattle.std.specs.List.{list_any}
use Rattle.sync_messages.specs.declared.message.Message.{Message}
use Rattle.sync_messages.specs.declared.message.Message.TheVariants as messages
use Rattle.sync_messages.specs.Parts.{ChangeParts}
use Rattle.life_bytes.specs.declared.mark.Mark.{Mark}
use Rattle.life_bytes.specs.declared.said.Said.{Said}
use Rattle.life_bytes.specs.declared.said.Said.TheVariants as said
use Rattle.life_bytes.specs.Runs.{Lives}
use Rattle.life_bytes.specs.Parts.{TokenParts, SavesParts}
use Rattle.life_bytes.specs.Envelopes.{SaysParts}
use Rattle.life_marks.specs.declared.server_marks.Line.{Line}
use Rattle.life_marks.specs.Reached.{has}
use Rattle.life_marks.specs.ServerMarks.{Marks, line_of, life_before, no_life}
use Rattle.marked_server.specs.declared.code.Code.{Code}
use Rattle.marked_server.specs.declared.code.Code.TheVariants as codes
use Rattle.marked_server.specs.declared.code.Refusal.{Refusal}
use Rattle.marked_server.specs.declared.testing.Standing.{Standing}

-- the numbers of the reasons
abbrev pub code_number : Code → ℕ
code_number codes.NoSuchIdent = 60
code_number codes.IdentsFull = 65
code_number codes.SelfRetire = 69
code_number codes.Trimmed = 71
code_number codes.NotYours = 72
code_number codes.OffHistory = 73
code_number codes.OtherFile = 74
code_number codes.NeedsMarks = 75
code_number codes.Twice = 76
code_number codes.NoLife = 77
code_number codes.Before = 78

abbrev pub refuse : ℕ → ℕ → Refusal → Message
refuse ident number why = messages.Refused ident number (code_number why.code) why.place

abbrev pub because : Code → ℕ → Option Refusal
because code place = Some (record { code = code; place = place })

-- the first reason
abbrev pub first_of : Option Refusal → Option Refusal → Option Refusal
first_of None other = other
first_of (Some why) other = Some why

-- ---- which ident a message names; 0 where its client has none by now

abbrev pub ident_in : Message → ℕ
ident_in (messages.Bind uuid) = 0
ident_in (messages.Ident given) = 0
ident_in (messages.Upload upload) = upload.ident
ident_in (messages.Ask ask) = ask.ident
ident_in (messages.Download download) = 0
ident_in (messages.Refused ident number code place) = 0
ident_in (messages.Stored stored) = 0
ident_in (messages.Ask2 ask) = ask.ident
ident_in (messages.Retire retire) = 0
ident_in (messages.Retired retired) = 0
ident_in (messages.AskTables asked) = asked.ask.ident

abbrev pub ident_said : Said → ℕ
ident_said (said.Message message) = ident_in message
ident_said (said.GiveUp given) = given.by

-- the uuid for which an ident is asked
abbrev pub bound_in : Message → Option (List ℕ)
bound_in (messages.Bind uuid) = Some uuid
bound_in (messages.Ident given) = None
bound_in (messages.Upload upload) = None
bound_in (messages.Ask ask) = None
bound_in (messages.Download download) = None
bound_in (messages.Refused ident number code place) = None
bound_in (messages.Stored stored) = None
bound_in (messages.Ask2 ask) = None
bound_in (messages.Retire retire) = None
bound_in (messages.Retired retired) = None
bound_in (messages.AskTables asked) = None

abbrev pub bound_said : Said → Option (List ℕ)
bound_said (said.Message message) = bound_in message
bound_said (said.GiveUp given) = None

-- ---- the tests, in this order

-- 77: the server was opened without a life
abbrev pub life_test : Standing → Option Refusal
life_test at = if is_some at.life then None else because codes.NoLife 0

-- 60, 72: the ident is given, and it is that of the client with this uuid, which has lives
abbrev pub line_test : Standing → List ℕ → Option Line → Option Refusal
line_test at uuid None = because codes.NoSuchIdent at.idents
line_test at uuid (Some line) = if line.is_member && bytes_eq line.uuid uuid then None else because codes.NotYours at.ident

abbrev pub is_member : Option Line → Bool
is_member None = false
is_member (Some line) = line.is_member

-- 72: it asks for its own ident; and a client without lives, whose changes may stand in the history, gets none by asking anew
abbrev pub sender_test : Marks → Standing → List ℕ → Option (List ℕ) → Option Refusal
sender_test m at uuid None = line_test at uuid (line_of at.ident m.lines)
sender_test m at uuid (Some bound) = if bytes_eq uuid bound && (is_member (line_of at.ident m.lines) || at.count == 0) then None else because codes.NotYours at.ident

-- 71: the history is kept from the cursor on; a client that has taken nothing may ask for its ident
abbrev pub floor_test : Standing → Option (List ℕ) → Mark → Option Refusal
floor_test at bound cursor = if nat_lt cursor.number at.floor && not (is_some bound && cursor.number == 0) then because codes.Trimmed at.floor else None

-- 73: the history has the client's last entry, and it has that life
abbrev pub is_on_history : Marks → Standing → Mark → Bool
is_on_history m at cursor = cursor.number == 0 || (nat_le cursor.number at.len && bytes_eq (unwrap_or (life_before m cursor.number) no_life) cursor.life)

abbrev pub history_test : Marks → Standing → Mark → Option Refusal
history_test m at cursor = if is_on_history m at cursor then None else because codes.OffHistory at.len

-- 74: the life of the ident's last change in the history is the one that the Upload has at this number, where it has one
abbrev pub is_life : Option (List ℕ) → List ℕ → Bool
is_life None life = false
is_life (Some last) life = bytes_eq last life

abbrev pub last_in : Option Line → Option (List ℕ)
last_in None = None
last_in (Some line) = line.last

abbrev pub agrees : Option (List ℕ) → Option (List ℕ) → Bool
agrees last None = true
agrees last (Some life) = is_life last life

abbrev pub file_test : Marks → Standing → Lives → List ChangeParts → Option Refusal
file_test m at lives [] = None
file_test m at lives (change ∷ changes) =
    if at.count == 0 || (nat_lt at.count (change.number - 1) || agrees (last_in (line_of at.ident m.lines)) (slice_get lives (at.count - (change.number - 1)))) then None
    else because codes.OtherFile at.count

abbrev pub uploaded_in : Message → List ChangeParts
uploaded_in (messages.Bind uuid) = []
uploaded_in (messages.Ident given) = []
uploaded_in (messages.Upload upload) = upload.changes
uploaded_in (messages.Ask ask) = []
uploaded_in (messages.Download download) = []
uploaded_in (messages.Refused ident number code place) = []
uploaded_in (messages.Stored stored) = []
uploaded_in (messages.Ask2 ask) = []
uploaded_in (messages.Retire retire) = []
uploaded_in (messages.Retired retired) = []
uploaded_in (messages.AskTables asked) = []

abbrev pub uploaded_said : Said → List ChangeParts
uploaded_said (said.Message message) = uploaded_in message
uploaded_said (said.GiveUp given) = []

abbrev pub says_test : Marks → Standing → SaysParts → Option Refusal
says_test m at says =
    first_of (life_test at) (
    first_of (sender_test m at says.uuid (bound_said says.inner)) (
    first_of (floor_test at (bound_said says.inner) says.cursor) (
    first_of (history_test m at says.cursor) (
    file_test m at says.lives (uploaded_said says.inner)
    ))))

-- ---- a transaction

-- 76: it isn't there. 78: what stood before what it saves is
abbrev pub token_by : Option SavesParts → List ℕ → ℕ → TokenParts
token_by None life number = record { life = life; number = number }
token_by (Some saves) life number = saves.token

abbrev pub frontier_by : Option SavesParts → List TokenParts
frontier_by None = []
frontier_by (Some saves) = saves.frontier

abbrev pub lacks : (List ℕ → ℕ) → List TokenParts → Bool
lacks reached tokens = list_any (λ token. not (has reached token)) tokens

abbrev pub token_test : (List ℕ → ℕ) → Option SavesParts → List ℕ → ℕ → Option Code
token_test reached saves life number =
    if has reached (token_by saves life number) then Some codes.Twice
    else (if lacks reached (frontier_by saves) then Some codes.Before else None)
