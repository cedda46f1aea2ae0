-- How the records and notes of a file are read.
use Rattle.std.specs.Prelude.{◌≡◌, ℕ, ◌+◌, ◌<◌, Result, Ok, Err, Bool, false, ◌&&◌, ◌||◌, ◌==◌, nat_le, if◌then◌else◌, bytes_eq, List, [], ◌∷◌, length, Option, Some, None}
use Rattle.std.specs.Option.{option_map, is_some}
use Rattle.std.specs.List.{list_any}
use Rattle.sync_records.specs.Reading.{record_in, server_forms, client_forms}
use Rattle.life_bytes.specs.Reading.{note_in}
use Rattle.life_bytes.specs.Spelling.{is_note}
use Rattle.life_marks.specs.ServerMarks.{no_life, after_piece as after_server_piece, Marks as ServerMarks}
use Rattle.life_marks.specs.ClientMarks.{after_piece as after_client_piece, Marks as ClientMarks}
use Rattle.life_marks.specs.declared.pieces.PieceRefusal.{PieceRefusal}
use Rattle.life_marks.specs.declared.pieces.PieceRefusal.TheVariants as refusals
use Rattle.life_marks.specs.declared.reading.MarksRefusal.{MarksRefusal}
use Rattle.life_marks.specs.declared.reading.MarksRefusal.TheVariants as marks
use Rattle.life_marks.specs.declared.pieces.ServerPiece.{ServerPiece}
use Rattle.life_marks.specs.declared.pieces.ServerPiece.TheVariants as server
use Rattle.life_marks.specs.declared.pieces.ClientPiece.{ClientPiece}
use Rattle.life_marks.specs.declared.pieces.ClientPiece.TheVariants as client

-- a note that only a later program knows
abbrev pub is_later : List ℕ → Bool
is_later [] = false
is_later (tag ∷ bytes) = nat_le 27 tag && nat_le tag 31

abbrev pub server_piece_in : List ℕ → Option ServerPiece
server_piece_in bytes =
    if is_later bytes then Some server.Later
    else (if is_note bytes then option_map server.Note (note_in bytes) else option_map server.Record (record_in server_forms bytes))

abbrev pub client_piece_in : List ℕ → Option ClientPiece
client_piece_in bytes =
    if is_later bytes then Some client.Later
    else (if is_note bytes then option_map client.Note (note_in bytes) else option_map client.Record (record_in client_forms bytes))

-- what is returned is what was read, unless memory ran out
abbrev pub PieceFails : {P : Type 0} → PieceRefusal → Option P → Type 0
PieceFails refusals.NoMemory read = Unit {0}
PieceFails refusals.BadPiece read = read ≡ None

abbrev pub GivesPiece : {P : Type 0} → Result P PieceRefusal → Option P → Type 0
GivesPiece (Ok p) read = read ≡ Some p
GivesPiece (Err refusal) read = PieceFails refusal read

-- a piece is read, and then the others; none where one isn't
abbrev pub then_piece : {P M : Type 0} → (M → P → M) → Option P → M → (M → Option M) → Option M
then_piece after None m go = None
then_piece after (Some p) m go = go (after m p)

-- the marks of the pieces that these bytes spell, behind others
abbrev pub server_marks_in : ServerMarks → List (List ℕ) → Option ServerMarks
server_marks_in m [] = Some m
server_marks_in m (bytes ∷ rest) = then_piece after_server_piece (server_piece_in bytes) m (λ n. server_marks_in n rest)

abbrev pub client_marks_in : ClientMarks → List (List ℕ) → Option ClientMarks
client_marks_in m [] = Some m
client_marks_in m (bytes ∷ rest) = then_piece after_client_piece (client_piece_in bytes) m (λ n. client_marks_in n rest)

-- how many pieces are read before the first that isn't
abbrev pub read_before : {P : Type 0} → (List ℕ → Option P) → List (List ℕ) → ℕ
read_before read [] = 0
read_before read (bytes ∷ rest) = if is_some (read bytes) then read_before read rest + 1 else 0

-- a refusal tells the first place where none is read
abbrev pub TellsUnread : {P : Type 0} → (List ℕ → Option P) → List (List ℕ) → MarksRefusal → Type 0
TellsUnread read pieces marks.LifeUsed = Unit {0}
TellsUnread read pieces (marks.BadPiece place) = (place < length pieces) × (place ≡ read_before read pieces)
TellsUnread read pieces marks.NoMemory = Unit {0}

-- the note that a life begins
abbrev pub begins : List ℕ → List ℕ → Bool
begins life [] = false
begins life (tag ∷ bytes) = (tag == 18) && bytes_eq bytes life

-- a life that no opening may have: that of no number, or one that began before
abbrev pub is_used : Option (List ℕ) → List (List ℕ) → Bool
is_used None pieces = false
is_used (Some life) pieces = bytes_eq life no_life || list_any (begins life) pieces
