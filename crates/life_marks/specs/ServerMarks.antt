-- What the records and notes of a server's file say of lives.
use Rattle.std.specs.Prelude.{ℕ, zero, suc, ◌-◌, true, false, nat_lt, ◌==◌, if◌then◌else◌, List, [], ◌∷◌, ◌++◌, Option, Some, None, slice_get, replicate}
use Rattle.std.specs.Option.{unwrap_or}
use Rattle.sync_records.specs.declared.server.ServerRecord.{ServerRecord}
use Rattle.sync_records.specs.declared.server.ServerRecord.TheVariants as records
use Rattle.life_marks.specs.declared.pieces.ServerPiece.{ServerPiece}
use Rattle.life_marks.specs.declared.pieces.ServerPiece.TheVariants as pieces
use Rattle.life_bytes.specs.declared.note.Note.{Note}
use Rattle.life_bytes.specs.declared.note.Note.TheVariants as notes
use Rattle.life_bytes.specs.Runs.{Lives}
use Rattle.life_bytes.specs.Parts.{TokenParts}
use Rattle.life_marks.specs.Reached.{number_of, raised, nothing_reached}
use Rattle.life_marks.specs.declared.server_marks.Line.{Line}
use Rattle.life_marks.specs.declared.server_marks.ServerMarks.{ServerMarks}

-- the file's first life and its last; that of the entry before the floor, the floor, and those of the entries from there on; what is
-- known of each ident; of each life of clients the number of its last transaction that is there; and what the next entry saves
pub record Marks : Type 0 where
  pub birth : Option (List ℕ)
  pub life : Option (List ℕ)
  pub before : Option (List ℕ)
  pub floor : ℕ
  pub entries : Lives
  pub lines : List Line
  pub reached : List ℕ → ℕ
  pub saved : Option TokenParts

abbrev pub seen : ServerMarks → Marks
seen s = record { birth = s.birth; life = s.life; before = s.before; floor = s.floor; entries = s.entries; lines = s.lines.items; reached = number_of s.reached; saved = s.saved }

-- the life of what was written before the first one
abbrev pub no_life : List ℕ
no_life = replicate 16 0

-- those of an empty file
abbrev pub no_marks : Marks
no_marks = record { birth = None; life = None; before = None; floor = 0; entries = []; lines = []; reached = nothing_reached; saved = None }

-- ---- what is known of an ident, of which the first is 1

abbrev pub line_of : ℕ → List Line → Option Line
line_of zero lines = None
line_of (suc n) lines = slice_get lines n

abbrev pub at_place : ℕ → (Line → Line) → List Line → List Line
at_place n f [] = []
at_place zero f (line ∷ lines) = f line ∷ lines
at_place (suc n) f (line ∷ lines) = line ∷ at_place n f lines

abbrev pub with_line : ℕ → (Line → Line) → List Line → List Line
with_line zero f lines = lines
with_line (suc n) f lines = at_place n f lines

-- the client has lives
abbrev pub as_member : Line → Line
as_member line = record line { is_member = true }

-- its entries from here on are of this life
abbrev pub noting : List ℕ → Line → Line
noting life line = record line { noted = Some life }

-- it has an entry of the life that is noted
abbrev pub ended : Line → Line
ended line = record line { last = line.noted }

abbrev pub newly_given : List ℕ → Line
newly_given uuid = record { uuid = uuid; is_member = false; noted = None; last = None }

-- ---- an entry

-- a transaction without another token; number 0 is none
abbrev pub own_token : Option Line → ℕ → Option TokenParts
own_token None number = None
own_token (Some line) zero = None
own_token (Some line) (suc n) = Some (record { life = unwrap_or line.noted line.uuid; number = suc n })

-- that of its original where it saves one, and else its own; the life of what has none is the uuid
abbrev pub token_told : Option TokenParts → Option Line → ℕ → Option TokenParts
token_told (Some token) line number = Some token
token_told None line number = own_token line number

abbrev pub raised_by : Option TokenParts → (List ℕ → ℕ) → List ℕ → ℕ
raised_by None numbers = numbers
raised_by (Some token) numbers = raised token numbers

abbrev pub after_entry : Marks → ℕ → ℕ → Marks
after_entry m ident number = record m {
  entries = m.entries ++ unwrap_or m.life no_life ∷ [];
  lines = with_line ident ended m.lines;
  reached = raised_by (token_told m.saved (line_of ident m.lines) number) m.reached;
  saved = None;
}

-- ---- records and notes

-- whatever stands behind the note of what is saved, that isn't the next entry, takes it back
abbrev pub unsaved : Marks → Marks
unsaved m = record m { saved = None }

abbrev pub first_of : Option (List ℕ) → List ℕ → Option (List ℕ)
first_of None life = Some life
first_of (Some birth) life = Some birth

abbrev pub after_note : Marks → Note → Marks
after_note m (notes.Life life) = record m { birth = first_of m.birth life; life = Some life; saved = None }
after_note m (notes.Birth life) = unsaved m
after_note m (notes.Of life) = record m { before = Some life; saved = None }
after_note m (notes.Saves saves) = unsaved m
after_note m (notes.Member ident) = record m { lines = with_line ident as_member m.lines; saved = None }
after_note m (notes.Numbers numbers) = record m { lines = with_line numbers.ident (noting numbers.life) m.lines; saved = None }
after_note m (notes.Saved token) = record m { saved = Some token }
after_note m (notes.Reached token) = record m { reached = raised token m.reached; saved = None }
after_note m (notes.Lives lives) = record m { entries = m.entries ++ lives; saved = None }

abbrev pub after_client : Marks → List ℕ → Marks
after_client m uuid = record m { lines = m.lines ++ newly_given uuid ∷ []; saved = None }

-- in the front of a file that was written anew an ident has so many entries
abbrev pub counted : ℕ → ℕ → List Line → List Line
counted ident zero lines = lines
counted ident (suc n) lines = with_line ident ended lines

abbrev pub after_record : Marks → ServerRecord → Marks
after_record m (records.Client id) = after_client m id
after_record m (records.Entry origin number base ms body) = after_entry m origin number
-- an entry may follow
after_record m records.Form = m
after_record m (records.Retired ident by) = unsaved m
after_record m (records.Settled ident settled) = unsaved m
after_record m (records.Part body) = unsaved m
after_record m (records.Floor version) = record m { floor = version; saved = None }
after_record m (records.Count ident number base settled) = record m { lines = counted ident number m.lines; saved = None }
after_record m (records.Carried origin number base ms body) = unsaved m
after_record m (records.Past ident version ms body) = unsaved m

-- ---- a file

-- a note of a later program is passed over
abbrev pub after_piece : Marks → ServerPiece → Marks
after_piece m (pieces.Record r) = after_record m r
after_piece m (pieces.Note n) = after_note m n
after_piece m pieces.Later = m

abbrev pub after_pieces : Marks → List ServerPiece → Marks
after_pieces m [] = m
after_pieces m (p ∷ ps) = after_pieces (after_piece m p) ps

abbrev pub marks_of : List ServerPiece → Marks
marks_of ps = after_pieces no_marks ps

-- ---- readers

-- the life of the entry before a version, from the floor on; that of version 0 is the birth
abbrev pub life_before : Marks → ℕ → Option (List ℕ)
life_before m zero = m.birth
life_before m (suc v) = if nat_lt (suc v) m.floor then None else (if suc v == m.floor then m.before else slice_get m.entries (v - m.floor))
