-- What the program compares of a server's file and a client's: the marks that it reads from them.
use Rattle.std.specs.Prelude.{◌≡◌, ◌≢◌, ◌⊎◌, ◌-◌, ℕ, Bool, true, List, [], Option, Some, None, length, map, slice_get}
use Rattle.std.specs.Option.{option_map}
use Rattle.sync_model.specs.Bytes.{Uuid}
use Rattle.sync_model.specs.Profile.{Profile}
use Rattle.sync_model.specs.Clients.{ClientRecord, client_of, tooks_of}
use Rattle.sync_model.specs.Servers.{ServerRecord, server_of, count}
use Rattle.life_marks.specs.declared.pieces.ServerPiece.{ServerPiece}
use Rattle.life_marks.specs.declared.pieces.ClientPiece.{ClientPiece}
use Rattle.life_marks.specs.declared.server_marks.Line.{Line}
use Rattle.life_marks.specs.ServerMarks as server_marks
use Rattle.life_marks.specs.ClientMarks as client_marks
use Rattle.lives_law.specs.Lives.{Written}
use Rattle.lives_law.specs.Instances.{plain, is_entry, is_made}
use Rattle.lives_law.specs.Pair.{ident_at}
use Rattle.lives_law.specs.Sending.{lives_of}
use Rattle.lives_law.specs.Stored.{Kept, entry_by, took_by, kept_of, bare, bare_file}
use Rattle.lives_files.specs.Files.{server_file, client_file}

-- the life of an ident's last entry
abbrev pub last_of : Option Line → Option (List ℕ)
last_of None = None
last_of (Some line) = line.last

module _ (number : List ℕ → ℕ) where
  -- what the laws keep of an ident, as its line has it
  abbrev pub kept_in : Option Line → Kept
  kept_in None = record { noted = None; last = None }
  kept_in (Some line) = record { noted = option_map number line.noted; last = option_map number line.last }

  -- the marks of a server's file are what the laws look at: the lives of the entries, and of each ident what is kept
  pub record ServerIs (f : List (Written ServerPiece)) : Type 0 where
    pub lives : map number (server_marks.marks_of (plain f)).entries ≡ lives_of is_entry (bare_file (server_file number f))
    pub lines : (c : ℕ) → c ≢ 0 → kept_of entry_by c (plain (server_file number f)) ≡ kept_in (server_marks.line_of c (server_marks.marks_of (plain f)).lines)
    pub floor : (server_marks.marks_of (plain f)).floor ≡ 0

  -- and those of a client's: the lives of what it made, and what it keeps of the history
  pub record ClientIs (g : List (Written ClientPiece)) : Type 0 where
    pub lives : map number (client_marks.marks_of (plain g)).numbers ≡ lives_of is_made (bare_file (client_file number g))
    pub kept : kept_of took_by 0 (plain (client_file number g)) ≡ record { noted = option_map number (client_marks.marks_of (plain g)).noted; last = option_map number (client_marks.marks_of (plain g)).last }

  -- the records of a file, as the model sees them
  abbrev pub server_records : List (Written ServerPiece) → List ServerRecord
  server_records f = bare (plain (server_file number f))

  abbrev pub client_records : List (Written ClientPiece) → List ClientRecord
  client_records g = bare (plain (client_file number g))

  -- a server's file and a client's agree, by the marks that the program reads: the server doesn't know the client by another
  -- ident; the client took nothing, or the life of its last entry is the one that the server has before that version; and the
  -- server has nothing of its ident, or the life of the last that it has is the one that the client has of this number
  module _ {I S : Type 0} (p : Profile I S) (is_old : Uuid → Bool) where
    pub record MarksAgree (f : List (Written ServerPiece)) (g : List (Written ClientPiece)) : Type 0 where
      pub id : Uuid
      pub born : (client_of p (client_records g)).id ≡ Some id
      pub new : is_old id ≡ true → ⊥
      pub ident : ((client_of p (client_records g)).ident ≡ 0) ⊎ ((client_of p (client_records g)).ident ≡ ident_at p (server_records f) id)
      pub reads : (tooks_of (client_records g) ≡ [])
          ⊎ ((life : List ℕ) × ((client_marks.marks_of (plain g)).last ≡ Some life) × (server_marks.life_before (server_marks.marks_of (plain f)) (length (tooks_of (client_records g))) ≡ Some life))
      pub is_read : (count (server_of p (server_records f)) (ident_at p (server_records f) id) ≡ 0)
          ⊎ ((life : List ℕ) × (ident_at p (server_records f) id ≢ 0) × (last_of (server_marks.line_of (ident_at p (server_records f) id) (server_marks.marks_of (plain f)).lines) ≡ Some life)
          × (slice_get (client_marks.marks_of (plain g)).numbers (count (server_of p (server_records f)) (ident_at p (server_records f) id) - 1) ≡ Some life))
