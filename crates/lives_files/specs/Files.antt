-- The records and notes of the program's files, as the laws of lives see them: records, and notes of whose life what is taken is.
-- What else stands in notes is left out.
use Rattle.std.specs.Prelude.{◌≡◌, ℕ, List, [], ◌∷◌, ◌++◌, map}
use Rattle.sync_model.specs.Clients.{ClientRecord}
use Rattle.sync_model.specs.Servers.{ServerRecord}
use Rattle.sync_exchange.specs.Seen.{client_seen, server_seen}
use Rattle.life_bytes.specs.declared.note.Note.{Note}
use Rattle.life_bytes.specs.declared.note.Note.TheVariants as notes
use Rattle.life_marks.specs.declared.pieces.ServerPiece.{ServerPiece}
use Rattle.life_marks.specs.declared.pieces.ServerPiece.TheVariants as server
use Rattle.life_marks.specs.declared.pieces.ClientPiece.{ClientPiece}
use Rattle.life_marks.specs.declared.pieces.ClientPiece.TheVariants as client
use Rattle.lives_law.specs.Lives.{Written}
use Rattle.lives_law.specs.Stored.{Noted, it, note}

-- the laws number lives, and the program's lives are bytes: any numbering, in which no two have one number
pub record Numbering : Type 0 where
  pub number : List ℕ → ℕ
  pub apart : (a b : List ℕ) → number a ≡ number b → a ≡ b

-- what a node has open, piece by piece
abbrev pub in_life : {R : Type 0} → ℕ → R → Written R
in_life l r = record { life = l; what = r }

-- each piece is read as some, of the same life
abbrev pub read_all : {P Q : Type 0} → (P → List Q) → List (Written P) → List (Written Q)
read_all read [] = []
read_all read (x ∷ f) = map (in_life x.life) (read x.what) ++ read_all read f

module _ (number : List ℕ → ℕ) where
  -- of an ident the entries from here on
  abbrev pub server_note : Note → List (Noted ServerRecord)
  server_note (notes.Numbers of) = note of.ident (number of.life) ∷ []
  server_note (notes.Life life) = []
  server_note (notes.Birth life) = []
  server_note (notes.Of life) = []
  server_note (notes.Saves saves) = []
  server_note (notes.Member ident) = []
  server_note (notes.Saved token) = []
  server_note (notes.Reached token) = []
  server_note (notes.Lives lives) = []

  -- of the history the entries from here on
  abbrev pub client_note : Note → List (Noted ClientRecord)
  client_note (notes.Of life) = note 0 (number life) ∷ []
  client_note (notes.Life life) = []
  client_note (notes.Birth life) = []
  client_note (notes.Saves saves) = []
  client_note (notes.Member ident) = []
  client_note (notes.Numbers of) = []
  client_note (notes.Saved token) = []
  client_note (notes.Reached token) = []
  client_note (notes.Lives lives) = []

  abbrev pub server_piece : ServerPiece → List (Noted ServerRecord)
  server_piece (server.Record r) = it (server_seen r) ∷ []
  server_piece (server.Note n) = server_note n
  server_piece server.Later = []

  abbrev pub client_piece : ClientPiece → List (Noted ClientRecord)
  client_piece (client.Record r) = it (client_seen r) ∷ []
  client_piece (client.Note n) = client_note n
  client_piece client.Later = []

  -- a file of the program as one of the laws
  abbrev pub server_file : List (Written ServerPiece) → List (Written (Noted ServerRecord))
  server_file f = read_all server_piece f

  abbrev pub client_file : List (Written ClientPiece) → List (Written (Noted ClientRecord))
  client_file f = read_all client_piece f
