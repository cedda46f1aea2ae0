-- Files whose notes tell the life in which each entry, or transaction, was written, and that were never written anew.
use Rattle.std.specs.Prelude.{◌≡◌, ◌≤◌, ℕ, List, [], ◌∷◌, Some, length}
use Rattle.sync_records.specs.declared.server.ServerRecord.{ServerRecord}
use Rattle.sync_records.specs.declared.server.ServerRecord.TheVariants as servers
use Rattle.sync_records.specs.declared.client.ClientRecord.{ClientRecord}
use Rattle.sync_records.specs.declared.client.ClientRecord.TheVariants as clients
use Rattle.life_bytes.specs.declared.note.Note.{Note}
use Rattle.life_bytes.specs.declared.note.Note.TheVariants as notes
use Rattle.life_marks.specs.declared.pieces.ServerPiece.{ServerPiece}
use Rattle.life_marks.specs.declared.pieces.ServerPiece.TheVariants as server
use Rattle.life_marks.specs.declared.pieces.ClientPiece.{ClientPiece}
use Rattle.life_marks.specs.declared.pieces.ClientPiece.TheVariants as client
use Rattle.life_marks.specs.ServerMarks as server_marks
use Rattle.life_marks.specs.ClientMarks as client_marks
use Rattle.lives_law.specs.Lives.{Written}

module _ (number : List ℕ → ℕ) where
  -- an entry is of the life that was noted last
  abbrev pub ServerRecordTells : server_marks.Marks → ℕ → ServerRecord → Type 0
  ServerRecordTells m l (servers.Entry origin n base ms body) = (life : List ℕ) × (m.life ≡ Some life) × (number life ≡ l)
  ServerRecordTells m l (servers.Client id) = Unit {0}
  ServerRecordTells m l servers.Form = Unit {0}
  ServerRecordTells m l (servers.Retired ident by) = Unit {0}
  ServerRecordTells m l (servers.Settled ident settled) = Unit {0}
  ServerRecordTells m l (servers.Part body) = ⊥
  ServerRecordTells m l (servers.Floor version) = ⊥
  ServerRecordTells m l (servers.Count ident n base settled) = ⊥
  ServerRecordTells m l (servers.Carried origin n base ms body) = ⊥
  ServerRecordTells m l (servers.Past ident version ms body) = ⊥

  -- a life is that of the opening, and what is noted of an ident stands behind the record that gives it
  abbrev pub ServerNoteTells : server_marks.Marks → ℕ → Note → Type 0
  ServerNoteTells m l (notes.Life life) = number life ≡ l
  ServerNoteTells m l (notes.Numbers of) = of.ident ≤ length m.lines
  ServerNoteTells m l (notes.Birth life) = Unit {0}
  ServerNoteTells m l (notes.Of life) = Unit {0}
  ServerNoteTells m l (notes.Saves saves) = Unit {0}
  ServerNoteTells m l (notes.Member ident) = Unit {0}
  ServerNoteTells m l (notes.Saved token) = Unit {0}
  ServerNoteTells m l (notes.Reached token) = Unit {0}
  ServerNoteTells m l (notes.Lives lives) = ⊥

  abbrev pub ServerPieceTells : server_marks.Marks → ℕ → ServerPiece → Type 0
  ServerPieceTells m l (server.Record r) = ServerRecordTells m l r
  ServerPieceTells m l (server.Note n) = ServerNoteTells m l n
  ServerPieceTells m l server.Later = Unit {0}

  -- each piece of a file does, behind those before it
  abbrev pub ServerTells : server_marks.Marks → List (Written ServerPiece) → Type 0
  ServerTells m [] = Unit {0}
  ServerTells m (x ∷ f) = ServerPieceTells m x.life x.what × ServerTells (server_marks.after_piece m x.what) f

  -- a transaction is of the life that was noted last
  abbrev pub ClientRecordTells : client_marks.Marks → ℕ → ClientRecord → Type 0
  ClientRecordTells m l (clients.Made n ms body) = (life : List ℕ) × (m.life ≡ Some life) × (number life ≡ l)
  ClientRecordTells m l (clients.Born id) = Unit {0}
  ClientRecordTells m l (clients.Named ident) = Unit {0}
  ClientRecordTells m l (clients.Took origin n ms body) = Unit {0}
  ClientRecordTells m l clients.Form = Unit {0}
  ClientRecordTells m l (clients.Subset tables) = Unit {0}
  ClientRecordTells m l (clients.Part body) = ⊥
  ClientRecordTells m l (clients.Floor version) = ⊥
  ClientRecordTells m l (clients.Resumed n waiting) = ⊥
  ClientRecordTells m l (clients.Waits n base ms body current) = ⊥

  -- a life is that of the opening
  abbrev pub ClientNoteTells : ℕ → Note → Type 0
  ClientNoteTells l (notes.Life life) = number life ≡ l
  ClientNoteTells l (notes.Numbers of) = Unit {0}
  ClientNoteTells l (notes.Birth life) = Unit {0}
  ClientNoteTells l (notes.Of life) = Unit {0}
  ClientNoteTells l (notes.Saves saves) = Unit {0}
  ClientNoteTells l (notes.Member ident) = Unit {0}
  ClientNoteTells l (notes.Saved token) = Unit {0}
  ClientNoteTells l (notes.Reached token) = Unit {0}
  ClientNoteTells l (notes.Lives lives) = Unit {0}

  abbrev pub ClientPieceTells : client_marks.Marks → ℕ → ClientPiece → Type 0
  ClientPieceTells m l (client.Record r) = ClientRecordTells m l r
  ClientPieceTells m l (client.Note n) = ClientNoteTells l n
  ClientPieceTells m l client.Later = Unit {0}

  abbrev pub ClientTells : client_marks.Marks → List (Written ClientPiece) → Type 0
  ClientTells m [] = Unit {0}
  ClientTells m (x ∷ f) = ClientPieceTells m x.life x.what × ClientTells (client_marks.after_piece m x.what) f
