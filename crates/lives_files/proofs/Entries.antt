-- The lives of a server's entries, as its marks have them.
use Rattle.std.proofs.Common.{◌≡◌, ℕ, zero, suc, List, [], ◌∷◌, ◌++◌, map, Option, Some, refl, sym, ap, ◌∙◌, append_assoc, append-nil}
use Rattle.std.specs.Option.{unwrap_or}
use Rattle.life_bytes.specs.declared.note.Note.{Note}
use Rattle.life_bytes.specs.declared.note.Note.TheVariants as notes
use Rattle.sync_records.specs.declared.server.ServerRecord.{ServerRecord}
use Rattle.sync_records.specs.declared.server.ServerRecord.TheVariants as servers
use Rattle.life_marks.specs.declared.pieces.ServerPiece.{ServerPiece}
use Rattle.life_marks.specs.declared.pieces.ServerPiece.TheVariants as server
use Rattle.life_marks.specs.ServerMarks.{Marks, no_life, no_marks, after_piece, after_pieces, marks_of}
use Rattle.lives_law.specs.Lives.{Written}
use Rattle.lives_law.specs.Instances.{plain, is_entry}
use Rattle.lives_law.specs.Sending.{lives_of}
use Rattle.lives_law.specs.Stored.{bare_file}
use Rattle.lives_files.specs.Files.{in_life, server_file}
use Rattle.lives_files.specs.Telling.{ServerRecordTells, ServerNoteTells, ServerPieceTells, ServerTells}
use Rattle.lives_files.specs.Agreeing.{ServerIs}
use Rattle.lives_files.proofs.Lines.{lines_kept}

module _ (number : List ℕ → ℕ) where
  map_both : (xs ys : List (List ℕ)) → map number (xs ++ ys) ≡ map number xs ++ map number ys
  map_both [] ys = refl
  map_both (x ∷ xs) ys = ap (λ l. number x ∷ l) (map_both xs ys)

  -- one more, of this life
  pub map_one : (lives : List (List ℕ)) (o : Option (List ℕ)) (life : List ℕ) (l : ℕ) → o ≡ Some life → number life ≡ l → (more : List ℕ) → map number (lives ++ unwrap_or o no_life ∷ []) ++ more ≡ map number lives ++ l ∷ more
  map_one lives o life l e is more =
      ap (λ z. map number (lives ++ unwrap_or z no_life ∷ []) ++ more) e
      ∙ ap (λ z. z ++ more) (map_both lives (life ∷ []))
      ∙ append_assoc (map number lives) (number life ∷ []) more
      ∙ ap (λ z. map number lives ++ z ∷ more) is

  module _ (f : List (Written ServerPiece)) where
    abbrev rest : List ℕ
    rest = lives_of is_entry (bare_file (server_file number f))

    abbrev one : ℕ → ServerPiece → List ℕ
    one l w = lives_of is_entry (bare_file (server_file number (in_life l w ∷ f)))

    record_told : (m : Marks) (l : ℕ) (r : ServerRecord) → ServerRecordTells number m l r → map number (after_piece m (server.Record r)).entries ++ rest ≡ map number m.entries ++ one l (server.Record r)
    record_told m l (servers.Client id) t = refl
    record_told m l (servers.Entry origin n base ms body) t = map_one m.entries m.life t.0 l t.1 t.2 rest
    record_told m l servers.Form t = refl
    record_told m l (servers.Retired ident by) t = refl
    record_told m l (servers.Settled ident settled) t = refl
    record_told m l (servers.Part body) t = absurd t
    record_told m l (servers.Floor version) t = absurd t
    record_told m l (servers.Count ident n base settled) t = absurd t
    record_told m l (servers.Carried origin n base ms body) t = absurd t
    record_told m l (servers.Past ident version ms body) t = absurd t

    note_told : (m : Marks) (l : ℕ) (n : Note) → ServerNoteTells number m l n → map number (after_piece m (server.Note n)).entries ++ rest ≡ map number m.entries ++ one l (server.Note n)
    note_told m l (notes.Life life) t = refl
    note_told m l (notes.Numbers of) t = refl
    note_told m l (notes.Birth life) t = refl
    note_told m l (notes.Of life) t = refl
    note_told m l (notes.Saves saves) t = refl
    note_told m l (notes.Member ident) t = refl
    note_told m l (notes.Saved token) t = refl
    note_told m l (notes.Reached token) t = refl
    note_told m l (notes.Lives lives) t = absurd t

    piece_told : (m : Marks) (l : ℕ) (w : ServerPiece) → ServerPieceTells number m l w → map number (after_piece m w).entries ++ rest ≡ map number m.entries ++ one l w
    piece_told m l (server.Record r) t = record_told m l r t
    piece_told m l (server.Note n) t = note_told m l n t
    piece_told m l server.Later t = refl

  entries_told : (f : List (Written ServerPiece)) (m : Marks) → ServerTells number m f → map number (after_pieces m (plain f)).entries ≡ map number m.entries ++ lives_of is_entry (bare_file (server_file number f))
  entries_told [] m t = sym (append-nil (map number m.entries))
  entries_told (x ∷ f) m t = entries_told f (after_piece m x.what) t.1 ∙ piece_told f m x.life x.what t.0

  -- ---- no floor

  record_level : (m : Marks) (l : ℕ) (r : ServerRecord) → ServerRecordTells number m l r → (after_piece m (server.Record r)).floor ≡ m.floor
  record_level m l (servers.Client id) t = refl
  record_level m l (servers.Entry origin n base ms body) t = refl
  record_level m l servers.Form t = refl
  record_level m l (servers.Retired ident by) t = refl
  record_level m l (servers.Settled ident settled) t = refl
  record_level m l (servers.Part body) t = absurd t
  record_level m l (servers.Floor version) t = absurd t
  record_level m l (servers.Count ident n base settled) t = absurd t
  record_level m l (servers.Carried origin n base ms body) t = absurd t
  record_level m l (servers.Past ident version ms body) t = absurd t

  note_level : (m : Marks) (n : Note) → (after_piece m (server.Note n)).floor ≡ m.floor
  note_level m (notes.Life life) = refl
  note_level m (notes.Numbers of) = refl
  note_level m (notes.Birth life) = refl
  note_level m (notes.Of life) = refl
  note_level m (notes.Saves saves) = refl
  note_level m (notes.Member ident) = refl
  note_level m (notes.Saved token) = refl
  note_level m (notes.Reached token) = refl
  note_level m (notes.Lives lives) = refl

  piece_level : (m : Marks) (l : ℕ) (w : ServerPiece) → ServerPieceTells number m l w → (after_piece m w).floor ≡ m.floor
  piece_level m l (server.Record r) t = record_level m l r t
  piece_level m l (server.Note n) t = note_level m n
  piece_level m l server.Later t = refl

  level : (f : List (Written ServerPiece)) (m : Marks) → ServerTells number m f → (after_pieces m (plain f)).floor ≡ m.floor
  level [] m t = refl
  level (x ∷ f) m t = level f (after_piece m x.what) t.1 ∙ piece_level m x.life x.what t.0

  pub server_is : (f : List (Written ServerPiece)) → ServerTells number no_marks f → ServerIs number f
  server_is f t = record {
    lives = entries_told f no_marks t;
    lines = λ c ne. on c ne;
    floor = level f no_marks t;
  }
    where
      on : (c : ℕ) → (c ≡ 0 → ⊥) → Rattle.lives_law.specs.Stored.kept_of Rattle.lives_law.specs.Stored.entry_by c (plain (server_file number f)) ≡ Rattle.lives_files.specs.Agreeing.kept_in number (Rattle.life_marks.specs.ServerMarks.line_of c (marks_of (plain f)).lines)
      on zero ne = absurd (ne refl)
      on (suc c) ne = lines_kept number c f no_marks t
