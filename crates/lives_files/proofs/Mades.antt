-- The lives of what a client made and took, as its marks have them.
use Rattle.std.proofs.Common.{◌≡◌, ℕ, List, [], ◌∷◌, ◌++◌, map, Option, Some, refl, sym, ap, ◌∙◌, append-nil}
use Rattle.std.specs.Option.{option_map}
use Rattle.life_bytes.specs.declared.note.Note.{Note}
use Rattle.life_bytes.specs.declared.note.Note.TheVariants as notes
use Rattle.sync_records.specs.declared.client.ClientRecord.{ClientRecord}
use Rattle.sync_records.specs.declared.client.ClientRecord.TheVariants as clients
use Rattle.life_marks.specs.declared.pieces.ClientPiece.{ClientPiece}
use Rattle.life_marks.specs.declared.pieces.ClientPiece.TheVariants as client
use Rattle.life_marks.specs.ClientMarks.{Marks, no_marks, last_at, after_piece, after_pieces}
use Rattle.lives_law.specs.Lives.{Written}
use Rattle.lives_law.specs.Instances.{plain, is_made}
use Rattle.lives_law.specs.Sending.{lives_of}
use Rattle.lives_law.specs.Stored.{Kept, took_by, keeps_all, bare_file}
use Rattle.lives_files.specs.Files.{in_life, client_file}
use Rattle.lives_files.specs.Telling.{ClientRecordTells, ClientPieceTells, ClientTells}
use Rattle.lives_files.specs.Agreeing.{ClientIs}
use Rattle.lives_files.proofs.Entries.{map_one}

module _ (number : List ℕ → ℕ) where
  module _ (f : List (Written ClientPiece)) where
    -- ---- what it made

    abbrev rest : List ℕ
    rest = lives_of is_made (bare_file (client_file number f))

    abbrev one : ℕ → ClientPiece → List ℕ
    one l w = lives_of is_made (bare_file (client_file number (in_life l w ∷ f)))

    record_told : (m : Marks) (l : ℕ) (r : ClientRecord) → ClientRecordTells number m l r → map number (after_piece m (client.Record r)).numbers ++ rest ≡ map number m.numbers ++ one l (client.Record r)
    record_told m l (clients.Born id) t = refl
    record_told m l (clients.Named ident) t = refl
    record_told m l (clients.Made n ms body) t = map_one number m.numbers m.life t.0 l t.1 t.2 rest
    record_told m l (clients.Took origin n ms body) t = refl
    record_told m l clients.Form t = refl
    record_told m l (clients.Subset tables) t = refl
    record_told m l (clients.Part body) t = absurd t
    record_told m l (clients.Floor version) t = absurd t
    record_told m l (clients.Resumed n waiting) t = absurd t
    record_told m l (clients.Waits n base ms body current) t = absurd t

    note_told : (m : Marks) (l : ℕ) (n : Note) → map number (after_piece m (client.Note n)).numbers ++ rest ≡ map number m.numbers ++ one l (client.Note n)
    note_told m l (notes.Life life) = refl
    note_told m l (notes.Numbers of) = refl
    note_told m l (notes.Birth life) = refl
    note_told m l (notes.Of life) = refl
    note_told m l (notes.Saves saves) = refl
    note_told m l (notes.Member ident) = refl
    note_told m l (notes.Saved token) = refl
    note_told m l (notes.Reached token) = refl
    note_told m l (notes.Lives lives) = refl

    piece_told : (m : Marks) (l : ℕ) (w : ClientPiece) → ClientPieceTells number m l w → map number (after_piece m w).numbers ++ rest ≡ map number m.numbers ++ one l w
    piece_told m l (client.Record r) t = record_told m l r t
    piece_told m l (client.Note n) t = note_told m l n
    piece_told m l client.Later t = refl

  numbers_told : (f : List (Written ClientPiece)) (m : Marks) → ClientTells number m f → map number (after_pieces m (plain f)).numbers ≡ map number m.numbers ++ lives_of is_made (bare_file (client_file number f))
  numbers_told [] m t = sym (append-nil (map number m.numbers))
  numbers_told (x ∷ f) m t = numbers_told f (after_piece m x.what) t.1 ∙ piece_told f m x.life x.what t.0

  -- ---- what it took

  abbrev kept : Marks → Kept
  kept m = record { noted = option_map number m.noted; last = option_map number m.last }

  -- no floor stands right before
  abbrev NoFloor : Marks → Type 0
  NoFloor m = (l : Option (List ℕ)) (life : List ℕ) → last_at m.before l life ≡ l

  module _ (f : List (Written ClientPiece)) where
    abbrev behind : Kept → Kept
    behind k = keeps_all took_by 0 k (plain (client_file number f))

    abbrev all : Marks → ℕ → ClientPiece → Kept
    all m l w = keeps_all took_by 0 (kept m) (plain (client_file number (in_life l w ∷ f)))

    record_kept : (m : Marks) (l : ℕ) (r : ClientRecord) → ClientRecordTells number m l r → (all m l (client.Record r) ≡ behind (kept (after_piece m (client.Record r)))) × NoFloor (after_piece m (client.Record r))
    record_kept m l (clients.Born id) t = (refl, λ o life. refl)
    record_kept m l (clients.Named ident) t = (refl, λ o life. refl)
    record_kept m l (clients.Made n ms body) t = (refl, λ o life. refl)
    record_kept m l (clients.Took origin n ms body) t = (refl, λ o life. refl)
    record_kept m l clients.Form t = (refl, λ o life. refl)
    record_kept m l (clients.Subset tables) t = (refl, λ o life. refl)
    record_kept m l (clients.Part body) t = absurd t
    record_kept m l (clients.Floor version) t = absurd t
    record_kept m l (clients.Resumed n waiting) t = absurd t
    record_kept m l (clients.Waits n base ms body current) t = absurd t

    note_kept : (m : Marks) (l : ℕ) (n : Note) → NoFloor m → (all m l (client.Note n) ≡ behind (kept (after_piece m (client.Note n)))) × NoFloor (after_piece m (client.Note n))
    note_kept m l (notes.Life life) z = (refl, λ o life. refl)
    note_kept m l (notes.Numbers of) z = (refl, λ o life. refl)
    note_kept m l (notes.Birth life) z = (refl, λ o life. refl)
    note_kept m l (notes.Of life) z = (ap (λ (o : Option (List ℕ)). behind (record { noted = Some (number life); last = option_map number o })) (sym (z m.last life)), λ o life. refl)
    note_kept m l (notes.Saves saves) z = (refl, λ o life. refl)
    note_kept m l (notes.Member ident) z = (refl, λ o life. refl)
    note_kept m l (notes.Saved token) z = (refl, λ o life. refl)
    note_kept m l (notes.Reached token) z = (refl, λ o life. refl)
    note_kept m l (notes.Lives lives) z = (refl, λ o life. refl)

    piece_kept : (m : Marks) (l : ℕ) (w : ClientPiece) → ClientPieceTells number m l w → NoFloor m → (all m l w ≡ behind (kept (after_piece m w))) × NoFloor (after_piece m w)
    piece_kept m l (client.Record r) t z = record_kept m l r t
    piece_kept m l (client.Note n) t z = note_kept m l n z
    piece_kept m l client.Later t z = (refl, z)

  all_kept : (f : List (Written ClientPiece)) (m : Marks) → ClientTells number m f → NoFloor m → keeps_all took_by 0 (kept m) (plain (client_file number f)) ≡ kept (after_pieces m (plain f))
  all_kept [] m t z = refl
  all_kept (x ∷ f) m t z = let one = piece_kept f m x.life x.what t.0 z in one.0 ∙ all_kept f (after_piece m x.what) t.1 one.1

  pub client_is : (f : List (Written ClientPiece)) → ClientTells number no_marks f → ClientIs number f
  client_is f t = record {
    lives = numbers_told f no_marks t;
    kept = all_kept f no_marks t (λ o life. refl);
  }
