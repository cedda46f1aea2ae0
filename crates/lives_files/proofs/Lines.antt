-- What a server keeps of an ident, as the laws do.
use Rattle.std.proofs.Common.{◌≡◌, ◌≢◌, ⊎_elim, ℕ, zero, suc, ◌<◌, ◌≤◌, List, [], ◌∷◌, ◌++◌, length, Option, Some, None, refl, sym, ap, ◌∙◌, subst, arith, if◌then◌else◌, ◌==◌}
use Rattle.std.specs.Prelude.{slice_get}
use Rattle.std.specs.Option.{option_map}
use Rattle.sync_theory.proofs.Server.{test_true, test_false}
use Rattle.sync_theory.proofs.World.{same_or_not}
use Rattle.life_bytes.specs.declared.note.Note.{Note}
use Rattle.life_bytes.specs.declared.note.Note.TheVariants as notes
use Rattle.sync_records.specs.declared.server.ServerRecord.{ServerRecord}
use Rattle.sync_records.specs.declared.server.ServerRecord.TheVariants as servers
use Rattle.life_marks.specs.declared.pieces.ServerPiece.{ServerPiece}
use Rattle.life_marks.specs.declared.pieces.ServerPiece.TheVariants as server
use Rattle.life_marks.specs.declared.server_marks.Line.{Line}
use Rattle.life_marks.specs.ServerMarks.{Marks, line_of, at_place, with_line, as_member, noting, ended, newly_given, after_piece, after_pieces}
use Rattle.lives_law.specs.Lives.{Written}
use Rattle.lives_law.specs.Instances.{plain}
use Rattle.lives_law.specs.Stored.{Kept, entry_by, keeps_all}
use Rattle.lives_files.specs.Files.{in_life, server_file}
use Rattle.lives_files.specs.Telling.{ServerRecordTells, ServerNoteTells, ServerPieceTells, ServerTells}
use Rattle.lives_files.specs.Agreeing.{kept_in}

-- ---- one place of a list of lines

at_same : (f : Line → Line) (n : ℕ) (lines : List Line) → slice_get (at_place n f lines) n ≡ option_map f (slice_get lines n)
at_same f n [] = refl
at_same f zero (x ∷ lines) = refl
at_same f (suc n) (x ∷ lines) = at_same f n lines

at_other : (f : Line → Line) (n c : ℕ) (lines : List Line) → c ≢ n → slice_get (at_place n f lines) c ≡ slice_get lines c
at_other f n c [] ne = refl
at_other f zero zero (x ∷ lines) ne = absurd (ne refl)
at_other f zero (suc c) (x ∷ lines) ne = refl
at_other f (suc n) zero (x ∷ lines) ne = refl
at_other f (suc n) (suc c) (x ∷ lines) ne = at_other f n c lines (λ e. ne (ap suc e))

line_same : (f : Line → Line) (n : ℕ) (lines : List Line) → line_of (suc n) (with_line (suc n) f lines) ≡ option_map f (line_of (suc n) lines)
line_same f n lines = at_same f n lines

line_other : (f : Line → Line) (c d : ℕ) (lines : List Line) → suc c ≢ d → line_of (suc c) (with_line d f lines) ≡ line_of (suc c) lines
line_other f c zero lines ne = refl
line_other f c (suc n) lines ne = at_other f n c lines (λ e. ne (ap suc e))

there_is : (n : ℕ) (lines : List Line) → n < length lines → (line : Line) × (slice_get lines n ≡ Some line)
there_is n [] lt = absurd (omega arith)
there_is zero (x ∷ lines) lt = (x, refl)
there_is (suc n) (x ∷ lines) lt = there_is n lines (omega arith)

module _ (number : List ℕ → ℕ) where
  -- a line behind the others is as none
  given_one : (uuid : List ℕ) (c : ℕ) (lines : List Line) → kept_in number (slice_get lines c) ≡ kept_in number (slice_get (lines ++ newly_given uuid ∷ []) c)
  given_one uuid zero [] = refl
  given_one uuid (suc c) [] = refl
  given_one uuid zero (x ∷ lines) = refl
  given_one uuid (suc c) (x ∷ lines) = given_one uuid c lines

  -- a change of a line that the laws don't look at
  alike : (f : Line → Line) → ((line : Line) → kept_in number (Some line) ≡ kept_in number (Some (f line))) → (c d : ℕ) (lines : List Line) → kept_in number (line_of (suc c) lines) ≡ kept_in number (line_of (suc c) (with_line d f lines))
  alike f same c d lines = ⊎_elim
      (λ e. subst (λ k. kept_in number (line_of (suc c) lines) ≡ kept_in number (line_of (suc c) (with_line k f lines))) e (on (line_of (suc c) lines) ∙ ap (kept_in number) (sym (line_same f c lines))))
      (λ ne. ap (kept_in number) (sym (line_other f c d lines ne)))
      (same_or_not (suc c) d)
    where
      on : (o : Option Line) → kept_in number o ≡ kept_in number (option_map f o)
      on None = refl
      on (Some line) = same line

  -- a note of an ident's life
  noted : (c d : ℕ) (life : List ℕ) (lines : List Line) → d ≤ length lines
      → (if suc c == d then record (kept_in number (line_of (suc c) lines)) { noted = Some (number life) } else kept_in number (line_of (suc c) lines)) ≡ kept_in number (line_of (suc c) (with_line d (noting life) lines))
  noted c d life lines le = ⊎_elim
      (λ e. ap (λ b. if b then record (kept_in number (line_of (suc c) lines)) { noted = Some (number life) } else kept_in number (line_of (suc c) lines)) (test_true (suc c) d e)
      ∙ subst (λ k. record (kept_in number (line_of (suc c) lines)) { noted = Some (number life) } ≡ kept_in number (line_of (suc c) (with_line k (noting life) lines))) e
      (let t = there_is c lines (omega arith) in
      ap (λ (o : Option Line). record (kept_in number o) { noted = Some (number life) }) t.1 ∙ sym (ap (kept_in number) (line_same (noting life) c lines ∙ ap (option_map (noting life)) t.1))))
      (λ ne. ap (λ b. if b then record (kept_in number (line_of (suc c) lines)) { noted = Some (number life) } else kept_in number (line_of (suc c) lines)) (test_false (suc c) d ne)
      ∙ ap (kept_in number) (sym (line_other (noting life) c d lines ne)))
      (same_or_not (suc c) d)

  -- an entry of an ident
  entered : (c d : ℕ) (lines : List Line)
      → (if suc c == d then record (kept_in number (line_of (suc c) lines)) { last = (kept_in number (line_of (suc c) lines)).noted } else kept_in number (line_of (suc c) lines)) ≡ kept_in number (line_of (suc c) (with_line d ended lines))
  entered c d lines = ⊎_elim
      (λ e. ap (λ b. if b then record (kept_in number (line_of (suc c) lines)) { last = (kept_in number (line_of (suc c) lines)).noted } else kept_in number (line_of (suc c) lines)) (test_true (suc c) d e)
      ∙ subst (λ k. record (kept_in number (line_of (suc c) lines)) { last = (kept_in number (line_of (suc c) lines)).noted } ≡ kept_in number (line_of (suc c) (with_line k ended lines))) e
      (on (line_of (suc c) lines) ∙ sym (ap (kept_in number) (line_same ended c lines))))
      (λ ne. ap (λ b. if b then record (kept_in number (line_of (suc c) lines)) { last = (kept_in number (line_of (suc c) lines)).noted } else kept_in number (line_of (suc c) lines)) (test_false (suc c) d ne)
      ∙ ap (kept_in number) (sym (line_other ended c d lines ne)))
      (same_or_not (suc c) d)
    where
      on : (o : Option Line) → record (kept_in number o) { last = (kept_in number o).noted } ≡ kept_in number (option_map ended o)
      on None = refl
      on (Some line) = refl

  -- ---- piece by piece

  module _ (c : ℕ) (f : List (Written ServerPiece)) where
    abbrev lined : Marks → Kept
    lined m = kept_in number (line_of (suc c) m.lines)

    -- what is kept behind the rest of the file
    abbrev rest : Kept → Kept
    rest k = keeps_all entry_by (suc c) k (plain (server_file number f))

    abbrev one : Marks → ℕ → ServerPiece → Kept
    one m l w = keeps_all entry_by (suc c) (lined m) (plain (server_file number (in_life l w ∷ f)))

    record_lined : (m : Marks) (l : ℕ) (r : ServerRecord) → ServerRecordTells number m l r → one m l (server.Record r) ≡ rest (lined (after_piece m (server.Record r)))
    record_lined m l (servers.Client id) t = ap rest (given_one id c m.lines)
    record_lined m l (servers.Entry origin n base ms body) t = ap rest (entered c origin m.lines)
    record_lined m l servers.Form t = refl
    record_lined m l (servers.Retired ident by) t = refl
    record_lined m l (servers.Settled ident settled) t = refl
    record_lined m l (servers.Part body) t = absurd t
    record_lined m l (servers.Floor version) t = absurd t
    record_lined m l (servers.Count ident n base settled) t = absurd t
    record_lined m l (servers.Carried origin n base ms body) t = absurd t
    record_lined m l (servers.Past ident version ms body) t = absurd t

    note_lined : (m : Marks) (l : ℕ) (n : Note) → ServerNoteTells number m l n → one m l (server.Note n) ≡ rest (lined (after_piece m (server.Note n)))
    note_lined m l (notes.Life life) t = refl
    note_lined m l (notes.Numbers of) t = ap rest (noted c of.ident of.life m.lines t)
    note_lined m l (notes.Birth life) t = refl
    note_lined m l (notes.Of life) t = refl
    note_lined m l (notes.Saves saves) t = refl
    note_lined m l (notes.Member ident) t = ap rest (alike as_member (λ line. refl) c ident m.lines)
    note_lined m l (notes.Saved token) t = refl
    note_lined m l (notes.Reached token) t = refl
    note_lined m l (notes.Lives lives) t = absurd t

    piece_lined : (m : Marks) (l : ℕ) (w : ServerPiece) → ServerPieceTells number m l w → one m l w ≡ rest (lined (after_piece m w))
    piece_lined m l (server.Record r) t = record_lined m l r t
    piece_lined m l (server.Note n) t = note_lined m l n t
    piece_lined m l server.Later t = refl

  pub lines_kept : (c : ℕ) (f : List (Written ServerPiece)) (m : Marks) → ServerTells number m f → keeps_all entry_by (suc c) (kept_in number (line_of (suc c) m.lines)) (plain (server_file number f)) ≡ kept_in number (line_of (suc c) (after_pieces m (plain f)).lines)
  lines_kept c [] m t = refl
  lines_kept c (x ∷ f) m t = piece_lined c f m x.life x.what t.0 ∙ lines_kept c f (after_piece m x.what) t.1
