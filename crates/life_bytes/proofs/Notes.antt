-- The two laws of notes: what is read is spelled so, and what is spelled so is read.
use Rattle.std.proofs.Common.{◌≡◌, List, Some, Result, Ok, Err, refl, ap, ◌∙◌}
use Rattle.std.specs.Prelude.{ℕ, IfOk}
use Rattle.std.specs.List.{AllByRecursion}
use Rattle.sync_io.specs.VarintLaws.{IsBytes}
use Rattle.sync_io.specs.FormatLaws.{bytes_is}
use Rattle.sync_records.proofs.Whole.{all_is, IsForm, form_is, form_again, record_takes}
use Rattle.life_bytes.specs.declared.note.Note.{Note}
use Rattle.life_bytes.specs.declared.note.Note.TheVariants as notes
use Rattle.life_bytes.specs.declared.refusal.NoteRefusal.{NoteRefusal}
use Rattle.life_bytes.specs.Spelling.{note_spelling}
use Rattle.life_bytes.specs.Reading.{GivesNote, note_forms, note_in}
use Rattle.life_bytes.specs.Whole.{IsNote}
use Rattle.life_bytes.proofs.Formats.{saves_is, ident_is, numbers_is, token_is, lives_is}

forms_are : AllByRecursion (IsForm note_spelling IsNote) note_forms
forms_are = (
  form_is (all_is (bytes_is 16)) notes.Life note_spelling IsNote 18 (λ x f. refl) (λ x f. f),
  (
    form_is (all_is (bytes_is 16)) notes.Birth note_spelling IsNote 19 (λ x f. refl) (λ x f. f),
    (
      form_is (all_is (bytes_is 16)) notes.Of note_spelling IsNote 20 (λ x f. refl) (λ x f. f),
      (
        form_is (all_is saves_is) notes.Saves note_spelling IsNote 21 (λ x f. refl) (λ x f. f),
        (
          form_is (all_is ident_is) notes.Member note_spelling IsNote 22 (λ x f. refl) (λ x f. f),
          (
            form_is (all_is numbers_is) notes.Numbers note_spelling IsNote 23 (λ x f. refl) (λ x f. f),
            (
              form_is (all_is token_is) notes.Saved note_spelling IsNote 24 (λ x f. refl) (λ x f. f),
              (
                form_is (all_is token_is) notes.Reached note_spelling IsNote 25 (λ x f. refl) (λ x f. f),
                (form_is (all_is lives_is) notes.Lives note_spelling IsNote 26 (λ x f. refl) (λ x f. f), tt),
              ),
            ),
          ),
        ),
      ),
    ),
  ),
)

again : (note : Note) → IsNote note → note_in (note_spelling note) ≡ Some note
again (notes.Life life) is = form_again (all_is (bytes_is 16)) notes.Life life is
again (notes.Birth life) is = form_again (all_is (bytes_is 16)) notes.Birth life is
again (notes.Of life) is = form_again (all_is (bytes_is 16)) notes.Of life is
again (notes.Saves saves) is = form_again (all_is saves_is) notes.Saves saves is
again (notes.Member ident) is = form_again (all_is ident_is) notes.Member ident is
again (notes.Numbers numbers) is = form_again (all_is numbers_is) notes.Numbers numbers is
again (notes.Saved token) is = form_again (all_is token_is) notes.Saved token is
again (notes.Reached token) is = form_again (all_is token_is) notes.Reached token is
again (notes.Lives lives) is = form_again (all_is lives_is) notes.Lives lives is

pub note_found : (bytes : List ℕ) (r : Result Note NoteRefusal) → IsBytes bytes → GivesNote r (note_in bytes) → IfOk r (λ note. bytes ≡ note_spelling note)
note_found bytes (Ok note) fits given = (record_takes note_spelling IsNote note_forms forms_are bytes note fits given).0
note_found bytes (Err refusal) fits given = tt

pub note_whole : (bytes : List ℕ) (r : Result Note NoteRefusal) → IsBytes bytes → GivesNote r (note_in bytes) → IfOk r IsNote
note_whole bytes (Ok note) fits given = (record_takes note_spelling IsNote note_forms forms_are bytes note fits given).1
note_whole bytes (Err refusal) fits given = tt

pub note_read : (bytes : List ℕ) (note : Note) → IsNote note → bytes ≡ note_spelling note → note_in bytes ≡ Some note
note_read bytes note is e = ap note_in e ∙ again note is
