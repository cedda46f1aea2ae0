-- How notes and messages with lives are read.
use Rattle.std.specs.Prelude.{◌≡◌, ℕ, Bool, ◌==◌, if◌then◌else◌, List, [], ◌∷◌, nat_le, Option, None, Some, Result, Ok, Err}
use Rattle.sync_io.specs.Formats.{◌>>=◌, number_in, bytes_in, both_in, only_in, seen_in, listed_in, all_in}
use Rattle.sync_records.specs.Reading.{seen, record_in}
use Rattle.sync_messages.specs.Reading.{message_in}
use Rattle.life_bytes.specs.declared.refusal.NoteRefusal.{NoteRefusal}
use Rattle.life_bytes.specs.declared.refusal.NoteRefusal.TheVariants as refusals
use Rattle.life_bytes.specs.declared.run.Run.{Run}
use Rattle.life_bytes.specs.declared.mark.Mark.{Mark}
use Rattle.life_bytes.specs.declared.saves.Saving.{Saving}
use Rattle.life_bytes.specs.declared.note.Note.{Note}
use Rattle.life_bytes.specs.declared.note.Note.TheVariants as notes
use Rattle.life_bytes.specs.declared.said.Said.{Said}
use Rattle.life_bytes.specs.declared.said.Said.TheVariants as said
use Rattle.life_bytes.specs.declared.answered.Answered.{Answered}
use Rattle.life_bytes.specs.declared.answered.Answered.TheVariants as answered
use Rattle.life_bytes.specs.declared.letter.Letter.{Letter}
use Rattle.life_bytes.specs.declared.letter.Letter.TheVariants as letters
use Rattle.life_bytes.specs.Runs.{Lives, most_runs, lives_of, are_runs}
use Rattle.life_bytes.specs.Parts.{TokenParts, SavesParts, NumbersParts, GiveUpParts, GivenUpParts, most_tokens, most_saves, most_uuids, most_lives}
use Rattle.life_bytes.specs.Envelopes.{SaysParts, AnswersParts, is_says, is_answers}

-- What a function returned is what reading gives, unless memory ran out.
abbrev pub NoteFails : NoteRefusal → Option Note → Type 0
NoteFails refusals.NoMemory read = Unit {0}
NoteFails refusals.BadNote read = read ≡ None

abbrev pub GivesNote : Result Note NoteRefusal → Option Note → Type 0
GivesNote (Ok note) read = read ≡ Some note
GivesNote (Err refusal) read = NoteFails refusal read

-- ---- the parts, each with the bytes behind it

abbrev pub run_as : ℕ × List ℕ → Run
run_as p = record { count = p.0; life = p.1 }

unfoldable pub run_in : List ℕ → Option (Run × List ℕ)
run_in bytes = seen_in run_as (both_in number_in (bytes_in 16)) bytes

unfoldable pub lives_in : List ℕ → Option (Lives × List ℕ)
lives_in bytes = seen_in lives_of (only_in are_runs (listed_in most_runs run_in)) bytes

abbrev pub token_as : List ℕ × ℕ → TokenParts
token_as p = record { life = p.0; number = p.1 }

abbrev pub is_token : TokenParts → Bool
is_token token = nat_le 1 token.number

unfoldable pub token_in : List ℕ → Option (TokenParts × List ℕ)
token_in bytes = only_in is_token (seen_in token_as (both_in (bytes_in 16) number_in)) bytes

abbrev pub saves_as : TokenParts × List TokenParts → SavesParts
saves_as p = record { token = p.0; frontier = p.1 }

unfoldable pub saves_in : List ℕ → Option (SavesParts × List ℕ)
saves_in bytes = seen_in saves_as (both_in token_in (listed_in most_tokens token_in)) bytes

abbrev pub saving_as : ℕ × SavesParts → Saving
saving_as p = record { number = p.0; saves = p.1 }

unfoldable pub saving_in : List ℕ → Option (Saving × List ℕ)
saving_in bytes = seen_in saving_as (both_in number_in saves_in) bytes

abbrev pub mark_as : ℕ × List ℕ → Mark
mark_as p = record { number = p.0; life = p.1 }

unfoldable pub mark_in : List ℕ → Option (Mark × List ℕ)
mark_in bytes = seen_in mark_as (both_in number_in (bytes_in 16)) bytes

abbrev pub is_named : ℕ → Bool
is_named ident = nat_le 1 ident

unfoldable pub ident_in : List ℕ → Option (ℕ × List ℕ)
ident_in bytes = only_in is_named number_in bytes

abbrev pub numbers_as : ℕ × List ℕ → NumbersParts
numbers_as p = record { ident = p.0; life = p.1 }

unfoldable pub numbers_in : List ℕ → Option (NumbersParts × List ℕ)
numbers_in bytes = seen_in numbers_as (both_in ident_in (bytes_in 16)) bytes

abbrev pub give_up_as : (ℕ × List (List ℕ)) × Lives → GiveUpParts
give_up_as p = record { by = p.0.0; uuids = p.0.1; lives = p.1 }

unfoldable pub give_up_in : List ℕ → Option (GiveUpParts × List ℕ)
give_up_in bytes = seen_in give_up_as (both_in (both_in ident_in (listed_in most_uuids (bytes_in 16))) (listed_in most_lives (bytes_in 16))) bytes

abbrev pub given_up_as : ℕ × List ℕ → GivenUpParts
given_up_as p = record { by = p.0; numbers = p.1 }

unfoldable pub given_up_in : List ℕ → Option (GivenUpParts × List ℕ)
given_up_in bytes = seen_in given_up_as (both_in ident_in (listed_in most_lives number_in)) bytes

-- ---- notes: all of the bytes

abbrev pub note_forms : List (ℕ × (List ℕ → Option Note))
note_forms =
    (18, seen notes.Life (all_in (bytes_in 16)))
    ∷ (19, seen notes.Birth (all_in (bytes_in 16)))
    ∷ (20, seen notes.Of (all_in (bytes_in 16)))
    ∷ (21, seen notes.Saves (all_in saves_in))
    ∷ (22, seen notes.Member (all_in ident_in))
    ∷ (23, seen notes.Numbers (all_in numbers_in))
    ∷ (24, seen notes.Saved (all_in token_in))
    ∷ (25, seen notes.Reached (all_in token_in))
    ∷ (26, seen notes.Lives (all_in lives_in))
    ∷ []

abbrev pub note_in : List ℕ → Option Note
note_in bytes = record_in note_forms bytes

-- ---- messages with lives: all of the bytes

abbrev pub said_in : List ℕ → Option Said
said_in [] = None
said_in (tag ∷ bytes) = if tag == 14 then seen said.GiveUp (all_in give_up_in) bytes else seen said.Message message_in (tag ∷ bytes)

abbrev pub answered_in : List ℕ → Option Answered
answered_in [] = None
answered_in (tag ∷ bytes) = if tag == 15 then seen answered.GivenUp (all_in given_up_in) bytes else seen answered.Message message_in (tag ∷ bytes)

-- fields, and behind them what goes to the end
abbrev pub then_in : {A B : Type 0} → (List ℕ → Option (A × List ℕ)) → (List ℕ → Option B) → List ℕ → Option (A × B)
then_in a b bytes = a bytes >>= λ x. b x.1 >>= λ y. Some (x.0, y)

-- values that pass a test
abbrev pub kept : {A : Type 0} → (A → Bool) → (List ℕ → Option A) → List ℕ → Option A
kept test a bytes = a bytes >>= λ x. if test x then Some x else None

abbrev pub says_as : (((List ℕ × Mark) × Lives) × List Saving) × Said → SaysParts
says_as p = record { uuid = p.0.0.0.0; cursor = p.0.0.0.1; lives = p.0.0.1; saves = p.0.1; inner = p.1 }

unfoldable pub says_in : List ℕ → Option SaysParts
says_in bytes = kept is_says (seen says_as (then_in (both_in (both_in (both_in (bytes_in 16) mark_in) lives_in) (listed_in most_saves saving_in)) said_in)) bytes

abbrev pub answers_as : (((List ℕ × List ℕ) × Mark) × Lives) × Answered → AnswersParts
answers_as p = record { uuid = p.0.0.0.0; birth = p.0.0.0.1; last = p.0.0.1; lives = p.0.1; inner = p.1 }

unfoldable pub answers_in : List ℕ → Option AnswersParts
answers_in bytes = kept is_answers (seen answers_as (then_in (both_in (both_in (both_in (bytes_in 16) (bytes_in 16)) mark_in) lives_in) answered_in)) bytes

abbrev pub letter_in : List ℕ → Option Letter
letter_in [] = None
letter_in (tag ∷ bytes) =
    if tag == 12 then seen letters.Says says_in bytes
    else (if tag == 13 then seen letters.Answers answers_in bytes else seen letters.Message message_in (tag ∷ bytes))
