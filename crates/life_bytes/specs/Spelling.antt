-- The one spelling of each note and of each message with lives.
use Rattle.std.specs.Prelude.{ℕ, Bool, false, ◌&&◌, List, [], ◌∷◌, ◌++◌, nat_le}
use Rattle.sync_io.specs.Varints.{varint}
use Rattle.sync_io.specs.Formats.{listed}
use Rattle.sync_messages.specs.Spelling.{message_spelling}
use Rattle.life_bytes.specs.declared.run.Run.{Run}
use Rattle.life_bytes.specs.declared.mark.Mark.{Mark}
use Rattle.life_bytes.specs.declared.saves.Saving.{Saving}
use Rattle.life_bytes.specs.declared.note.Note.{Note}
use Rattle.life_bytes.specs.declared.note.Note.TheVariants as notes
use Rattle.life_bytes.specs.declared.said.Said.{Said}
use Rattle.life_bytes.specs.declared.said.Said.TheVariants as said
use Rattle.life_bytes.specs.declared.answered.Answered.{Answered}
use Rattle.life_bytes.specs.declared.answered.Answered.TheVariants as answered
use Rattle.life_bytes.specs.declared.letter.Letter.{Letter}
use Rattle.life_bytes.specs.declared.letter.Letter.TheVariants as letters
use Rattle.life_bytes.specs.Runs.{Lives, runs_of}
use Rattle.life_bytes.specs.Parts.{TokenParts, SavesParts, NumbersParts, GiveUpParts, GivenUpParts}
use Rattle.life_bytes.specs.Envelopes.{SaysParts, AnswersParts}

abbrev pub run_spelling : Run → List ℕ
run_spelling run = varint run.count ++ run.life

-- the fewest runs
abbrev pub lives_spelling : Lives → List ℕ
lives_spelling lives = listed run_spelling (runs_of lives)

abbrev pub token_spelling : TokenParts → List ℕ
token_spelling token = token.life ++ varint token.number

abbrev pub saves_spelling : SavesParts → List ℕ
saves_spelling saves = token_spelling saves.token ++ listed token_spelling saves.frontier

abbrev pub saving_spelling : Saving → List ℕ
saving_spelling saving = varint saving.number ++ saves_spelling saving.saves

abbrev pub mark_spelling : Mark → List ℕ
mark_spelling mark = varint mark.number ++ mark.life

abbrev pub numbers_spelling : NumbersParts → List ℕ
numbers_spelling numbers = varint numbers.ident ++ numbers.life

abbrev pub give_up_spelling : GiveUpParts → List ℕ
give_up_spelling given = varint given.by ++ listed (λ uuid. uuid) given.uuids ++ listed (λ life. life) given.lives

abbrev pub given_up_spelling : GivenUpParts → List ℕ
given_up_spelling given = varint given.by ++ listed varint given.numbers

-- ---- notes: a tag, and the fields

abbrev pub note_spelling : Note → List ℕ
note_spelling (notes.Life life) = 18 ∷ life
note_spelling (notes.Birth life) = 19 ∷ life
note_spelling (notes.Of life) = 20 ∷ life
note_spelling (notes.Saves saves) = 21 ∷ saves_spelling saves
note_spelling (notes.Member ident) = 22 ∷ varint ident
note_spelling (notes.Numbers numbers) = 23 ∷ numbers_spelling numbers
note_spelling (notes.Saved token) = 24 ∷ token_spelling token
note_spelling (notes.Reached token) = 25 ∷ token_spelling token
note_spelling (notes.Lives lives) = 26 ∷ lives_spelling lives

-- the first byte of it, and what follows
abbrev pub note_tag : Note → ℕ
note_tag (notes.Life life) = 18
note_tag (notes.Birth life) = 19
note_tag (notes.Of life) = 20
note_tag (notes.Saves saves) = 21
note_tag (notes.Member ident) = 22
note_tag (notes.Numbers numbers) = 23
note_tag (notes.Saved token) = 24
note_tag (notes.Reached token) = 25
note_tag (notes.Lives lives) = 26

abbrev pub note_fields : Note → List ℕ
note_fields (notes.Life life) = life
note_fields (notes.Birth life) = life
note_fields (notes.Of life) = life
note_fields (notes.Saves saves) = saves_spelling saves
note_fields (notes.Member ident) = varint ident
note_fields (notes.Numbers numbers) = numbers_spelling numbers
note_fields (notes.Saved token) = token_spelling token
note_fields (notes.Reached token) = token_spelling token
note_fields (notes.Lives lives) = lives_spelling lives

-- a record of a journal that is a note, of this program or a later one
abbrev pub is_note : List ℕ → Bool
is_note [] = false
is_note (tag ∷ bytes) = nat_le 18 tag && nat_le tag 31

-- ---- messages with lives: a tag, and the fields; the message within goes to the end

abbrev pub said_spelling : Said → List ℕ
said_spelling (said.Message message) = message_spelling message
said_spelling (said.GiveUp given) = 14 ∷ give_up_spelling given

abbrev pub answered_spelling : Answered → List ℕ
answered_spelling (answered.Message message) = message_spelling message
answered_spelling (answered.GivenUp given) = 15 ∷ given_up_spelling given

abbrev pub says_spelling : SaysParts → List ℕ
says_spelling says = says.uuid ++ mark_spelling says.cursor ++ lives_spelling says.lives ++ listed saving_spelling says.saves ++ said_spelling says.inner

abbrev pub answers_spelling : AnswersParts → List ℕ
answers_spelling answers = answers.uuid ++ answers.birth ++ mark_spelling answers.last ++ lives_spelling answers.lives ++ answered_spelling answers.inner

-- any other message is spelled as it always was
abbrev pub letter_spelling : Letter → List ℕ
letter_spelling (letters.Message message) = message_spelling message
letter_spelling (letters.Says says) = 12 ∷ says_spelling says
letter_spelling (letters.Answers answers) = 13 ∷ answers_spelling answers
