-- Which values are notes and messages with lives: they keep the limits, and each number fits its type.
use Rattle.std.specs.Prelude.{◌≡◌, ◌<◌, ◌≤◌, ◌^◌, ℕ, true, List, length, All}
use Rattle.sync_messages.specs.Whole.{IsMessage}
use Rattle.life_bytes.specs.declared.run.Run.{Run}
use Rattle.life_bytes.specs.declared.mark.Mark.{Mark}
use Rattle.life_bytes.specs.declared.saves.Saving.{Saving}
use Rattle.life_bytes.specs.declared.note.Note.{Note}
use Rattle.life_bytes.specs.declared.note.Note.TheVariants as notes
use Rattle.life_bytes.specs.declared.said.Said.{Said}
use Rattle.life_bytes.specs.declared.said.Said.TheVariants as said
use Rattle.life_bytes.specs.declared.answered.Answered.{Answered}
use Rattle.life_bytes.specs.declared.answered.Answered.TheVariants as answered
use Rattle.life_bytes.specs.declared.letter.Letter.{Letter}
use Rattle.life_bytes.specs.declared.letter.Letter.TheVariants as letters
use Rattle.life_bytes.specs.Runs.{IsLife, AreWholeLives}
use Rattle.life_bytes.specs.Parts.{TokenParts, SavesParts, NumbersParts, GiveUpParts, GivenUpParts, IsToken, IsSaves, IsNumbers, IsGiveUp, IsGivenUp, most_saves}
use Rattle.life_bytes.specs.Envelopes.{SaysParts, AnswersParts, is_says, is_answers}

abbrev pub IsIdent : ℕ → Type 0
IsIdent ident = (1 ≤ ident) × (ident < 2 ^ 32)

abbrev pub IsUuid : List ℕ → Type 0
IsUuid uuid = length uuid ≡ 16

abbrev pub IsNumber : ℕ → Type 0
IsNumber number = number < 2 ^ 32

abbrev pub IsWholeRun : Run → Type 0
IsWholeRun run = IsNumber run.count × IsLife run.life

abbrev pub IsWholeToken : TokenParts → Type 0
IsWholeToken token = IsToken token × IsLife token.life × IsNumber token.number

abbrev pub IsWholeSaves : SavesParts → Type 0
IsWholeSaves saves = IsSaves saves × IsWholeToken saves.token × All IsWholeToken saves.frontier

abbrev pub IsWholeSaving : Saving → Type 0
IsWholeSaving saving = IsNumber saving.number × IsWholeSaves saving.saves

abbrev pub AreWholeSaves : List Saving → Type 0
AreWholeSaves saves = (length saves ≤ most_saves) × All IsWholeSaving saves

abbrev pub IsWholeMark : Mark → Type 0
IsWholeMark mark = IsNumber mark.number × IsLife mark.life

abbrev pub IsWholeNumbers : NumbersParts → Type 0
IsWholeNumbers numbers = IsNumbers numbers × IsNumber numbers.ident × IsLife numbers.life

abbrev pub IsWholeGiveUp : GiveUpParts → Type 0
IsWholeGiveUp given = IsGiveUp given × IsNumber given.by × All IsUuid given.uuids × All IsLife given.lives

abbrev pub IsWholeGivenUp : GivenUpParts → Type 0
IsWholeGivenUp given = IsGivenUp given × IsNumber given.by × All IsNumber given.numbers

abbrev pub IsNote : Note → Type 0
IsNote (notes.Life life) = IsLife life
IsNote (notes.Birth life) = IsLife life
IsNote (notes.Of life) = IsLife life
IsNote (notes.Saves saves) = IsWholeSaves saves
IsNote (notes.Member ident) = IsIdent ident
IsNote (notes.Numbers numbers) = IsWholeNumbers numbers
IsNote (notes.Saved token) = IsWholeToken token
IsNote (notes.Reached token) = IsWholeToken token
IsNote (notes.Lives lives) = AreWholeLives lives

abbrev pub IsWholeSaid : Said → Type 0
IsWholeSaid (said.Message message) = IsMessage message
IsWholeSaid (said.GiveUp given) = IsWholeGiveUp given

abbrev pub IsWholeAnswered : Answered → Type 0
IsWholeAnswered (answered.Message message) = IsMessage message
IsWholeAnswered (answered.GivenUp given) = IsWholeGivenUp given

abbrev pub IsWholeSays : SaysParts → Type 0
IsWholeSays says = (is_says says ≡ true) × IsUuid says.uuid × IsWholeMark says.cursor × AreWholeLives says.lives × AreWholeSaves says.saves × IsWholeSaid says.inner

abbrev pub IsWholeAnswers : AnswersParts → Type 0
IsWholeAnswers answers = (is_answers answers ≡ true) × IsUuid answers.uuid × IsLife answers.birth × IsWholeMark answers.last × AreWholeLives answers.lives × IsWholeAnswered answers.inner

abbrev pub IsLetter : Letter → Type 0
IsLetter (letters.Message message) = IsMessage message
IsLetter (letters.Says says) = IsWholeSays says
IsLetter (letters.Answers answers) = IsWholeAnswers answers
