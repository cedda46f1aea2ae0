-- The words of a command line, and what they ask for.
use Rattle.std.specs.Prelude.{◌≡◌, ◌<◌, ◌≤◌, ◌^◌, ℕ, Bool, false, not, ◌==◌, ◌&&◌, ◌||◌, List, [], ◌∷◌, codes, decimal, length, Some}
use Rattle.uuid.specs.Text.{parsed}
use Rattle.sync_top.specs.declared.job.Job.{Job}
use Rattle.sync_top.specs.declared.job.Job.TheVariants as jobs
use Rattle.sync_node.specs.FileCommands.{IsFileCommand}
use Rattle.sync_node.specs.declared.files.FileCommand.{FileCommand}
use Rattle.sync_node.specs.declared.files.FileCommand.TheVariants as commands

-- the most turns of a generated exchange
abbrev pub most_turns : ℕ
most_turns = 100000

-- a number below 2^64 in decimal, without a sign and without needless zeros
abbrev pub IsNumber : ℕ → List ℕ → Type 0
IsNumber n word = (word ≡ decimal n) × (n < 2 ^ 64)

abbrev pub IsShortNumber : ℕ → List ℕ → Type 0
IsShortNumber n word = (word ≡ decimal n) × (n < 2 ^ 32)

-- the words after `gen`: the seed, and the number of turns
abbrev pub IsExchange : Job → List ℕ → List ℕ → Type 0
IsExchange jobs.Replay seed_word count_word = ⊥
IsExchange (jobs.Generate seed count) seed_word count_word = IsNumber seed seed_word × IsNumber count count_word × (count ≤ most_turns)
IsExchange (jobs.File command) seed_word count_word = ⊥

-- the word of a command over a file
abbrev pub command_word : FileCommand → List ℕ
command_word commands.Edit = codes "edit"
command_word commands.Send = codes "send"
command_word commands.Ask = codes "ask"
command_word commands.Take = codes "take"
command_word commands.Serve = codes "serve"
command_word commands.Show = codes "show"
command_word (commands.Retire ident) = codes "retire"
command_word (commands.Rescue after) = codes "rescue"
command_word commands.Recover = codes "recover"
command_word commands.Trim = codes "trim"
command_word commands.Shrink = codes "shrink"
command_word (commands.Start id) = codes "start"

-- the words after the file: a number or a uuid, where the command takes one
abbrev pub AreMore : FileCommand → List (List ℕ) → Type 0
AreMore (commands.Retire ident) more = more ≡ decimal ident ∷ []
AreMore (commands.Rescue after) more = more ≡ decimal after ∷ []
AreMore (commands.Start id) more = (word : List ℕ) × (more ≡ word ∷ []) × (parsed word ≡ Some id)
AreMore command more = more ≡ []

-- the command takes no more words
abbrev pub IsPlain : FileCommand → Type 0
IsPlain (commands.Retire ident) = ⊥
IsPlain (commands.Rescue after) = ⊥
IsPlain (commands.Start id) = ⊥
IsPlain command = Unit {0}

-- the start of a client, by the text of its uuid
abbrev pub IsStart : Job → List ℕ → Type 0
IsStart (jobs.File (commands.Start id)) word = parsed word ≡ Some id
IsStart job word = ⊥

-- a command over a file, by its word
abbrev pub IsFileJob : Job → List ℕ → Type 0
IsFileJob jobs.Replay word = ⊥
IsFileJob (jobs.Generate seed count) word = ⊥
IsFileJob (jobs.File command) word = IsPlain command × (word ≡ command_word command)

-- three words: an exchange, or a command over a file with its number or uuid
abbrev pub IsNumberedJob : Job → List ℕ → List ℕ → List ℕ → Type 0
IsNumberedJob jobs.Replay word second third = ⊥
IsNumberedJob (jobs.Generate seed count) word second third = (word ≡ codes "gen") × IsExchange (jobs.Generate seed count) second third
IsNumberedJob (jobs.File command) word second third = (word ≡ command_word command) × AreMore command (third ∷ []) × IsFileCommand command

-- all words of a command
abbrev pub AsksFor : Job → List (List ℕ) → Type 0
AsksFor jobs.Replay words = words ≡ codes "replay" ∷ []
AsksFor (jobs.Generate seed count) words = (words ≡ codes "gen" ∷ decimal seed ∷ decimal count ∷ []) × (seed < 2 ^ 64) × (count ≤ most_turns)
AsksFor (jobs.File command) words = (file : List ℕ) × (more : List (List ℕ)) × (words ≡ command_word command ∷ file ∷ more) × AreMore command more × IsFileCommand command

-- a sign, or a zero before other digits, comes first
abbrev pub is_padded : List ℕ → Bool
is_padded [] = false
is_padded (b ∷ bs) = (b == 43) || ((b == 48) && not (length bs == 0))
