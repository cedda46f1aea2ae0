-- What stands around a message: a client's Says and a server's Answers, and which go together with it.
use Rattle.std.specs.Prelude.{◌≡◌, ℕ, ◌+◌, ◌≤◌, Bool, true, false, ◌&&◌, ◌==◌, List, [], ◌∷◌, length, nat_le, nat_lt, sum_by}
use Rattle.sync_messages.specs.declared.message.Message.{Message}
use Rattle.sync_messages.specs.declared.message.Message.TheVariants as messages
use Rattle.sync_messages.specs.Parts.{ChangeParts}
use Rattle.life_bytes.specs.declared.mark.Mark.{Mark}
use Rattle.life_bytes.specs.declared.saves.Saving.{Saving}
use Rattle.life_bytes.specs.declared.said.Said.{Said}
use Rattle.life_bytes.specs.declared.said.Said.TheVariants as said
use Rattle.life_bytes.specs.declared.answered.Answered.{Answered}
use Rattle.life_bytes.specs.declared.answered.Answered.TheVariants as answered
use Rattle.life_bytes.specs.Runs.{Lives}
use Rattle.life_bytes.specs.Parts.{most_saves, most_tokens_together}

-- a client's uuid, its cursor and the life of the entry before it; the lives of the number before the first change and of
-- each change; which changes save which transactions; and the message
pub record SaysParts : Type 0 where
  pub uuid : List ℕ
  pub cursor : Mark
  pub lives : Lives
  pub saves : List Saving
  pub inner : Said

-- the client's uuid, the server's birth, the client's last number in the history and its life; the lives of the entry
-- before the first one and of each entry; and the message
pub record AnswersParts : Type 0 where
  pub uuid : List ℕ
  pub birth : List ℕ
  pub last : Mark
  pub lives : Lives
  pub inner : Answered

-- ---- Says

-- a client sends it
abbrev pub may_say : Message → Bool
may_say (messages.Bind uuid) = true
may_say (messages.Ident given) = false
may_say (messages.Upload upload) = true
may_say (messages.Ask ask) = true
may_say (messages.Download download) = false
may_say (messages.Refused ident number code place) = false
may_say (messages.Stored stored) = false
may_say (messages.Ask2 ask) = true
may_say (messages.Retire retire) = false
may_say (messages.Retired retired) = false
may_say (messages.AskTables asked) = true

abbrev pub is_said : Said → Bool
is_said (said.Message message) = may_say message
is_said (said.GiveUp given) = true

-- the changes that it brings
abbrev pub changes_of : Message → List ChangeParts
changes_of (messages.Bind uuid) = []
changes_of (messages.Ident given) = []
changes_of (messages.Upload upload) = upload.changes
changes_of (messages.Ask ask) = []
changes_of (messages.Download download) = []
changes_of (messages.Refused ident number code place) = []
changes_of (messages.Stored stored) = []
changes_of (messages.Ask2 ask) = []
changes_of (messages.Retire retire) = []
changes_of (messages.Retired retired) = []
changes_of (messages.AskTables asked) = []

abbrev pub changes_said : Said → List ChangeParts
changes_said (said.Message message) = changes_of message
changes_said (said.GiveUp given) = []

-- the number of the first one, or 0
abbrev pub first_number : List ChangeParts → ℕ
first_number [] = 0
first_number (change ∷ changes) = change.number

-- their numbers follow each other from this one on
abbrev pub follow : ℕ → List ChangeParts → Bool
follow next [] = true
follow next (change ∷ changes) = (change.number == next) && follow (next + 1) changes

-- how many lives go with them: that of the number before them, and one each; none where there are none
abbrev pub lives_beside : List ChangeParts → ℕ
lives_beside [] = 0
lives_beside (change ∷ changes) = length changes + 2

-- the numbers of saves rise, from one number on and below another
abbrev pub rise_within : ℕ → ℕ → List Saving → Bool
rise_within low high [] = true
rise_within low high (saving ∷ saves) = nat_le low saving.number && (nat_lt saving.number high && rise_within (saving.number + 1) high saves)

-- the tokens of all frontiers
abbrev pub tokens_of : List Saving → ℕ
tokens_of saves = sum_by (λ saving. length saving.saves.frontier) saves

-- the changes follow each other, each has its life, and each save is one of them
abbrev pub go_with : List ChangeParts → Lives → List Saving → Bool
go_with changes lives saves =
    follow (first_number changes) changes
    && ((length lives == lives_beside changes)
    && rise_within (first_number changes) (first_number changes + length changes) saves)

abbrev pub is_says : SaysParts → Bool
is_says says =
    is_said says.inner
    && (go_with (changes_said says.inner) says.lives says.saves && nat_le (tokens_of says.saves) most_tokens_together)

-- what a Says holds
pub record HoldsSays (says : SaysParts) : Type 0 where
  pub few : length says.saves ≤ most_saves
  pub good : is_says says ≡ true

-- ---- Answers

-- a server sends it
abbrev pub may_answer : Message → Bool
may_answer (messages.Bind uuid) = false
may_answer (messages.Ident given) = true
may_answer (messages.Upload upload) = false
may_answer (messages.Ask ask) = false
may_answer (messages.Download download) = true
may_answer (messages.Refused ident number code place) = true
may_answer (messages.Stored stored) = true
may_answer (messages.Ask2 ask) = false
may_answer (messages.Retire retire) = false
may_answer (messages.Retired retired) = false
may_answer (messages.AskTables asked) = false

abbrev pub is_answered : Answered → Bool
is_answered (answered.Message message) = may_answer message
is_answered (answered.GivenUp given) = true

-- how many lives go with it: with a Download that of the entry before its first one, and one for each of its entries
abbrev pub lives_of_message : Message → ℕ
lives_of_message (messages.Bind uuid) = 0
lives_of_message (messages.Ident given) = 0
lives_of_message (messages.Upload upload) = 0
lives_of_message (messages.Ask ask) = 0
lives_of_message (messages.Download download) = length download.entries + 1
lives_of_message (messages.Refused ident number code place) = 0
lives_of_message (messages.Stored stored) = 0
lives_of_message (messages.Ask2 ask) = 0
lives_of_message (messages.Retire retire) = 0
lives_of_message (messages.Retired retired) = 0
lives_of_message (messages.AskTables asked) = 0

abbrev pub lives_answered : Answered → ℕ
lives_answered (answered.Message message) = lives_of_message message
lives_answered (answered.GivenUp given) = 0

abbrev pub is_answers : AnswersParts → Bool
is_answers answers = is_answered answers.inner && (length answers.lives == lives_answered answers.inner)
