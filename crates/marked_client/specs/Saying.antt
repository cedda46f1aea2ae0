-- What a client with lives sends.
use Rattle.std.specs.Prelude.{ℕ, zero, suc, ◌+◌, ◌-◌, ◌==◌, nat_le, if◌then◌else◌, List, [], ◌∷◌, Option, Some, None, take, drop, length}
use Rattle.std.specs.Option.{unwrap_or}
use Rattle.sync_messages.specs.declared.message.Message.{Message}
use Rattle.sync_messages.specs.declared.message.Message.TheVariants as messages
use Rattle.sync_messages.specs.Parts.{ChangeParts}
use Rattle.life_bytes.specs.declared.letter.Letter.{Letter}
use Rattle.life_bytes.specs.declared.letter.Letter.TheVariants as letters
use Rattle.life_bytes.specs.declared.mark.Mark.{Mark}
use Rattle.life_bytes.specs.declared.said.Said.{Said}
use Rattle.life_bytes.specs.declared.said.Said.TheVariants as said
use Rattle.life_bytes.specs.declared.saves.Saving.{Saving}
use Rattle.life_bytes.specs.Envelopes.{SaysParts}
use Rattle.life_bytes.specs.Parts.{SavesParts, most_tokens_together}
use Rattle.life_bytes.specs.Runs.{Lives}
use Rattle.life_marks.specs.ClientMarks.{Marks}
use Rattle.life_marks.specs.ServerMarks.{no_life}
use Rattle.marked_client.specs.Testing.{has_lives}

-- the cursor, and the life of the entry before it
abbrev pub cursor_told : Marks → ℕ → Mark
cursor_told m cursor = record { number = cursor; life = if cursor == 0 then no_life else unwrap_or m.last no_life }

-- ---- the changes of an Upload

abbrev pub tokens_before : Option SavesParts → ℕ
tokens_before None = 0
tokens_before (Some saves) = length saves.frontier

-- how many of the changes, from the first on, have so many tokens before them together
abbrev pub fitting_in : Marks → ℕ → List ChangeParts → ℕ
fitting_in m room [] = 0
fitting_in m room (change ∷ changes) =
    if nat_le (tokens_before (m.saves change.number)) room then suc (fitting_in m (room - tokens_before (m.saves change.number)) changes) else 0

abbrev pub fitting : Marks → List ChangeParts → ℕ
fitting m changes = fitting_in m most_tokens_together changes

-- the lives of the number before the first of so many changes, and of each of them; that of number 0 is the uuid
abbrev pub lives_from : Marks → List ℕ → ℕ → ℕ → Lives
lives_from m uuid zero count = uuid ∷ take count m.numbers
lives_from m uuid (suc n) count = take (count + 1) (drop n m.numbers)

abbrev pub lives_told : Marks → List ℕ → List ChangeParts → Lives
lives_told m uuid [] = []
lives_told m uuid (change ∷ changes) = lives_from m uuid (change.number - 1) (length changes + 1)

-- which of the changes save others
abbrev pub saving_told : Option SavesParts → ℕ → List Saving → List Saving
saving_told None number rest = rest
saving_told (Some saves) number rest = record { number = number; saves = saves } ∷ rest

abbrev pub savings_told : Marks → List ChangeParts → List Saving
savings_told m [] = []
savings_told m (change ∷ changes) = saving_told (m.saves change.number) change.number (savings_told m changes)

-- ---- a message with the lives of the file

abbrev pub plain_says : Marks → List ℕ → ℕ → Said → SaysParts
plain_says m uuid cursor inner = record { uuid = uuid; cursor = cursor_told m cursor; lives = []; saves = []; inner = inner }

abbrev pub uploads_with : Marks → List ℕ → ℕ → ℕ → List ChangeParts → SaysParts
uploads_with m uuid cursor ident changes = record {
  uuid = uuid;
  cursor = cursor_told m cursor;
  lives = lives_told m uuid changes;
  saves = savings_told m changes;
  inner = said.Message (messages.Upload (record { ident = ident; changes = changes }));
}

abbrev pub says_of : Marks → List ℕ → ℕ → Message → SaysParts
says_of m uuid cursor (messages.Bind id) = plain_says m uuid cursor (said.Message (messages.Bind id))
says_of m uuid cursor (messages.Ident given) = plain_says m uuid cursor (said.Message (messages.Ident given))
says_of m uuid cursor (messages.Upload upload) = uploads_with m uuid cursor upload.ident (take (fitting m upload.changes) upload.changes)
says_of m uuid cursor (messages.Ask ask) = plain_says m uuid cursor (said.Message (messages.Ask ask))
says_of m uuid cursor (messages.Download download) = plain_says m uuid cursor (said.Message (messages.Download download))
says_of m uuid cursor (messages.Refused ident number code place) = plain_says m uuid cursor (said.Message (messages.Refused ident number code place))
says_of m uuid cursor (messages.Stored stored) = plain_says m uuid cursor (said.Message (messages.Stored stored))
says_of m uuid cursor (messages.Ask2 ask) = plain_says m uuid cursor (said.Message (messages.Ask2 ask))
says_of m uuid cursor (messages.Retire retire) = plain_says m uuid cursor (said.Message (messages.Retire retire))
says_of m uuid cursor (messages.Retired retired) = plain_says m uuid cursor (said.Message (messages.Retired retired))
says_of m uuid cursor (messages.AskTables asked) = plain_says m uuid cursor (said.Message (messages.AskTables asked))

-- today's message; with lives where the file has any
abbrev pub letter_of : Marks → Option (List ℕ) → List ℕ → ℕ → Message → Letter
letter_of m life uuid cursor message = if has_lives m life then letters.Says (says_of m uuid cursor message) else letters.Message message
