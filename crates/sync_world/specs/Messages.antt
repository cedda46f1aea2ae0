-- The messages of an exchange, which are kept as their bytes.
use Rattle.std.specs.Prelude.{◌≡◌, ℕ, zero, suc, List, [], ◌∷◌, Option, None, Some, Result, Ok, Err}
use Rattle.sync_data.specs.declared.memory.NoMemory.{NoMemory}
use Rattle.sync_messages.specs.Spelling.{message_spelling}
use Rattle.sync_messages.specs.Whole.{IsMessage}
use Rattle.sync_messages.specs.declared.message.Message.{Message as CodeMessage}
use Rattle.sync_model.specs.Messages.{Message}
use Rattle.sync_model.specs.Worlds.{at}
use Rattle.sync_exchange.specs.Seen.{message_seen}
use Rattle.sync_words.specs.Messages.{message_read}

-- the bytes of a message
pub record IsSpelled (m : Message) (bytes : List ℕ) : Type 0 where
  pub message : CodeMessage
  pub is : IsMessage message
  pub spelled : bytes ≡ message_spelling message
  pub seen : message_seen message ≡ m

-- each of them, in order
abbrev pub AreSpelled : List Message → List (List ℕ) → Type 0
AreSpelled [] [] = Unit {0}
AreSpelled [] (b ∷ bs) = ⊥
AreSpelled (m ∷ ms) [] = ⊥
AreSpelled (m ∷ ms) (b ∷ bs) = IsSpelled m b × AreSpelled ms bs

-- the message of a number, counted from 1
abbrev pub numbered : List Message → ℕ → Option Message
numbered ms zero = None
numbered ms (suc n) = at ms n

-- a message that was read keeps the limits
abbrev pub IsIt : Option Message → Option CodeMessage → Type 0
IsIt meant None = meant ≡ None
IsIt meant (Some message) = (meant ≡ Some (message_seen message)) × IsMessage message

abbrev pub Reads : Option Message → Result (Option CodeMessage) NoMemory → Type 0
Reads meant (Ok read) = IsIt meant read
Reads meant (Err e) = Unit {0}

abbrev pub ReadsAt : List Message → ℕ → Result (Option CodeMessage) NoMemory → Type 0
ReadsAt ms number result = Reads (numbered ms number) result

abbrev pub ReadsBytes : List ℕ → Result (Option CodeMessage) NoMemory → Type 0
ReadsBytes bytes result = Reads (message_read bytes) result
