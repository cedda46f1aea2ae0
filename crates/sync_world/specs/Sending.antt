-- What is sent and what is replied, beside what the exchange keeps.
use Rattle.std.specs.Prelude.{◌≡◌, ℕ, suc, List, [], ◌∷◌, ◌++◌, length, Option, None, Some, Result, Ok, Err, OnOk, IfOk}
use Rattle.sync_data.specs.declared.memory.NoMemory.{NoMemory}
use Rattle.sync_model.specs.Clients.{ClientRefusal}
use Rattle.sync_messages.specs.declared.message.Message.{Message as CodeMessage}
use Rattle.sync_model.specs.Messages.{Message}
use Rattle.sync_model.specs.Worlds.{Words}
use Rattle.sync_exchange.specs.Seen.{message_seen}
use Rattle.sync_client.specs.Refusals.{refusal_seen}
use Rattle.sync_client.specs.declared.refusal.ClientRefusal.{ClientRefusal as CodeRefusal}
use Rattle.sync_words.specs.declared.outcome.Outcome.{Outcome as CodeOutcome}
use Rattle.sync_world.specs.Holding.{ComesTo}
use Rattle.sync_world.specs.Messages.{AreSpelled}
use Rattle.sync_world.specs.declared.world.World.{World as CodeWorld}

-- nothing but the messages changed
pub record SameButMessages (old new : CodeWorld) : Type 0 where
  pub clients : new.clients ≡ old.clients
  pub hub : new.hub ≡ old.hub
  pub injected : new.injected ≡ old.injected

-- the message has the next number, and is kept
pub record IsKept (m : CodeMessage) (say : ℕ → Words) (old : CodeWorld) (result : Result CodeOutcome NoMemory) (new : CodeWorld) : Type 0 where
  pub others : SameButMessages old new
  pub said : (ms : List Message) → AreSpelled ms old.messages → ComesTo (say (suc (length ms))) result
  pub kept : (ms : List Message) → AreSpelled ms old.messages → OnOk result (AreSpelled (ms ++ message_seen m ∷ []) new.messages)

-- a refusal is told; one that isn't the model's ends the run
abbrev pub Tells : Option ClientRefusal → Result CodeOutcome NoMemory → Type 0
Tells None result = IfOk result (λ outcome. ⊥)
Tells (Some why) result = ComesTo (Words.Declined why) result

-- a message that a client made is kept, or its refusal told
abbrev pub SentFrom : Result CodeMessage CodeRefusal → CodeWorld → Result CodeOutcome NoMemory → CodeWorld → Type 0
SentFrom (Ok m) old result new = IsKept m Words.Messaged old result new
SentFrom (Err why) old result new = (new ≡ old) × Tells (refusal_seen why) result
