-- What is told of events.
use Rattle.std.specs.Prelude.{◌≡◌, ◌+◌, ℕ, Bool, true, false, length}
use Rattle.sync_model.specs.Worlds.{Outcome, Words, World}

-- a transaction got its number
abbrev pub is_made : Words → Bool
is_made (Words.Made number) = true
is_made words = false

-- 1 where it is so
abbrev pub one_if : Bool → ℕ
one_if true = 1
one_if false = 0

-- a message was made
abbrev pub is_message : Words → Bool
is_message (Words.Messaged place) = true
is_message (Words.Replied place reply) = true
is_message words = false

-- an event is told so that the messages made are those told of
pub record Tells (w : World) (o : Outcome) : Type 0 where
  pub messages : length o.world.messages ≡ length w.messages + one_if (is_message o.words)
