-- What bytes are as a message.
use Rattle.std.specs.Prelude.{ℕ, List, Option}
use Rattle.std.specs.Option.{option_map}
use Rattle.sync_messages.specs.Reading.{message_in}
use Rattle.sync_model.specs.Messages.{Message}
use Rattle.sync_exchange.specs.Seen.{message_seen}

-- where they are one
abbrev pub message_read : List ℕ → Option Message
message_read bytes = option_map message_seen (message_in bytes)
