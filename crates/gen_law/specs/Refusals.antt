-- What is refused of an exchange.
use Rattle.std.specs.Prelude.{Bool, true, false}
use Rattle.sync_model.specs.Servers.{is_refusal}
use Rattle.sync_model.specs.Worlds.{Words}

-- an event was refused, or the reply to it refuses
abbrev pub is_refused : Words → Bool
is_refused (Words.Joined name) = false
is_refused (Words.Made number) = false
is_refused (Words.Messaged place) = false
is_refused (Words.Took cursor) = false
is_refused (Words.Replied place reply) = is_refusal reply
is_refused Words.Opened = false
is_refused Words.Armed = false
is_refused Words.Stopped = false
is_refused Words.Upgraded = false
is_refused Words.Current = false
is_refused Words.SubscribedTo = false
is_refused (Words.Declined why) = true
is_refused Words.NameTaken = true
is_refused Words.UuidTaken = true
is_refused Words.NoNode = true
is_refused Words.NoMessage = true
is_refused Words.BadMessage = true
is_refused Words.OwnIdent = true
