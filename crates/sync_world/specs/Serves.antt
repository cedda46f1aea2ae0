-- What a message comes to at the server, where its disk may stop in the call.
use Rattle.std.specs.Prelude.{◌≡◌, ◌++◌, List, Option, None, Some, Result, Ok, Err}
use Rattle.sync_data.specs.declared.memory.NoMemory.{NoMemory}
use Rattle.sync_messages.specs.declared.message.Message.{Message as CodeMessage}
use Rattle.sync_model.specs.Servers.{ServerRecord, ServerStep}
use Rattle.sync_exchange.specs.Seen.{message_seen}
use Rattle.sync_world.specs.Calls.{left}
use Rattle.sync_world.specs.Nodes.{HoldsServer}
use Rattle.sync_world.specs.declared.hub.Hub.{Hub}

-- it is replied to, or the disk stopped
abbrev pub IsServed : ServerStep → Option (List ServerRecord) → Option CodeMessage → Type 0
IsServed did None (Some reply) = did.answer ≡ message_seen reply
IsServed did None None = ⊥
IsServed did (Some stand) (Some reply) = ⊥
IsServed did (Some stand) None = Unit {0}

-- it is done, and ends the arming
pub record ServeDone (did : ServerStep) (records : List ServerRecord) (stand : Option (List ServerRecord)) (reply : Option CodeMessage) (hub : Hub) : Type 0 where
  pub said : IsServed did stand reply
  pub server : HoldsServer (records ++ left did.records stand) None hub.stop hub.server

abbrev pub ServeEnds : ServerStep → List ServerRecord → Option (List ServerRecord) → Result (Option CodeMessage) NoMemory → Hub → Type 0
ServeEnds did records stand (Ok reply) hub = ServeDone did records stand reply hub
ServeEnds did records stand (Err e) hub = Unit {0}
