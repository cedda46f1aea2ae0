-- Which world of the model an exchange is.
use Rattle.std.specs.Prelude.{◌≡◌, ℕ, Bool, false, if◌then◌else◌, List, [], ◌∷◌, map, bytes_eq, Option, None, Some, Result, Ok, Err, IfOk}
use Rattle.std.specs.List.{list_any}
use Rattle.std.specs.Option.{option_map}
use Rattle.sync_data.specs.declared.memory.NoMemory.{NoMemory}
use Rattle.sync_model.specs.Bytes.{Name}
use Rattle.sync_model.specs.Each.{Each}
use Rattle.sync_model.specs.Worlds.{IsReached, Node, Outcome, Stop, Words, World, has_name, is_node, seek, server_name}
use Rattle.sync_exchange.specs.Profile.{the_profile}
use Rattle.sync_client.specs.Refusals.{refusal_seen}
use Rattle.sync_world.specs.Messages.{AreSpelled}
use Rattle.sync_world.specs.Nodes.{FitsClient, FitsServer, HoldsClient, HoldsServer}
use Rattle.sync_words.specs.Outcomes.{outcome_seen}
use Rattle.sync_words.specs.declared.outcome.Outcome.{Outcome as CodeOutcome}
use Rattle.sync_client.specs.Clients.{IsClientOf, IsStored, replica_of}
use Rattle.sync_client.specs.declared.client.Client.{Client}
use Rattle.server_memory.specs.Kept.{parts}
use Rattle.sync_server.specs.Serving.{kept_of}
use Rattle.sync_server.specs.declared.server.Server.{Server}
use Rattle.sync_disk.specs.declared.disk.Disk.{Ghosts}
use Rattle.sync_disk.specs.declared.memory.MemoryDisk.{MemoryDisk}
use Rattle.sync_world.specs.declared.node.Called.{Called}
use Rattle.sync_world.specs.declared.node.Called.TheVariants as called
use Rattle.sync_world.specs.declared.node.Node.{Node as CodeNode}
use Rattle.sync_world.specs.declared.world.World.{World as CodeWorld}

-- a client of the exchange
pub record HoldsNode (n : Node) (s : Option Stop) (node : CodeNode) : Type 0 where
  pub name : node.name ≡ n.name
  pub client : HoldsClient n.records s node.stop node.client

-- two lists, each two elements of which are so
abbrev pub AreBoth : {A B : Type 0} → (A → B → Type 0) → List A → List B → Type 0
AreBoth R [] [] = Unit {0}
AreBoth R [] (b ∷ bs) = ⊥
AreBoth R (a ∷ as_) [] = ⊥
AreBoth R (a ∷ as_) (b ∷ bs) = R a b × AreBoth R as_ bs

-- each client of the exchange
abbrev pub HoldsEach : (Name → Option Stop) → List Node → List CodeNode → Type 0
HoldsEach stops ns cs = AreBoth (λ n c. HoldsNode n (stops n.name) c) ns cs

-- this is the client's name
abbrev pub named : Name → CodeNode → Bool
named name c = bytes_eq name c.name

-- its uuid, as the code keeps it
abbrev pub id_of : CodeNode → Option (List ℕ)
id_of node = (replica_of node.client).id

-- the uuids to which a server gave idents, in their order
abbrev pub given_ids : {G : Ghosts MemoryDisk} → Server MemoryDisk G → List (List ℕ)
given_ids s = map (λ g. g.uuid) (parts (kept_of s)).idents

-- they differ, and none is the server's
abbrev pub AreNames : List Name → Type 0
AreNames [] = Unit {0}
AreNames (name ∷ names) = (bytes_eq name server_name ≡ false) × (list_any (bytes_eq name) names ≡ false) × AreNames names

-- ---- the world
-- its nodes, messages and uuids are these
pub record Stands (w : World) (self : CodeWorld) : Type 0 where
  pub server : HoldsServer w.server (w.stops server_name) self.hub.stop self.hub.server
  pub clients : HoldsEach w.stops w.clients self.clients.items
  pub named : AreNames (map (λ n. n.name) w.clients)
  pub server_fits : Each FitsServer w.server
  pub clients_fit : Each (λ n. Each FitsClient n.records) w.clients
  pub messages : AreSpelled w.messages self.messages
  pub injected : self.injected.items ≡ w.injected
  -- only nodes are armed
  pub unarmed : (name : Name) → is_node w name ≡ false → w.stops name ≡ None

-- and events make it of the empty world
pub record Holds (w : World) (self : CodeWorld) : Type 0 where
  pub reached : IsReached the_profile w
  pub stands : Stands w self

-- the outcome is this one of the model, unless memory ran out
abbrev pub ComesTo : Words → Result CodeOutcome NoMemory → Type 0
ComesTo words result = IfOk result (λ outcome. outcome_seen outcome ≡ Some words)

-- an event comes to its outcome, and the world is that after it, unless memory ran out
abbrev pub Happens : Outcome → Result CodeOutcome NoMemory → CodeWorld → Type 0
Happens o (Ok outcome) new = (outcome_seen outcome ≡ Some o.words) × Holds o.world new
Happens o (Err e) new = Unit {0}

-- the outcome of a call
abbrev pub SaysCalled : {A : Type 0} → (A → Words) → Called A → CodeOutcome → Type 0
SaysCalled say (called.Answered a) outcome = outcome_seen outcome ≡ Some (say a)
SaysCalled say (called.Declined why) outcome = outcome_seen outcome ≡ option_map Words.Declined (refusal_seen why)
SaysCalled say called.Stopped outcome = outcome_seen outcome ≡ Some Words.Stopped

-- of a file that is brought to form 2
abbrev pub upgrade_said : Bool → Words
upgrade_said b = if b then Words.Upgraded else Words.Current

-- of a client that has its tables
abbrev pub subscribe_said : Unit {0} → Words
subscribe_said done = Words.SubscribedTo

-- the client of a call of the exchange
abbrev pub Found : World → Name → Option ℕ → Type 0
Found w name None = seek (has_name name) w.clients ≡ None
Found w name (Some place) = (n : Node) × (seek (has_name name) w.clients ≡ Some (place, n))

-- the client that is lent, and which it is
pub record IsClient {G : Ghosts MemoryDisk} (w : World) (name : Name) (c : Client MemoryDisk G) : Type 0 where
  pub place : ℕ
  pub node : Node
  pub sought : seek (has_name name) w.clients ≡ Some (place, node)
  pub client : IsClientOf node.records c
  pub stored : IsStored node.records c
