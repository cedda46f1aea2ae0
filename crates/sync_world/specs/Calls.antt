-- What a call of a node comes to, where its disk may stop in it.
use Rattle.std.specs.Prelude.{◌≡◌, ◌++◌, Bool, true, false, List, length, map, Option, None, Some, Result, Ok, Err}
use Rattle.sync_data.specs.declared.memory.NoMemory.{NoMemory}
use Rattle.sync_disk.specs.Faults.{has_stopped}
use Rattle.sync_disk.specs.Images.{state}
use Rattle.sync_disk.specs.Leaving.{left_by}
use Rattle.sync_disk.specs.declared.disk.Disk.{Ghosts}
use Rattle.sync_journal.specs.Records.{records_of}
use Rattle.sync_journal.specs.Records.Reading.{Good}
use Rattle.sync_journal.specs.Stands.{disk_of}
use Rattle.sync_model.specs.Clients.{ClientRecord, ClientRefusal, ClientStep}
use Rattle.sync_exchange.specs.Seen.{client_bytes}
use Rattle.sync_client.specs.Clients as clients
use Rattle.sync_client.specs.Refusals.{refusal_seen}
use Rattle.sync_client.specs.declared.client.Client.{Client}
use Rattle.sync_client.specs.declared.refusal.ClientRefusal.{ClientRefusal as CodeRefusal}
use Rattle.sync_client.specs.declared.refusal.ClientRefusal.TheVariants as codes
use Rattle.sync_world.specs.Nodes.{HoldsClient}
use Rattle.sync_world.specs.declared.node.Called.{Called}
use Rattle.sync_world.specs.declared.node.Called.TheVariants as called
use Rattle.sync_world.specs.declared.node.Node.{Node as CodeNode}

-- ---- a call of a client
-- the records that it leaves: all of its step's, or those before the stop
abbrev pub left : {R : Type 0} → List R → Option (List R) → List R
left next None = next
left next (Some stand) = stand

-- what it came to
abbrev pub IsCalled : {A : Type 0} → ClientStep A → Option (List ClientRecord) → Called A → Type 0
IsCalled did None (called.Answered a) = did.answer ≡ Ok a
IsCalled did None (called.Declined why) = (w : ClientRefusal) × (refusal_seen why ≡ Some w) × (did.answer ≡ Err w)
IsCalled did None called.Stopped = ⊥
IsCalled did (Some stand) (called.Answered a) = ⊥
IsCalled did (Some stand) (called.Declined why) = ⊥
IsCalled did (Some stand) called.Stopped = Unit {0}

-- the disk failed, or memory was wanting
abbrev pub is_cut : CodeRefusal → Bool
is_cut codes.DiskFault = true
is_cut why = false

abbrev pub is_lost : CodeRefusal → Bool
is_lost codes.NoMemory = true
is_lost codes.Closed = true
is_lost why = false

-- it answered, or refused as the model does
abbrev pub IsAnswer : {A : Type 0} → Result A CodeRefusal → Type 0
IsAnswer (Ok a) = Unit {0}
IsAnswer (Err why) = (w : ClientRefusal) × (refusal_seen why ≡ Some w)

module _ {D : Type 0} {G : Ghosts D} where
  -- After a call that would append the step's records: it answers where its disk doesn't stop, and else a crash leaves these.
  pub record AfterCall {A : Type 0} (did : ClientStep A) (records : List ClientRecord) (stand : Option (List ClientRecord)) (answer : Result A CodeRefusal) (c : Client D G) : Type 0 where
    pub says : clients.Says did records c answer
    pub stores : clients.Stores did records c answer
    pub listed : (G.origin (disk_of (clients.journal_of c))).listed ≡ 0
    pub whole : IsAnswer answer → (stand ≡ None) × (has_stopped (G.origin (disk_of (clients.journal_of c))).stop (length (G.strokes (disk_of (clients.journal_of c)))) ≡ false)
    pub cut : answer ≡ Err codes.DiskFault → (rs : List ClientRecord) × (stand ≡ Some rs)
        × (records_of (left_by (G.origin (disk_of (clients.journal_of c))).leaves (state (G.origin (disk_of (clients.journal_of c))).start (G.strokes (disk_of (clients.journal_of c))))) ≡ Good (map client_bytes (records ++ rs)))

-- it is done, and ends the arming
pub record CallEnds {A : Type 0} (did : ClientStep A) (records : List ClientRecord) (stand : Option (List ClientRecord)) (answer : Called A) (node : CodeNode) : Type 0 where
  pub said : IsCalled did stand answer
  pub client : HoldsClient (records ++ left did.records stand) None node.stop node.client

abbrev pub Ends : {A : Type 0} → ClientStep A → List ClientRecord → Option (List ClientRecord) → Result (Called A) NoMemory → CodeNode → Type 0
Ends did records stand (Ok answer) node = CallEnds did records stand answer node
Ends did records stand (Err e) node = Unit {0}
