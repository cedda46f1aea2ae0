-- What the calls of a client answer, and what they leave.
use Rattle.std.specs.Prelude.{◌≡◌, ◌⊎◌, ◌↔◌, ℕ, List, ◌++◌, map, true, false, Bool, Option, None, Some, Result, Ok, Err, IfNone, IsErrOf}
use Rattle.std.specs.Result.{result_err}
use Rattle.sync_disk.specs.declared.disk.Disk.{Ghosts}
use Rattle.sync_disk.specs.Disk.{LeavesOnly, Told}
use Rattle.sync_journal.specs.declared.journal.Journal.{Journal}
use Rattle.sync_journal.specs.Records.{StandsForPrefix}
use Rattle.sync_journal.specs.Several.{Asks, AsksSome}
use Rattle.sync_journal.specs.Stands.{Stands, disk_of}
use Rattle.sync_journal.specs.Stands as stands
use Rattle.sync_journal.specs.Uses as journals
use Rattle.sync_model.specs.Clients.{ClientRecord, ClientRefusal, ClientStep}
use Rattle.sync_exchange.specs.Seen.{client_bytes}
use Rattle.sync_client.specs.declared.client.Client.{Client}
use Rattle.sync_client.specs.declared.refusal.ClientRefusal.{ClientRefusal as CodeRefusal}
use Rattle.sync_client.specs.declared.refusal.ClientRefusal.TheVariants as codes
use Rattle.sync_client.specs.declared.replica.Replica.{Replica}
use Rattle.sync_client.specs.Keeping.{Keeps}
use Rattle.sync_client.specs.Refusals.{refusal_seen, IfSeen}

module _ {D : Type 0} {G : Ghosts D} where
  abbrev pub replica_of : Client D G → Replica
  replica_of c = c.replica

  abbrev pub journal_of : Client D G → Journal D G
  journal_of c = c.journal

  abbrev pub is_closed : Client D G → Bool
  is_closed c = stands.is_closed c.journal

  -- an open client of these records
  pub record IsClientOf (records : List ClientRecord) (c : Client D G) : Type 0 where
    pub kept : Keeps records c.replica
    pub open_ : is_closed c ≡ false

  -- its disk holds them
  abbrev pub IsStored : List ClientRecord → Client D G → Type 0
  IsStored records c = Stands (map client_bytes records) c.journal

  -- a call did so
  pub record Did {A : Type 0} (did : ClientStep A) (answer : Result A ClientRefusal) (records : List ClientRecord) (c : Client D G) : Type 0 where
    pub answer_is : did.answer ≡ answer
    pub client : IsClientOf (records ++ did.records) c

  -- it answered as defined and appended the step's records; out of memory, a fault and a closed client are told elsewhere
  abbrev pub Says : {A : Type 0} → ClientStep A → List ClientRecord → Client D G → Result A CodeRefusal → Type 0
  Says did records new (Ok a) = Did did (Ok a) records new
  Says did records new (Err why) = IfSeen (refusal_seen why) (λ w. Did did (Err w) records new)

  -- and the disk holds them
  abbrev pub Stores : {A B : Type 0} → ClientStep A → List ClientRecord → Client D G → Result B CodeRefusal → Type 0
  Stores did records new (Ok a) = IsStored (records ++ did.records) new
  Stores did records new (Err why) = IfSeen (refusal_seen why) (λ w. IsStored (records ++ did.records) new)

  -- a crash at any moment left these records and some of the next, from the first on
  abbrev pub Leaves : List ClientRecord → List ClientRecord → Journal D G → Journal D G → Type 0
  Leaves records next old new = LeavesOnly G.moment G.images_since (disk_of old) (disk_of new) (StandsForPrefix (map client_bytes records) (map client_bytes next))

  -- whatever the journal held
  abbrev pub LeavesPrefix : List ClientRecord → Journal D G → Journal D G → Type 0
  LeavesPrefix next old new = (rs : List (List ℕ)) → Stands rs old → LeavesOnly G.moment G.images_since (disk_of old) (disk_of new) (StandsForPrefix rs (map client_bytes next))

  -- the disk was asked for the appends of these records: for all of them, or for some up to a fault; after out of memory
  -- nothing is said
  abbrev pub AskedFor : List ClientRecord → Journal D G → Journal D G → Option CodeRefusal → Type 0
  AskedFor next old new None = Asks (map client_bytes next) old new
  AskedFor next old new (Some codes.DiskFault) = AsksSome (map client_bytes next) old new
  AskedFor next old new (Some codes.NoMemory) = Unit {0}
  AskedFor next old new (Some codes.Closed) = Unit {0}
  AskedFor next old new (Some why) = Asks (map client_bytes next) old new

  -- a call did so for its step's records
  abbrev pub Asked : {A B : Type 0} → ClientStep A → Client D G → Client D G → Result B CodeRefusal → Type 0
  Asked did old new result = AskedFor did.records old.journal new.journal (result_err result)

  -- What a call answers survives a crash: then the disk holds the step's records too. A crash at any moment of the call left those
  -- before it and some of these. The disk was asked for their appends and for nothing else.
  pub record Survives {A B : Type 0} (did : ClientStep A) (records : List ClientRecord) (old new : Client D G) (result : Result B CodeRefusal) : Type 0 where
    pub stored : Stores did records new result
    pub any_moment : Leaves records did.records old.journal new.journal
    pub asked : Asked did old new result

  -- the same of a call that appends these records, whatever those before them are
  pub record JournalAppends (next : List ClientRecord) (old new : Journal D G) (why : Option CodeRefusal) : Type 0 where
    pub stored : (records : List ClientRecord) → Stands (map client_bytes records) old → IfNone why (Stands (map client_bytes (records ++ next)) new)
    pub any_moment : LeavesPrefix next old new
    pub asked : Told (G.content (disk_of old)) (λ b. AskedFor next old new why)

  abbrev pub Appends : {B : Type 0} → List ClientRecord → Client D G → Client D G → Result B CodeRefusal → Type 0
  Appends next old new result = JournalAppends next old.journal new.journal (result_err result)

  -- `Closed` comes exactly where the client was closed, and then nothing changes; a fault and out of memory close it
  pub record Closes {B : Type 0} (old new : Client D G) (result : Result B CodeRefusal) : Type 0 where
    pub closed : IsErrOf result codes.Closed ↔ (is_closed old ≡ true)
    pub unchanged : IsErrOf result codes.Closed → new ≡ old
    pub closes : IsErrOf result codes.DiskFault ⊎ IsErrOf result codes.NoMemory → is_closed new ≡ true

  -- how a call uses the disk
  abbrev pub UsesDisk : Type 0 → Client D G → Client D G → Type 0
  UsesDisk failed old new = journals.UsesDisk failed old.journal new.journal
