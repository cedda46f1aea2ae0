-- What the calls of a server answer, and what they leave.
use Rattle.std.specs.Prelude.{◌≡◌, ◌⊎◌, ◌↔◌, ℕ, Bool, true, false, List, [], ◌++◌, map, Option, None, Some, Result, Ok, Err, IfNone, IsErrOf, OnOk, OnErr, nat_le, if◌then◌else◌}
use Rattle.std.specs.Result.{result_err}
use Rattle.sync_data.specs.declared.instr.Instr.{Instr}
use Rattle.sync_base.specs.States.{State}
use Rattle.sync_disk.specs.declared.disk.Disk.{Ghosts}
use Rattle.sync_journal.specs.declared.journal.Journal.{Journal}
use Rattle.sync_disk.specs.Disk.{LeavesOnly, Told}
use Rattle.sync_journal.specs.Records.{StandsForPrefix}
use Rattle.sync_journal.specs.Several.{Asks, AsksSome}
use Rattle.sync_journal.specs.Stands.{Stands, disk_of}
use Rattle.sync_journal.specs.Stands as stands
use Rattle.sync_journal.specs.Uses as journals
use Rattle.sync_model.specs.Fronts.{file_gives}
use Rattle.sync_model.specs.Messages.{Change}
use Rattle.sync_model.specs.Parts.{Given, Merged, Parts, Served, ServedByPartsSoFar, merge_by}
use Rattle.sync_model.specs.Servers.{ServerRecord, ServerRefusal}
use Rattle.sync_exchange.specs.Profile.{the_profile}
use Rattle.sync_exchange.specs.Seen.{message_seen, server_bytes}
use Rattle.sync_messages.specs.declared.message.Message.{Message as CodeMessage}
use Rattle.server_memory.specs.Kept.{parts}
use Rattle.server_memory.specs.Refusals.{refusal_seen}
use Rattle.server_memory.specs.declared.kept.Kept.{Kept}
use Rattle.server_memory.specs.declared.refusal.Refusal.{Refusal}
use Rattle.sync_server.specs.declared.refusal.ServerRefusal.{ServerRefusal as CodeRefusal}
use Rattle.sync_server.specs.declared.refusal.ServerRefusal.TheVariants as causes
use Rattle.sync_server.specs.declared.server.Server.{Server}

-- ---- by what is kept

-- a message is served: the reply and the parts afterwards
pub record IsServed (s : Served Instr State) (reply : CodeMessage) (new : Kept) : Type 0 where
  pub reply_is : message_seen reply ≡ s.answer
  pub parts_are : parts new ≡ s.parts

-- the records of a change that is merged
abbrev pub merged_records : Result (Merged Instr State) ServerRefusal → List ServerRecord
merged_records (Ok m) = m.records
merged_records (Err why) = []

-- a change is merged, or refused
abbrev pub IsMerged : Option Refusal → Result (Merged Instr State) ServerRefusal → Kept → Kept → Type 0
IsMerged None r old new = (m : Merged Instr State) × (r ≡ Ok m) × (parts new ≡ m.parts)
IsMerged (Some why) r old new = (r ≡ Err (refusal_seen why)) × (parts new ≡ parts old)

-- the records of a change, of which a repeat has none
abbrev pub change_records : Parts Instr State → ℕ → Given Instr → Change → List ServerRecord
change_records kept c g h = if nat_le h.number g.count then [] else merged_records (merge_by the_profile kept c g h)

-- a repeat is passed over, any other change is merged or refused
abbrev pub IsTaken : Option Refusal → ℕ → Given Instr → Change → Kept → Kept → Type 0
IsTaken None c g h old new = ((nat_le h.number g.count ≡ true) × (parts new ≡ parts old)) ⊎ ((nat_le h.number g.count ≡ false) × IsMerged None (merge_by the_profile (parts old) c g h) old new)
IsTaken (Some why) c g h old new = (nat_le h.number g.count ≡ false) × IsMerged (Some why) (merge_by the_profile (parts old) c g h) old new

-- ---- by the records
module _ {D : Type 0} {G : Ghosts D} where
  abbrev pub kept_of : Server D G → Kept
  kept_of s = s.kept

  abbrev pub journal_of : Server D G → Journal D G
  journal_of s = s.journal

  abbrev pub is_closed : Server D G → Bool
  is_closed s = stands.is_closed s.journal

  -- the journal holds these records more
  abbrev pub Adds : List ServerRecord → Journal D G → Journal D G → Type 0
  Adds next old new = (rs : List (List ℕ)) → Stands rs old → Stands (rs ++ map server_bytes next) new

  -- a crash at any moment left what the journal held and some of these records, from the first on
  abbrev pub LeavesPrefix : List ServerRecord → Journal D G → Journal D G → Type 0
  LeavesPrefix next old new = (rs : List (List ℕ)) → Stands rs old → LeavesOnly G.moment G.images_since (disk_of old) (disk_of new) (StandsForPrefix rs (map server_bytes next))

  -- A call that answers asked the disk for the appends of these records and for nothing else; one that ends at a fault, for the first
  -- of them up to the stroke that failed. Out of memory, nothing is said.
  abbrev pub AskedFor : List ServerRecord → Journal D G → Journal D G → Option CodeRefusal → Type 0
  AskedFor next old new None = Asks (map server_bytes next) old new
  AskedFor next old new (Some causes.DiskFault) = AsksSome (map server_bytes next) old new
  AskedFor next old new (Some causes.NoMemory) = Unit {0}
  AskedFor next old new (Some causes.Closed) = Unit {0}

  -- a call that appends these records, whatever those before them are
  pub record JournalAppends (next : List ServerRecord) (old new : Journal D G) (why : Option CodeRefusal) : Type 0 where
    pub stored : IfNone why (Adds next old new)
    pub any_moment : LeavesPrefix next old new
    pub asked : Told (G.content (disk_of old)) (λ b. AskedFor next old new why)

  abbrev pub Appends : {B : Type 0} → List ServerRecord → Server D G → Server D G → Result B CodeRefusal → Type 0
  Appends next old new result = JournalAppends next old.journal new.journal (result_err result)

  -- how a call uses the disk
  abbrev pub UsesDisk : Type 0 → Server D G → Server D G → Type 0
  UsesDisk failed old new = journals.UsesDisk failed old.journal new.journal

  -- an open server stays open at an answer, and closes at any refusal
  pub record StaysOpen {B : Type 0} (result : Result B CodeRefusal) (s : Server D G) : Type 0 where
    pub stays_open : OnOk result (is_closed s ≡ false)
    pub closes : OnErr result (is_closed s ≡ true)
    pub not_closed : IsErrOf result causes.Closed → ⊥

  -- an open server of these records, which may begin with those of a trimmed file
  pub record IsServerOf (records : List ServerRecord) (s : Server D G) : Type 0 where
    pub gives : file_gives the_profile (map (λ r. Some r) records) ≡ Ok (parts s.kept)
    pub open_ : is_closed s ≡ false

  -- its disk holds them
  abbrev pub IsStored : List ServerRecord → Server D G → Type 0
  IsStored records s = Stands (map server_bytes records) s.journal

  -- a message is answered by the step's reply, and the server keeps what the step leaves, and is one of the records with
  -- the step's
  pub record Did (did : Served Instr State) (reply : CodeMessage) (records : List ServerRecord) (s : Server D G) : Type 0 where
    pub reply_is : message_seen reply ≡ did.answer
    pub parts_are : parts s.kept ≡ did.parts
    pub server : IsServerOf (records ++ did.records) s

  -- What a call answers survives a crash: then the disk holds the step's records too. A crash at any moment of the call left those
  -- before it and some of these, from the first on. The disk was asked for their appends and for nothing else.
  pub record Survives {B : Type 0} (did : Served Instr State) (records : List ServerRecord) (old new : Server D G) (result : Result B CodeRefusal) : Type 0 where
    pub stored : OnOk result (IsStored (records ++ did.records) new)
    pub any_moment : LeavesOnly G.moment G.images_since (disk_of old.journal) (disk_of new.journal) (StandsForPrefix (map server_bytes records) (map server_bytes did.records))
    pub asked : AskedFor did.records old.journal new.journal (result_err result)

  -- `Closed` comes exactly where the server was closed, and then nothing changes; any refusal leaves it closed
  pub record Closes {B : Type 0} (old new : Server D G) (result : Result B CodeRefusal) : Type 0 where
    pub closed : IsErrOf result causes.Closed ↔ (is_closed old ≡ true)
    pub unchanged : IsErrOf result causes.Closed → new ≡ old
    pub closes : OnErr result (is_closed new ≡ true)

-- ---- the loop over the changes of an Upload
module _ {D : Type 0} {G : Ghosts D} where
  -- these records were added, the parts are these, and these changes are left
  pub record UploadedSoFar (c : ℕ) (old now : Server D G) (all rest : List Change) : Type 0 where
    pub records : List ServerRecord
    pub so_far : ServedByPartsSoFar the_profile c (parts old.kept) (parts now.kept) records all rest
    pub appends : JournalAppends records old.journal now.journal None
    pub told : Told (G.content (disk_of old.journal)) (λ b. (bytes : List ℕ) × (G.content (disk_of now.journal) ≡ Some bytes))
