-- How a client is read from the bytes of its records.
use Rattle.std.specs.Prelude.{◌≡◌, ◌≤◌, ◌+◌, ℕ, Bool, true, false, ◌==◌, List, [], ◌∷◌, ◌++◌, length, map, Option, None, Result, Ok, Err}
use Rattle.sync_data.specs.declared.memory.NoMemory.{NoMemory}
use Rattle.sync_model.specs.Clients.{ClientRecord, after_records, client_of, no_client}
use Rattle.sync_model.specs.Each.{Each}
use Rattle.sync_model.specs.Limits.{IsClientRecord}
use Rattle.sync_model.specs.Worlds.{is_there}
use Rattle.sync_model.specs.Files.{client_admits, client_opens, client_reads, may_grow, read_one, read_put}
use Rattle.sync_exchange.specs.Profile.{the_profile}
use Rattle.sync_exchange.specs.Seen.{client_bytes, read_client}
use Rattle.sync_journal.specs.declared.opening.ReadRefusal.{ReadRefusal}
use Rattle.sync_journal.specs.declared.opening.ReadRefusal.TheVariants as refusals
use Rattle.sync_client.specs.declared.replica.Replica.{Replica}
use Rattle.sync_client.specs.Keeping.{Keeps}
use Rattle.sync_client.specs.Parts.{front_of}
use Rattle.sync_client.specs.Seen.{Past, seen}

-- what reading one record gives before those that are ahead, whatever is done with them
abbrev pub Next : List ClientRecord → List (Option ClientRecord) → List ℕ → (ClientRecord → Result (List ClientRecord) ℕ) → Result (List ClientRecord) ℕ
Next records ahead bytes go = read_one (read_client bytes) (client_admits the_profile (client_of the_profile records) ahead) go

-- the bytes are a record that a client of these records writes next
pub record ReadOn (records : List ClientRecord) (new : Replica) (bytes : List ℕ) : Type 0 where
  pub next : ClientRecord
  pub spelled : bytes ≡ client_bytes next
  pub goes_on : (ahead : List (Option ClientRecord)) (go : ClientRecord → Result (List ClientRecord) ℕ) → Next records ahead bytes go ≡ read_put next (go next)
  pub keeps : Keeps (records ++ next ∷ []) new

abbrev pub ReadsOne : List ClientRecord → Replica → List ℕ → Result Bool NoMemory → Type 0
ReadsOne records new bytes (Ok true) = ReadOn records new bytes
ReadsOne records new bytes (Ok false) = (ahead : List (Option ClientRecord)) (go : ClientRecord → Result (List ClientRecord) ℕ) → Next records ahead bytes go ≡ Err 0
ReadsOne records new bytes (Err e) = Unit {0}

-- these records are in front of what the rest gives
abbrev pub read_puts : List ClientRecord → Result (List ClientRecord) ℕ → Result (List ClientRecord) ℕ
read_puts [] r = r
read_puts (x ∷ xs) r = read_put x (read_puts xs r)

-- the first of these bytes are records that a client of these records writes next
pub record ReadSome (records : List ClientRecord) (new : Replica) (file rest : List (List ℕ)) (count : ℕ) : Type 0 where
  pub next : List ClientRecord
  pub count_is : count ≡ length next
  pub spelled : file ≡ map client_bytes next ++ rest
  pub goes_on : client_reads the_profile read_client (client_of the_profile records) file ≡ read_puts next (client_reads the_profile read_client (client_of the_profile (records ++ next)) rest)
  pub keeps : Keeps (records ++ next) new

-- so is what is read from a place on; what is behind so many of its records is told by the function
abbrev pub ReadsOn : List ClientRecord → Replica → List (List ℕ) → (ℕ → List (List ℕ)) → ℕ → Result ℕ ReadRefusal → Type 0
ReadsOn records new file behind place (Ok next) = (count : ℕ) × (next ≡ place + count) × (1 ≤ count) × ReadSome records new file (behind count) count
ReadsOn records new file behind place (Err (refusals.BadRecord bad)) = (count : ℕ) × (bad ≡ place + count) × (client_reads the_profile read_client (client_of the_profile records) file ≡ Err count)
ReadsOn records new file behind place (Err refusals.NoMemory) = Unit {0}

-- the first of these bytes are the parts of a state and its version, as a client writes them next that is seen so
pub record GrewSome (past : Past) (old new : Replica) (file rest : List (List ℕ)) (count : ℕ) : Type 0 where
  pub next : List ClientRecord
  pub count_is : count ≡ length next
  pub spelled : file ≡ map client_bytes next ++ rest
  pub then_past : Past
  pub made : length then_past.made ≡ new.count
  pub after : after_records the_profile (seen past old) next ≡ seen then_past new
  pub goes_on : client_reads the_profile read_client (seen past old) file ≡ read_puts next (client_reads the_profile read_client (seen then_past new) rest)
  pub opens : client_opens the_profile (seen past old) next ≡ true
  pub each : Each (IsClientRecord the_profile) next

-- so are those that are read from a place on, or one of them is refused
abbrev pub GrowsOn : Past → Replica → Replica → List (List ℕ) → (ℕ → List (List ℕ)) → ℕ → Result ℕ ReadRefusal → Type 0
GrowsOn past old new file behind place (Ok next) = (count : ℕ) × (next ≡ place + count) × (1 ≤ count) × GrewSome past old new file (behind count) count
GrowsOn past old new file behind place (Err (refusals.BadRecord bad)) = (count : ℕ) × (bad ≡ place + count) × (client_reads the_profile read_client (seen past old) file ≡ Err count)
GrowsOn past old new file behind place (Err refusals.NoMemory) = Unit {0}

-- a client that is seen so may go on with the parts of a state: in the front of a short file, or where it is blank
pub record MayGrow (within : Bool) (past : Past) (r : Replica) : Type 0 where
  pub parts : past.parts ≡ []
  pub front : past.front ≡ front_of within
  pub count : length past.made ≡ r.count
  pub ready : may_grow (seen past r) ≡ true
  pub born : is_there r.id ≡ true
  pub unnamed : (r.ident == 0) ≡ true
  pub floorless : within ≡ false → r.floor ≡ None

-- the records of these bytes, each read back from its own; the replica is what they stand for
pub record ReadAll (file : List (List ℕ)) (new : Replica) : Type 0 where
  pub records : List ClientRecord
  pub reads : client_reads the_profile read_client (no_client the_profile) file ≡ Ok records
  pub spelled : map client_bytes records ≡ file
  pub keeps : Keeps records new

abbrev pub ReadsFile : List (List ℕ) → Result Replica ReadRefusal → Type 0
ReadsFile file (Ok new) = ReadAll file new
ReadsFile file (Err (refusals.BadRecord place)) = client_reads the_profile read_client (no_client the_profile) file ≡ Err place
ReadsFile file (Err refusals.NoMemory) = Unit {0}
