-- How a server is read from its records.
use Rattle.std.specs.Prelude.{◌≡◌, ◌≤◌, ◌+◌, ◌&&◌, ◌||◌, ℕ, Bool, true, false, List, [], ◌∷◌, map, length, take, Option, Some, Result, Ok, Err}
use Rattle.sync_data.specs.declared.instr.Instr.{Instr}
use Rattle.sync_base.specs.States.{State}
use Rattle.sync_data.specs.declared.memory.NoMemory.{NoMemory}
use Rattle.sync_model.specs.Fronts.{begins_trimmed, file_gives, front_of, is_form, rest_of, rest_on}
use Rattle.sync_model.specs.Parts.{Parts, admits_part, after_part}
use Rattle.sync_model.specs.Servers.{ServerRecord}
use Rattle.sync_exchange.specs.Profile.{the_profile}
use Rattle.sync_exchange.specs.Seen.{read_server, server_bytes}
use Rattle.server_memory.specs.Kept.{parts}
use Rattle.server_memory.specs.declared.kept.Kept.{Kept}
use Rattle.sync_journal.specs.declared.opening.ReadRefusal.{ReadRefusal}
use Rattle.sync_journal.specs.declared.opening.ReadRefusal.TheVariants as refusals

-- ---- one record

-- a server would have written the record, and now the memory stands for it too
pub record Admitted (old new : Kept) (next : ServerRecord) : Type 0 where
  pub admitted : admits_part the_profile (parts old) next ≡ true
  pub kept : parts new ≡ after_part the_profile (parts old) next

-- the record is admitted, or a server wouldn't have written it; out of memory, nothing is said
abbrev pub Admits : Kept → Kept → ServerRecord → Result Bool NoMemory → Type 0
Admits old new next (Ok true) = Admitted old new next
Admits old new next (Ok false) = admits_part the_profile (parts old) next ≡ false
Admits old new next (Err e) = Unit {0}

-- the bytes are a record that a server would have written next
pub record ReadOn (old new : Kept) (bytes : List ℕ) : Type 0 where
  pub next : ServerRecord
  pub reads : read_server bytes ≡ Some next
  pub spelled : bytes ≡ server_bytes next
  pub admitted : Admitted old new next

-- they are no record, or one that a server wouldn't have written there
abbrev pub IsDeclined : Kept → List ℕ → Type 0
IsDeclined old bytes = (go : Parts Instr State → Result (Parts Instr State) ℕ) → rest_on the_profile (parts old) (read_server bytes) go ≡ Err 0

abbrev pub ReadsOne : Kept → Kept → List ℕ → Result Bool NoMemory → Type 0
ReadsOne old new bytes (Ok true) = ReadOn old new bytes
ReadsOne old new bytes (Ok false) = IsDeclined old bytes
ReadsOne old new bytes (Err e) = Unit {0}

-- ---- several

-- bytes that spell these records, each read back from its own
pub record AreRecords (file : List (List ℕ)) (records : List ServerRecord) : Type 0 where
  pub reads : map read_server file ≡ map (λ r. Some r) records
  pub spelled : map server_bytes records ≡ file

-- the records behind a front; the memory is what they make of what it was
pub record RestRead (rest : List (List ℕ)) (old new : Kept) : Type 0 where
  pub records : List ServerRecord
  pub are : AreRecords rest records
  pub gives : rest_of the_profile (parts old) (map read_server rest) ≡ Ok (parts new)

-- one of them isn't one that a server would have written there
pub record RestBad (rest : List (List ℕ)) (old : Kept) (first place : ℕ) : Type 0 where
  pub number : ℕ
  pub place_is : place ≡ first + number
  pub reads : rest_of the_profile (parts old) (map read_server rest) ≡ Err number

abbrev pub ReadsRest : List (List ℕ) → ℕ → Kept → Kept → Result (Unit {0}) ReadRefusal → Type 0
ReadsRest rest first old new (Ok u) = RestRead rest old new
ReadsRest rest first old new (Err (refusals.BadRecord place)) = RestBad rest old first place
ReadsRest rest first old new (Err refusals.NoMemory) = Unit {0}

-- a file begins as a trimmed one, behind its form or without one
abbrev pub is_trimmed : List (Option ServerRecord) → Bool
is_trimmed [] = false
is_trimmed (o ∷ os) = begins_trimmed the_profile (o ∷ os) || (is_form the_profile o && begins_trimmed the_profile os)

-- the records at the front of a trimmed file, none of one with its whole history; the memory is what they give
pub record FrontRead (file : List (List ℕ)) (new : Kept) (size : ℕ) : Type 0 where
  pub within : size ≤ length file
  pub records : List ServerRecord
  pub are : AreRecords (take size file) records
  pub gives : front_of the_profile (map read_server file) ≡ Ok (record { parts = parts new; size = size })

abbrev pub ReadsFront : List (List ℕ) → Result (Kept × ℕ) ReadRefusal → Type 0
ReadsFront file (Ok f) = FrontRead file f.0 f.1
ReadsFront file (Err (refusals.BadRecord place)) = front_of the_profile (map read_server file) ≡ Err place
ReadsFront file (Err refusals.NoMemory) = Unit {0}

-- ---- a file

-- the records of these bytes, each read back from its own; the memory is what they give
pub record ReadAll (file : List (List ℕ)) (new : Kept) : Type 0 where
  pub records : List ServerRecord
  pub are : AreRecords file records
  pub gives : file_gives the_profile (map read_server file) ≡ Ok (parts new)

abbrev pub ReadsFile : List (List ℕ) → Result Kept ReadRefusal → Type 0
ReadsFile file (Ok new) = ReadAll file new
ReadsFile file (Err (refusals.BadRecord place)) = file_gives the_profile (map read_server file) ≡ Err place
ReadsFile file (Err refusals.NoMemory) = Unit {0}
