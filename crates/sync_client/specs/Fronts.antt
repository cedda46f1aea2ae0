-- How the front of a short file is read.
use Rattle.std.specs.Prelude.{◌≡◌, ◌≤◌, ◌+◌, ℕ, zero, suc, Bool, true, false, ◌==◌, List, [], ◌∷◌, ◌++◌, length, Option, Some, None, Result, Ok, Err}
use Rattle.sync_data.specs.Payload.{Changes}
use Rattle.sync_data.specs.declared.memory.NoMemory.{NoMemory}
use Rattle.sync_model.specs.Bytes.{Bytes, Tables as Names}
use Rattle.sync_model.specs.Clients.{ClientRecord, Unsent, after_record}
use Rattle.sync_model.specs.Files.{client_admits, is_empty, is_fine, read_one}
use Rattle.sync_model.specs.Limits.{IsClientRecord}
use Rattle.sync_model.specs.Worlds.{is_there}
use Rattle.sync_exchange.specs.Profile.{the_profile, unspell}
use Rattle.sync_exchange.specs.Seen.{client_bytes, read_client}
use Rattle.sync_client.specs.declared.replica.Replica.{Replica}
use Rattle.sync_client.specs.Entries.{IsRead}
use Rattle.sync_client.specs.Seen.{Past, seen}

-- the first record of a front, or no record
abbrev pub IsOfFront : Option ClientRecord → Type 0
IsOfFront None = Unit {0}
IsOfFront (Some (ClientRecord.Resumed number waiting)) = Unit {0}
IsOfFront (Some r) = ⊥

-- these two counts
pub record IsResumed (bytes : List ℕ) (counts : ℕ × ℕ) : Type 0 where
  pub spelled : bytes ≡ client_bytes (ClientRecord.Resumed counts.0 counts.1)
  pub read : read_client bytes ≡ Some (ClientRecord.Resumed counts.0 counts.1)
  pub number : counts.0 ≤ 4294967295
  pub waiting : counts.1 ≤ 4294967295

abbrev pub IsNoFront : Option ClientRecord → Type 0
IsNoFront (Some (ClientRecord.Resumed number waiting)) = ⊥
IsNoFront o = Unit {0}

abbrev pub FindsResumed : List ℕ → Result (Option (ℕ × ℕ)) NoMemory → Type 0
FindsResumed bytes (Ok (Some counts)) = IsResumed bytes counts
FindsResumed bytes (Ok None) = IsNoFront (read_client bytes)
FindsResumed bytes (Err e) = Unit {0}

-- a body's instructions, or none where it can't be read
abbrev pub Reads : ℕ → List ℕ → Result (Option Changes) NoMemory → Type 0
Reads ms body (Ok (Some changes)) = IsRead ms body changes
Reads ms body (Ok None) = is_fine (unspell body) ≡ false
Reads ms body (Err e) = Unit {0}

-- a client in the front of its file, of which so many unsent changesets are to come
pub record WithinFront (owed : ℕ) (past : Past) (r : Replica) : Type 0 where
  pub parts : past.parts ≡ []
  pub front : past.front ≡ Some owed
  pub count : length past.made ≡ r.count
  pub born : is_there r.id ≡ true
  pub unnamed : (r.ident == 0) ≡ true

-- ---- one record behind the first

-- its tables
pub record TablesNow (tables : Names) (old new : Replica) : Type 0 where
  pub none : old.subset ≡ None
  pub bare : old.unsent ≡ []
  pub is : new ≡ record old { subset = Some tables }

abbrev pub Tables : Names → Replica → Replica → Result Bool NoMemory → Type 0
Tables tables old new (Ok true) = TablesNow tables old new
Tables tables old new (Ok false) = (old.subset ≡ None → old.unsent ≡ [] → ⊥)
Tables tables old new (Err e) = Unit {0}

-- an unsent changeset
pub record WaitsNow (number base ms : ℕ) (body current : Bytes) (old new : Replica) : Type 0 where
  pub next : number ≡ suc old.count
  pub original : Changes
  pub carried : Changes
  pub read : IsRead ms body original
  pub read_current : IsRead ms current carried
  pub is : new ≡ record old { count = number; unsent = old.unsent ++ record { original = record { base = base; number = number; ms = ms; instrs = original.instrs }; current = carried.instrs } ∷ [] }

-- why it isn't one
pub data NoWaits (number : ℕ) (body current : Bytes) (old : Replica) : Type 0 where
  other_number : (number ≡ suc old.count → ⊥) → NoWaits number body current old
  bad_body : is_fine (unspell body) ≡ false → NoWaits number body current old
  bad_current : is_fine (unspell current) ≡ false → NoWaits number body current old

abbrev pub Waits : ℕ → ℕ → ℕ → Bytes → Bytes → Replica → Replica → Result Bool NoMemory → Type 0
Waits number base ms body current old new (Ok true) = WaitsNow number base ms body current old new
Waits number base ms body current old new (Ok false) = NoWaits number body current old
Waits number base ms body current old new (Err e) = Unit {0}

-- a record that a client would have written there, where more follows
pub record Took (past : Past) (old new : Replica) (bytes : List ℕ) (left : ℕ) : Type 0 where
  pub next : ClientRecord
  pub read : read_client bytes ≡ Some next
  pub spelled : bytes ≡ client_bytes next
  pub admitted : (ahead : List (Option ClientRecord)) → is_empty ahead ≡ false → client_admits the_profile (seen past old) ahead next ≡ true
  pub fits : IsClientRecord the_profile next
  pub then_past : Past
  pub within : WithinFront left then_past new
  pub after : after_record the_profile (seen past old) next ≡ seen then_past new

-- or one that it wouldn't, whatever follows; out of memory, nothing is said
abbrev pub Behind : Past → Replica → Replica → List ℕ → Result (Option ℕ) NoMemory → Type 0
Behind past old new bytes (Ok (Some left)) = Took past old new bytes left
Behind past old new bytes (Ok None) = (ahead : List (Option ClientRecord)) (go : ClientRecord → Result (List ClientRecord) ℕ) → read_one (read_client bytes) (client_admits the_profile (seen past old) ahead) go ≡ Err 0
Behind past old new bytes (Err e) = Unit {0}
