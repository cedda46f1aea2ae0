-- How a client is read from its records.
use Rattle.std.specs.Prelude.{◌≡◌, Bool, true, false, List, length, Option, Result, Ok, Err}
use Rattle.sync_data.specs.declared.memory.NoMemory.{NoMemory}
use Rattle.sync_model.specs.Clients.{ClientRecord, after_record, no_client}
use Rattle.sync_model.specs.Files.{client_admits, is_growing}
use Rattle.sync_model.specs.Limits.{IsClientRecord}
use Rattle.sync_exchange.specs.Profile.{the_profile}
use Rattle.sync_client.specs.declared.replica.Replica.{Replica}
use Rattle.sync_client.specs.Seen.{Past, no_past, seen}

-- it stands for no records
pub record IsEmpty (r : Replica) : Type 0 where
  pub stands_for : seen no_past r ≡ no_client the_profile
  pub count : r.count ≡ 0

-- it made so many changesets, and waits for no part of a state
pub record IsPast (past : Past) (r : Replica) : Type 0 where
  pub count : length past.made ≡ r.count
  pub settled : is_growing (seen past r) ≡ false

-- whatever is ahead, a client would have written the record, and now the replica stands for it too
pub record Admitted (past : Past) (old new : Replica) (next : ClientRecord) : Type 0 where
  pub admitted : (ahead : List (Option ClientRecord)) → client_admits the_profile (seen past old) ahead next ≡ true
  pub fits : IsClientRecord the_profile next
  pub then_past : Past
  pub count : length then_past.made ≡ new.count
  pub after : seen then_past new ≡ after_record the_profile (seen past old) next

-- the record is admitted, or a client wouldn't have written it, whatever is ahead; out of memory, nothing is said
abbrev pub Admits : Past → Replica → Replica → ClientRecord → Result Bool NoMemory → Type 0
Admits past old new next (Ok true) = Admitted past old new next
Admits past old new next (Ok false) = (ahead : List (Option ClientRecord)) → client_admits the_profile (seen past old) ahead next ≡ false
Admits past old new next (Err e) = Unit {0}
