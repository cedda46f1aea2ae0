-- A client whose records these are: what it keeps in memory is what they stand for.
use Rattle.std.specs.Prelude.{◌≡◌, List, length, true}
use Rattle.sync_model.specs.Clients.{ClientRecord, client_of, no_client}
use Rattle.sync_model.specs.Files.{client_opens}
use Rattle.sync_model.specs.Each.{Each}
use Rattle.sync_model.specs.Limits.{IsClientRecord}
use Rattle.sync_exchange.specs.Profile.{the_profile}
use Rattle.sync_client.specs.declared.replica.Replica.{Replica}
use Rattle.sync_client.specs.Seen.{Past, seen}

-- the replica is what the records stand for, and they are such as a client writes
pub record Keeps (records : List ClientRecord) (r : Replica) : Type 0 where
  pub past : Past
  pub count : length past.made ≡ r.count
  pub stands_for : client_of the_profile records ≡ seen past r
  pub opens : client_opens the_profile (no_client the_profile) records ≡ true
  pub each : Each (IsClientRecord the_profile) records
