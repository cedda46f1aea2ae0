-- Which values are records: each number fits its type, a client that is named has an ident, and tables are as they are spelled.
use Rattle.std.specs.Prelude.{◌≡◌, ◌<◌, ◌≤◌, ◌^◌, ℕ, List, [], length}
use Rattle.subset_bytes.specs.Spelling.{AreTables}
use Rattle.sync_records.specs.declared.client.ClientRecord.{ClientRecord}
use Rattle.sync_records.specs.declared.client.ClientRecord.TheVariants as client
use Rattle.sync_records.specs.declared.server.ServerRecord.{ServerRecord}
use Rattle.sync_records.specs.declared.server.ServerRecord.TheVariants as server

-- what was carried to no bytes at all had none
abbrev pub IsCarried : List ℕ → List ℕ → Type 0
IsCarried body current = current ≡ [] → body ≡ []

abbrev pub IsClientRecord : ClientRecord → Type 0
IsClientRecord (client.Born id) = length id ≡ 16
IsClientRecord (client.Named ident) = (1 ≤ ident) × (ident < 2 ^ 32)
IsClientRecord (client.Made number ms body) = (number < 2 ^ 32) × (ms < 2 ^ 64)
IsClientRecord (client.Took origin number ms body) = (origin < 2 ^ 32) × (number < 2 ^ 32) × (ms < 2 ^ 64)
IsClientRecord client.Form = Unit {0}
IsClientRecord (client.Subset tables) = AreTables tables
IsClientRecord (client.Part body) = Unit {0}
IsClientRecord (client.Floor version) = version < 2 ^ 32
IsClientRecord (client.Resumed number waiting) = (number < 2 ^ 32) × (waiting < 2 ^ 32)
IsClientRecord (client.Waits number base ms body current) = (number < 2 ^ 32) × (base < 2 ^ 32) × (ms < 2 ^ 64) × (length body < 2 ^ 32) × IsCarried body current

abbrev pub IsServerRecord : ServerRecord → Type 0
IsServerRecord (server.Client id) = length id ≡ 16
IsServerRecord (server.Entry origin number base ms body) = (origin < 2 ^ 32) × (number < 2 ^ 32) × (base < 2 ^ 32) × (ms < 2 ^ 64)
IsServerRecord server.Form = Unit {0}
IsServerRecord (server.Retired ident by) = (ident < 2 ^ 32) × (by < 2 ^ 32)
IsServerRecord (server.Settled ident settled) = (ident < 2 ^ 32) × (settled < 2 ^ 32)
IsServerRecord (server.Part body) = Unit {0}
IsServerRecord (server.Floor version) = version < 2 ^ 32
IsServerRecord (server.Count ident number base settled) = (ident < 2 ^ 32) × (number < 2 ^ 32) × (base < 2 ^ 32) × (settled < 2 ^ 32)
IsServerRecord (server.Carried origin number base ms body) = (origin < 2 ^ 32) × (number < 2 ^ 32) × (base < 2 ^ 32) × (ms < 2 ^ 64)
IsServerRecord (server.Past ident version ms body) = (ident < 2 ^ 32) × (version < 2 ^ 32) × (ms < 2 ^ 64)
