-- Records are read back from their bytes.
use Rattle.std.proofs.Common.{◌≡◌, ◌≢◌, ℕ, zero, suc, ◌<◌, ◌≤◌, ◌^◌, List, [], ◌∷◌, Some, refl, ap, ◌∙◌, arith}
use Rattle.std.specs.Option.{option_map}
use Rattle.sync_model.specs.Clients.{ClientRecord}
use Rattle.sync_model.specs.Each.{Each, no_more, and_each}
use Rattle.sync_model.specs.Limits.{IsClientRecord, IsServerRecord}
use Rattle.sync_model.specs.Servers.{ServerRecord}
use Rattle.sync_records.specs.Limits as records
use Rattle.sync_records.proofs.Records.{client_read, server_read}
use Rattle.sync_exchange.specs.Profile.{the_profile}
use Rattle.sync_exchange.specs.Seen.{client_bytes, client_kept, client_seen, read_client, read_server, server_bytes, server_kept, server_seen}
use Rattle.sync_world.specs.Nodes.{FitsClient, FitsServer}

within : (n : ℕ) → n ≤ 4294967295 → n < 2 ^ 32
within n le = omega arith

some_one : (n : ℕ) → n ≢ 0 → 1 ≤ n
some_one zero ne = absurd (ne refl)
some_one (suc n) ne = omega arith

client_whole : (r : ClientRecord) → IsClientRecord the_profile r → FitsClient r → records.IsClientRecord (client_kept r)
client_whole (ClientRecord.Born id) is fits = fits
client_whole (ClientRecord.Named ident) is fits = (some_one ident is.positive, within ident is.small)
client_whole (ClientRecord.Made number ms body) is fits = (within number is, fits)
client_whole (ClientRecord.Took origin number ms body) is fits = (within origin is.0, within number is.1, fits)
client_whole ClientRecord.Form is fits = tt
client_whole (ClientRecord.Subset tables) is fits = fits
client_whole (ClientRecord.Part body) is fits = tt
client_whole (ClientRecord.Floor version) is fits = within version is
client_whole (ClientRecord.Resumed number waiting) is fits = (within number is.0, within waiting is.1)
client_whole (ClientRecord.Waits number base ms body current) is fits = (within number is.0, within base is.1, fits.0, fits.1, is.2)

client_again : (r : ClientRecord) → client_seen (client_kept r) ≡ r
client_again (ClientRecord.Born id) = refl
client_again (ClientRecord.Named ident) = refl
client_again (ClientRecord.Made number ms body) = refl
client_again (ClientRecord.Took origin number ms body) = refl
client_again ClientRecord.Form = refl
client_again (ClientRecord.Subset tables) = refl
client_again (ClientRecord.Part body) = refl
client_again (ClientRecord.Floor version) = refl
client_again (ClientRecord.Resumed number waiting) = refl
client_again (ClientRecord.Waits number base ms body current) = refl

client_back : (r : ClientRecord) → IsClientRecord the_profile r → FitsClient r → read_client (client_bytes r) ≡ Some r
client_back r is fits = ap (option_map client_seen) (client_read (client_bytes r) (client_kept r) (client_whole r is fits) refl) ∙ ap (λ x. Some x) (client_again r)

pub clients_back : (rs : List ClientRecord) → Each (IsClientRecord the_profile) rs → Each FitsClient rs → Each (λ r. read_client (client_bytes r) ≡ Some r) rs
clients_back [] is fits = no_more
clients_back (r ∷ rs) (and_each a is) (and_each b fits) = and_each (client_back r a b) (clients_back rs is fits)

server_whole : (r : ServerRecord) → IsServerRecord the_profile r → FitsServer r → records.IsServerRecord (server_kept r)
server_whole (ServerRecord.Client id) is fits = fits
server_whole (ServerRecord.Entry origin number base ms body) is fits = (within origin is.0.small, within number is.1.small, within base is.2, fits)
server_whole ServerRecord.Form is fits = tt
server_whole (ServerRecord.Retired ident by) is fits = (within ident is.0.small, within by is.1.small)
server_whole (ServerRecord.Settled ident n) is fits = (within ident is.0.small, within n is.1)
server_whole (ServerRecord.Part body) is fits = tt
server_whole (ServerRecord.Floor version) is fits = within version is
server_whole (ServerRecord.Count ident number base n) is fits = (within ident is.0.small, within number is.1, within base is.2, within n is.3)
server_whole (ServerRecord.Carried origin number base ms body) is fits = (within origin is.0.small, within number is.1.small, within base is.2, fits)
server_whole (ServerRecord.Past ident version ms body) is fits = (within ident is.0.small, within version is.1, fits)

server_again : (r : ServerRecord) → server_seen (server_kept r) ≡ r
server_again (ServerRecord.Client id) = refl
server_again (ServerRecord.Entry origin number base ms body) = refl
server_again ServerRecord.Form = refl
server_again (ServerRecord.Retired ident by) = refl
server_again (ServerRecord.Settled ident n) = refl
server_again (ServerRecord.Part body) = refl
server_again (ServerRecord.Floor version) = refl
server_again (ServerRecord.Count ident number base n) = refl
server_again (ServerRecord.Carried origin number base ms body) = refl
server_again (ServerRecord.Past ident version ms body) = refl

server_back : (r : ServerRecord) → IsServerRecord the_profile r → FitsServer r → read_server (server_bytes r) ≡ Some r
server_back r is fits = ap (option_map server_seen) (server_read (server_bytes r) (server_kept r) (server_whole r is fits) refl) ∙ ap (λ x. Some x) (server_again r)

pub servers_back : (rs : List ServerRecord) → Each (IsServerRecord the_profile) rs → Each FitsServer rs → Each (λ r. read_server (server_bytes r) ≡ Some r) rs
servers_back [] is fits = no_more
servers_back (r ∷ rs) (and_each a is) (and_each b fits) = and_each (server_back r a b) (servers_back rs is fits)
