-- The records of a new file, and their bytes.
use Rattle.std.proofs.Common.{◌≡◌, ℕ, List, [], ◌∷◌, ◌++◌, Some, Result, Ok, Err, map, refl, ap, sym, ◌∙◌, append_assoc}
use Rattle.std.specs.List.{AllByRecursion}
use Rattle.std.specs.Option.{option_map}
use Rattle.std.specs.Prelude.{OnOk}
use Rattle.sync_model.specs.Each.{Each, no_more, and_each}
use Rattle.sync_exchange.specs.Seen.{client_bytes, client_kept, client_seen, read_client, read_server, server_bytes, server_seen}
use Rattle.sync_records.proofs.Records.{client_read, server_read}
use Rattle.sync_records.specs.Limits.{IsClientRecord, IsServerRecord}
use Rattle.sync_records.specs.Spelling.{client_spelling, server_spelling}
use Rattle.sync_records.specs.declared.client.ClientRecord.{ClientRecord}
use Rattle.sync_records.specs.declared.client.ClientRecord.TheVariants as codes
use Rattle.sync_records.specs.declared.server.ServerRecord.{ServerRecord}
use Rattle.server_memory.proofs.Reading.{kept_seen}

pub server_texts : (rs : List ServerRecord) → map server_spelling rs ≡ map server_bytes (map server_seen rs)
server_texts [] = refl
server_texts (r ∷ rs) = ap (λ b. b ∷ map server_spelling rs) (ap server_spelling (sym (kept_seen r))) ∙ ap (λ l. server_bytes (server_seen r) ∷ l) (server_texts rs)

client_kept_seen : (r : ClientRecord) → client_kept (client_seen r) ≡ r
client_kept_seen (codes.Born id) = refl
client_kept_seen (codes.Named ident) = refl
client_kept_seen (codes.Made number ms body) = refl
client_kept_seen (codes.Took origin number ms body) = refl
client_kept_seen codes.Form = refl
client_kept_seen (codes.Subset tables) = refl
client_kept_seen (codes.Part body) = refl
client_kept_seen (codes.Floor version) = refl
client_kept_seen (codes.Resumed number waiting) = refl
client_kept_seen (codes.Waits number base ms body current) = refl

pub client_texts : (rs : List ClientRecord) → map client_spelling rs ≡ map client_bytes (map client_seen rs)
client_texts [] = refl
client_texts (r ∷ rs) = ap (λ b. b ∷ map client_spelling rs) (ap client_spelling (sym (client_kept_seen r))) ∙ ap (λ l. client_bytes (client_seen r) ∷ l) (client_texts rs)

-- one record more
pub one_more : {A : Type 0} (text : A → List ℕ) (done : List (List ℕ)) (r : A) (left : List A) (all : List (List ℕ)) → done ++ map text (r ∷ left) ≡ all → (done ++ text r ∷ []) ++ map text left ≡ all
one_more text done r left all so_far = append_assoc done (text r ∷ []) (map text left) ∙ so_far

-- ---- and read back
server_back : (r : ServerRecord) → IsServerRecord r → read_server (server_bytes (server_seen r)) ≡ Some (server_seen r)
server_back r is = ap (option_map server_seen) (server_read (server_bytes (server_seen r)) r is (ap server_spelling (kept_seen r)))

pub servers_back : (rs : List ServerRecord) → AllByRecursion IsServerRecord rs → Each (λ r. read_server (server_bytes r) ≡ Some r) (map server_seen rs)
servers_back [] all = no_more
servers_back (r ∷ rs) all = and_each (server_back r all.0) (servers_back rs all.1)

client_back : (r : ClientRecord) → IsClientRecord r → read_client (client_bytes (client_seen r)) ≡ Some (client_seen r)
client_back r is = ap (option_map client_seen) (client_read (client_bytes (client_seen r)) r is (ap client_spelling (client_kept_seen r)))

pub clients_back : (rs : List ClientRecord) → AllByRecursion IsClientRecord rs → Each (λ r. read_client (client_bytes r) ≡ Some r) (map client_seen rs)
clients_back [] all = no_more
clients_back (r ∷ rs) all = and_each (client_back r all.0) (clients_back rs all.1)

-- what holds at any rate
pub on_ok : {A E : Type 0} {P : Type 0} (r : Result A E) → P → OnOk r P
on_ok (Ok a) h = h
on_ok (Err e) h = tt

-- what an answer promises, where it is one
pub on_put : {A E : Type 0} {P Q : Type 0} (r : Result A E) → (P → Q) → OnOk r P → OnOk r Q
on_put (Ok a) f h = f h
on_put (Err e) f h = tt
