-- A node that is opened over a file of its records.
use Rattle.std.proofs.Common.{◌≡◌, ℕ, List, [], ◌∷◌, Some, Result, Ok, map, refl, sym, ◌∙◌, ap, subst}
use Rattle.sync_disk.specs.declared.disk.Disk.{Ghosts}
use Rattle.sync_journal.specs.Records as records
use Rattle.sync_journal.specs.Records.{records_of}
use Rattle.sync_journal.specs.Records.Reading.{Good}
use Rattle.sync_model.specs.Clients.{ClientRecord, no_client}
use Rattle.sync_model.specs.Each.{Each, and_each}
use Rattle.sync_model.specs.Files.{client_reads}
use Rattle.sync_model.specs.Servers.{ServerRecord}
use Rattle.sync_exchange.specs.Profile.{the_profile}
use Rattle.sync_exchange.specs.Seen.{client_bytes, read_client, read_server, server_bytes}
use Rattle.sync_client.specs.Clients as clients
use Rattle.sync_client.specs.Files as client_files
use Rattle.sync_client.specs.declared.client.Client.{Client}
use Rattle.sync_server.specs.Serving as servers
use Rattle.sync_server.specs.Files as server_files
use Rattle.sync_server.specs.declared.server.Server.{Server}
use Rattle.sync_world.specs.Nodes.{ReadsBack, ServerReadsBack}

one_file : (a b : List (List ℕ)) → Good a ≡ Good b → a ≡ b
one_file a b e = cc

one_list : {R : Type 0} (a b : List R) → ◌≡◌ {A = Result (List R) ℕ} (Ok a) (Ok b) → a ≡ b
one_list a b e = cc

some_lists : {R : Type 0} (as_ bs : List R) → map (λ r. Some r) as_ ≡ map (λ r. Some r) bs → as_ ≡ bs
some_lists [] [] e = refl
some_lists [] (b ∷ bs) e = cc
some_lists (a ∷ as_) [] e = cc
some_lists (a ∷ as_) (b ∷ bs) e = let first : a ≡ b = cc in let rest : map (λ r. Some r) as_ ≡ map (λ r. Some r) bs = cc in ap (λ x. x ∷ as_) first ∙ ap (λ xs. b ∷ xs) (some_lists as_ bs rest)

all_back : (rs : List ServerRecord) → Each (λ r. read_server (server_bytes r) ≡ Some r) rs → map read_server (map server_bytes rs) ≡ map (λ r. Some r) rs
all_back [] all = refl
all_back (r ∷ rs) (and_each one all) = ap (λ o. o ∷ map read_server (map server_bytes rs)) one ∙ ap (λ os. Some r ∷ os) (all_back rs all)

module _ {D : Type 0} {G : Ghosts D} (b : List ℕ) where
  pub opened_client : (records : List ClientRecord) (c : Client D G) → client_files.Opened b c → records_of b ≡ Good (map client_bytes records) → ReadsBack records
      → clients.IsClientOf records c × clients.IsStored records c
  opened_client records c o holds back =
      let file : o.file ≡ map client_bytes records = one_file o.file (map client_bytes records) (sym o.holds ∙ holds) in
      let same : o.records ≡ records = one_list o.records records (sym o.reads ∙ ap (client_reads the_profile read_client (no_client the_profile)) file ∙ back) in
      (subst (λ rs. clients.IsClientOf rs c) same o.client, subst (λ rs. clients.IsStored rs c) same o.stored)

  pub opened_server : (records : List ServerRecord) (s : Server D G) → server_files.Opened b s → records_of b ≡ Good (map server_bytes records) → ServerReadsBack records
      → servers.IsServerOf records s × servers.IsStored records s
  opened_server records s o holds back =
      let file : o.file ≡ map server_bytes records = one_file o.file (map server_bytes records) (sym o.holds ∙ holds) in
      let same : o.records ≡ records = some_lists o.records records (sym o.are.reads ∙ ap (map read_server) file ∙ all_back records back.each) in
      (subst (λ rs. servers.IsServerOf rs s) same o.server, subst (λ rs. servers.IsStored rs s) same o.stored)

-- an empty file has none
pub no_records : records_of [] ≡ Good []
unfolding records.reading
no_records = refl
