-- A node that is opened, and a file that is no journal of it.
use Rattle.std.proofs.Common.{◌≡◌, ℕ, List, [], ◌∷◌, map, Some, Result, Ok, Err, inl, inr, refl, sym, ap, ◌∙◌}
use Rattle.sync_disk.specs.declared.disk.Disk.{Ghosts}
use Rattle.sync_io.specs.declared.status.Status.{Status}
use Rattle.sync_io.specs.declared.status.Status.TheVariants as statuses
use Rattle.sync_journal.specs.Records.Reading.{Good}
use Rattle.sync_journal.specs.Stands.{disk_of}
use Rattle.sync_journal.specs.declared.opening.OpenCause.{OpenCause}
use Rattle.sync_journal.specs.declared.opening.OpenCause.TheVariants as causes
use Rattle.sync_model.specs.Fronts.{file_gives}
use Rattle.sync_model.specs.Servers.{ServerRecord}
use Rattle.sync_exchange.specs.Profile.{the_profile}
use Rattle.sync_client.specs.Clients as clients
use Rattle.sync_client.specs.Files as client_files
use Rattle.sync_client.specs.declared.client.Client.{Client}
use Rattle.sync_server.specs.Serving as servers
use Rattle.sync_server.specs.Files as server_files
use Rattle.sync_server.specs.declared.server.Server.{Server}
use Rattle.sync_node.specs.Opening.{HoldsThose, IsOpenStatus, OpenedClient, OpenedServer, all_read, at_gate, client_file, client_in, if_given, open_status, server_file, server_in}
use Rattle.sync_node.specs.Texts.{TellsBad}

-- records are read as themselves
pub all_again : (rs : List ServerRecord) → all_read (map (λ r. Some r) rs) ≡ rs
all_again [] = refl
all_again (r ∷ rs) = ap (λ xs. r ∷ xs) (all_again rs)

-- ---- the node of its records
module _ {D : Type 0} {G : Ghosts D} (b : List ℕ) where
  pub opened_client : (c : Client D G) → client_files.Opened b c → OpenedClient b c
  opened_client c o = record {
    records = o.records;
    file = ap client_in o.holds ∙ ap (at_gate o.file) o.reads;
    holds = o.holds ∙ ap Good (sym o.spelled);
    client = o.client;
    stored = o.stored;
  }

  pub opened_server : (s : Server D G) → server_files.Opened b s → OpenedServer b s
  opened_server s o = record {
    records = o.records;
    file = ap server_in o.holds ∙ ap (at_gate o.file) (ap (if_given o.file) (ap (file_gives the_profile) o.are.reads ∙ o.server.gives) ∙ ap (λ rs. Ok rs) (ap all_read o.are.reads ∙ all_again o.records));
    holds = o.holds ∙ ap Good (sym o.are.spelled);
    server = o.server;
    stored = o.stored;
  }

  -- its disk holds those records and nothing else
  pub client_holds : (c : Client D G) → OpenedClient b c → HoldsThose G.content G.images b (disk_of (clients.journal_of c))
  client_holds c o = record { file = o.stored.settled.file; told = o.stored.settled.told; reads = o.stored.settled.reads ∙ sym o.holds; durable = o.stored.settled.durable }

  pub server_holds : (s : Server D G) → OpenedServer b s → HoldsThose G.content G.images b (disk_of (servers.journal_of s))
  server_holds s o = record { file = o.stored.settled.file; told = o.stored.settled.told; reads = o.stored.settled.reads ∙ sym o.holds; durable = o.stored.settled.durable }

-- ---- bytes that are no journal of the node
pub bad_client : (b : List ℕ) (place : ℕ) → client_files.BadPlace b place → client_file b ≡ Err place
bad_client b place (inl bad) = ap client_in bad
bad_client b place (inr r) = ap client_in r.holds ∙ ap (at_gate r.file) r.bad.reads ∙ ap (λ n. Err n) (sym r.bad.gate)

pub bad_server : (b : List ℕ) (place : ℕ) → server_files.BadPlace b place → server_file b ≡ Err place
bad_server b place (inl bad) = ap server_in bad
bad_server b place (inr r) = ap server_in r.holds ∙ ap (at_gate r.file) (ap (if_given r.file) r.bad.reads) ∙ ap (λ n. Err n) (sym r.bad.gate)

-- ---- causes and statuses
pub bad_cause : (cause : OpenCause) (place : ℕ) → open_status cause ≡ statuses.BadFile place → cause ≡ causes.BadFile place
bad_cause causes.DiskFault place is = cc
bad_cause (causes.BadFile told) place is = cc
bad_cause causes.NoMemory place is = cc

pub fault_cause : (cause : OpenCause) → open_status cause ≡ statuses.DiskFault → cause ≡ causes.DiskFault
fault_cause causes.DiskFault is = refl
fault_cause (causes.BadFile told) is = cc
fault_cause causes.NoMemory is = cc

pub open_only : (cause : OpenCause) → IsOpenStatus (open_status cause)
open_only causes.DiskFault = tt
open_only (causes.BadFile place) = tt
open_only causes.NoMemory = tt

-- ---- one answer
pub no_both : {R : Type 0} (r : Result R ℕ) (t : R) (place : ℕ) → r ≡ Ok t → r ≡ Err place → ⊥
no_both {R} r t place ok err = let e : ◌≡◌ {A = Result R ℕ} (Ok t) (Err place) = sym ok ∙ err in cc

pub same_ok : {R : Type 0} (r : Result R ℕ) (s t : R) → r ≡ Ok s → r ≡ Ok t → s ≡ t
same_ok {R} r s t e f = let h : ◌≡◌ {A = Result R ℕ} (Ok s) (Ok t) = sym e ∙ f in cc

pub same_err : {R : Type 0} (r : Result R ℕ) (m n : ℕ) → r ≡ Err m → r ≡ Err n → m ≡ n
same_err {R} r m n e f = let h : ◌≡◌ {A = Result R ℕ} (Err m) (Err n) = sym e ∙ f in cc

-- a file that is bad at a place, and isn't opened
pub tells_bad : (place : ℕ) (status : Status) → IsOpenStatus status → ((at : ℕ) → status ≡ statuses.BadFile at → at ≡ place) → TellsBad place status
tells_bad place statuses.DiskFault only same = tt
tells_bad place statuses.NoMemory only same = tt
tells_bad place (statuses.BadFile at) only same = same at refl
tells_bad place statuses.Done only same = absurd only
tells_bad place statuses.BadWords only same = absurd only
tells_bad place (statuses.BadInput number) only same = absurd only
tells_bad place statuses.ReadFault only same = absurd only
tells_bad place statuses.WriteFault only same = absurd only
tells_bad place statuses.InputTooLong only same = absurd only
