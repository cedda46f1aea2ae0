-- A client over its short file answers as over the file that it may take the place of.
use Rattle.std.specs.Prelude.{◌≡◌, ℕ, List, Option, Ok}
use Rattle.sync_disk.specs.Disk.{Told}
use Rattle.sync_model.specs.Clients.{ClientRecord}
use Rattle.sync_node.specs.Opening.{client_file}
use Rattle.sync_node.specs.Sending.{shrunk_by, text_of}
use Rattle.sync_node.specs.declared.sending.Errand.{Errand}
use Rattle.sync_top.specs.Recoveries.{HeirRun, after_runs, run_of}

-- After any runs of `edit`, `take` and `recover` over both files, each stopped anywhere, what the next run answers and adds is the same, and so is what
-- each command writes that adds nothing.
pub record IsAnsweredAlike (records : List ClientRecord) : Type 0 where
  pub answers : (runs : List HeirRun) (next : HeirRun) → run_of (after_runs (shrunk_by records) runs) next ≡ run_of (after_runs records runs) next
  pub texts : (runs : List HeirRun) (errand : Errand) → text_of errand (after_runs (shrunk_by records) runs) ≡ text_of errand (after_runs records runs)

-- of a disk that tells what it holds
abbrev pub ShrinksAlike : Option (List ℕ) → Type 0
ShrinksAlike content = Told content (λ b. (records : List ClientRecord) → client_file b ≡ Ok records → IsAnsweredAlike records)
