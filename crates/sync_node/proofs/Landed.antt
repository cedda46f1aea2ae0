-- What a landing leaves.
use Rattle.std.proofs.Common.{◌≡◌, ◌∙◌, ℕ, List, Option, Result, Ok, Err, OnOk, ap, map}
use Rattle.sync_journal.specs.Records.{records_of}
use Rattle.sync_journal.specs.Records.Reading.{Good}
use Rattle.sync_node.specs.Runs.{DiskHolds}

-- what is said of a result that is good, and what follows of it
pub on_ok : {A E : Type 0} (r : Result A E) (P Q : Type 0) → (P → Q) → OnOk r P → OnOk r Q
on_ok (Ok a) P Q then p = then p
on_ok (Err e) P Q then p = tt

-- what a disk holds is there after a crash
pub kept_by : {D R : Type 0} (content : D → Option (List ℕ)) (images : D → List ℕ → Type 0) (bytes_of : R → List ℕ) (records : List R) (disk : D) → DiskHolds content images bytes_of records disk → (image : List ℕ) → images disk image → records_of image ≡ Good (map bytes_of records)
kept_by content images bytes_of records disk h image is = ap records_of (h.durable image is) ∙ h.reads
