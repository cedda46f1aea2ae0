-- What a command over a file does.
use Rattle.std.specs.Prelude.{◌≡◌, ◌++◌, ℕ, false, List, map, Option, Some, IfSome, Result, Ok, Err}
use Rattle.sync_disk.specs.Disk.{LeavesOnly, Told}
use Rattle.sync_io.specs.declared.status.Status.{Status}
use Rattle.sync_io.specs.declared.status.Status.TheVariants as statuses
use Rattle.sync_journal.specs.Records.{records_of}
use Rattle.sync_journal.specs.Records.Reading.{Good}
use Rattle.sync_node.specs.Runs.{DiskHolds, FollowsTold, Left, Run, added, is_fault}
use Rattle.sync_node.specs.Opening.{HoldsThose}
use Rattle.sync_node.specs.Texts.{IsMade, TellsBad, Writes}

module _ {D : Type 0} (content : D → Option (List ℕ)) (images : D → List ℕ → Type 0) where
  -- A node over a file answers the items of an input by the run that is meant. `first` is the disk before, `last` the disk after; `old` and
  -- `new` are what was written before and after.
  pub record AnswersItems {R : Type 0} (file_of : List ℕ → Result (List R) ℕ) (bytes_of : R → List ℕ) (meant : List R → Option (Run R)) (status : Status) (first last : D) (old new : Option (List ℕ)) : Type 0 where
    -- what is written, and the status, are the run's; after a fault and out of memory a part of it was written, from its front
    pub written : Told (content first) (λ b. (records : List R) → file_of b ≡ Ok records → FollowsTold status (meant records) old new)
    -- the disk then holds the old records and those of the steps, in order
    pub stored : Told (content first) (λ b. (records : List R) → file_of b ≡ Ok records → is_fault status ≡ false
        → IfSome (meant records) (λ run. DiskHolds content images bytes_of (records ++ added run.answers) last))
    -- at any end a crash leaves the old records and some of the run's, from the first on: at least those of each item whose answer was written
    -- whole, where the images before stood for the old records
    pub any_exit : Told (content first) (λ b. (records : List R) → file_of b ≡ Ok records
        → ((image : List ℕ) → images first image → records_of image ≡ Good (map bytes_of records))
        → IfSome (meant records) (λ run. (image : List ℕ) → images last image → Left bytes_of records run old new image))
    -- bytes that are no journal of the node are told so, by their place, and stay as they were
    pub bad_file : Told (content first) (λ b. (place : ℕ) → status ≡ statuses.BadFile place → file_of b ≡ Err place)
    pub bad_place : Told (content first) (λ b. (place : ℕ) → file_of b ≡ Err place → TellsBad place status)
    pub bad_kept : Told (content first) (λ b. (place : ℕ) → status ≡ statuses.BadFile place → content last ≡ Some b)

  -- A node over a file writes a text of its records, and adds none.
  pub record TellsText {R : Type 0} (moment : D → ℕ) (images_since : D → ℕ → List ℕ → Type 0) (file_of : List ℕ → Result R ℕ) (text_of : R → List ℕ) (status : Status) (first last : D) (old new : Option (List ℕ)) : Type 0 where
    -- what is written is the text; after a fault and out of memory a part of it, from its front
    pub written : Told (content first) (λ b. (records : R) → file_of b ≡ Ok records → Writes status (text_of records) old new)
    -- bytes that are no journal of the node are told so, by their place; nothing is written, and they stay as they were
    pub bad_file : Told (content first) (λ b. (place : ℕ) → status ≡ statuses.BadFile place → file_of b ≡ Err place)
    pub bad_place : Told (content first) (λ b. (place : ℕ) → file_of b ≡ Err place → TellsBad place status)
    pub bad_unwritten : Told (content first) (λ b. (place : ℕ) → file_of b ≡ Err place → new ≡ old)
    pub bad_kept : Told (content first) (λ b. (place : ℕ) → status ≡ statuses.BadFile place → content last ≡ Some b)
    -- the disk holds the same records, also after a crash
    pub kept : Told (content first) (λ b. IsMade status → HoldsThose content images b last)
    -- where each crash before would have left the same records, each crash since its start leaves them
    pub any_moment : (records : List (List ℕ)) → Told (content first) (λ b. ((c : List ℕ) → images first c → records_of c ≡ Good records)
        → LeavesOnly moment images_since first last (λ c. records_of c ≡ Good records))
