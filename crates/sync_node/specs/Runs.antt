-- A run of a command over the items of an input: what is written, which records are added, and how the run ends.
use Rattle.std.specs.Prelude.{◌≡◌, ℕ, ◌+◌, ◌≤◌, ◌⊎◌, ⊤, Bool, true, false, List, [], ◌∷◌, ◌++◌, length, take, map, Option, None, Some, IfSome}
use Rattle.std.specs.Bool.{MatchBool}
use Rattle.std.specs.Option.{option_map}
use Rattle.sync_disk.specs.Disk.{Only}
use Rattle.sync_io.specs.Devices.{Took, TookSome}
use Rattle.sync_io.specs.declared.status.Status.{Status}
use Rattle.sync_io.specs.declared.status.Status.TheVariants as statuses
use Rattle.sync_journal.specs.Records.{records_of}
use Rattle.sync_journal.specs.Records.Reading.{Good}
use Rattle.sync_node.specs.Items.{Items, Over, Bad, Limit, Next}

-- what an item is answered by: the text that is written, and the records that are added before
pub record Answer (R : Type 0) : Type 0 where
  pub text : List ℕ
  pub records : List R

pub record Run (R : Type 0) : Type 0 where
  pub answers : List (Answer R)
  pub status : Status

module _ {R : Type 0} where
  -- all that is written, and all records that are added
  abbrev pub texts : List (Answer R) → List ℕ
  texts [] = []
  texts (a ∷ answers) = a.text ++ texts answers

  abbrev pub added : List (Answer R) → List R
  added [] = []
  added (a ∷ answers) = a.records ++ added answers

  -- the records of an item's answer; an item that is none of the command's has none
  abbrev pub records_in : Option (Answer R) → List R
  records_in None = []
  records_in (Some answer) = answer.records

  abbrev pub ended : Status → Run R
  ended status = record { answers = []; status = status }

  abbrev pub onto : List (Answer R) → Run R → Run R
  onto answers run = record { answers = answers ++ run.answers; status = run.status }

  -- the answer of an item goes before what follows, which the new records bear on
  abbrev pub answered : ℕ → Option (Answer R) → (List R → Run R) → Run R
  answered number None rest = ended (statuses.BadInput number)
  answered number (Some answer) rest = onto (answer ∷ []) (rest answer.records)

module _ {N R : Type 0} (step : N → List R → ℕ → List ℕ → Option (Answer R)) (noted : N → List R → List ℕ → N) where
  -- a node of these records, with these notes of the items before, answers the items in their order
  abbrev pub run_from : N → List R → Items → Run R
  run_from notes records Over = ended statuses.Done
  run_from notes records (Bad number) = ended (statuses.BadInput number)
  run_from notes records Limit = ended statuses.InputTooLong
  run_from notes records (Next number item rest) = answered number (step notes records number item) (λ new. run_from (noted notes records item) (records ++ new) rest)

  -- of a source that tells its bytes
  abbrev pub noting_runs : N → List R → Option Items → Option (Run R)
  noting_runs notes records items = option_map (run_from notes records) items

-- of a command that keeps no notes
abbrev pub no_notes : {R : Type 0} → ⊤ → List R → List ℕ → ⊤
no_notes notes records item = tt

abbrev pub runs : {R : Type 0} → (List R → ℕ → List ℕ → Option (Answer R)) → List R → Option Items → Option (Run R)
runs step records items = noting_runs (λ notes. step) no_notes tt records items

-- ---- what a run that may be cut short does of it
-- a fault, or out of memory
abbrev pub is_fault : Status → Bool
is_fault statuses.ReadFault = true
is_fault statuses.WriteFault = true
is_fault statuses.DiskFault = true
is_fault statuses.NoMemory = true
is_fault status = false

-- the sink has so many bytes more at least, where it tells them
abbrev pub WroteAtLeast : ℕ → Option (List ℕ) → Option (List ℕ) → Type 0
WroteAtLeast n old new = (had : List ℕ) × (has : List ℕ) × (old ≡ Some had) × (new ≡ Some has) × (length had + n ≤ length has)

-- the bytes stand for these records and some of the next ones, from the first on
pub record LeavesSome {R : Type 0} (bytes_of : R → List ℕ) (records next : List R) (image : List ℕ) : Type 0 where
  pub count : ℕ
  pub within : count ≤ length next
  pub reads : records_of image ≡ Good (map bytes_of (records ++ take count next))

module _ {R : Type 0} where
  -- The status is the run's, and what was written too. After a fault and out of memory a part of it was written, from its front.
  abbrev pub Follows : Status → Run R → Option (List ℕ) → Option (List ℕ) → Type 0
  Follows status run old new = MatchBool (is_fault status) (TookSome (texts run.answers) old new) ((status ≡ run.status) × Took (texts run.answers) old new)

  abbrev pub FollowsTold : Status → Option (Run R) → Option (List ℕ) → Option (List ℕ) → Type 0
  FollowsTold status meant old new = IfSome meant (λ run. Follows status run old new)

  -- The bytes stand for the old records and some of the run's, from the first on: at least those of each answer that was written whole.
  pub record Left (bytes_of : R → List ℕ) (records : List R) (run : Run R) (old new : Option (List ℕ)) (image : List ℕ) : Type 0 where
    pub leaves : LeavesSome bytes_of records (added run.answers) image
    pub holds : (n : ℕ) → WroteAtLeast (length (texts (take n run.answers))) old new → length (added (take n run.answers)) ≤ leaves.count

  -- At the end of a run: what was written, and what the disk holds, of which a crash may leave these images.
  pub record Exits (bytes_of : R → List ℕ) (Stands : List R → Type 0) (images : List ℕ → Type 0) (records : List R) (run : Run R) (status : Status) (old new : Option (List ℕ)) : Type 0 where
    pub follows : Follows status run old new
    pub left : (image : List ℕ) → images image → Left bytes_of records run old new image
    pub stands : is_fault status ≡ false → Stands (records ++ added run.answers)

  abbrev pub ExitsTold : (R → List ℕ) → (List R → Type 0) → (List ℕ → Type 0) → List R → Option (Run R) → Status → Option (List ℕ) → Option (List ℕ) → Type 0
  ExitsTold bytes_of Stands images records meant status old new = IfSome meant (λ run. Exits bytes_of Stands images records run status old new)

  -- ---- the parts of the loop
  -- an item was answered so
  pub record AnswersSo (meant : Option (Answer R)) (records : List R) (text : List ℕ) (Stands : List R → Type 0) : Type 0 where
    pub answer : Answer R
    pub is : meant ≡ Some answer
    pub text_is : text ≡ answer.text
    pub stands : Stands (records ++ answer.records)

  -- an answer that says nothing adds no record
  abbrev pub IsTold : Answer R → Type 0
  IsTold a = (length a.records ≤ 0) ⊎ (1 ≤ length a.text)

  abbrev pub AllTold : List (Answer R) → Type 0
  AllTold [] = Unit {0}
  AllTold (a ∷ answers) = IsTold a × AllTold answers

  -- the run ends while these answers wait, whatever follows
  abbrev pub EndsBehind : (R → List ℕ) → (List R → Type 0) → (List ℕ → Type 0) → List R → List (Answer R) → Status → Option (List ℕ) → Option (List ℕ) → Type 0
  EndsBehind bytes_of Stands images records waiting status old new =
      (rest : Run R) → AllTold waiting → AllTold rest.answers → Exits bytes_of Stands images records (onto waiting rest) status old new

  -- a run whose status this is stops here: after a fault whatever is left of it, else at its end
  abbrev pub Stops : Status → Run R → Type 0
  Stops status run = MatchBool (is_fault status) (AllTold run.answers) (run ≡ ended status)

  abbrev pub StopsTold : Status → Option (Run R) → Type 0
  StopsTold status rest = IfSome rest (Stops status)

-- a run ends by a fault of a write or of the disk, or out of memory, where its answers are written
abbrev pub IsFlushStatus : Status → Type 0
IsFlushStatus statuses.WriteFault = Unit {0}
IsFlushStatus statuses.DiskFault = Unit {0}
IsFlushStatus statuses.NoMemory = Unit {0}
IsFlushStatus status = ⊥

-- the ends of a run over items
abbrev pub IsRunStatus : Status → Type 0
IsRunStatus statuses.BadWords = ⊥
IsRunStatus (statuses.BadFile place) = ⊥
IsRunStatus status = Unit {0}

-- ---- a node over a disk
module _ {D R : Type 0} (content : D → Option (List ℕ)) (images : D → List ℕ → Type 0) (bytes_of : R → List ℕ) where
  -- the disk holds these records, and nothing else after a crash
  pub record DiskHolds (records : List R) (disk : D) : Type 0 where
    pub file : List ℕ
    pub told : content disk ≡ Some file
    pub reads : records_of file ≡ Good (map bytes_of records)
    pub durable : Only file (images disk)

-- the ends of a run over a node's file
abbrev pub IsNodeStatus : Status → Type 0
IsNodeStatus statuses.BadWords = ⊥
IsNodeStatus status = Unit {0}
