-- A run over the lines of an input: what is written, how the run ends, and what it leaves.
use Rattle.std.specs.Prelude.{◌≡◌, ℕ, zero, suc, ◌+◌, Bool, None, Some, true, false, if◌then◌else◌, List, [], ◌++◌, Option, IfSome, Result, Ok, Err}
use Rattle.std.specs.Bool.{MatchBool}
use Rattle.std.specs.Option.{option_map}
use Rattle.sync_io.specs.Reading.{Reading, Ends, Gives, AtEnd, AtLongLine, AtLimit}
use Rattle.sync_io.specs.Devices.{Took, TookSome}
use Rattle.sync_io.specs.declared.status.Status.{Status}
use Rattle.sync_io.specs.declared.status.Status.TheVariants as statuses
use Rattle.sync_io.specs.declared.sink.SinkRefusal.{SinkRefusal}
use Rattle.sync_node.specs.Items.{is_blank}
use Rattle.sync_node.specs.Texts.{write_status}
use Rattle.sync_top.specs.declared.command.LineEnd.{LineEnd}
use Rattle.sync_top.specs.declared.command.LineEnd.TheVariants as line_ends

-- what a command that is in some state does
pub record Ran (C : Type 0) : Type 0 where
  pub written : List ℕ
  pub status : Status
  pub left : C

-- how a run ends at the line of this number
abbrev pub status_at : ℕ → LineEnd → Status
status_at number line_ends.BadLine = statuses.BadInput number
status_at number line_ends.NoMemory = statuses.NoMemory

module _ {C : Type 0} where
  abbrev pub ended : List ℕ → Status → C → Ran C
  ended text status command = record { written = text; status = status; left = command }

  abbrev pub onto : List ℕ → Ran C → Ran C
  onto text ran = record { written = text ++ ran.written; status = ran.status; left = ran.left }

  -- an answer goes before what the command answers to the rest
  abbrev pub answered : ℕ → C → Result (List ℕ × C) LineEnd → (C → Ran C) → Ran C
  answered number command (Ok answer) rest = onto answer.0 (rest answer.1)
  answered number command (Err end) rest = ended [] (status_at number end) command

-- A command answers each line that isn't blank, and reports in the end.
module _ {C : Type 0} (answers : C → ℕ → List ℕ → Result (List ℕ × C) LineEnd) where
  -- a blank line is answered by nothing
  abbrev pub answer_to : C → ℕ → List ℕ → Result (List ℕ × C) LineEnd
  answer_to command number line = if is_blank line then Ok ([], command) else answers command number line

  -- The first lines, so many, are answered by that text, and the command then stands there, before the rest.
  abbrev pub Passes : ℕ → Reading → C → List ℕ → C → Reading → Type 0
  Passes zero reading command text next rest = (text ≡ []) × (next ≡ command) × (rest ≡ reading)
  Passes (suc count) reading command text next rest =
      (line : List ℕ) × (before : List ℕ) × (here : C) × (more : List ℕ)
      × Passes count reading command before here (Gives line rest)
      × (answer_to here (count + 1) line ≡ Ok (more, next)) × (text ≡ before ++ more)

module _ {C : Type 0} (answers : C → ℕ → List ℕ → Result (List ℕ × C) LineEnd) (report : C → List ℕ) where
  -- where so many lines were read before
  abbrev pub run_from : ℕ → Reading → C → Ran C
  run_from before (Ends AtEnd) command = ended (report command) statuses.Done command
  run_from before (Ends AtLongLine) command = ended [] (statuses.BadInput (before + 1)) command
  run_from before (Ends AtLimit) command = ended [] statuses.InputTooLong command
  run_from before (Gives line rest) command = answered (before + 1) command (answer_to answers command (before + 1) line) (run_from (before + 1) rest)

  -- of a source that tells its bytes
  abbrev pub runs : ℕ → Option Reading → C → Option (Ran C)
  runs before readings command = option_map (λ reading. run_from before reading command) readings

-- ---- what a run that may be cut short does of it
-- a fault, or out of memory
abbrev pub is_fault : Status → Bool
is_fault statuses.ReadFault = true
is_fault statuses.WriteFault = true
is_fault statuses.DiskFault = true
is_fault statuses.NoMemory = true
is_fault status = false

-- The status is the run's, and what was written too. After a fault and out of memory a part of it was written, from its front.
abbrev pub Follows : {C : Type 0} → Status → Ran C → Option (List ℕ) → Option (List ℕ) → Type 0
Follows status ran old new = MatchBool (is_fault status) (TookSome ran.written old new) ((status ≡ ran.status) × Took ran.written old new)

abbrev pub FollowsTold : {C : Type 0} → Status → Option (Ran C) → Option (List ℕ) → Option (List ℕ) → Type 0
FollowsTold status meant old new = IfSome meant (λ ran. Follows status ran old new)

-- ---- what a run leaves
module _ {C : Type 0} (report : C → List ℕ) where
  -- the report stands behind all lines
  abbrev pub report_at : Reading → C → List ℕ
  report_at (Ends AtEnd) command = report command
  report_at (Ends ending) command = []
  report_at (Gives line rest) command = []

module _ {C : Type 0} (answers : C → ℕ → List ℕ → Result (List ℕ × C) LineEnd) (report : C → List ℕ) (holds : C → Type 0) where
  -- A fault cut the run short: some lines from the front were answered, and what was written is a part of these answers, from
  -- its front, and of the report where these are all lines.
  pub record IsCut (reading : Reading) (command : C) (old new : Option (List ℕ)) : Type 0 where
    pub lines : ℕ
    pub text : List ℕ
    pub next : C
    pub rest : Reading
    pub passes : Passes answers lines reading command text next rest
    pub written : TookSome (text ++ report_at report rest next) old new
    pub left : holds next

  -- nothing is said after out of memory
  abbrev pub LeavesOf : Status → Reading → C → Option (List ℕ) → Option (List ℕ) → Type 0
  LeavesOf statuses.NoMemory reading command old new = Unit {0}
  LeavesOf statuses.ReadFault reading command old new = IsCut reading command old new
  LeavesOf statuses.WriteFault reading command old new = IsCut reading command old new
  LeavesOf statuses.DiskFault reading command old new = IsCut reading command old new
  LeavesOf status reading command old new = holds (run_from answers report 0 reading command).left

  -- of a source that tells its bytes
  abbrev pub Leaves : Status → Option Reading → C → Option (List ℕ) → Option (List ℕ) → Type 0
  Leaves status readings command old new = IfSome readings (λ reading. LeavesOf status reading command old new)

  -- both
  pub record HasRun (status : Status) (readings : Option Reading) (command : C) (old new : Option (List ℕ)) : Type 0 where
    pub follows : FollowsTold status (runs answers report 0 readings command) old new
    pub leaves : Leaves status readings command old new

-- ---- the parts of the loop
-- a line was answered
abbrev pub Answered : {C : Type 0} → Result (List ℕ × C) LineEnd → (C → Type 0) → Option (List ℕ) → Option (List ℕ) → Type 0
Answered {C} answer holds old new = (text : List ℕ) × (next : C) × (answer ≡ Ok (text, next)) × Took text old new × holds next

-- what an answer writes
abbrev pub text_of : {C : Type 0} → Result (List ℕ × C) LineEnd → List ℕ
text_of (Ok answer) = answer.0
text_of (Err end) = []

-- the run ends at the line of this number: it is none, its answer is written in part, or memory ran out
abbrev pub EndsAt : {C : Type 0} → Status → ℕ → C → Result (List ℕ × C) LineEnd → (C → Type 0) → Option (List ℕ) → Option (List ℕ) → Type 0
EndsAt (statuses.BadInput number) n command answer holds old new = (number ≡ n) × (answer ≡ Err line_ends.BadLine) × (new ≡ old) × holds command
EndsAt {C} statuses.WriteFault n command answer holds old new = (text : List ℕ) × (next : C) × (answer ≡ Ok (text, next)) × TookSome text old new × holds next
EndsAt statuses.NoMemory n command answer holds old new = TookSome (text_of answer) old new
EndsAt status n command answer holds old new = ⊥

-- the status of a run behind which the last flush was refused
abbrev pub flush_status : Status → SinkRefusal → Status
flush_status statuses.NoMemory refusal = statuses.NoMemory
flush_status status refusal = write_status refusal

-- a line that is read ends a run by its own fault, that of a write, or out of memory
abbrev pub IsLineStatus : Status → Type 0
IsLineStatus statuses.BadWords = ⊥
IsLineStatus (statuses.BadFile place) = ⊥
IsLineStatus statuses.ReadFault = ⊥
IsLineStatus statuses.DiskFault = ⊥
IsLineStatus status = Unit {0}

-- the same of a source that may not tell its bytes
abbrev pub Went : {C : Type 0} → (C → ℕ → List ℕ → Result (List ℕ × C) LineEnd) → ℕ → Option Reading → C → List ℕ → C → Option Reading → Type 0
Went answers count None command text next new = new ≡ None
Went answers count (Some reading) command text next new = (rest : Reading) × (new ≡ Some rest) × Passes answers count reading command text next rest

-- a report that is written ends a run well, by a fault of its write, or out of memory
abbrev pub IsReportStatus : Status → Type 0
IsReportStatus statuses.Done = Unit {0}
IsReportStatus statuses.WriteFault = Unit {0}
IsReportStatus statuses.NoMemory = Unit {0}
IsReportStatus status = ⊥

-- the ends of a run over lines
abbrev pub IsRunStatus : Status → Type 0
IsRunStatus statuses.BadWords = ⊥
IsRunStatus statuses.DiskFault = ⊥
IsRunStatus (statuses.BadFile place) = ⊥
IsRunStatus status = Unit {0}
