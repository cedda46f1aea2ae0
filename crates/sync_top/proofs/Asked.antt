-- The job that the words ask for is the one that is run.
use Rattle.std.proofs.Common.{◌≡◌, ◌≤◌, ◌↔◌, ℕ, List, Option, None, Some, refl, sym, subst, ◌∙◌}
use Rattle.sync_io.specs.declared.status.Status.{Status}
use Rattle.sync_io.specs.declared.status.Status.TheVariants as statuses
use Rattle.sync_top.specs.declared.job.Job.{Job}
use Rattle.sync_top.specs.declared.job.Job.TheVariants as jobs
use Rattle.sync_node.specs.declared.files.FileCommand.{FileCommand}
use Rattle.sync_node.specs.declared.files.FileCommand.TheVariants as commands
use Rattle.sync_node.specs.FileCommands.{IsFileCommand}
use Rattle.sync_top.specs.Jobs.{AsksFor, most_turns}
use Rattle.sync_top.specs.Statuses.{IsJobStatus}
use Rattle.sync_node.specs.FileCommands.{IsFileStatus}
use Rattle.sync_top.specs.Playing.{Writes}
use Rattle.sync_node.specs.Texts.{IsDoneOrNoMemory}
use Rattle.sync_top.specs.Runs.{IsReportStatus, IsRunStatus}

module _ (o : Option Job) (words : List (List ℕ)) (exact : (job : Job) → (o ≡ Some job) ↔ AsksFor job words) where
  pub asked_is : (job wanted : Job) → o ≡ Some job → AsksFor wanted words → job ≡ wanted
  asked_is job wanted is asks = let e = sym is ∙ (exact wanted).1 asks in cc

  pub none_asked : (wanted : Job) → o ≡ None → AsksFor wanted words → ⊥
  none_asked wanted is asks = let e = sym is ∙ (exact wanted).1 asks in cc

  pub is_asked : (job : Job) → o ≡ Some job → AsksFor job words
  is_asked job is = (exact job).0 is

  -- the number of a command over a file is one that it takes
  pub has_number : (job : Job) → o ≡ Some job → (command : FileCommand) → job ≡ jobs.File command → IsFileCommand command
  has_number job is command same = (subst (λ j. AsksFor j words) same (is_asked job is)).4

  -- a generated exchange has few turns
  pub few_turns : (job : Job) → o ≡ Some job → (seed count : ℕ) → job ≡ jobs.Generate seed count → count ≤ most_turns
  few_turns job is seed count same = (subst (λ j. AsksFor j words) same (is_asked job is)).2

no_file_bad_words : (command : FileCommand) → IsFileStatus command statuses.BadWords → ⊥
no_file_bad_words commands.Edit is = is
no_file_bad_words commands.Send is = is
no_file_bad_words commands.Ask is = is
no_file_bad_words commands.Take is = is
no_file_bad_words commands.Serve is = is
no_file_bad_words commands.Show is = is
no_file_bad_words (commands.Retire ident) is = is
no_file_bad_words (commands.Rescue after) is = is
no_file_bad_words commands.Recover is = is
no_file_bad_words commands.Trim is = is
no_file_bad_words commands.Shrink is = is
no_file_bad_words (commands.Start id) is = is

no_bad_words : (job : Job) → IsJobStatus job statuses.BadWords → ⊥
no_bad_words jobs.Replay is = is
no_bad_words (jobs.Generate seed count) is = is
no_bad_words (jobs.File command) is = no_file_bad_words command is

-- a job never ends with BadWords
pub not_bad_words : (job : Job) (status : Status) → IsJobStatus job status → status ≡ statuses.BadWords → ⊥
not_bad_words job status is same = no_bad_words job (subst (IsJobStatus job) same is)

-- a text that is written ends as a report does
pub writes_only : (text : List ℕ) (status : Status) (old new : Option (List ℕ)) → Writes text status old new → IsReportStatus status
writes_only text statuses.Done old new writes = tt
writes_only text statuses.WriteFault old new writes = tt
writes_only text statuses.NoMemory old new writes = tt
writes_only text statuses.BadWords old new writes = writes
writes_only text (statuses.BadInput place) old new writes = writes
writes_only text statuses.ReadFault old new writes = writes
writes_only text statuses.DiskFault old new writes = writes
writes_only text (statuses.BadFile place) old new writes = writes
writes_only text statuses.InputTooLong old new writes = writes

pub report_done : (status : Status) → IsReportStatus status → (status ≡ statuses.WriteFault → ⊥) → IsDoneOrNoMemory status
report_done statuses.Done only write = tt
report_done statuses.NoMemory only write = tt
report_done statuses.WriteFault only write = write refl
report_done statuses.BadWords only write = absurd only
report_done (statuses.BadInput place) only write = absurd only
report_done statuses.ReadFault only write = absurd only
report_done statuses.DiskFault only write = absurd only
report_done (statuses.BadFile place) only write = absurd only
report_done statuses.InputTooLong only write = absurd only

-- a replay, and a text that is written, have no bad file
pub replay_no_bad : (status : Status) (place : ℕ) → IsRunStatus status → status ≡ statuses.BadFile place → ⊥
replay_no_bad status place only is = subst IsRunStatus is only

pub written_no_bad : (text : List ℕ) (status : Status) (place : ℕ) (old new : Option (List ℕ)) → Writes text status old new → status ≡ statuses.BadFile place → ⊥
written_no_bad text status place old new writes is = subst IsReportStatus is (writes_only text status old new writes)
