-- How each command may end.
use Rattle.sync_io.specs.declared.status.Status.{Status}
use Rattle.sync_top.specs.declared.job.Job.{Job}
use Rattle.sync_top.specs.declared.job.Job.TheVariants as jobs
use Rattle.sync_node.specs.FileCommands.{IsFileStatus}
use Rattle.sync_top.specs.Runs.{IsReportStatus, IsRunStatus}

-- a generated exchange ends as the write of its summary does
abbrev pub IsJobStatus : Job → Status → Type 0
IsJobStatus jobs.Replay status = IsRunStatus status
IsJobStatus (jobs.Generate seed count) status = IsReportStatus status
IsJobStatus (jobs.File command) status = IsFileStatus command status
