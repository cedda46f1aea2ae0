use Rattle.std.proofs.Common.{true, false}
use Rattle.sync_journal.proofs.journal.Journal.open.Goals as goal

pub returns-in-Ok-clause-any_moment : goal.returns-in-Ok-clause-any_moment
returns-in-Ok-clause-any_moment g c records b told all = c.open_records.ensures.any_moment false records b told all

pub returns-in-Ok-clause-noted_any_moment : goal.returns-in-Ok-clause-noted_any_moment
returns-in-Ok-clause-noted_any_moment g c pieces b told all = c.open_records.ensures.any_moment true pieces b told all

pub returns-in-Err-clause-any_moment_err : goal.returns-in-Err-clause-any_moment_err
returns-in-Err-clause-any_moment_err g c records b told all = c.open_records.ensures.any_moment false records b told all
