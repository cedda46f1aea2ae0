use Rattle.std.proofs.Common.{refl}
use Rattle.sync_cli.proofs.running.run_command.Goals as goal

pub returns-then-writes-clause-unknown : goal.returns-then-writes-clause-unknown
returns-then-writes-clause-unknown g c = λ none. absurd (none c.in-Some-File-len2-up.field-0-1 ((c.in-Some-File-len2-up.ensures c.in-Some-File-len2-up.field-0-1).0 refl))

pub returns-else-is_short-clause-unknown : goal.returns-else-is_short-clause-unknown
returns-else-is_short-clause-unknown g c = λ none. absurd (none c.in-Some-File-len2-up.field-0-1 ((c.in-Some-File-len2-up.ensures c.in-Some-File-len2-up.field-0-1).0 refl))
