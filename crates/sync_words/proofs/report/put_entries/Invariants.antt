use Rattle.std.proofs.Common.{◌≡◌, ◌≤◌, ◌-◌, ◌++◌, drop}
use Rattle.server_memory.specs.Kept.{parts}
use Rattle.sync_server.specs.Serving.{kept_of}
use Rattle.sync_words.specs.Reports.{entries_text}
use Rattle.sync_words.proofs.report.put_entries.Given as goal

-- what was put, and what the rest gives, is what all gives
abbrev pub invariant-loop-version : goal.invariant-loop-version
invariant-loop-version g l =
    ((parts (kept_of l.server)).floor ≤ l.version)
    × (l.out.items ++ entries_text l.version (drop (l.version - (parts (kept_of l.server)).floor) (parts (kept_of l.server)).entries) ≡ l.initial.out.items ++ entries_text (parts (kept_of l.server)).floor (parts (kept_of l.server)).entries)
