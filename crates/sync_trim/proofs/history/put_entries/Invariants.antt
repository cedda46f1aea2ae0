use Rattle.std.proofs.Common.{◌≡◌, ◌++◌, ◌-◌, map, drop}
use Rattle.sync_model.specs.Trimmed.{entry_records}
use Rattle.sync_exchange.specs.Profile.{the_profile}
use Rattle.sync_exchange.specs.Seen.{server_seen}
use Rattle.server_memory.specs.Kept.{parts}
use Rattle.sync_server.specs.Serving.{kept_of}
use Rattle.sync_trim.proofs.history.put_entries.Given as goal

-- the entries so far, and those that are left
abbrev pub invariant-loop-version : goal.invariant-loop-version
invariant-loop-version g l = let kept = parts (kept_of l.server) in map server_seen l.records.items ++ entry_records the_profile (drop (l.version - kept.floor) kept.entries) (drop (l.version - kept.floor) kept.bases) ≡ map server_seen l.fn.records.items ++ entry_records the_profile (drop (l.floor - kept.floor) kept.entries) (drop (l.floor - kept.floor) kept.bases)
