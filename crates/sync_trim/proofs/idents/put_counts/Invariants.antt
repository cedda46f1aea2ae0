use Rattle.std.proofs.Common.{◌≡◌, ◌++◌, ◌+◌, map, drop}
use Rattle.sync_model.specs.Trimmed.{count_records}
use Rattle.sync_exchange.specs.Profile.{the_profile}
use Rattle.sync_exchange.specs.Seen.{server_seen}
use Rattle.server_memory.specs.Kept.{parts}
use Rattle.sync_server.specs.Serving.{kept_of}
use Rattle.sync_trim.proofs.idents.put_counts.Given as goal

-- the numbers so far, and those that are left
abbrev pub invariant-loop-place : goal.invariant-loop-place
invariant-loop-place g l = let kept = parts (kept_of l.server) in map server_seen l.records.items ++ count_records the_profile (l.place + 1) (drop l.place kept.idents) ≡ map server_seen l.fn.records.items ++ count_records the_profile 1 kept.idents
