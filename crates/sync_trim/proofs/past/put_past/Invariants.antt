use Rattle.std.proofs.Common.{◌≡◌, ◌++◌, ◌+◌, ◌-◌, map, drop}
use Rattle.sync_model.specs.Trimmed.{crossed_records}
use Rattle.sync_exchange.specs.Profile.{the_profile}
use Rattle.sync_exchange.specs.Seen.{server_seen}
use Rattle.server_memory.specs.Kept.{parts}
use Rattle.sync_server.specs.Serving.{kept_of}
use Rattle.sync_trim.proofs.past.put_past.Given as goal

-- the idents so far, and those that are left
abbrev pub invariant-loop-place : goal.invariant-loop-place
invariant-loop-place g l = let kept = parts (kept_of l.server) in map server_seen l.records.items ++ crossed_records the_profile (l.place + 1) l.floor (drop (l.floor - kept.floor) kept.entries) (drop l.place kept.idents) ≡ map server_seen l.fn.records.items ++ crossed_records the_profile 1 l.floor (drop (l.floor - kept.floor) kept.entries) kept.idents
