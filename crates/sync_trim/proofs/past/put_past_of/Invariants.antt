use Rattle.std.proofs.Common.{◌≡◌, ◌≤◌, ◌++◌, ℕ, map, drop}
use Rattle.sync_exchange.specs.Seen.{server_seen}
use Rattle.server_memory.specs.Kept.{parts}
use Rattle.sync_server.specs.Serving.{kept_of}
use Rattle.sync_trim.proofs.Crossed.{crossed_left}
use Rattle.sync_trim.proofs.past.put_past_of.Given as goal

-- the pairs so far, and those that are left
abbrev pub invariant-loop-place : goal.invariant-loop-place
invariant-loop-place g l =
    let kept = parts (kept_of l.server) in
    (floor : ℕ) → kept.floor ≤ floor → floor ≤ l.from → map server_seen l.records.items ++ crossed_left l.ident kept.floor floor l.from kept.entries (drop l.place l.list) ≡ map server_seen l.fn.records.items ++ crossed_left l.ident kept.floor floor l.from kept.entries l.list
