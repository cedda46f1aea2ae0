use Rattle.std.proofs.Common.{◌≡◌, ◌++◌, map, drop}
use Rattle.sync_model.specs.Servers as model
use Rattle.sync_exchange.specs.Seen.{server_seen}
use Rattle.server_memory.specs.Kept.{parts}
use Rattle.sync_server.specs.Serving.{kept_of}
use Rattle.sync_trim.proofs.idents.put_retired.Given as goal

-- the retired idents so far, and those that are left
abbrev pub invariant-loop-place : goal.invariant-loop-place
invariant-loop-place g l = let kept = parts (kept_of l.server) in map server_seen l.records.items ++ map (λ q. model.Retired q.0 q.1) (drop l.place kept.retired) ≡ map server_seen l.fn.records.items ++ map (λ q. model.Retired q.0 q.1) kept.retired
