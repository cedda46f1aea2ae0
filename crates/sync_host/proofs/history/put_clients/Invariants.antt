use Rattle.std.proofs.Common.{◌≡◌, ◌++◌, drop}
use Rattle.std.specs.List.{flat_map}
use Rattle.server_memory.specs.Kept.{parts}
use Rattle.sync_server.specs.Serving.{kept_of}
use Rattle.sync_host.specs.Histories.{client_told}
use Rattle.sync_host.proofs.history.put_clients.Given as goal

-- the clients so far, and those that are left
abbrev pub invariant-loop-place : goal.invariant-loop-place
invariant-loop-place g l = let kept = parts (kept_of l.server) in l.out.items ++ flat_map client_told (drop l.place kept.idents) ≡ l.fn.out.items ++ flat_map client_told kept.idents
