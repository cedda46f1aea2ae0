use Rattle.server_memory.specs.Kept.{parts}
use Rattle.sync_server.specs.Serving.{kept_of}
use Rattle.std.proofs.Common.{drop}
use Rattle.sync_trim.proofs.Floors.{Lowered}
use Rattle.sync_trim.proofs.floor.next_floor.Given as goal

-- the idents so far are looked at
abbrev pub invariant-loop-place : goal.invariant-loop-place
invariant-loop-place g l = let kept = parts (kept_of l.server) in Lowered kept.floor kept.len l.next (drop l.place kept.idents) kept.idents
