use Rattle.std.proofs.Common.{◌≡◌, drop}
use Rattle.sync_model.specs.Servers.{heir_of}
use Rattle.server_memory.proofs.uuids.heir_in.Given as goal

abbrev pub invariant-loop-place : goal.invariant-loop-place
invariant-loop-place l = heir_of l.ident l.retired ≡ heir_of l.ident (drop l.place l.retired)
