use Rattle.std.proofs.Common.{◌≡◌, map, take}
use Rattle.sync_exchange.specs.Seen.{read_server}
use Rattle.server_memory.specs.Fronting.{AreSpelled, seen}
use Rattle.server_memory.proofs.kinds.records_in.Given as goal

abbrev pub invariant-loop-place : goal.invariant-loop-place
invariant-loop-place l = record {
  read : seen l.found.items ≡ map read_server (take l.place l.files);
  spelled : AreSpelled (seen l.found.items) (take l.place l.files);
}
