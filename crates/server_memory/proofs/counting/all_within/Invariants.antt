use Rattle.std.proofs.Common.{◌≡◌, map, drop}
use Rattle.sync_model.specs.Fronts.{all_within}
use Rattle.server_memory.specs.Fronting.{counted_seen}
use Rattle.server_memory.proofs.counting.all_within.Given as goal

abbrev pub invariant-loop-place : goal.invariant-loop-place
invariant-loop-place l = all_within l.len (map counted_seen l.counts) ≡ all_within l.len (map counted_seen (drop l.place l.counts))
