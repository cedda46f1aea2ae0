use Rattle.std.proofs.Common.{◌≡◌, ◌++◌, map, drop}
use Rattle.sync_model.specs.Fronts.{with_counts}
use Rattle.server_memory.specs.Fronting.{counted_seen, uuids_of}
use Rattle.server_memory.proofs.counting.with_counts.Given as goal

abbrev pub invariant-loop-place : goal.invariant-loop-place
invariant-loop-place l = l.made.items ++ with_counts l.retired (uuids_of (drop l.place l.idents)) (map counted_seen (drop l.place l.counts)) ≡ with_counts l.retired (uuids_of l.idents) (map counted_seen l.counts)
