use Rattle.std.proofs.Common.{◌≡◌, ◌++◌, suc, map, drop}
use Rattle.sync_recip.specs.Lists.{entry_of}
use Rattle.sync_model.specs.Fronts.{with_pairs}
use Rattle.server_memory.specs.Crossing.{passed_seen}
use Rattle.server_memory.proofs.passed.with_pairs.Given as goal

abbrev pub invariant-loop-place : goal.invariant-loop-place
invariant-loop-place l = l.made.items ++ with_pairs (suc l.place) l.floor (map entry_of l.entries) (map passed_seen l.passed) (drop l.place l.idents) ≡ with_pairs 1 l.floor (map entry_of l.entries) (map passed_seen l.passed) l.idents
