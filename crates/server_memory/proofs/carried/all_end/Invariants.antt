use Rattle.std.proofs.Common.{◌≡◌, suc, map, drop}
use Rattle.sync_recip.specs.Lists.{entry_of}
use Rattle.sync_model.specs.Fronts.{all_end}
use Rattle.server_memory.proofs.carried.all_end.Given as goal

abbrev pub invariant-loop-place : goal.invariant-loop-place
invariant-loop-place l = all_end 1 (map entry_of l.entries) l.idents ≡ all_end (suc l.place) (map entry_of l.entries) (drop l.place l.idents)
