use Rattle.std.proofs.Common.{◌≡◌, map, take}
use Rattle.sync_recip.specs.Lists.{entry_of}
use Rattle.sync_model.specs.Parts.{with_versions}
use Rattle.server_memory.proofs.extending.with_versions.Given as goal

abbrev pub invariant-loop-place : goal.invariant-loop-place
invariant-loop-place l = l.made ≡ with_versions l.first (map entry_of (take l.place l.entries))
