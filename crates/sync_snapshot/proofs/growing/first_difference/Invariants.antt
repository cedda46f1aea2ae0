use Rattle.std.proofs.Common.{◌≡◌}
use Rattle.sync_snapshot.proofs.Applied.{differs_from}
use Rattle.sync_snapshot.proofs.growing.first_difference.Given as goal

-- the first difference of all is that of the rest
abbrev pub invariant-loop-place : goal.invariant-loop-place
invariant-loop-place l = differs_from 0 l.parts l.built ≡ differs_from l.place l.parts l.built
