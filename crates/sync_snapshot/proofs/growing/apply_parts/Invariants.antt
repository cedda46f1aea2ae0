use Rattle.std.proofs.Common.{◌≡◌}
use Rattle.sync_base.specs.States.{no_state}
use Rattle.sync_snapshot.proofs.Applied.{run_from}
use Rattle.sync_snapshot.proofs.growing.apply_parts.Given as goal

-- what all parts lead to is what the rest leads to from here
abbrev pub invariant-loop-place : goal.invariant-loop-place
invariant-loop-place l = run_from 0 l.parts no_state ≡ run_from l.place l.parts l.objects
