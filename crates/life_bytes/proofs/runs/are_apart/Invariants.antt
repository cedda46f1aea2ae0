use Rattle.std.proofs.Common.{◌≡◌, None, drop}
use Rattle.life_bytes.specs.Runs.{are_apart}
use Rattle.life_bytes.proofs.runs.are_apart.Given as goal

-- what is left decides
abbrev pub invariant-loop-run : goal.invariant-loop-run
invariant-loop-run l = record { so_far : are_apart l.before (drop l.run-index l.runs) ≡ are_apart None l.runs }
