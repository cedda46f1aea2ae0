use Rattle.std.proofs.Common.{◌≡◌, [], drop}
use Rattle.sync_reset.specs.Saved.{outcome}
use Rattle.sync_reset.proofs.saving.try_all.Given as goal

-- what all gives, where the rest is left
abbrev pub invariant-loop-place : goal.invariant-loop-place
invariant-loop-place l = outcome l.trial.part l.trial.kept.items l.trial.dropped.items l.place (drop l.place l.instrs) ≡ outcome l.fn.part [] [] 0 l.instrs
