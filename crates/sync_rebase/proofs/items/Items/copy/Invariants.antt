use Rattle.std.proofs.Common.{◌≡◌, take}
use Rattle.sync_rebase.proofs.items.Items.copy.Given as goal

abbrev pub invariant-loop-place : goal.invariant-loop-place
invariant-loop-place l = l.items.items ≡ take l.place l.self
