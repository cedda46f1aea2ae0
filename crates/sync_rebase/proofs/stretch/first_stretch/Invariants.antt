use Rattle.std.proofs.Common.{◌-◌, length}
use Rattle.sync_rebase.proofs.stretch.first_stretch.Given as goal

abbrev pub decreases-loop-start : goal.decreases-loop-start
decreases-loop-start l = length l.items.items - l.start
