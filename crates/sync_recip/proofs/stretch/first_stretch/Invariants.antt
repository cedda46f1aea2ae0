use Rattle.std.proofs.Common.{◌-◌, length}
use Rattle.sync_recip.proofs.stretch.first_stretch.Given as goal

abbrev pub decreases-loop-start : goal.decreases-loop-start
decreases-loop-start l = length l.kept - l.start
