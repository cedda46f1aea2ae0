use Rattle.std.proofs.Common.{◌≡◌, ◌+◌, ◌-◌, length}
use Rattle.sync_recip.specs.Stretches.{laid, Stands}
use Rattle.sync_recip.proofs.stretch.stretch_from.Given as goal

abbrev pub invariant-loop : goal.invariant-loop
invariant-loop l = record {
  shown : laid l.stretch.start l.stretch.lane l.kept ≡ l.kept;
  stands : Stands l.kept l.stretch;
}

abbrev pub decreases-loop : goal.decreases-loop
decreases-loop l = length l.kept - (l.stretch.start + length l.stretch.lane.slots)
