use Rattle.std.proofs.Common.{◌≡◌, ◌+◌, ◌-◌, length}
use Rattle.sync_rebase.specs.Stretches.{laid, Stands}
use Rattle.sync_rebase.proofs.stretch.stretch_from.Given as goal

abbrev pub invariant-loop : goal.invariant-loop
invariant-loop l = record {
  shown : laid l.stretch.start l.stretch.lane l.items.items ≡ l.items.items;
  stands : Stands l.items.items l.stretch;
}

abbrev pub decreases-loop : goal.decreases-loop
decreases-loop l = length l.items.items - (l.stretch.start + length l.stretch.lane.slots)
