use Rattle.std.proofs.Common.{◌≡◌, length}
use Rattle.sync_recip.specs.Stretches.{laid, Stands}
use Rattle.sync_recip.proofs.stretch.write_all.Given as goal

abbrev pub invariant-loop-kept : goal.invariant-loop-kept
invariant-loop-kept l = record {
  shown : laid l.rest.start l.rest.lane l.kept.items ≡ laid l.fn.stretch.start l.fn.stretch.lane l.fn.kept.items;
  stands : Stands l.kept.items l.rest;
}

abbrev pub decreases-loop-kept : goal.decreases-loop-kept
decreases-loop-kept l = length l.rest.lane.slots
