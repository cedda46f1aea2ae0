use Rattle.std.proofs.Common.{◌≡◌, length}
use Rattle.sync_recip.specs.Stretches.{laid, shown_by, Stands}
use Rattle.sync_recip.proofs.stretch.write_before.Given as goal

abbrev pub invariant-loop-rest : goal.invariant-loop-rest
invariant-loop-rest l = record {
  shown : laid l.rest.start l.rest.lane l.kept.items ≡ shown_by l.fn.stretch l.fn.kept.items;
  stands : Stands l.kept.items l.rest;
}

abbrev pub decreases-loop-rest : goal.decreases-loop-rest
decreases-loop-rest l = length l.rest.lane.slots
