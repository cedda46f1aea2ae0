use Rattle.std.proofs.Common.{◌≡◌, length}
use Rattle.sync_rebase.specs.Stretches.{laid, Stands}
use Rattle.sync_rebase.proofs.stretch.write_all.Given as goal

abbrev pub invariant-loop-alloc : goal.invariant-loop-alloc
invariant-loop-alloc l = record {
  shown : laid l.rest.start l.rest.lane l.items.items ≡ laid l.fn.stretch.start l.fn.stretch.lane l.fn.items.items;
  stands : Stands l.items.items l.rest;
}

abbrev pub decreases-loop-alloc : goal.decreases-loop-alloc
decreases-loop-alloc l = length l.rest.lane.slots
