use Rattle.std.proofs.Common.{◌≡◌, ◌-◌, ◌≤◌, length}
use Rattle.sync_rebase.proofs.Walk.{Walked}
use Rattle.sync_rebase.proofs.carry.walk.Given as goal

abbrev pub invariant-loop-from : goal.invariant-loop-from
invariant-loop-from l = record {
  walked : Walked l.index l.rivals l.codes l.own l.fn.items l.fn.entry l.from l.crossed.items l.changes;
  within : l.from ≤ length l.fn.items;
  same : l.items ≡ l.fn.items;
}

abbrev pub decreases-loop-from : goal.decreases-loop-from
decreases-loop-from l = length l.fn.items - l.from
