use Rattle.std.proofs.Common.{◌≡◌, ◌≤◌, ◌-◌, length}
use Rattle.sync_recip.proofs.Walk.{WalkedTo}
use Rattle.sync_recip.proofs.carry.carry_over.Given as goal

abbrev pub invariant-entries : goal.invariant-entries
invariant-entries l = record {
  walked : WalkedTo l.index l.rivals l.codes l.own l.fn.items l.first l.fn.changes l.from l.crossed.items l.left;
  after : l.first ≤ l.from;
  within : l.from ≤ length l.fn.items;
  same : l.items ≡ l.fn.items;
}

abbrev pub decreases-entries : goal.decreases-entries
decreases-entries l = length l.fn.items - l.from
