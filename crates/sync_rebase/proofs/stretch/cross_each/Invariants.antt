use Rattle.std.proofs.Common.{◌≡◌, drop}
use Rattle.sync_rebase.specs.Settling.{CanPass, passed, put_across}
use Rattle.sync_rebase.specs.Stretches.{from_place}
use Rattle.sync_rebase.proofs.stretch.cross_each.Given as goal

-- with those that are left it is what all give
abbrev pub invariant-loop-count : goal.invariant-loop-count
invariant-loop-count l = record {
  all : from_place l.place (passed l.across.own l.across.stamp l.count l.left) l.items.items ≡ put_across l.across l.fn.items.items;
  can : CanPass l.across.own l.across.stamp l.count l.left (drop l.place l.items.items);
}

abbrev pub decreases-loop-count : goal.decreases-loop-count
decreases-loop-count l = l.count
