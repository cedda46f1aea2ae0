use Rattle.std.proofs.Common.{◌≡◌, drop, map}
use Rattle.sync_recip.specs.Acrossing.{put_across}
use Rattle.sync_recip.specs.Lists.{kept_entry, versions}
use Rattle.sync_recip.specs.Passing.{CanPass, passed}
use Rattle.sync_recip.specs.Stretches.{from_place}
use Rattle.sync_recip.proofs.stretch.cross_each.Given as goal

-- with those that are left it is what all give
abbrev pub invariant-loop-count : goal.invariant-loop-count
invariant-loop-count l = record {
  versions : versions l.kept.items ≡ versions l.fn.kept.items;
  all : from_place l.place (passed l.across.stamp l.count l.left) (map kept_entry l.kept.items) ≡ put_across l.across (map kept_entry l.fn.kept.items);
  can : CanPass l.across.stamp l.count l.left (drop l.place (map kept_entry l.kept.items));
}

abbrev pub decreases-loop-count : goal.decreases-loop-count
decreases-loop-count l = l.count
