use Rattle.std.proofs.Common.{◌≡◌, drop, length, map, reverse}
use Rattle.sync_rivals.specs.Lists.{Lists}
use Rattle.sync_recip.specs.Lists.{versions, kept_entry, lists_in}
use Rattle.sync_recip.specs.Carrying.{AllFit, crossed_entries}
use Rattle.sync_recip.specs.Stretches.{from_place}
use Rattle.sync_recip.proofs.carried.put_crossed.Given as goal

-- what is left to put gives what all gives
abbrev pub invariant-loop-one : goal.invariant-loop-one
invariant-loop-one l = record {
  versions : versions l.items ≡ versions l.fn.items;
  entries : from_place l.first (crossed_entries (reverse l.rest.items)) (map kept_entry l.items) ≡ from_place l.first (crossed_entries l.fn.crossed.items) (map kept_entry l.fn.items);
  fits : AllFit (reverse l.rest.items) (drop l.first (map kept_entry l.items));
  listed : Lists l.rivals (lists_in (map kept_entry l.items));
}

abbrev pub decreases-loop-one : goal.decreases-loop-one
decreases-loop-one l = length l.rest.items
