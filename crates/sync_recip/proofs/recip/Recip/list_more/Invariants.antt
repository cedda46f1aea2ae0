use Rattle.std.proofs.Common.{◌≡◌, map}
use Rattle.sync_rivals.specs.Lists.{Lists}
use Rattle.sync_recip.specs.Lists.{kept_entry, lists_in, pair_of, versions, IsRising}
use Rattle.sync_recip.proofs.recip.Recip.list_more.Given as goal

abbrev pub invariant-loop : goal.invariant-loop
invariant-loop l = record {
  same : map pair_of l.self-inside.items ≡ l.fn.self;
  rising : IsRising (versions l.self-inside.items);
  listed : Lists l.self-inside.rivals (lists_in (map kept_entry l.self-inside.items));
}
