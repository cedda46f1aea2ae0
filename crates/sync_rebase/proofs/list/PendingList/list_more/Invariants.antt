use Rattle.std.proofs.Common.{◌≡◌}
use Rattle.sync_rivals.specs.Lists.{Lists}
use Rattle.sync_rebase.specs.Settling.{currents}
use Rattle.sync_rebase.proofs.list.PendingList.list_more.Given as goal

abbrev pub invariant-loop : goal.invariant-loop
invariant-loop l = record {
  same : l.self-inside.items ≡ l.fn.self;
  listed : Lists l.self-inside.index (currents l.self-inside.items);
}
