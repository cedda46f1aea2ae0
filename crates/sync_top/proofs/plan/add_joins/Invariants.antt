use Rattle.std.proofs.Common.{◌≡◌, ◌++◌, drop, map}
use Rattle.gen_law.specs.declared.plan.Move.TheVariants as moves
use Rattle.sync_top.proofs.plan.add_joins.Given as goal

abbrev pub invariant-loop-client : goal.invariant-loop-client
invariant-loop-client l = l.plan.items ++ map moves.Join (drop l.client-index l.clients) ≡ l.initial.plan.items ++ map moves.Join l.clients
