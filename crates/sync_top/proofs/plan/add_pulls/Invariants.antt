use Rattle.std.proofs.Common.{◌≡◌, ◌++◌, drop, map}
use Rattle.gen_law.specs.declared.plan.Move.TheVariants as moves
use Rattle.sync_top.proofs.plan.add_pulls.Given as goal

abbrev pub invariant-loop-client : goal.invariant-loop-client
invariant-loop-client l = l.plan.items ++ map moves.Pull (drop l.client-index l.clients) ≡ l.initial.plan.items ++ map moves.Pull l.clients
