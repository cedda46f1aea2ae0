use Rattle.std.proofs.Common.{◌≡◌, ◌++◌, drop}
use Rattle.gen_law.specs.Plans.{round}
use Rattle.sync_top.proofs.plan.add_round.Given as goal

abbrev pub invariant-loop-each : goal.invariant-loop-each
invariant-loop-each l = l.plan.items ++ round (drop l.each-index l.clients) ≡ l.initial.plan.items ++ round l.clients
