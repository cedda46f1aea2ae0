use Rattle.std.proofs.Common.{◌≡◌, ◌++◌}
use Rattle.gen_law.specs.Plans.{rounds}
use Rattle.sync_top.proofs.plan.add_rounds.Given as goal

abbrev pub invariant-loop-before : goal.invariant-loop-before
invariant-loop-before l = l.plan.items ≡ l.initial.plan.items ++ rounds l._before
