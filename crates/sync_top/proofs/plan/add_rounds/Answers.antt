use Rattle.std.proofs.Common.{add-one, arith, rules}
use Rattle.std.proofs.lemmas.Grind.{common_steps}
use Rattle.gen_law.specs.Plans.{rounds}
use Rattle.sync_top.proofs.plan.add_rounds.Goals as goal

pub loop-before-init : goal.loop-before-init
unfolding rounds
loop-before-init c = search rules

pub loop-before-preserved : goal.loop-before-preserved
unfolding rounds
loop-before-preserved c = rw add-one (grind (arith, common_steps))

pub returns : goal.returns
returns c = search rules
