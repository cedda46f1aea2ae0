use Rattle.sync_base.specs.Lemmas.Whole.{instrs_two_sided}
use Rattle.sync_base.proofs.laws.both_orders_agree.Goals as goal

pub returns : goal.returns
returns c = instrs_two_sided
