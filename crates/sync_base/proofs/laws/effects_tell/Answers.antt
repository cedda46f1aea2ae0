use Rattle.sync_base.specs.Lemmas.Whole.{instr-effect, effect-instr}
use Rattle.sync_base.proofs.laws.effects_tell.Goals as goal

pub returns : goal.returns
returns c = record { there = instr-effect; back = effect-instr }
