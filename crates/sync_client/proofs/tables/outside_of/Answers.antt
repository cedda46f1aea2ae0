use Rattle.std.proofs.Common.{◌∙◌, sym}
use Rattle.sync_client.proofs.Needs.{left_at}
use Rattle.sync_client.proofs.Outside.{all_at_first, all_next, outside_here, place_here}
use Rattle.sync_client.proofs.tables.outside_of.Goals as goal

pub loop-instr-init : goal.loop-instr-init
loop-instr-init c = all_at_first c.args.tables.now c.args.instrs.now

pub returns-then-not-admits-clause-some : goal.returns-then-not-admits-clause-some
returns-then-not-admits-clause-some c = outside_here c.args.tables.now c.args.instrs.now c.loop-instr.place c.loop-instr.instr-index c.instr-item.result c.loop-instr.invariant (left_at c.args.instrs.now c.loop-instr.instr-index c.instr-item.result c.loop-instr-test.true c.instr-item.is) (sym c.admits.ensures ∙ c.if-not-admits.true)

pub returns-then-not-admits-clause-place : goal.returns-then-not-admits-clause-place
returns-then-not-admits-clause-place c = place_here c.args.tables.now c.args.instrs.now c.loop-instr.place c.loop-instr.instr-index c.instr-item.result c.loop-instr.invariant (left_at c.args.instrs.now c.loop-instr.instr-index c.instr-item.result c.loop-instr-test.true c.instr-item.is) (sym c.admits.ensures ∙ c.if-not-admits.true)

pub loop-instr-preserved : goal.loop-instr-preserved
loop-instr-preserved c = all_next c.args.tables.now c.args.instrs.now c.loop-instr.place c.loop-instr.instr-index c.instr-item.result c.loop-instr.invariant (left_at c.args.instrs.now c.loop-instr.instr-index c.instr-item.result c.loop-instr-test.true c.instr-item.is) (sym c.admits.ensures ∙ c.if-not-admits.false)
