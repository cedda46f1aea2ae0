use Rattle.std.proofs.Common.{arith, ℕ, ◌+◌, ◌-◌, ◌^◌, min, drop, ap, ◌∙◌}
use Rattle.sync_journal.proofs.Gates.{gate_end, gate_first, gate_here, gate_next, left_at, none_left}
use Rattle.sync_journal.proofs.layout.gate_of.Goals as goal

pub loop-index-init : goal.loop-index-init
loop-index-init c = gate_first c.args.records.now c.args.number

pub returns-then-index-number : goal.returns-then-index-number
returns-then-index-number c = gate_here c.args.records.now c.args.number c.loop-index.place c.loop-index.index (drop c.loop-index.index c.args.records.now) c.loop-index.invariant c.if-index-number.true

pub loop-index-preserved : goal.loop-index-preserved
loop-index-preserved c =
    gate_next c.args.records.now c.args.number c.loop-index.place c.loop-index.index (drop c.loop-index.index c.args.records.now) (drop (c.loop-index.index + 1) c.args.records.now) c.at.result.now c.saturating_add-place.result c.loop-index.invariant
    (left_at c.args.records.now c.loop-index.index c.at.result.now (omega (arith, c.loop-index-test.true, c.len-index-end.ensures)) c.at.ensures) c.if-index-number.false
    c.saturating_add-place.ensures

pub returns : goal.returns
returns c = gate_end c.args.records.now c.args.number c.loop-index.place c.loop-index.index (drop c.loop-index.index c.args.records.now) c.loop-index.invariant (none_left c.args.records.now c.loop-index.index (omega (arith, c.loop-index-test.false, c.len-index-end.ensures)))
