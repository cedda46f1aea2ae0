use Rattle.std.proofs.Common.{◌+◌, drop, refl, sym, subst, arith}
use Rattle.sync_journal.proofs.Gates.{left_at, none_left}
use Rattle.sync_client.proofs.Runs.{RunSoFar, found_bad, found_other, found_part, run_bad, run_end, run_first, run_next, run_other}
use Rattle.sync_client.proofs.beginning.run_from.Goals as goal

pub loop-index-init : goal.loop-index-init
loop-index-init c = subst (λ is. RunSoFar c.args.second (drop c.args.place c.args.records.now) (drop c.args.place c.args.records.now) is c.args.place c.args.place) (sym c.new-run.ensures.items) (run_first c.args.second (drop c.args.place c.args.records.now) c.args.place)

pub loop-index-preserved : goal.loop-index-preserved
loop-index-preserved c =
    run_next c.args.second (drop c.args.place c.args.records.now) (drop c.loop-index.index c.args.records.now) (drop (c.loop-index.index + 1) c.args.records.now) c.loop-index.run.items c.push.new.self.items c.args.place c.loop-index.index c.at.result.now c.in-Ok-Part.changes c.loop-index.invariant
    (left_at c.args.records.now c.loop-index.index c.at.result.now (omega (arith, c.loop-index-test.true, c.len-index-end.ensures)) c.at.ensures)
    (found_part c.args.second c.at.result.now c.at.result.now c.part_of.result c.in-Ok-Part.field-0 c.in-Ok-Part.changes refl c.in-Ok-Part.is c.in-Ok-Part.field-0-is c.part_of.ensures)
    c.in-Ok.ensures.items

pub returns-in-Ok-BadPart-clause-run : goal.returns-in-Ok-BadPart-clause-run
returns-in-Ok-BadPart-clause-run c =
    run_bad c.args.second (drop c.args.place c.args.records.now) (drop c.loop-index.index c.args.records.now) (drop (c.loop-index.index + 1) c.args.records.now) c.loop-index.run.items c.args.place c.loop-index.index c.at.result.now c.loop-index.invariant
    (left_at c.args.records.now c.loop-index.index c.at.result.now (omega (arith, c.loop-index-test.true, c.len-index-end.ensures)) c.at.ensures)
    (found_bad c.args.second c.at.result.now c.at.result.now c.part_of.result c.in-Ok-BadPart.field-0 refl c.in-Ok-BadPart.is c.in-Ok-BadPart.field-0-is c.part_of.ensures)

pub returns-in-Ok-Other-clause-run : goal.returns-in-Ok-Other-clause-run
returns-in-Ok-Other-clause-run c =
    run_other c.args.records.now c.args.second (drop c.args.place c.args.records.now) (drop (c.loop-index.index + 1) c.args.records.now) c.loop-index.run.items c.args.place c.loop-index.index c.at.result.now c.loop-index.invariant
    (left_at c.args.records.now c.loop-index.index c.at.result.now (omega (arith, c.loop-index-test.true, c.len-index-end.ensures)) c.at.ensures)
    (found_other c.args.second c.at.result.now c.at.result.now c.part_of.result c.in-Ok-Other.field-0 refl c.in-Ok-Other.is c.in-Ok-Other.field-0-is c.part_of.ensures)

pub returns-clause-run : goal.returns-clause-run
returns-clause-run c = run_end c.args.records.now c.args.second (drop c.args.place c.args.records.now) c.loop-index.run.items c.args.place c.loop-index.index c.loop-index.invariant (none_left c.args.records.now c.loop-index.index (omega (arith, c.loop-index-test.false, c.len-index-end.ensures)))
