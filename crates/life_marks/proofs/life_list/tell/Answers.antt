use Rattle.std.proofs.Common.{◌-◌, ◌++◌, take, drop, refl, ◌∙◌}
use Rattle.life_bytes.specs.Runs.{lives_of}
use Rattle.life_marks.proofs.Telling.{tells_on, part_is}
use Rattle.life_marks.proofs.life_list.tell.Goals as goal

pub loop-run-preserved : goal.loop-run-preserved
loop-run-preserved c = record {
  so_far = tells_on c.loop-run.told c.push.new.self (c.args.told.now ++ take c.args.count (drop c.args.from (lives_of c.args.runs.now))) c.args.runs.now c.loop-run.run-index c.run-item.result c.loop-run.skipped c.loop-run.left c.told_of-here.result c.saturating_sub-skipped.result (c.loop-run.left - c.told_of-here.result)
      c.loop-run-test.true c.run-item.is c.told_of-here.ensures c.saturating_sub-skipped.ensures refl c.in-Ok.ensures.ok c.loop-run.invariant.so_far;
}

pub returns-in-Err-clause-full : goal.returns-in-Err-clause-full
returns-in-Err-clause-full c = λ e are.
    c.push.ensures.full (c.in-Err.is ∙ e) (part_is c.loop-run.told (c.args.told.now ++ take c.args.count (drop c.args.from (lives_of c.args.runs.now))) c.args.runs.now c.loop-run.run-index c.run-item.result c.loop-run.skipped c.loop-run.left c.told_of-here.result c.loop-run-test.true c.run-item.is c.told_of-here.ensures c.loop-run.invariant.so_far are)
