use Rattle.std.proofs.Common.{arith, length-drop, rules}
use Rattle.std.proofs.lemmas.List.{take_rest}
use Rattle.sync_io.proofs.Inputs.{took_part, took_on}
use Rattle.sync_io.proofs.writing.write_all.Goals as goal

pub loop-done-preserved : goal.loop-done-preserved
loop-done-preserved g c = let took = rw take_rest at c.in_ok-done.ensures.bytes in record {
  within = omega (arith, c.in_ok-done.ensures.count, length-drop c.loop-done.done c.args.bytes.now);
  written = took_part c.args.bytes.now c.loop-done.done c.in_ok-done.field-0 _ _ _ c.loop-done.invariant.written took;
  grows = omega arith;
}

pub returns-in_err-done-clause-err : goal.returns-in_err-done-clause-err
returns-in_err-done-clause-err g c =
    let took = rw take_rest at c.in_err-done.ensures.err in
    let all = took_on c.args.bytes.now c.loop-done.done (g.K.Sink.taken c.args.sink.now) _ (g.K.Sink.taken c.write.new.self) c.loop-done.invariant.written took in search (rules, all)
