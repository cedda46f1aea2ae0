use Rattle.std.proofs.Common.{List, arith}
use Rattle.sync_data.specs.declared.instr.Instr.{Instr}
use Rattle.sync_codec.specs.Reading.{Reading}
use Rattle.sync_codec.specs.Decoding.{next_at}
use Rattle.sync_codec.proofs.Loops.{goes_on, ends, is_done}
use Rattle.sync_codec.proofs.decoding.take_instrs.Goals as goal

pub returns-in-Err-clause-taken : goal.returns-in-Err-clause-taken
returns-in-Err-clause-taken c = ends (λ (s : List Instr × Reading). next_at s.0 s.1) c.in-Err.refusal c.args.count c.loop.counter (c.loop.instrs.items, c.loop.reader) _ c.loop-test.true c.in-Err.ensures.taken c.loop.invariant.0

pub loop-preserved : goal.loop-preserved
loop-preserved c = (goes_on (λ (s : List Instr × Reading). next_at s.0 s.1) c.args.count c.loop.counter (c.loop.instrs.items, c.loop.reader) (c.take_instr.new.done.items, c.take_instr.new.reader) _ c.loop-test.true c.in-Ok.ensures.taken c.loop.invariant.0, c.in-Ok.ensures.payload.0, c.in-Ok.ensures.payload.1, omega (arith, c.in-Ok.ensures.one_more))

pub returns-clause-taken : goal.returns-clause-taken
returns-clause-taken c = is_done (λ (s : List Instr × Reading). next_at s.0 s.1) c.args.count c.loop.counter (c.loop.instrs.items, c.loop.reader) _ c.loop-test.false c.loop.invariant.0
