use Rattle.std.proofs.Common.{List, ℕ, arith}
use Rattle.sync_codec.specs.Decoding.{string_in}
use Rattle.sync_codec.proofs.Loops.{goes_on, ends, is_done}
use Rattle.sync_codec.proofs.strings.take_strings.Goals as goal

pub returns-in-Err : goal.returns-in-Err
returns-in-Err c = ends (λ (s : List (List ℕ) × List ℕ). string_in s.0 s.1) c.in-Err.refusal c.args.count c.loop.counter (c.loop.known, c.loop.rest.now) _ c.loop-test.true c.in-Err.ensures.taken c.loop.invariant.0

pub loop-preserved : goal.loop-preserved
loop-preserved c = (goes_on (λ (s : List (List ℕ) × List ℕ). string_in s.0 s.1) c.args.count c.loop.counter (c.loop.known, c.loop.rest.now) (c.take_string.new.known, c.in-Ok.behind.now) _ c.loop-test.true c.in-Ok.ensures.taken c.loop.invariant.0, omega (arith, c.in-Ok.ensures.one_more))

pub returns : goal.returns
returns c = is_done (λ (s : List (List ℕ) × List ℕ). string_in s.0 s.1) c.args.count c.loop.counter (c.loop.known, c.loop.rest.now) _ c.loop-test.false c.loop.invariant.0
