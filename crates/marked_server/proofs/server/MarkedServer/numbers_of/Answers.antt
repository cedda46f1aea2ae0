use Rattle.std.proofs.Common.{◌∙◌, ap, arith}
use Rattle.marked_server.specs.Marked.{marks_of}
use Rattle.marked_server.proofs.Numbering.{told_next}
use Rattle.marked_server.proofs.server.MarkedServer.numbers_of.Goals as goal

pub loop-life-preserved : goal.loop-life-preserved
loop-life-preserved g c = record {
  so_far = told_next (marks_of c.args.self.now).reached c.args.lives.now c.loop-life.life-index c.life-item.result c.loop-life.numbers.items c.push.new.self.items c.of.result c.loop-life-test.true c.life-item.is (c.of.ensures ∙ ap (λ f. f c.life-item.result) c.reached.ensures) c.in-Ok.ensures.items ∙ c.loop-life.invariant.so_far;
  count = grind (arith, c.in-Ok.ensures.len, c.loop-life.invariant.count);
}
