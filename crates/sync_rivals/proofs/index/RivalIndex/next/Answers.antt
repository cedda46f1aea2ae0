use Rattle.sync_rivals.proofs.Passing.{nothing_passes}
use Rattle.sync_rivals.proofs.index.RivalIndex.next.Goals as goal

pub returns-then-none_left-clause-pass : goal.returns-then-none_left-clause-pass
returns-then-none_left-clause-pass c = λ instrs lists serves none h. nothing_passes c.args.from c.args.end lists instrs (none c.if-none_left.true)

pub returns-clause-pass : goal.returns-clause-pass
returns-clause-pass c = λ instrs lists serves none h. c.ask-place.ensures.pass instrs lists serves h
