use Rattle.std.proofs.Common.{◌≡◌, ◌∙◌, length, sym, arith}
use Rattle.sync_recip.proofs.Laid.{laid_none}
use Rattle.sync_recip.proofs.stretch.write_all.Goals as goal

pub returns : goal.returns
returns c =
    let none : length c.loop-kept.rest.lane.slots ≡ 0 = omega (arith, c.len.ensures, c.loop-kept-test.false) in
    sym (laid_none c.loop-kept.rest.start c.loop-kept.rest.lane c.loop-kept.kept.items none) ∙ c.loop-kept.invariant.shown
