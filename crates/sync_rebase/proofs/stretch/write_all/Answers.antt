use Rattle.std.proofs.Common.{◌≡◌, ◌∙◌, length, sym, arith}
use Rattle.sync_rebase.proofs.Laid.{laid_none}
use Rattle.sync_rebase.proofs.stretch.write_all.Goals as goal

pub returns : goal.returns
returns c =
    let none : length c.loop-alloc.rest.lane.slots ≡ 0 = omega (arith, c.len.ensures, c.loop-alloc-test.false) in
    sym (laid_none c.loop-alloc.rest.start c.loop-alloc.rest.lane c.loop-alloc.items.items none) ∙ c.loop-alloc.invariant.shown
