use Rattle.std.proofs.Common.{◌<◌, length, sym, subst, arith}
use Rattle.sync_rivals.specs.Lists.{Lists}
use Rattle.sync_rebase.specs.Settling.{currents}
use Rattle.sync_rebase.proofs.Indexed.{tail_lists}
use Rattle.sync_rebase.proofs.list.PendingList.drop_head.Goals as goal

pub invariant_of-self : goal.invariant_of-self
invariant_of-self c =
    let us = c.self.inside.items in
    let some : 0 < length us = omega (arith, c.len.ensures, c.if-len-eq0.false) in
    subst (λ ws. Lists c.drop_first.new.self (currents ws)) (sym c.drop_first-2.ensures) (tail_lists c.self.inside.index c.drop_first.new.self us some c.drop_first.ensures.kept c.self.invariant)
