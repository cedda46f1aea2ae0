use Rattle.std.proofs.Common.{◌≡◌, suc, ◌-◌, ◌∷◌, sym, subst, add-one, arith}
use Rattle.sync_rivals.specs.Lists.{AreListed, Lists}
use Rattle.sync_rivals.proofs.Listed.{below_all}
use Rattle.sync_rivals.proofs.index.RivalIndex.drop_first.Goals as goal

pub returns-clause-kept : goal.returns-clause-kept
returns-clause-kept c = λ l lists h.
    let first = c.self.inside.first in
    let rest = c.self.inside.listed - 1 in
    let one : c.self.inside.listed ≡ suc rest = omega (arith, c.if-self-eq0.false) in
    let all = subst (λ k. AreListed c.self.inside.listing first k (l ∷ lists)) one (subst (λ x. Lists x (l ∷ lists)) (sym c.self.view_is) h) in
    subst (λ n. AreListed c.unlist.new.self n rest lists) (sym (add-one first)) (below_all c.self.inside.listing c.unlist.new.self first (suc first) rest lists (omega arith) c.unlist.ensures.others all.1)
