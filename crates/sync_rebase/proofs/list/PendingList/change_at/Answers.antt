use Rattle.std.proofs.Common.{sym, subst}
use Rattle.sync_rivals.specs.Lists.{Lists, StaysAt, put_list}
use Rattle.sync_rebase.specs.declared.carried.Became.TheVariants.{Changed}
use Rattle.sync_rebase.specs.Settling.{FitsAt, currents}
use Rattle.sync_rebase.proofs.Places.{element, fits_within, fits_stays, lists_became}
use Rattle.sync_rebase.proofs.list.PendingList.change_at.Goals as goal

pub listed-before-requires : goal.listed-before-requires
listed-before-requires c = fits_within c.self.inside.items c.args.place (Changed c.args.current) (subst (FitsAt c.args.place (Changed c.args.current)) (sym c.self.view_is) c.requires)

pub invariant_of-self : goal.invariant_of-self
invariant_of-self c =
    let us = c.self.inside.items in
    let place = c.args.place in
    let b = Changed c.args.current in
    let fits = subst (FitsAt place b) (sym c.self.view_is) c.requires in
    let there = fits_within us place b fits in
    let u = element us place there in
    let stays = fits_stays us place b u.0 fits u.1 in
    let listed = c.change.ensures.kept (currents us) c.self.invariant (subst (λ l. StaysAt place l (currents us)) (sym c.instrs.ensures.listed) stays) in
    subst (λ ws. Lists c.change.new.self (currents ws)) (sym c.put.ensures) (subst (Lists c.change.new.self) (sym (lists_became us place b u.0 there u.1)) (subst (λ l. Lists c.change.new.self (put_list place l (currents us))) c.instrs.ensures.listed listed))
