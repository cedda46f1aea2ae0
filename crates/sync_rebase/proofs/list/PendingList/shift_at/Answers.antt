use Rattle.std.proofs.Common.{sym, subst}
use Rattle.sync_rivals.specs.Lists.{Lists}
use Rattle.sync_rivals.proofs.Listed.{put_same_listed}
use Rattle.sync_rebase.specs.declared.carried.Became.TheVariants.{Moved}
use Rattle.sync_rebase.specs.Settling.{FitsAt, left_of, currents}
use Rattle.sync_rebase.proofs.Places.{element, fits_within, fits_stays, lists_became}
use Rattle.sync_rebase.proofs.list.PendingList.shift_at.Goals as goal

pub invariant_of-self : goal.invariant_of-self
invariant_of-self c =
    let us = c.self.inside.items in
    let x = c.self.inside.index in
    let place = c.args.place in
    let b = Moved c.args.action in
    let fits = subst (FitsAt place b) (sym c.self.view_is) c.requires in
    let there = fits_within us place b fits in
    let u = element us place there in
    let listed = put_same_listed x.marks x.first x.listed (currents us) place (left_of b u.0.current) (fits_stays us place b u.0 fits u.1) c.self.invariant in
    subst (λ ws. Lists x (currents ws)) (sym c.put.ensures) (subst (Lists x) (sym (lists_became us place b u.0 there u.1)) listed)
