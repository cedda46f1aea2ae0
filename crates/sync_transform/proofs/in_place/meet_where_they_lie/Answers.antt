use Rattle.std.proofs.Common.{refl, sym, ◌∙◌}
use Rattle.sync_law.specs.Instrs.{meet}
use Rattle.sync_transform.proofs.Anywhere.{stay_met}
use Rattle.sync_transform.proofs.in_place.meet_where_they_lie.Goals as goal

pub returns-clause-both : goal.returns-clause-both
returns-clause-both c = λ both.
    let left = c.if-add_to_update.ensures.left refl ∙ c.if-shift_both.ensures.left refl in
    let right = c.if-add_to_update.ensures.right refl ∙ c.if-shift_both.ensures.right refl in
    (λ i. meet (sym left i) (sym right i) c.args.left_later) ∙ stay_met c.add_to_update.new.left c.add_to_update.new.right c.args.left_later (c.both_stay.ensures both)
