use Rattle.std.proofs.Common.{◌≡◌, ◌∙◌, IfSome, subst}
use Rattle.sync_recip.specs.Stretches.{shown_by, Stands}
use Rattle.sync_recip.proofs.items.Items.join.Goals as goal

pub invariant_of-self : goal.invariant_of-self
invariant_of-self c = subst (λ l. IfSome c.first_stretch.result (Stands l)) c.as_slice.ensures.value c.first_stretch.ensures.stands

pub returns : goal.returns
returns c =
    subst (λ l. shown_by c.first_stretch.result l ≡ l) c.as_slice.ensures.value c.first_stretch.ensures.shown
    ∙ c.write_whole.ensures.shown ∙ c.self.view_is
