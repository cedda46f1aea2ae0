use Rattle.std.proofs.Common.{◌≡◌, ◌++◌, ◌∷◌, [], ◌∙◌, IfSome, ap, sym, subst}
use Rattle.sync_recip.specs.Stretches.{shown_by, Stands}
use Rattle.sync_recip.proofs.Shown.{stands_push, shown_push}
use Rattle.sync_recip.proofs.items.Items.push.Goals as goal

pub extend_last-requires : goal.extend_last-requires
extend_last-requires c =
    subst (λ l. IfSome c.self.inside.stretch (Stands l)) (sym c.as_slice.ensures.value)
    (stands_push c.self.inside.stretch c.self.inside.kept.items c.keep.new.list.items c.args.kept c.in-Ok.ensures.ok c.self.invariant)

pub returns-in-Ok-clause-ok : goal.returns-in-Ok-clause-ok
returns-in-Ok-clause-ok c =
    let us = c.self.inside.kept.items in
    let o = c.self.inside.stretch in
    let view : shown_by o us ≡ c.args.self.now = c.self.view_is in
    subst (λ l. shown_by c.extend_last.new.stretch l ≡ shown_by o l) c.as_slice.ensures.value c.extend_last.ensures.shown
    ∙ shown_push o us c.keep.new.list.items c.args.kept c.in-Ok.ensures.ok c.self.invariant
    ∙ ap (λ l. l ++ c.args.kept ∷ []) view
