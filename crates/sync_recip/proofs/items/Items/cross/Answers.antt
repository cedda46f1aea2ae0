use Rattle.std.proofs.Common.{◌∙◌, Option, IfSome, map, refl, sym, ap, subst}
use Rattle.sync_recip.specs.Acrossing.{op_across, put_across}
use Rattle.sync_recip.specs.Lists.{kept_entry, versions}
use Rattle.sync_recip.specs.Stretches.{shown_by, Stands}
use Rattle.sync_recip.specs.declared.stretch.Stretch.{Stretch}
use Rattle.sync_recip.proofs.Crossings.{cross_shown, stands_crossed, versions_laid}
use Rattle.sync_recip.proofs.items.Items.cross.Goals as goal

pub invariant_of-self : goal.invariant_of-self
invariant_of-self c =
    let us = c.self.inside.kept.items in
    let crossed = c.if-cross_at_once.ensures.crossed refl in
    let st : Stands us crossed.stretch = subst (λ (x : Option Stretch). IfSome x (Stands us)) crossed.was c.self.invariant in
    subst (λ (x : Option Stretch). IfSome x (Stands us)) (sym crossed.is) (stands_crossed us crossed.stretch (op_across c.args.across) st)

pub returns-then-cross_at_once-clause-versions : goal.returns-then-cross_at_once-clause-versions
returns-then-cross_at_once-clause-versions c =
    let us = c.self.inside.kept.items in
    let crossed = c.if-cross_at_once.ensures.crossed refl in
    ap (λ (x : Option Stretch). versions (shown_by x us)) crossed.is
    ∙ versions_laid crossed.stretch.start _ us ∙ sym (versions_laid crossed.stretch.start crossed.stretch.lane us)
    ∙ ap (λ (x : Option Stretch). versions (shown_by x us)) (sym crossed.was) ∙ ap versions c.self.view_is

pub returns-then-cross_at_once-clause-entries : goal.returns-then-cross_at_once-clause-entries
returns-then-cross_at_once-clause-entries c =
    let us = c.self.inside.kept.items in
    let crossed = c.if-cross_at_once.ensures.crossed refl in
    let st : Stands us crossed.stretch = subst (λ (x : Option Stretch). IfSome x (Stands us)) crossed.was c.self.invariant in
    ap (λ (x : Option Stretch). map kept_entry (shown_by x us)) crossed.is
    ∙ cross_shown us crossed.stretch c.args.across st crossed.takes crossed.chains crossed.within
    ∙ ap (λ l. put_across c.args.across (map kept_entry l)) (ap (λ (x : Option Stretch). shown_by x us) (sym crossed.was) ∙ c.self.view_is)
