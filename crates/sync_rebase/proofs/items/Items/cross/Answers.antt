use Rattle.std.proofs.Common.{◌∙◌, IfSome, refl, sym, ap, subst}
use Rattle.std.specs.Prelude.{Option}
use Rattle.sync_rebase.specs.Acrossing.{op_across}
use Rattle.sync_rebase.specs.Settling.{put_across}
use Rattle.sync_rebase.specs.Stretches.{shown_by, Stands}
use Rattle.sync_rebase.specs.declared.stretch.Stretch.{Stretch}
use Rattle.sync_rebase.proofs.Crossings.{cross_shown, stands_crossed}
use Rattle.sync_rebase.proofs.items.Items.cross.Goals as goal

pub invariant_of-self : goal.invariant_of-self
invariant_of-self c =
    let us = c.self.inside.items.items in
    let crossed = c.if-cross_at_once.ensures.crossed refl in
    let st : Stands us crossed.stretch = subst (λ (x : Option Stretch). IfSome x (Stands us)) crossed.was c.self.invariant in
    subst (λ (x : Option Stretch). IfSome x (Stands us)) (sym crossed.is) (stands_crossed us crossed.stretch (op_across c.args.across) st)

pub returns-then-cross_at_once : goal.returns-then-cross_at_once
returns-then-cross_at_once c =
    let us = c.self.inside.items.items in
    let crossed = c.if-cross_at_once.ensures.crossed refl in
    let st : Stands us crossed.stretch = subst (λ (x : Option Stretch). IfSome x (Stands us)) crossed.was c.self.invariant in
    ap (λ (x : Option Stretch). shown_by x us) crossed.is
    ∙ cross_shown us crossed.stretch c.args.across st crossed.takes crossed.chains crossed.within
    ∙ ap (put_across c.args.across) (ap (λ (x : Option Stretch). shown_by x us) (sym crossed.was) ∙ c.self.view_is)
