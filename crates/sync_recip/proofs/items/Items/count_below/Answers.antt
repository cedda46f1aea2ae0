use Rattle.std.proofs.Common.{◌<◌, ◌≤◌, ◌∙◌, All, drop, take, length, sym, ap, subst, arith}
use Rattle.sync_recip.specs.Lists.{versions, IsRising}
use Rattle.sync_recip.proofs.Shown.{length_shown, versions_shown, taken_shown, dropped_shown}
use Rattle.sync_recip.proofs.items.Items.count_below.Goals as goal

pub count_below-requires : goal.count_below-requires
count_below-requires c =
    let us = c.self.inside.kept.items in
    subst IsRising (ap versions (sym c.self.view_is) ∙ versions_shown c.self.inside.stretch us ∙ ap versions (sym c.as_slice.ensures.value)) c.requires

pub returns-clause-bound : goal.returns-clause-bound
returns-clause-bound c =
    let us = c.self.inside.kept.items in
    let same = ap length c.as_slice.ensures.value in
    let long = length_shown c.self.inside.stretch us in
    let view = ap length c.self.view_is in
    let bound = c.count_below.ensures.bound in
    omega (arith, bound, same, long, view)

pub returns-clause-below : goal.returns-clause-below
returns-clause-below c =
    let us = c.self.inside.kept.items in
    let n = c.count_below.result in
    subst (λ l. All (λ k. k.version < c.args.base) (take n l)) c.self.view_is
    (taken_shown (λ v. v < c.args.base) n c.self.inside.stretch us (subst (λ l. All (λ k. k.version < c.args.base) (take n l)) c.as_slice.ensures.value c.count_below.ensures.below))

pub returns-clause-above : goal.returns-clause-above
returns-clause-above c =
    let us = c.self.inside.kept.items in
    let n = c.count_below.result in
    subst (λ l. All (λ k. c.args.base ≤ k.version) (drop n l)) c.self.view_is
    (dropped_shown (λ v. c.args.base ≤ v) n c.self.inside.stretch us (subst (λ l. All (λ k. c.args.base ≤ k.version) (drop n l)) c.as_slice.ensures.value c.count_below.ensures.above))
