use Rattle.std.proofs.Common.{sym, ap, ◌∙◌}
use Rattle.list_lane.specs.Bursts.{pushed_all}
use Rattle.list_lane.proofs.Bounded.{lift_insertion, lift_erasure, pushed_same}
use Rattle.list_lane.proofs.burst.Burst.shift.Goals as goal

pub returns-in-Inserts-clause-pushed : goal.returns-in-Inserts-clause-pushed
returns-in-Inserts-clause-pushed c =
    let a = c.self.inside in
    λ h.
    lift_insertion a.slots.items a.bounds.low a.up a.down c.self.invariant.bounded.low c.self.invariant.front
    ∙ (λ i. pushed_all (sym c.in-Inserts.is i) (c.self.view_is i))

pub returns-in-Erases-clause-pushed : goal.returns-in-Erases-clause-pushed
returns-in-Erases-clause-pushed c =
    let a = c.self.inside in
    λ h. lift_erasure a.slots.items a.up a.down ∙ (λ i. pushed_all (sym c.in-Erases.is i) (c.self.view_is i))

pub returns-in-Updates-clause-pushed : goal.returns-in-Updates-clause-pushed
returns-in-Updates-clause-pushed c = λ h. sym (pushed_same c.args.self.now) ∙ ap (λ d. pushed_all d c.args.self.now) (sym c.in-Updates.is)
