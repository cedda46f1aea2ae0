use Rattle.std.proofs.Common.{true, false, subst}
use Rattle.std.proofs.lemmas.Bool.{false≢true}
use Rattle.list_lane.specs.Bursts.{AllPast}
use Rattle.list_lane.specs.Ops.{lane_later as later}
use Rattle.list_lane.proofs.Bounded.{lifted_past, are_before}
use Rattle.list_lane.proofs.burst.Burst.is_before.Goals as goal

pub returns-then-is_from : goal.returns-then-is_from
returns-then-is_from c =
    let a = c.self.inside in
    λ h.
    are_before (later c.args.lane_left) false c.args.self.now c.args.traveller
    (subst (AllPast false c.args.traveller.place) c.self.view_is (lifted_past false a.slots.items a.bounds.low a.up a.down c.args.traveller.place a.bounds.past c.self.invariant.bounded.low c.self.invariant.front c.self.invariant.bounded.past (c.is_from.ensures c.if-is_from.true)))
    (λ e. absurd (false≢true e))

pub returns-then-is_from-2 : goal.returns-then-is_from-2
returns-then-is_from-2 c =
    let a = c.self.inside in
    λ h.
    are_before (later c.args.lane_left) true c.args.self.now c.args.traveller
    (subst (AllPast true c.args.traveller.place) c.self.view_is (lifted_past true a.slots.items a.bounds.low a.up a.down c.args.traveller.place a.bounds.edge c.self.invariant.bounded.low c.self.invariant.front c.self.invariant.bounded.edge (c.is_from-2.ensures c.if-is_from-2.true)))
    (λ _ d. c.follows.ensures h d)
