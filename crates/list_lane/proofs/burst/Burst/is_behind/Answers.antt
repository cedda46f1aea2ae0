use Rattle.std.proofs.Common.{true, sym, subst, arith}
use Rattle.list_lane.specs.Bursts.{AllBehind, AllLater}
use Rattle.list_lane.specs.Ops.{lane_later as later}
use Rattle.list_lane.proofs.Bounded.{are_behind, are_led}
use Rattle.list_lane.proofs.burst.Burst.is_behind.Goals as goal

pub returns-then-place-low : goal.returns-then-place-low
returns-then-place-low c =
    let a = c.self.inside in
    let lt = c.if-place-low.true in
    λ h.
    subst (AllBehind (later c.args.lane_left) c.args.traveller) c.self.view_is
    (are_behind (later c.args.lane_left) a.slots.items a.bounds.low a.up a.down c.args.traveller c.self.invariant.bounded.low (omega (arith, lt)))

pub returns-then-place-low-2 : goal.returns-then-place-low-2
returns-then-place-low-2 c =
    let a = c.self.inside in
    let same = c.if-place-low-2.true in
    λ h.
    subst (AllBehind (later c.args.lane_left) c.args.traveller) c.self.view_is
    (are_led (later c.args.lane_left) a.slots.items a.bounds.low a.up a.down c.args.traveller c.self.invariant.bounded.low (omega (arith, same)) (c.leads.ensures.inserts h)
    (subst (AllLater true (later c.args.lane_left) c.args.traveller.stamp) (sym c.self.view_is) (c.leads.ensures.earlier h)))
