use Rattle.std.proofs.Common.{true, sym, ◌∙◌, subst}
use Rattle.list_lane.specs.Bursts.{AllLater}
use Rattle.list_lane.specs.Ops.{lane_later as later}
use Rattle.list_lane.proofs.Bounded.{all_later}
use Rattle.list_lane.proofs.burst.Burst.leads.Goals as goal

pub returns-in-Inserts-clause-earlier : goal.returns-in-Inserts-clause-earlier
returns-in-Inserts-clause-earlier c =
    let a = c.self.inside in
    λ h.
    subst (AllLater true (later c.args.lane_left) c.args.traveller.stamp) c.self.view_is
    (all_later c.args.lane_left a.up a.down c.args.traveller.stamp a.slots.items a.bounds.earliest c.self.invariant.bounded.earliest (sym c.is_later_in.ensures ∙ h))
