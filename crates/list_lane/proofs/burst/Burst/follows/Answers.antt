use Rattle.std.proofs.Common.{false, sym, ◌∙◌, subst}
use Rattle.std.proofs.lemmas.Bool.{not-true}
use Rattle.list_lane.specs.Bursts.{AllLater}
use Rattle.list_lane.specs.Ops.{lane_later as later}
use Rattle.list_lane.proofs.Bounded.{all_earlier}
use Rattle.list_lane.proofs.burst.Burst.follows.Goals as goal

pub returns-in-Inserts : goal.returns-in-Inserts
returns-in-Inserts c =
    let a = c.self.inside in
    λ h e.
    subst (AllLater false (later c.args.lane_left) c.args.traveller.stamp) c.self.view_is
    (all_earlier c.args.lane_left a.up a.down c.args.traveller.stamp a.slots.items a.bounds.latest c.self.invariant.bounded.latest (sym c.is_later_in.ensures ∙ not-true _ h))
