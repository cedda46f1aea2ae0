use Rattle.std.proofs.Common.{sym, subst}
use Rattle.std.specs.Prelude.{IfSome}
use Rattle.list_places.specs.Places.{Within}
use Rattle.list_lane.specs.Lanes.{LaneOf, lane_after, length_at_end, IsLeftOf}
use Rattle.list_lane.specs.Ops.{lane_later}
use Rattle.list_lane.specs.Laws.{CrossesLeft, CrossesRight}
use Rattle.list_lane.specs.Flat.{joined}
use Rattle.list_lane.specs.contracts.lane.Lane.{the_view}
use Rattle.list_lane.proofs.Rooms.{placed_of, is_left, on_left, on_right}
use Rattle.list_lane.proofs.lane.Lane.left.Goals as goal

pub left_over-requires-clause-placed : goal.left_over-requires-clause-placed
left_over-requires-clause-placed c = placed_of (joined c.self.inside.bursts.items) c.self.inside.first c.self.invariant.chains c.self.invariant.room

pub returns-clause-is_left : goal.returns-clause-is_left
returns-clause-is_left c =
    let a = c.self.inside in
    let b = c.args.traveller in
    let within = subst (λ (v : LaneOf). Within b.does b.place v.first) (sym c.self.view_is) c.requires.within in
    subst (λ (v : LaneOf). IfSome c.left_over.result (IsLeftOf b (length_at_end v.first v.slots))) c.self.view_is
    (subst (λ r. IfSome r (IsLeftOf b (length_at_end a.first (joined a.bursts.items)))) (sym c.left_over.ensures) (is_left (lane_later c.args.lane_left) a.first a.last a.count (joined a.bursts.items) b c.self.invariant within))

pub returns-clause-on_left : goal.returns-clause-on_left
returns-clause-on_left c =
    let a = c.self.inside in
    let b = c.args.traveller in
    let within = subst (λ (v : LaneOf). Within b.does b.place v.first) (sym c.self.view_is) c.requires.within in
    λ h.
    subst (λ (v : LaneOf). CrossesLeft v b c.left_over.result (lane_after (lane_later c.args.lane_left) v b)) c.self.view_is
    (subst (λ r. CrossesLeft (the_view a) b r (lane_after (lane_later c.args.lane_left) (the_view a) b)) (sym c.left_over.ensures) (on_left c.args.lane_left a.first a.last a.count (joined a.bursts.items) b c.self.invariant within h))

pub returns-clause-on_right : goal.returns-clause-on_right
returns-clause-on_right c =
    let a = c.self.inside in
    let b = c.args.traveller in
    let within = subst (λ (v : LaneOf). Within b.does b.place v.first) (sym c.self.view_is) c.requires.within in
    λ h.
    subst (λ (v : LaneOf). CrossesRight v b c.left_over.result (lane_after (lane_later c.args.lane_left) v b)) c.self.view_is
    (subst (λ r. CrossesRight (the_view a) b r (lane_after (lane_later c.args.lane_left) (the_view a) b)) (sym c.left_over.ensures) (on_right c.args.lane_left a.first a.last a.count (joined a.bursts.items) b c.self.invariant within h))
