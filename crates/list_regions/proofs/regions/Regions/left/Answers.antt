use Rattle.std.proofs.Common.{sym, subst}
use Rattle.std.specs.Prelude.{IfSome}
use Rattle.list_places.specs.Places.{Within}
use Rattle.list_lane.specs.Lanes.{LaneOf, lane_after, length_at_end, IsLeftOf}
use Rattle.list_lane.specs.Ops.{lane_later}
use Rattle.list_lane.specs.Laws.{CrossesLeft, CrossesRight}
use Rattle.list_lane.proofs.Rooms.{is_left, on_left, on_right}
use Rattle.list_regions.specs.contracts.regions.Regions.{the_view}
use Rattle.list_regions.proofs.Keeping.{all}
use Rattle.list_regions.proofs.regions.Regions.left.Goals as goal

pub returns-clause-is_left : goal.returns-clause-is_left
returns-clause-is_left c =
    let a = c.self.inside in
    let b = c.args.traveller in
    let l = lane_later c.args.lane_left in
    let ss = all a.popped a.count a.items in
    let within = subst (λ (v : LaneOf). Within b.does b.place v.first) (sym c.self.view_is) c.requires.within in
    let left = c.left_of.ensures a.popped ss c.self.invariant.whole in
    subst (λ (v : LaneOf). IfSome c.left_of.result (IsLeftOf b (length_at_end v.first v.slots))) c.self.view_is
    (subst (λ r. IfSome r (IsLeftOf b (length_at_end a.first ss))) left (is_left l a.first a.last a.count ss b c.self.invariant.lane within))

pub returns-clause-on_left : goal.returns-clause-on_left
returns-clause-on_left c =
    let a = c.self.inside in
    let b = c.args.traveller in
    let l = lane_later c.args.lane_left in
    let ss = all a.popped a.count a.items in
    let within = subst (λ (v : LaneOf). Within b.does b.place v.first) (sym c.self.view_is) c.requires.within in
    let left = c.left_of.ensures a.popped ss c.self.invariant.whole in
    λ h.
    subst (λ (v : LaneOf). CrossesLeft v b c.left_of.result (lane_after l v b)) c.self.view_is
    (subst (λ r. CrossesLeft (the_view a) b r (lane_after l (the_view a) b)) left (on_left c.args.lane_left a.first a.last a.count ss b c.self.invariant.lane within h))

pub returns-clause-on_right : goal.returns-clause-on_right
returns-clause-on_right c =
    let a = c.self.inside in
    let b = c.args.traveller in
    let l = lane_later c.args.lane_left in
    let ss = all a.popped a.count a.items in
    let within = subst (λ (v : LaneOf). Within b.does b.place v.first) (sym c.self.view_is) c.requires.within in
    let left = c.left_of.ensures a.popped ss c.self.invariant.whole in
    λ h.
    subst (λ (v : LaneOf). CrossesRight v b c.left_of.result (lane_after l v b)) c.self.view_is
    (subst (λ r. CrossesRight (the_view a) b r (lane_after l (the_view a) b)) left (on_right c.args.lane_left a.first a.last a.count ss b c.self.invariant.lane within h))
