use Rattle.std.proofs.Common.{◌≡◌, ◌<◌, ◌+◌, Some, length, sym, ap, ◌∙◌, subst, arith}
use Rattle.std.specs.Prelude.{IfSome}
use Rattle.sync_base.specs.Rules.{top}
use Rattle.list_places.specs.Places.{Within, longer}
use Rattle.list_lane.specs.Lanes.{LaneOf, crossed, lane_after, length_at_end, IsLeftOf, length_after as after}
use Rattle.list_lane.specs.Ops.{lane_later}
use Rattle.list_lane.specs.Laws.{CrossesLeft, CrossesRight}
use Rattle.list_lane.specs.Flat.{joined, IsLane}
use Rattle.list_lane.specs.contracts.lane.Lane.{the_view}
use Rattle.list_lane.proofs.Rooms.{placed_of, last_below, crossed_lane, is_left, on_left, on_right}
use Rattle.list_lane.proofs.lane.Lane.cross.Goals as goal

pub cross_bursts-left-requires-clause-placed : goal.cross_bursts-left-requires-clause-placed
cross_bursts-left-requires-clause-placed c = placed_of (joined c.self.inside.bursts.items) c.self.inside.first c.self.invariant.chains c.self.invariant.room

pub length_behind-self-inside-requires : goal.length_behind-self-inside-requires
length_behind-self-inside-requires c =
    let b = last_below (joined c.self.inside.bursts.items) c.self.inside.first in
    let e = c.self.invariant.last_is in
    let r = c.self.invariant.room in
    omega (arith, b, e, r)

pub invariant_of-self : goal.invariant_of-self
invariant_of-self c =
    let a = c.self.inside in
    let b = c.args.traveller in
    let ss = joined a.bursts.items in
    let l = lane_later c.args.lane_left in
    let within = subst (λ (v : LaneOf). Within b.does b.place v.first) (sym c.self.view_is) c.requires.within in
    let room = subst (λ (v : LaneOf). v.first + length v.slots + 1 < top) (sym c.self.view_is) c.requires.room in
    let last = c.length_behind-self-inside.ensures.is ∙ ap (λ o. after o a.last) c.cross_bursts-left.ensures.left in
    subst (λ n. IsLane n c.length_behind-self-inside.result a.count (joined c.cross_bursts-left.new.bursts.items)) (sym c.length_after-self-inside.ensures)
    (subst (λ n. IsLane (longer b.does a.first) n a.count (joined c.cross_bursts-left.new.bursts.items)) (sym last)
    (subst (IsLane (longer b.does a.first) (after (crossed l ss (Some b)).left a.last) a.count) (sym c.cross_bursts-left.ensures.slots) (crossed_lane l a.first a.last a.count ss b c.self.invariant within room)))

pub returns-clause-is_left : goal.returns-clause-is_left
returns-clause-is_left c =
    let a = c.self.inside in
    let b = c.args.traveller in
    let within = subst (λ (v : LaneOf). Within b.does b.place v.first) (sym c.self.view_is) c.requires.within in
    subst (λ (v : LaneOf). IfSome c.cross_bursts-left.result (IsLeftOf b (length_at_end v.first v.slots))) c.self.view_is
    (subst (λ r. IfSome r (IsLeftOf b (length_at_end a.first (joined a.bursts.items)))) (sym c.cross_bursts-left.ensures.left) (is_left (lane_later c.args.lane_left) a.first a.last a.count (joined a.bursts.items) b c.self.invariant within))

pub returns-clause-on_left : goal.returns-clause-on_left
returns-clause-on_left c =
    let a = c.self.inside in
    let b = c.args.traveller in
    let within = subst (λ (v : LaneOf). Within b.does b.place v.first) (sym c.self.view_is) c.requires.within in
    let new : lane_after (lane_later c.args.lane_left) (the_view a) b ≡ record { first = c.length_after-self-inside.result; slots = joined c.cross_bursts-left.new.bursts.items } =
    (λ i. record { first = sym c.length_after-self-inside.ensures i; slots = sym c.cross_bursts-left.ensures.slots i }) in
    λ h.
    subst (λ (v : LaneOf). CrossesLeft v b c.cross_bursts-left.result (record { first = c.length_after-self-inside.result; slots = joined c.cross_bursts-left.new.bursts.items })) c.self.view_is
    (subst (λ r. CrossesLeft (the_view a) b r (record { first = c.length_after-self-inside.result; slots = joined c.cross_bursts-left.new.bursts.items })) (sym c.cross_bursts-left.ensures.left)
    (subst (CrossesLeft (the_view a) b (crossed (lane_later c.args.lane_left) (joined a.bursts.items) (Some b)).left) new (on_left c.args.lane_left a.first a.last a.count (joined a.bursts.items) b c.self.invariant within h)))

pub returns-clause-on_right : goal.returns-clause-on_right
returns-clause-on_right c =
    let a = c.self.inside in
    let b = c.args.traveller in
    let within = subst (λ (v : LaneOf). Within b.does b.place v.first) (sym c.self.view_is) c.requires.within in
    let new : lane_after (lane_later c.args.lane_left) (the_view a) b ≡ record { first = c.length_after-self-inside.result; slots = joined c.cross_bursts-left.new.bursts.items } =
    (λ i. record { first = sym c.length_after-self-inside.ensures i; slots = sym c.cross_bursts-left.ensures.slots i }) in
    λ h.
    subst (λ (v : LaneOf). CrossesRight v b c.cross_bursts-left.result (record { first = c.length_after-self-inside.result; slots = joined c.cross_bursts-left.new.bursts.items })) c.self.view_is
    (subst (λ r. CrossesRight (the_view a) b r (record { first = c.length_after-self-inside.result; slots = joined c.cross_bursts-left.new.bursts.items })) (sym c.cross_bursts-left.ensures.left)
    (subst (CrossesRight (the_view a) b (crossed (lane_later c.args.lane_left) (joined a.bursts.items) (Some b)).left) new (on_right c.args.lane_left a.first a.last a.count (joined a.bursts.items) b c.self.invariant within h)))
