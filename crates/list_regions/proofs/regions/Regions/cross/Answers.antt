use Rattle.std.proofs.Common.{◌≡◌, ◌<◌, ◌+◌, Some, length, sym, ap, ◌∙◌, subst, arith}
use Rattle.std.specs.Prelude.{IfSome}
use Rattle.sync_base.specs.Rules.{top}
use Rattle.list_places.specs.Places.{Within, longer}
use Rattle.list_lane.specs.Lanes.{LaneOf, crossed, lane_after, length_at_end, IsLeftOf}
use Rattle.list_lane.specs.Ops.{lane_later}
use Rattle.list_lane.specs.Laws.{CrossesLeft, CrossesRight}
use Rattle.list_lane.proofs.Rooms.{last_below, is_left, on_left, on_right}
use Rattle.list_regions.specs.Kept.{IsRegions}
use Rattle.list_regions.specs.contracts.regions.Regions.{the_view}
use Rattle.list_regions.proofs.Keeping.{all, crossed_is, left_is, crossed_keeps, alike_is, alike_keeps}
use Rattle.list_regions.proofs.Sets.{on_err}
use Rattle.list_regions.proofs.regions.Regions.cross.Goals as goal

pub invariant_of-self : goal.invariant_of-self
invariant_of-self c = let a = c.self.inside in alike_keeps a.popped a.count a.first a.last a.items c.cross_regions.new.items c.self.invariant c.in_err-left.ensures.err

pub returns-in_err-left-clause-err : goal.returns-in_err-left-clause-err
returns-in_err-left-clause-err c =
    let a = c.self.inside in
    let is = alike_is a.popped a.count a.first a.last a.items c.cross_regions.new.items c.self.invariant c.in_err-left.ensures.err in
    on_err c.from_residual.result ((λ i. record { first = a.first; slots = is i }) ∙ c.self.view_is)

pub length_behind-self-inside-requires : goal.length_behind-self-inside-requires
length_behind-self-inside-requires c =
    let a = c.self.inside in
    let low = last_below (all a.popped a.count a.items) a.first in
    let last = c.self.invariant.lane.last_is in
    let room = c.self.invariant.lane.room in
    omega (arith, low, last, room)

pub invariant_of-self-2 : goal.invariant_of-self-2
invariant_of-self-2 c =
    let a = c.self.inside in
    let b = c.args.traveller in
    let l = lane_later c.args.lane_left in
    let zs = c.cross_regions.new.items in
    let within = subst (λ (v : LaneOf). Within b.does b.place v.first) (sym c.self.view_is) c.requires.within in
    let room = subst (λ (v : LaneOf). v.first + length v.slots + 1 < top) (sym c.self.view_is) c.requires.room in
    let keeps = crossed_keeps l a.popped a.count a.first a.last a.items zs b c.in_ok-left.left c.self.invariant c.in_ok-left.ensures.ok within room in
    subst (λ n. IsRegions a.popped a.count n c.length_behind-self-inside.result zs (all a.popped a.count zs)) (sym c.length_after-self-inside.ensures)
    (subst (λ n. IsRegions a.popped a.count (longer b.does a.first) n zs (all a.popped a.count zs)) (sym c.length_behind-self-inside.ensures) keeps)

pub returns-clause-lane : goal.returns-clause-lane
returns-clause-lane c =
    let a = c.self.inside in
    let b = c.args.traveller in
    let l = lane_later c.args.lane_left in
    let is = crossed_is l a.popped a.count a.first a.last a.items c.cross_regions.new.items b c.in_ok-left.left c.self.invariant c.in_ok-left.ensures.ok in
    (λ i. record { first = c.length_after-self-inside.ensures i; slots = is i }) ∙ ap (λ (v : LaneOf). lane_after l v b) c.self.view_is

pub returns-clause-is_left : goal.returns-clause-is_left
returns-clause-is_left c =
    let a = c.self.inside in
    let b = c.args.traveller in
    let l = lane_later c.args.lane_left in
    let ss = all a.popped a.count a.items in
    let within = subst (λ (v : LaneOf). Within b.does b.place v.first) (sym c.self.view_is) c.requires.within in
    let left = left_is l a.popped a.count a.first a.last a.items c.cross_regions.new.items b c.in_ok-left.left c.self.invariant c.in_ok-left.ensures.ok in
    subst (λ (v : LaneOf). IfSome c.in_ok-left.left (IsLeftOf b (length_at_end v.first v.slots))) c.self.view_is
    (subst (λ r. IfSome r (IsLeftOf b (length_at_end a.first ss))) (sym left) (is_left l a.first a.last a.count ss b c.self.invariant.lane within))

pub returns-clause-on_left : goal.returns-clause-on_left
returns-clause-on_left c =
    let a = c.self.inside in
    let b = c.args.traveller in
    let l = lane_later c.args.lane_left in
    let ss = all a.popped a.count a.items in
    let zs = c.cross_regions.new.items in
    let within = subst (λ (v : LaneOf). Within b.does b.place v.first) (sym c.self.view_is) c.requires.within in
    let left = left_is l a.popped a.count a.first a.last a.items zs b c.in_ok-left.left c.self.invariant c.in_ok-left.ensures.ok in
    let is = crossed_is l a.popped a.count a.first a.last a.items zs b c.in_ok-left.left c.self.invariant c.in_ok-left.ensures.ok in
    let new : lane_after l (the_view a) b ≡ record { first = c.length_after-self-inside.result; slots = all a.popped a.count zs } = (λ i. record { first = sym c.length_after-self-inside.ensures i; slots = sym is i }) in
    λ h.
    subst (λ (v : LaneOf). CrossesLeft v b c.in_ok-left.left (record { first = c.length_after-self-inside.result; slots = all a.popped a.count zs })) c.self.view_is
    (subst (λ r. CrossesLeft (the_view a) b r (record { first = c.length_after-self-inside.result; slots = all a.popped a.count zs })) (sym left)
    (subst (CrossesLeft (the_view a) b (crossed l ss (Some b)).left) new (on_left c.args.lane_left a.first a.last a.count ss b c.self.invariant.lane within h)))

pub returns-clause-on_right : goal.returns-clause-on_right
returns-clause-on_right c =
    let a = c.self.inside in
    let b = c.args.traveller in
    let l = lane_later c.args.lane_left in
    let ss = all a.popped a.count a.items in
    let zs = c.cross_regions.new.items in
    let within = subst (λ (v : LaneOf). Within b.does b.place v.first) (sym c.self.view_is) c.requires.within in
    let left = left_is l a.popped a.count a.first a.last a.items zs b c.in_ok-left.left c.self.invariant c.in_ok-left.ensures.ok in
    let is = crossed_is l a.popped a.count a.first a.last a.items zs b c.in_ok-left.left c.self.invariant c.in_ok-left.ensures.ok in
    let new : lane_after l (the_view a) b ≡ record { first = c.length_after-self-inside.result; slots = all a.popped a.count zs } = (λ i. record { first = sym c.length_after-self-inside.ensures i; slots = sym is i }) in
    λ h.
    subst (λ (v : LaneOf). CrossesRight v b c.in_ok-left.left (record { first = c.length_after-self-inside.result; slots = all a.popped a.count zs })) c.self.view_is
    (subst (λ r. CrossesRight (the_view a) b r (record { first = c.length_after-self-inside.result; slots = all a.popped a.count zs })) (sym left)
    (subst (CrossesRight (the_view a) b (crossed l ss (Some b)).left) new (on_right c.args.lane_left a.first a.last a.count ss b c.self.invariant.lane within h)))
