use Rattle.std.proofs.Common.{◌≡◌, ◌+◌, ◌-◌, Some, set, refl, sym, ap, ◌∙◌, subst, arith}
use Rattle.std.specs.Option.{option_map, option_copied}
use Rattle.list_places.specs.Places.{Within}
use Rattle.list_lane.specs.Ops.{lane_later as later}
use Rattle.list_lane.specs.Lanes.{crossed}
use Rattle.list_lane.specs.Parts.{from}
use Rattle.list_lane.specs.declared.op.Op.{Op}
use Rattle.list_regions.specs.Regions.{before}
use Rattle.list_regions.specs.Kept.{at, crossed_region}
use Rattle.sum_list.specs.Places.{Reaches}
use Rattle.list_regions.proofs.Meeting.{roomy, after_low, left_is_low, lifted_low, after_is, within, pass_tail, pass_touch, left_gap}
use Rattle.list_regions.proofs.crossing.left_of.Goals as goal

pub placed-requires : goal.placed-requires
placed-requires c =
    let b = c.args.traveller in
    let qs = c.args.items.now in
    let a = c.find_before-at.result in
    let l = later c.args.lane_left in
    let r = subst (λ n. Reaches before n qs a.place) c.reach.ensures c.find_before-at.ensures.first in
    let nothing = sym c.get.ensures ∙ ap option_copied c.in_default.is in
    let p = pass_tail l qs b a c.find_before-at.ensures.sums r nothing in
    left_is_low l qs b (Some (at b (b.place - a.before + a.after))) c.requires (λ k ss w. (p.slots k ss w).1)

pub overflow_add-offset : goal.overflow_add-offset
overflow_add-offset c = let low = placed-requires c in omega (arith, low)

pub returns-in_default : goal.returns-in_default
returns-in_default c =
    let b = c.args.traveller in
    let qs = c.args.items.now in
    let a = c.find_before-at.result in
    let l = later c.args.lane_left in
    let r = subst (λ n. Reaches before n qs a.place) c.reach.ensures c.find_before-at.ensures.first in
    let nothing = sym c.get.ensures ∙ ap option_copied c.in_default.is in
    let p = pass_tail l qs b a c.find_before-at.ensures.sums r nothing in
    λ k ss w. (p.slots k ss w).1 ∙ ap Some (sym c.placed.ensures)

pub placed-requires-then-offset-gap : goal.placed-requires-then-offset-gap
placed-requires-then-offset-gap c =
    let b = c.args.traveller in
    let qs = c.args.items.now in
    let a = c.find_before-at.result in
    let l = later c.args.lane_left in
    let r = subst (λ n. Reaches before n qs a.place) c.reach.ensures c.find_before-at.ensures.first in
    let here = sym c.get.ensures ∙ ap option_copied c.in-Some.is in
    let gap = c.gap-gap.ensures in
    let low = c.if-offset-gap.true in
    left_is_low l qs b (Some (at b (b.place - a.before + a.after))) c.requires (left_gap l qs b a c.find_before-at.ensures.sums r c.in-Some.region.now here (omega (arith, low, gap)))

pub overflow_add-offset-then-offset-gap : goal.overflow_add-offset-then-offset-gap
overflow_add-offset-then-offset-gap c = let low = placed-requires-then-offset-gap c in omega (arith, low)

pub returns-then-offset-gap : goal.returns-then-offset-gap
returns-then-offset-gap c =
    let b = c.args.traveller in
    let qs = c.args.items.now in
    let a = c.find_before-at.result in
    let l = later c.args.lane_left in
    let r = subst (λ n. Reaches before n qs a.place) c.reach.ensures c.find_before-at.ensures.first in
    let here = sym c.get.ensures ∙ ap option_copied c.in-Some.is in
    let gap = c.gap-gap.ensures in
    let low = c.if-offset-gap.true in
    λ k ss w. left_gap l qs b a c.find_before-at.ensures.sums r c.in-Some.region.now here (omega (arith, low, gap)) k ss w ∙ ap Some (sym c.placed-then-offset-gap.ensures)

pub left-left-requires-clause-within : goal.left-left-requires-clause-within
left-left-requires-clause-within c =
    let b = c.args.traveller in
    let qs = c.args.items.now in
    let a = c.find_before-at.result in
    let l = later c.args.lane_left in
    let r = subst (λ n. Reaches before n qs a.place) c.reach.ensures c.find_before-at.ensures.first in
    let q = c.in-Some.region.now in
    let here = sym c.get.ensures ∙ ap option_copied c.in-Some.is in
    let gap = c.gap-gap.ensures in
    let far = c.if-offset-gap.false in
    subst (λ (o : Op). Within o.does o.place q.lane.first) (sym c.placed-inner.ensures)
    (subst (λ n. Within b.does (b.place - a.before - n) q.lane.first) (sym gap) (within l qs b a c.find_before-at.ensures.sums r q here (omega (arith, gap, far))))

pub left-left-requires-clause-room : goal.left-left-requires-clause-room
left-left-requires-clause-room c = roomy c.args.items.now c.args.traveller c.find_before-at.result.place c.in-Some.region.now c.requires (sym c.get.ensures ∙ ap option_copied c.in-Some.is)

pub overflow_add-at : goal.overflow_add-at
overflow_add-at c =
    let b = c.args.traveller in
    let qs = c.args.items.now in
    let a = c.find_before-at.result in
    let l = later c.args.lane_left in
    let r = subst (λ n. Reaches before n qs a.place) c.reach.ensures c.find_before-at.ensures.first in
    let here = sym c.get.ensures ∙ ap option_copied c.in-Some.is in
    let low = after_low qs b a.place c.in-Some.region.now c.requires here in
    let sum = after_is l qs b a c.find_before-at.ensures.sums r in
    let gap = c.gap-gap.ensures in
    omega (arith, low, sum, gap)

pub lifted-requires : goal.lifted-requires
lifted-requires c =
    let b = c.args.traveller in
    let qs = c.args.items.now in
    let a = c.find_before-at.result in
    let l = later c.args.lane_left in
    let r = subst (λ n. Reaches before n qs a.place) c.reach.ensures c.find_before-at.ensures.first in
    let q = c.in-Some.region.now in
    let z = c.left-left.result in
    let here = sym c.get.ensures ∙ ap option_copied c.in-Some.is in
    let gap = c.gap-gap.ensures in
    let far = c.if-offset-gap.false in
    let inner : c.placed-inner.result ≡ at b (b.place - a.before - q.gap) = c.placed-inner.ensures ∙ ap (λ n. at b (b.place - a.before - n)) gap in
    let p = pass_touch l qs b a c.find_before-at.ensures.sums r q (set qs a.place (crossed_region l q (at b (b.place - a.before - q.gap)))) z here (omega (arith, gap, far)) refl (c.left-left.ensures ∙ ap (λ (o : Op). (crossed l q.lane.slots (Some o)).left) inner) in
    lifted_low z (a.after + c.gap-gap.result)
    (left_is_low l qs b (option_map (from (a.after + c.gap-gap.result)) z) c.requires (λ k ss w. (p.slots k ss w).1 ∙ ap (λ n. option_map (from (a.after + n)) z) (sym gap)))

pub returns : goal.returns
returns c =
    let b = c.args.traveller in
    let qs = c.args.items.now in
    let a = c.find_before-at.result in
    let l = later c.args.lane_left in
    let r = subst (λ n. Reaches before n qs a.place) c.reach.ensures c.find_before-at.ensures.first in
    let q = c.in-Some.region.now in
    let z = c.left-left.result in
    let here = sym c.get.ensures ∙ ap option_copied c.in-Some.is in
    let gap = c.gap-gap.ensures in
    let far = c.if-offset-gap.false in
    let inner : c.placed-inner.result ≡ at b (b.place - a.before - q.gap) = c.placed-inner.ensures ∙ ap (λ n. at b (b.place - a.before - n)) gap in
    let p = pass_touch l qs b a c.find_before-at.ensures.sums r q (set qs a.place (crossed_region l q (at b (b.place - a.before - q.gap)))) z here (omega (arith, gap, far)) refl (c.left-left.ensures ∙ ap (λ (o : Op). (crossed l q.lane.slots (Some o)).left) inner) in
    λ k ss w. (p.slots k ss w).1 ∙ ap (λ n. option_map (from (a.after + n)) z) (sym gap) ∙ sym c.lifted.ensures
