use Rattle.std.proofs.Common.{◌≡◌, ◌+◌, ◌-◌, ◌<◌, Some, set, sym, ap, ◌∙◌, subst, arith}
use Rattle.std.specs.Option.{option_map, option_copied}
use Rattle.list_places.specs.Places.{longer, Within}
use Rattle.list_lane.specs.Ops.{lane_later as later}
use Rattle.list_lane.specs.Lanes.{crossed}
use Rattle.list_lane.specs.Parts.{from}
use Rattle.list_lane.specs.declared.op.Op.{Op}
use Rattle.list_lane.proofs.Rooms.{after_more}
use Rattle.list_regions.specs.Regions.{RegionOf, before}
use Rattle.list_regions.specs.Kept.{at, crossed_region, with_gap, Passes}
use Rattle.sum_list.specs.Places.{Reaches}
use Rattle.list_regions.proofs.Sets.{same_item}
use Rattle.list_regions.proofs.Meeting.{more_of, there, roomy, after_low, left_low, lifted_low, after_is, within, pass_tail, pass_touch, pass_gap}
use Rattle.list_regions.proofs.Cutting.{passes_loose, passes_shrunk}
use Rattle.list_regions.proofs.crossing.cross_open.Goals as goal

pub placed-requires : goal.placed-requires
placed-requires c =
    let b = c.args.traveller in
    let qs = c.args.items.now in
    let a = c.find_before-at.result in
    let l = later c.args.lane_left in
    let r = subst (λ n. Reaches before n qs a.place) c.reach.ensures c.find_before-at.ensures.first in
    let nothing = sym c.get.ensures ∙ ap option_copied c.in_default.is in
    left_low l qs qs b (Some (at b (b.place - a.before + a.after))) c.requires (pass_tail l qs b a c.find_before-at.ensures.sums r nothing)

pub overflow_add-offset : goal.overflow_add-offset
overflow_add-offset c = let low = placed-requires c in omega (arith, low)

pub returns-in_default-clause-ok : goal.returns-in_default-clause-ok
returns-in_default-clause-ok c =
    let b = c.args.traveller in
    let qs = c.args.items.now in
    let a = c.find_before-at.result in
    let r = subst (λ n. Reaches before n qs a.place) c.reach.ensures c.find_before-at.ensures.first in
    let nothing = sym c.get.ensures ∙ ap option_copied c.in_default.is in
    subst (λ z. Passes (later c.args.lane_left) qs b (Some z) qs) (sym c.placed.ensures) (pass_tail (later c.args.lane_left) qs b a c.find_before-at.ensures.sums r nothing)

pub cross_at-left-requires-clause-there : goal.cross_at-left-requires-clause-there
cross_at-left-requires-clause-there c = there c.args.items.now c.find_before-at.result.place c.in-Some.region.now (sym c.get.ensures ∙ ap option_copied c.in-Some.is)

pub cross_at-left-requires-clause-within : goal.cross_at-left-requires-clause-within
cross_at-left-requires-clause-within c =
    let b = c.args.traveller in
    let qs = c.args.items.now in
    let a = c.find_before-at.result in
    let l = later c.args.lane_left in
    let r = subst (λ n. Reaches before n qs a.place) c.reach.ensures c.find_before-at.ensures.first in
    let here = sym c.get.ensures ∙ ap option_copied c.in-Some.is in
    λ q g.
    let e = same_item qs a.place c.in-Some.region.now q here g in
    let gap : c.gap-gap.result ≡ q.gap = c.gap-gap.ensures ∙ ap (λ (y : RegionOf). y.gap) e in
    let far = c.if-offset-gap.true in
    subst (λ (o : Op). Within o.does o.place q.lane.first) (sym c.placed-inner.ensures)
    (subst (λ n. Within b.does (b.place - a.before - n) q.lane.first) (sym gap) (within l qs b a c.find_before-at.ensures.sums r q g (omega (arith, gap, far))))

pub cross_at-left-requires-clause-room : goal.cross_at-left-requires-clause-room
cross_at-left-requires-clause-room c = λ q g. roomy c.args.items.now c.args.traveller c.find_before-at.result.place q c.requires g

pub overflow_add-at : goal.overflow_add-at
overflow_add-at c =
    let b = c.args.traveller in
    let qs = c.args.items.now in
    let a = c.find_before-at.result in
    let l = later c.args.lane_left in
    let r = subst (λ n. Reaches before n qs a.place) c.reach.ensures c.find_before-at.ensures.first in
    let here = sym c.get.ensures ∙ ap option_copied c.in-Some.is in
    let low = after_low qs b a.place c.in-Some.region.now c.requires here in
    let sum = after_is l qs b a c.find_before-at.ensures.sums r in
    let gap = c.gap-gap.ensures in
    omega (arith, low, sum, gap)

pub cut_worn-requires : goal.cut_worn-requires
cut_worn-requires c =
    let b = c.args.traveller in
    let qs = c.args.items.now in
    let a = c.find_before-at.result in
    let l = later c.args.lane_left in
    let r = subst (λ n. Reaches before n qs a.place) c.reach.ensures c.find_before-at.ensures.first in
    let q = c.in-Some.region.now in
    let zs = c.cross_at-left.new.items in
    let z = c.cross_at-left.result in
    let here = sym c.get.ensures ∙ ap option_copied c.in-Some.is in
    let gap = c.gap-gap.ensures in
    let far = c.if-offset-gap.true in
    let inner : c.placed-inner.result ≡ at b (b.place - a.before - q.gap) = c.placed-inner.ensures ∙ ap (λ n. at b (b.place - a.before - n)) gap in
    passes_loose l qs zs b (option_map (from (a.after + q.gap)) z) c.requires
    (pass_touch l qs b a c.find_before-at.ensures.sums r q zs z here (omega (arith, gap, far))
    (c.cross_at-left.ensures.regions q here ∙ ap (λ (o : Op). set qs a.place (crossed_region l q o)) inner)
    (c.cross_at-left.ensures.left q here ∙ ap (λ (o : Op). (crossed l q.lane.slots (Some o)).left) inner))

pub returns-then-offset-gap-clause-ok : goal.returns-then-offset-gap-clause-ok
returns-then-offset-gap-clause-ok c =
    let b = c.args.traveller in
    let qs = c.args.items.now in
    let a = c.find_before-at.result in
    let l = later c.args.lane_left in
    let r = subst (λ n. Reaches before n qs a.place) c.reach.ensures c.find_before-at.ensures.first in
    let q = c.in-Some.region.now in
    let zs = c.cross_at-left.new.items in
    let z = c.cross_at-left.result in
    let here = sym c.get.ensures ∙ ap option_copied c.in-Some.is in
    let gap = c.gap-gap.ensures in
    let far = c.if-offset-gap.true in
    let inner : c.placed-inner.result ≡ at b (b.place - a.before - q.gap) = c.placed-inner.ensures ∙ ap (λ n. at b (b.place - a.before - n)) gap in
    passes_shrunk l qs zs c.cut_worn.new.items b c.lifted.result
    (subst (λ y. Passes l qs b y zs) (sym c.lifted.ensures)
    (subst (λ n. Passes l qs b (option_map (from (a.after + n)) z) zs) (sym gap)
    (pass_touch l qs b a c.find_before-at.ensures.sums r q zs z here (omega (arith, gap, far))
    (c.cross_at-left.ensures.regions q here ∙ ap (λ (o : Op). set qs a.place (crossed_region l q o)) inner)
    (c.cross_at-left.ensures.left q here ∙ ap (λ (o : Op). (crossed l q.lane.slots (Some o)).left) inner))))
    c.cut_worn.ensures

pub lifted-requires : goal.lifted-requires
lifted-requires c =
    let b = c.args.traveller in
    let qs = c.args.items.now in
    let a = c.find_before-at.result in
    let l = later c.args.lane_left in
    let r = subst (λ n. Reaches before n qs a.place) c.reach.ensures c.find_before-at.ensures.first in
    let q = c.in-Some.region.now in
    let zs = c.cross_at-left.new.items in
    let z = c.cross_at-left.result in
    let here = sym c.get.ensures ∙ ap option_copied c.in-Some.is in
    let gap = c.gap-gap.ensures in
    let far = c.if-offset-gap.true in
    let inner : c.placed-inner.result ≡ at b (b.place - a.before - q.gap) = c.placed-inner.ensures ∙ ap (λ n. at b (b.place - a.before - n)) gap in
    lifted_low z (a.after + c.gap-gap.result)
    (left_low l qs zs b (option_map (from (a.after + c.gap-gap.result)) z) c.requires
    (subst (λ n. Passes l qs b (option_map (from (a.after + n)) z) zs) (sym gap)
    (pass_touch l qs b a c.find_before-at.ensures.sums r q zs z here (omega (arith, gap, far))
    (c.cross_at-left.ensures.regions q here ∙ ap (λ (o : Op). set qs a.place (crossed_region l q o)) inner)
    (c.cross_at-left.ensures.left q here ∙ ap (λ (o : Op). (crossed l q.lane.slots (Some o)).left) inner))))

pub length_after-gap-requires : goal.length_after-gap-requires
length_after-gap-requires c =
    let qs = c.args.items.now in
    let a = c.find_before-at.result in
    let here = sym c.get.ensures ∙ ap option_copied c.in-Some.is in
    let room = roomy qs c.args.traveller a.place c.in-Some.region.now c.requires here in
    let gap = c.gap-gap.ensures in
    omega (arith, room, gap)

pub set_gap_at-requires-clause-there : goal.set_gap_at-requires-clause-there
set_gap_at-requires-clause-there c = there c.args.items.now c.find_before-at.result.place c.in-Some.region.now (sym c.get.ensures ∙ ap option_copied c.in-Some.is)

pub set_gap_at-requires-clause-room : goal.set_gap_at-requires-clause-room
set_gap_at-requires-clause-room c =
    let qs = c.args.items.now in
    let a = c.find_before-at.result in
    let here = sym c.get.ensures ∙ ap option_copied c.in-Some.is in
    λ q g.
    let e = same_item qs a.place c.in-Some.region.now q here g in
    let gap : c.gap-gap.result ≡ q.gap = c.gap-gap.ensures ∙ ap (λ (y : RegionOf). y.gap) e in
    let room = roomy qs c.args.traveller a.place q c.requires g in
    let more = after_more (Some c.args.traveller) c.gap-gap.result in
    let new = c.length_after-gap.ensures in
    omega (arith, gap, room, more, new)

passes : (c : goal.After-struct_known-3-1) → let b = c.args.traveller in let a = c.find_before-at.result in Passes (later c.args.lane_left) c.args.items.now b (Some (at b (b.place - a.before + a.after))) c.set_gap_at.new.items
passes c =
    let b = c.args.traveller in
    let qs = c.args.items.now in
    let a = c.find_before-at.result in
    let l = later c.args.lane_left in
    let r = subst (λ n. Reaches before n qs a.place) c.reach.ensures c.find_before-at.ensures.first in
    let q = c.in-Some.region.now in
    let here = sym c.get.ensures ∙ ap option_copied c.in-Some.is in
    let gap = c.gap-gap.ensures in
    let low = c.if-offset-gap.false in
    let new : c.length_after-gap.result ≡ longer b.does q.gap = c.length_after-gap.ensures ∙ ap (longer b.does) gap in
    let more : 0 < a.place → 0 < longer b.does q.gap = λ h. subst (λ n. 0 < n) new (more_of c.length_after-gap.result a.place c.else-gap-eq0.either h) in
    pass_gap l qs b a c.find_before-at.ensures.sums r q c.set_gap_at.new.items here (omega (arith, low, gap)) more (c.set_gap_at.ensures q here ∙ ap (λ n. set qs a.place (with_gap n q)) new)

pub placed-requires-2 : goal.placed-requires-2
placed-requires-2 c =
    let b = c.args.traveller in
    let a = c.find_before-at.result in
    left_low (later c.args.lane_left) c.args.items.now c.set_gap_at.new.items b (Some (at b (b.place - a.before + a.after))) c.requires (passes c)

pub overflow_add-offset-2 : goal.overflow_add-offset-2
overflow_add-offset-2 c = let low = placed-requires-2 c in omega (arith, low)

pub returns-clause-ok : goal.returns-clause-ok
returns-clause-ok c =
    let b = c.args.traveller in
    let qs = c.args.items.now in
    let a = c.find_before-at.result in
    let l = later c.args.lane_left in
    let r = subst (λ n. Reaches before n qs a.place) c.reach.ensures c.find_before-at.ensures.first in
    let q = c.in-Some.region.now in
    let here = sym c.get.ensures ∙ ap option_copied c.in-Some.is in
    let gap = c.gap-gap.ensures in
    let low = c.if-offset-gap.false in
    let new : c.length_after-gap.result ≡ longer b.does q.gap = c.length_after-gap.ensures ∙ ap (longer b.does) gap in
    let more : 0 < a.place → 0 < longer b.does q.gap = λ h. subst (λ n. 0 < n) new (more_of c.length_after-gap.result a.place c.else-gap-eq0.either h) in
    subst (λ z. Passes l qs b (Some z) c.set_gap_at.new.items) (sym c.placed-2.ensures)
    (pass_gap l qs b a c.find_before-at.ensures.sums r q c.set_gap_at.new.items here (omega (arith, low, gap)) more (c.set_gap_at.ensures q here ∙ ap (λ n. set qs a.place (with_gap n q)) new))
