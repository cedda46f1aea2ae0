use Rattle.std.proofs.Common.{◌≡◌, ◌+◌, ◌-◌, sym, ap, ◌∙◌, subst, arith}
use Rattle.list_places.specs.Places.{Within}
use Rattle.list_lane.specs.Lanes.{length_at_end}
use Rattle.list_lane.specs.declared.op.Op.{Op}
use Rattle.list_regions.specs.Regions.{RegionOf}
use Rattle.list_regions.specs.Kept.{at}
use Rattle.list_regions.specs.Cuts.{Cutting}
use Rattle.list_regions.proofs.Sets.{of_ok}
use Rattle.list_regions.proofs.Halving.{reach_within, within_rest, slot_fits, none_put, front_put, back_put, moved_back}
use Rattle.list_regions.proofs.cut.put.Goals as goal

pub returns-in_default : goal.returns-in_default
returns-in_default c = λ _. none_put c.args.region.now c.args.place c.args.halves.now.front c.args.halves.now.back c.requires.so_far c.requires.number c.requires.slot (sym c.in_default.is ∙ c.slot.ensures.slot)

pub returns-then-reach-length : goal.returns-then-reach-length
returns-then-reach-length c = λ ok.
    let m = c.args.region.now in
    let q = c.args.halves.now.front in
    let r = c.args.halves.now.back in
    let op = c.in-Some.op in
    let pushed = of_ok c.push-pushed.result (sym c.is_ok.ensures.value ∙ ok) c.push-pushed.ensures.ok in
    let low = c.if-reach-length.true in
    let far = c.reach.ensures in
    let length = c.last-length.ensures in
    let within = reach_within op.does op.place (length_at_end q.lane.first q.lane.slots) (omega (arith, low, far, length)) in
    subst (λ (o : RegionOf). Cutting m (c.args.place + 1) o r) (sym pushed) (front_put m c.args.place q r c.requires.so_far c.number-number.result op c.requires.slot c.number-number.ensures (sym c.in-Some.is ∙ c.slot.ensures.slot) within)

pub returns : goal.returns
returns c = λ ok.
    let m = c.args.region.now in
    let q = c.args.halves.now.front in
    let r = c.args.halves.now.back in
    let op = c.in-Some.op in
    let x = length_at_end q.lane.first q.lane.slots in
    let y = length_at_end r.lane.first r.lane.slots in
    let pushed = of_ok c.push-pushed-2.result (sym c.is_ok-2.ensures.value ∙ ok) c.push-pushed-2.ensures.ok in
    let inner : c.placed-inner.result ≡ at op (op.place - x - 1) = c.placed-inner.ensures ∙ ap (λ n. at op (op.place - n - 1)) c.last-length.ensures in
    let past = c.if-op-length.false in
    let length = c.last-length.ensures in
    let fits = slot_fits m c.args.place q r c.requires.so_far op c.in-Some.ensures.fits in
    let within = subst (λ (o : Op). Within o.does o.place y) (sym inner) (within_rest op.does op.place x y fits (omega (arith, past, length))) in
    subst (λ (o : RegionOf). Cutting m (c.args.place + 1) q o) (sym pushed)
    (back_put m c.args.place q r c.requires.so_far c.number-number.result op c.placed-inner.result c.requires.slot c.number-number.ensures (sym c.in-Some.is ∙ c.slot.ensures.slot) (moved_back op c.placed-inner.result x inner (omega (arith, past, length))) within)
