use Rattle.std.proofs.Common.{◌∷◌, sym, ap, subst, arith}
use Rattle.list_regions.specs.Kept.{region}
use Rattle.list_regions.proofs.Popping.{Popping, slots_in, pop_more, pop_done, whole_from, whole_numbers, fewer_slots}
use Rattle.list_lane.specs.Lanes.{length_after}
use Rattle.list_regions.proofs.pop.pop_slots.Goals as goal

pub place_with-requires : goal.place_with-requires
place_with-requires c =
    let p = c.loop-place.invariant c.requires.slot c.requires.slots c.requires.whole in
    whole_from c.args.number p.whole c.requires.low

pub pop_at-next-requires-clause-same : goal.pop_at-next-requires-clause-same
pop_at-next-requires-clause-same c =
    let p = c.loop-place.invariant c.requires.slot c.requires.slots c.requires.whole in
    λ q g. whole_numbers p.whole c.in-Some.place q g

pub loop-place-smaller : goal.loop-place-smaller
loop-place-smaller c =
    let r = c.pop_at-next.ensures in
    let fewer = fewer_slots c.loop-place.items c.in-Some.place (region r.gap (c.args.number ∷ r.numbers) r.first (r.slot ∷ r.slots)) (region r.gap r.numbers (length_after r.slot r.first) r.slots) r.is (omega arith) in
    let same = ap slots_in r.regions in
    omega (arith, fewer, same)

pub loop-place-preserved : goal.loop-place-preserved
loop-place-preserved c = λ s ss w.
    subst (λ z. Popping c.args.number c.args.items.now c.pop_at-next.new.items z s ss) (sym c.first_of_both-popped.ensures)
    (pop_more c.args.number c.args.items.now c.loop-place.items c.pop_at-next.new.items c.loop-place.popped c.pop_at-next.result s ss c.in-Some.place (c.loop-place.invariant s ss w) c.pop_at-next.ensures)

pub returns : goal.returns
returns c =
    let p = c.loop-place.invariant c.requires.slot c.requires.slots c.requires.whole in
    record {
      slots = λ s ss w. pop_done c.args.number c.args.items.now c.loop-place.items c.loop-place.popped s ss (c.loop-place.invariant s ss w) c.in_default.ensures;
      fits = (let e = p.sum in omega (arith, e));
    }
