use Rattle.std.proofs.Common.{◌∷◌, [], ◌++◌, None, take, get_or, sym, subst, arith}
use Rattle.std.proofs.lemmas.List.{take_more, length-take-le}
use Rattle.list_lane.specs.declared.bounds.Bounds.{Bounds}
use Rattle.list_lane.specs.Bursts.{Bounded}
use Rattle.list_lane.proofs.Bounded.{counts_few, bounded_slot}
use Rattle.list_lane.proofs.bounds.bounds_of.Goals as goal

pub with_slot-result-requires-clause-inserted : goal.with_slot-result-requires-clause-inserted
with_slot-result-requires-clause-inserted c =
    let few = (counts_few (take c.loop-i.i c.args.slots.now)).0 in
    let count = c.loop-i.invariant.inserted in
    let i = c.loop-i-test.true in
    let size = length-take-le c.loop-i.i c.args.slots.now (omega (arith, i)) in
    let room = c.requires in
    omega (arith, few, count, i, size, room)

pub with_slot-result-requires-clause-erased : goal.with_slot-result-requires-clause-erased
with_slot-result-requires-clause-erased c =
    let few = (counts_few (take c.loop-i.i c.args.slots.now)).1 in
    let count = c.loop-i.invariant.erased in
    let i = c.loop-i-test.true in
    let size = length-take-le c.loop-i.i c.args.slots.now (omega (arith, i)) in
    let room = c.requires in
    omega (arith, few, count, i, size, room)

pub loop-i-preserved : goal.loop-i-preserved
loop-i-preserved c =
    let xs = c.args.slots.now in
    let i = c.loop-i.i in
    subst (Bounded c.with_slot-result.result) (sym (take_more xs i None c.loop-i-test.true))
    (subst (λ (b : Bounds). Bounded b (take i xs ++ get_or xs i None ∷ [])) (sym c.with_slot-result.ensures) (bounded_slot (get_or xs i None) c.loop-i.result (take i xs) c.loop-i.invariant))
