use Rattle.std.proofs.Common.{◌≡◌, ◌+◌, suc, ◌∷◌, drop, sym, ap, ◌∙◌, subst, arith}
use Rattle.std.proofs.lemmas.List.{drop_more, drop_all}
use Rattle.slot_law.specs.Lanes.{told_by}
use Rattle.long_sets.specs.Lists.{Suits}
use Rattle.long_sets.proofs.Telling.{nothing_read, reads_on, reads_all, SoFar}
use Rattle.long_sets.proofs.lane.read_out.Goals as goal

pub loop-slot-init : goal.loop-slot-init
loop-slot-init c = λ d vs h. subst (λ read. SoFar d vs 0 c.args.slots.now c.args.lane c.args.lane read) (sym c.new-read.ensures.items) (nothing_read d vs c.args.slots.now c.args.lane h)

pub loop-slot-preserved : goal.loop-slot-preserved
loop-slot-preserved c = λ d vs h.
    let xs = c.args.slots.now in
    let k = c.loop-slot.slot-index in
    let x = c.slot-item.result in
    let b = c.loop-slot.lane in
    let e = c.pop_first-op.new.self in
    let n : k + 1 ≡ suc k = omega arith in
    let next = drop_more xs k x c.loop-slot-test.true ∙ ap (λ y. y ∷ drop (k + 1) xs) (sym c.slot-item.is) in
    subst (λ read. SoFar d vs (k + 1) xs c.args.lane e read) (sym c.in-Ok.ensures.items)
    (reads_on d vs k (k + 1) x xs c.args.lane b e c.loop-slot.read.items c.in_ok-now.now n (c.loop-slot.invariant d vs h) next c.pop_first-op.ensures.lane
    (λ v s. c.in_ok-now.ensures d v (subst (Suits d v x) (sym c.pop_first-op.ensures.slot) s) ∙ (λ i. told_by d v (c.first-first.ensures.is i) (c.pop_first-op.ensures.slot i))))

pub returns : goal.returns
returns c = λ d vs h t.
    reads_all d vs c.loop-slot.slot-index c.args.slots.now c.args.lane c.loop-slot.lane c.loop-slot.read.items (drop_all c.loop-slot.slot-index c.args.slots.now c.loop-slot-test.false) (c.loop-slot.invariant d vs h) t
