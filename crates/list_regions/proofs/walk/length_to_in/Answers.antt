use Rattle.std.proofs.Common.{◌<◌, ◌≤◌, length, sym, ap, ◌∙◌, arith}
use Rattle.list_lane.proofs.Joins.{before_none}
use Rattle.list_regions.specs.Regions.{length_to}
use Rattle.list_regions.proofs.Walking.{to_here, to_on, to_end}
use Rattle.list_regions.proofs.walk.length_to_in.Goals as goal

pub loop-i-init : goal.loop-i-init
loop-i-init c = let q = c.args.region.now in ap (λ x. length_to c.args.number x q.numbers q.lane.slots) (sym (before_none q.lane.first q.lane.slots))

pub returns-then-number : goal.returns-then-number
returns-then-number c =
    let q = c.args.region.now in
    let lt : c.loop-i.i < length q.lane.slots = omega arith in
    c.length_before.ensures ∙ sym (to_here c.args.number c.number.result c.loop-i.i q.lane.first q.numbers q.lane.slots c.number.ensures lt c.if-number.true) ∙ sym c.loop-i.invariant

pub loop-i-preserved : goal.loop-i-preserved
loop-i-preserved c =
    let q = c.args.region.now in
    let lt : c.loop-i.i < length q.lane.slots = omega arith in
    c.loop-i.invariant ∙ to_on c.args.number c.number.result c.loop-i.i q.lane.first q.numbers q.lane.slots c.number.ensures lt c.if-number.false

pub returns : goal.returns
returns c =
    let q = c.args.region.now in
    let a : length q.numbers ≤ c.loop-i.i = omega arith in
    let b : length q.lane.slots ≤ c.loop-i.i = omega arith in
    c.last.ensures ∙ sym (to_end c.args.number c.loop-i.i q.lane.first q.numbers q.lane.slots a b) ∙ sym c.loop-i.invariant
