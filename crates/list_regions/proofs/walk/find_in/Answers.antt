use Rattle.std.proofs.Common.{◌<◌, length, sym, ◌∙◌, arith}
use Rattle.list_regions.proofs.Walking.{find_here, find_on}
use Rattle.list_regions.proofs.walk.find_in.Goals as goal

pub returns-then-number : goal.returns-then-number
returns-then-number c =
    let q = c.args.region.now in
    let lt : c.loop-i.i < length q.lane.slots = omega arith in
    c.slot.ensures.slot ∙ sym (find_here c.args.number c.number.result c.loop-i.i q.numbers q.lane.slots c.number.ensures lt c.if-number.true) ∙ sym c.loop-i.invariant

pub loop-i-preserved : goal.loop-i-preserved
loop-i-preserved c =
    let q = c.args.region.now in
    let lt : c.loop-i.i < length q.lane.slots = omega arith in
    c.loop-i.invariant ∙ find_on c.args.number c.number.result c.loop-i.i q.numbers q.lane.slots c.number.ensures lt c.if-number.false
