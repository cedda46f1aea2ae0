use Rattle.std.proofs.Common.{◌≡◌, ◌+◌, sym, ap, ◌∙◌, arith}
use Rattle.std.specs.Option.{option_copied}
use Rattle.list_regions.specs.Regions.{length_to}
use Rattle.list_regions.proofs.Walking.{walked_slots, lengths_low, sum_here, sum_on}
use Rattle.list_regions.proofs.walk.lengths_in.Goals as goal

pub length_to_in-length-requires : goal.length_to_in-length-requires
length_to_in-length-requires c = walked_slots c.args.items.now c.args.number c.loop-i.i c.in-Some.region.now c.requires (sym c.get.ensures ∙ ap option_copied c.in-Some.is)

pub overflow_add-passed-in-loop-i : goal.overflow_add-passed-in-loop-i
overflow_add-passed-in-loop-i c =
    let q = c.in-Some.region.now in
    let here = sum_here c.args.number c.loop-i.i c.loop-i.passed c.args.items.now q (sym c.get.ensures ∙ ap option_copied c.in-Some.is) c.loop-i.invariant in
    let low = lengths_low c.args.items.now c.args.number c.requires in
    let gap = c.gap-gap.ensures in
    let length = c.length_to_in-length.ensures in
    omega (arith, here, low, gap, length)

pub loop-i-preserved : goal.loop-i-preserved
loop-i-preserved c =
    let q = c.in-Some.region.now in
    let m = c.loop-i.passed + (c.gap-gap.result + c.length_to_in-length.result) in
    let is : m ≡ c.loop-i.passed + (q.gap + length_to c.args.number q.lane.first q.numbers q.lane.slots) = (λ j. c.loop-i.passed + (c.gap-gap.ensures j + c.length_to_in-length.ensures j)) in
    sum_on c.args.number c.loop-i.i c.loop-i.passed c.args.items.now q (sym c.get.ensures ∙ ap option_copied c.in-Some.is) c.loop-i.invariant m is
