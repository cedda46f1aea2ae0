use Rattle.std.proofs.Common.{◌≡◌, ◌+◌, Some, sym, ap, ◌∙◌, arith}
use Rattle.std.specs.Option.{option_copied}
use Rattle.list_regions.specs.Regions.{length_to, look}
use Rattle.list_regions.proofs.Walking.{walked_slots, lengths_low, look_low, some_low, walk_here, walk_on, sum_here, sum_on}
use Rattle.list_regions.proofs.walk.slot_in.Goals as goal

pub find_in-requires : goal.find_in-requires
find_in-requires c = walked_slots c.args.items.now c.args.number c.loop-i.i c.in-Some.region.now c.requires (sym c.get.ensures ∙ ap option_copied c.in-Some.is)

pub overflow_add-passed : goal.overflow_add-passed
overflow_add-passed c =
    let q = c.in-Some.region.now in
    let here = sum_here c.args.number c.loop-i.i c.loop-i.passed c.args.items.now q (sym c.get.ensures ∙ ap option_copied c.in-Some.is) c.loop-i.invariant.sum in
    let low = lengths_low c.args.items.now c.args.number c.requires in
    let gap = c.gap-gap.ensures in
    omega (arith, here, low, gap)

pub placed-requires : goal.placed-requires
placed-requires c =
    let q = c.in-Some.region.now in
    let op = c.in-Some-find_in.op in
    let is = walk_here (look c.args.number c.args.items.now) c.args.number c.loop-i.i c.loop-i.passed c.args.items.now q op c.loop-i.invariant.so_far (sym c.get.ensures ∙ ap option_copied c.in-Some.is) (sym c.in-Some-find_in.is ∙ c.find_in.ensures) in
    let low = some_low (look c.args.number c.args.items.now) (record op { place = op.place + (c.loop-i.passed + q.gap) }) is (look_low c.args.items.now c.args.number c.requires) in
    let gap = c.gap-gap.ensures in
    omega (arith, low, gap)

pub overflow_add-op : goal.overflow_add-op
overflow_add-op c = let low = placed-requires c in omega (arith, low)

pub returns-in-Some-find_in : goal.returns-in-Some-find_in
returns-in-Some-find_in c =
    let q = c.in-Some.region.now in
    let op = c.in-Some-find_in.op in
    let is = walk_here (look c.args.number c.args.items.now) c.args.number c.loop-i.i c.loop-i.passed c.args.items.now q op c.loop-i.invariant.so_far (sym c.get.ensures ∙ ap option_copied c.in-Some.is) (sym c.in-Some-find_in.is ∙ c.find_in.ensures) in
    ap Some c.placed.ensures ∙ ap (λ g. Some (record op { place = op.place + (c.loop-i.passed + g) })) c.gap-gap.ensures ∙ sym is

pub length_to_in-length-requires : goal.length_to_in-length-requires
length_to_in-length-requires c = walked_slots c.args.items.now c.args.number c.loop-i.i c.in-Some.region.now c.requires (sym c.get.ensures ∙ ap option_copied c.in-Some.is)

pub overflow_add-passed-in-loop-i-2 : goal.overflow_add-passed-in-loop-i-2
overflow_add-passed-in-loop-i-2 c =
    let q = c.in-Some.region.now in
    let here = sum_here c.args.number c.loop-i.i c.loop-i.passed c.args.items.now q (sym c.get.ensures ∙ ap option_copied c.in-Some.is) c.loop-i.invariant.sum in
    let low = lengths_low c.args.items.now c.args.number c.requires in
    let gap = c.gap-gap.ensures in
    let length = c.length_to_in-length.ensures in
    omega (arith, here, low, gap, length)

pub loop-i-preserved : goal.loop-i-preserved
loop-i-preserved c =
    let q = c.in-Some.region.now in
    let m = c.loop-i.passed + (c.gap-gap.result + c.length_to_in-length.result) in
    let is : m ≡ c.loop-i.passed + (q.gap + length_to c.args.number q.lane.first q.numbers q.lane.slots) = (λ j. c.loop-i.passed + (c.gap-gap.ensures j + c.length_to_in-length.ensures j)) in
    let here = sym c.get.ensures ∙ ap option_copied c.in-Some.is in
    record {
      so_far = walk_on (look c.args.number c.args.items.now) c.args.number c.loop-i.i c.loop-i.passed c.args.items.now q c.loop-i.invariant.so_far here (sym c.in_default-find_in.is ∙ c.find_in.ensures) m is;
      sum = sum_on c.args.number c.loop-i.i c.loop-i.passed c.args.items.now q here c.loop-i.invariant.sum m is;
    }
