use Rattle.std.proofs.Common.{◌-◌, ◌<◌, sym, ap, ◌∙◌, subst, arith}
use Rattle.list_regions.specs.Kept.{at, with_fresh, Opened, Touches}
use Rattle.list_lane.specs.declared.op.Op.{Op}
use Rattle.list_regions.proofs.Sets.{some_there}
use Rattle.list_regions.proofs.Meeting.{more_of}
use Rattle.list_regions.proofs.Ending.{end_low, end_room, few_elements, opened_fresh, opened_front}
use Rattle.list_regions.proofs.push.open_front.Goals as goal

pub overflow_sub-rest : goal.overflow_sub-rest
overflow_sub-rest c =
    let h = some_there c.args.items.now c.args.place c.requires.there in
    let gap = c.gap_at-gap.ensures h.0 h.1 in
    let low = c.requires.gap h.0 h.1 in
    omega (arith, gap, low)

pub overflow_sub-rest-2 : goal.overflow_sub-rest-2
overflow_sub-rest-2 c =
    let h = some_there c.args.items.now c.args.place c.requires.there in
    let gap = c.gap_at-gap.ensures h.0 h.1 in
    let low = c.requires.gap h.0 h.1 in
    let few = few_elements c.args.op.does in
    let size = c.elements_of-size.ensures in
    omega (arith, gap, low, few, size)

pub returns-then-rest-eq0-clause-ok : goal.returns-then-rest-eq0-clause-ok
returns-then-rest-eq0-clause-ok c =
    let qs = c.args.items.now in
    let b = c.args.op in
    let h = some_there qs c.args.place c.requires.there in
    let gap = c.gap_at-gap.ensures h.0 h.1 in
    let low = c.requires.gap h.0 h.1 in
    let few = few_elements b.does in
    let size = c.elements_of-size.ensures in
    let rest = c.if-rest-eq0.true in
    let more = more_of c.args.offset c.args.place c.else-offset-eq0.either in
    let new = c.take_front_at.ensures h.0 h.1 in
    let r = opened_front qs b c.args.place c.args.offset c.requires.found h.0 c.args.number c.requires.ends h.1 (omega (arith, gap, low, few, size, rest)) more in (
      subst (Opened qs b) (sym new) r.0,
      subst (λ (o : Op). Touches c.take_front_at.new.items b c.args.place o) (sym c.placed.ensures) (subst (λ zs. Touches zs b c.args.place (at b 0)) (sym new) r.1),
    )

pub insert_fresh-requires-clause-low : goal.insert_fresh-requires-clause-low
insert_fresh-requires-clause-low c =
    let low = end_low c.args.items.now c.args.op c.args.number c.requires.ends in
    let place = c.requires.found.place in
    let size = c.elements_of-size.ensures in
    omega (arith, low, place, size)

pub insert_fresh-requires-clause-room : goal.insert_fresh-requires-clause-room
insert_fresh-requires-clause-room c = λ q g.
    let room = end_room c.args.items.now c.args.op c.args.number c.args.place q c.requires.ends g in
    let gap = c.gap_at-gap.ensures q g in
    omega (arith, room, gap)

pub returns-clause-ok : goal.returns-clause-ok
returns-clause-ok c =
    let qs = c.args.items.now in
    let b = c.args.op in
    let h = some_there qs c.args.place c.requires.there in
    let gap = c.gap_at-gap.ensures h.0 h.1 in
    let low = c.requires.gap h.0 h.1 in
    let few = few_elements b.does in
    let size = c.elements_of-size.ensures in
    let rest = c.if-rest-eq0.false in
    let g = c.gap_at-gap.result - c.args.offset - c.elements_of-size.result in
    let more = more_of c.args.offset c.args.place c.else-offset-eq0.either in
    let new = c.in_ok-insert_fresh.ensures.ok h.0 h.1 ∙ ap (λ n. with_fresh qs c.args.place h.0 c.args.offset n g) size in
    let some : 0 < g = omega (arith, rest) in
    let r = opened_fresh qs b c.args.place c.args.offset c.requires.found h.0 g h.1 some (omega (arith, gap, low, few, size)) more in (
      subst (Opened qs b) (sym new) r.0,
      subst (λ (o : Op). Touches c.insert_fresh.new.items b c.args.place o) (sym c.placed-2.ensures) (subst (λ zs. Touches zs b c.args.place (at b 0)) (sym new) r.1),
    )
