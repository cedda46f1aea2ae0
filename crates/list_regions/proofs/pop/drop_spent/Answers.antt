use Rattle.std.proofs.Common.{◌≡◌, suc, ◌+◌, length, set, sym, ap, ◌∙◌, arith}
use Rattle.std.specs.Prelude.{slice_get, remove}
use Rattle.std.specs.Option.{option_copied}
use Rattle.list_regions.specs.Kept.{with_gap}
use Rattle.list_regions.proofs.Sets.{some_there, set_length}
use Rattle.list_regions.proofs.Meeting.{there}
use Rattle.list_regions.proofs.Dropping.{spent_is, shrunk_gap, shrunk_last, gap_room, region_room}
use Rattle.list_regions.proofs.pop.drop_spent.Goals as goal

pub overflow_add-spent : goal.overflow_add-spent
overflow_add-spent c =
    let room = region_room c.args.items.now c.args.place c.in-Some.region.now c.requires (sym c.get.ensures ∙ ap option_copied c.in-Some.is) in
    let gap = c.gap.ensures in
    let elements = c.elements.ensures in
    omega (arith, room, gap, elements)

pub overflow_add-place : goal.overflow_add-place
overflow_add-place c =
    let lt = there c.args.items.now c.args.place c.in-Some.region.now (sym c.get.ensures ∙ ap option_copied c.in-Some.is) in
    let len = c.len-count.ensures.len in
    let few = c.len-count.ensures.few in
    omega (arith, lt, len, few)

pub remove-requires : goal.remove-requires
remove-requires c = there c.args.items.now c.args.place c.in-Some.region.now (sym c.get.ensures ∙ ap option_copied c.in-Some.is)

pub returns-then-place-count : goal.returns-then-place-count
returns-then-place-count c =
    let qs = c.args.items.now in
    let i = c.args.place in
    let q = c.in-Some.region.now in
    let here = sym c.get.ensures ∙ ap option_copied c.in-Some.is in
    let lt = there qs i q here in
    let len = c.len-count.ensures.len in
    let none : length q.numbers ≡ 0 = omega arith in
    let empty : length q.lane.slots ≡ 0 = omega arith in
    let last : suc i ≡ length qs = omega (arith, lt, len) in
    shrunk_last qs c.remove.new.self i q here last (spent_is q none empty) c.remove.ensures.list

pub overflow_add-gap : goal.overflow_add-gap
overflow_add-gap c =
    let qs = c.args.items.now in
    let i = c.args.place in
    let q = c.in-Some.region.now in
    let here = sym c.get.ensures ∙ ap option_copied c.in-Some.is in
    let len = c.len-count.ensures.len in
    let h = some_there qs (i + 1) (omega (arith, len)) in
    let k : suc i ≡ i + 1 = omega arith in
    let room = gap_room qs i q h.0 c.requires here (ap (slice_get qs) k ∙ h.1) in
    let gap = c.gap_at-gap.ensures h.0 h.1 in
    let own = c.gap.ensures in
    let elements = c.elements.ensures in
    omega (arith, room, gap, own, elements)

pub set_gap_at-requires-clause-room : goal.set_gap_at-requires-clause-room
set_gap_at-requires-clause-room c = λ r f.
    let qs = c.args.items.now in
    let i = c.args.place in
    let q = c.in-Some.region.now in
    let here = sym c.get.ensures ∙ ap option_copied c.in-Some.is in
    let k : suc i ≡ i + 1 = omega arith in
    let room = gap_room qs i q r c.requires here (ap (slice_get qs) k ∙ f) in
    let gap = c.gap_at-gap.ensures r f in
    let own = c.gap.ensures in
    let elements = c.elements.ensures in
    omega (arith, room, gap, own, elements)

pub remove-requires-2 : goal.remove-requires-2
remove-requires-2 c =
    let qs = c.args.items.now in
    let i = c.args.place in
    let q = c.in-Some.region.now in
    let lt = there qs i q (sym c.get.ensures ∙ ap option_copied c.in-Some.is) in
    let len = c.len-count.ensures.len in
    let h = some_there qs (i + 1) (omega (arith, len)) in
    let new = ap length (c.set_gap_at.ensures h.0 h.1) in
    let same = set_length qs (i + 1) (with_gap (c.gap_at-gap.result + (c.gap.result + c.elements.result)) h.0) in
    omega (arith, lt, new, same)

pub returns : goal.returns
returns c =
    let qs = c.args.items.now in
    let i = c.args.place in
    let q = c.in-Some.region.now in
    let here = sym c.get.ensures ∙ ap option_copied c.in-Some.is in
    let len = c.len-count.ensures.len in
    let h = some_there qs (i + 1) (omega (arith, len)) in
    let k : i + 1 ≡ suc i = omega arith in
    let g = c.gap_at-gap.result + (c.gap.result + c.elements.result) in
    let gap : g ≡ h.0.gap + (q.gap + q.lane.first) = (λ j. c.gap_at-gap.ensures h.0 h.1 j + (c.gap.ensures j + c.elements.ensures j)) in
    let none : length q.numbers ≡ 0 = omega arith in
    let empty : length q.lane.slots ≡ 0 = omega arith in
    shrunk_gap qs c.remove-2.new.self i g q h.0 here (ap (slice_get qs) (sym k) ∙ h.1) (spent_is q none empty) gap
    (c.remove-2.ensures.list ∙ ap (λ r. remove r i) (c.set_gap_at.ensures h.0 h.1) ∙ ap (λ j. remove (set qs j (with_gap g h.0)) i) k)
