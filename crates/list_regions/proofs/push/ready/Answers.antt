use Rattle.std.proofs.Common.{◌≡◌, ◌-◌, ◌<◌, length, take, sym, ap, ◌∙◌, subst, arith}
use Rattle.sum_list.specs.Places.{Reaches}
use Rattle.list_regions.specs.Regions.{after}
use Rattle.list_regions.specs.Kept.{LiesBehind, Opened}
use Rattle.list_regions.proofs.Sets.{some_there}
use Rattle.list_regions.proofs.Found.{take_all_of}
use Rattle.list_regions.proofs.Ending.{lies, end_room}
use Rattle.list_regions.proofs.Alike.{holds_ends, opened_ends, opened_alike, fresh_behind, fresh_between}
use Rattle.list_regions.proofs.push.ready.Goals as goal

pub merge_at-requires-clause-holds : goal.merge_at-requires-clause-holds
merge_at-requires-clause-holds c =
    let qs = c.args.items.now in
    let b = c.args.op in
    let a = c.find_after-at.result in
    let found = lies qs b a c.find_after-at.ensures.sums (subst (λ n. Reaches after n qs a.place) c.reach.ensures c.find_after-at.ensures.first) in
    let none : b.place - a.after ≡ 0 = omega arith in
    let some : 0 < a.place = omega arith in
    let last : a.place ≡ length qs = omega arith in
    let all = ap (λ n. take n qs) last ∙ take_all_of qs in
    let o = subst (Opened qs b) (sym c.in_ok-push_fresh.ensures.ok) (fresh_behind qs b a.place (subst (LiesBehind qs b a.place) none found) some all) in
    holds_ends c.push_fresh.new.items b c.args.number (opened_ends qs c.push_fresh.new.items b c.args.number c.requires o)

pub returns-then-at-len : goal.returns-then-at-len
returns-then-at-len c =
    let qs = c.args.items.now in
    let b = c.args.op in
    let a = c.find_after-at.result in
    let found = lies qs b a c.find_after-at.ensures.sums (subst (λ n. Reaches after n qs a.place) c.reach.ensures c.find_after-at.ensures.first) in
    let none : b.place - a.after ≡ 0 = omega arith in
    let some : 0 < a.place = omega arith in
    let last : a.place ≡ length qs = omega arith in
    let all = ap (λ n. take n qs) last ∙ take_all_of qs in
    let o = subst (Opened qs b) (sym c.in_ok-push_fresh.ensures.ok) (fresh_behind qs b a.place (subst (LiesBehind qs b a.place) none found) some all) in
    opened_alike qs c.push_fresh.new.items c.merge_at.new.items b o c.merge_at.ensures

pub insert_fresh-requires-clause-room : goal.insert_fresh-requires-clause-room
insert_fresh-requires-clause-room c = λ q g.
    let room = end_room c.args.items.now c.args.op c.args.number c.find_after-at.result.place q c.requires g in
    let gap = c.gap_at-gap.ensures q g in
    omega (arith, room, gap)

pub merge_at-requires-2-clause-holds : goal.merge_at-requires-2-clause-holds
merge_at-requires-2-clause-holds c =
    let qs = c.args.items.now in
    let b = c.args.op in
    let a = c.find_after-at.result in
    let g = c.gap_at-gap.result - 1 in
    let more = c.if-gap-le1.false in
    let h = some_there qs a.place (omega arith) in
    let gap = c.gap_at-gap.ensures h.0 h.1 in
    let some : 0 < g = omega (arith, more) in
    let o = subst (Opened qs b) (sym (c.in_ok-insert_fresh.ensures.ok h.0 h.1)) (fresh_between qs b a.place g h.0 h.1 some (omega (arith, gap, more))) in
    holds_ends c.insert_fresh.new.items b c.args.number (opened_ends qs c.insert_fresh.new.items b c.args.number c.requires o)

pub returns : goal.returns
returns c =
    let qs = c.args.items.now in
    let b = c.args.op in
    let a = c.find_after-at.result in
    let g = c.gap_at-gap.result - 1 in
    let more = c.if-gap-le1.false in
    let h = some_there qs a.place (omega arith) in
    let gap = c.gap_at-gap.ensures h.0 h.1 in
    let some : 0 < g = omega (arith, more) in
    let o = subst (Opened qs b) (sym (c.in_ok-insert_fresh.ensures.ok h.0 h.1)) (fresh_between qs b a.place g h.0 h.1 some (omega (arith, gap, more))) in
    opened_alike qs c.insert_fresh.new.items c.merge_at-2.new.items b o c.merge_at-2.ensures
