use Rattle.std.proofs.Common.{◌-◌, ap, ◌∙◌, subst, arith}
use Rattle.sum_list.specs.Places.{Reaches}
use Rattle.list_regions.specs.Regions.{after}
use Rattle.list_regions.specs.Kept.{at}
use Rattle.list_regions.proofs.Sets.{some_there}
use Rattle.list_regions.proofs.Ending.{lies, touches, opened_same}
use Rattle.list_regions.proofs.push.open.Goals as goal

pub open_behind-requires-clause-found : goal.open_behind-requires-clause-found
open_behind-requires-clause-found c =
    let qs = c.args.items.now in
    let a = c.find_after-at.result in
    lies qs c.args.op a c.find_after-at.ensures.sums (subst (λ n. Reaches after n qs a.place) c.reach.ensures c.find_after-at.ensures.first)

pub open_front-requires-clause-found : goal.open_front-requires-clause-found
open_front-requires-clause-found c =
    let qs = c.args.items.now in
    let a = c.find_after-at.result in
    lies qs c.args.op a c.find_after-at.ensures.sums (subst (λ n. Reaches after n qs a.place) c.reach.ensures c.find_after-at.ensures.first)

pub returns-clause-ok : goal.returns-clause-ok
returns-clause-ok c =
    let qs = c.args.items.now in
    let b = c.args.op in
    let a = c.find_after-at.result in
    let within = c.find_after-at.ensures.sums.within in
    let h = some_there qs a.place (omega (arith, within, c.len.ensures.len, c.if-at-len.false)) in
    let gap = c.gap_at-gap.ensures h.0 h.1 in
    let far = c.if-offset-gap.false in
    let inner = c.placed.ensures ∙ ap (λ n. at b (b.place - a.after - n)) gap in
    (opened_same qs b, touches qs b a c.find_after-at.ensures.sums (subst (λ n. Reaches after n qs a.place) c.reach.ensures c.find_after-at.ensures.first) h.0 c.placed.result h.1 (omega (arith, gap, far)) inner)
