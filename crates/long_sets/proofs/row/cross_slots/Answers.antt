use Rattle.std.proofs.Common.{arith}
use Rattle.long_sets.specs.Rows.{lists_in}
use Rattle.sync_theory.specs.Lists.{kept}
use Rattle.long_sets.proofs.Going.{skips_to, met_on, at_end}
use Rattle.long_sets.proofs.Homes.{both_home, home_known, none_kept}
use Rattle.long_sets.proofs.row.cross_slots.Goals as goal

pub loop-place-preserved : goal.loop-place-preserved
loop-place-preserved c =
    let k = c.loop-place.invariant in
    let m = c.in_ok-meet_at.ensures.met in
    let from = c.loop-place.place in
    let to = c.next-place.result in
    let y = c.loop-place.left in
    let pass = c.next-place.ensures.pass (kept y) (lists_in c.loop-place.slots) (λ _. k.known) (none_kept y c.is_none.result c.is_none.ensures) k.listed in
    record {
      within = omega (arith, c.if-place-end.false, m.size, k.size);
      size = omega (arith, m.size, k.size);
      listed = c.in_ok-meet_at.ensures.listed;
      known = home_known c.args.codes.now y c.meet_at.new.left (both_home c.args.left_later y m.slot c.meet_at.new.left m.became m.met).0 k.known;
      ahead = λ t e l. met_on t e c.args.left_later c.args.slots.now c.args.left.now to c.loop-place.slots c.meet_at.new.slots y c.meet_at.new.left l m (skips_to t e c.args.slots.now c.args.left.now c.loop-place.slots from to y c.next-place.ensures.order.0 pass (k.ahead t e l));
    }

pub returns-then-place-end-clause-crosses : goal.returns-then-place-end-clause-crosses
returns-then-place-end-clause-crosses c =
    let k = c.loop-place.invariant in
    let y = c.loop-place.left in
    let pass = c.next-place.ensures.pass (kept y) (lists_in c.loop-place.slots) (λ _. k.known) (none_kept y c.is_none.result c.is_none.ensures) k.listed in
    λ t e l. at_end t e c.args.slots.now c.args.left.now c.loop-place.slots c.next-place.result y (omega (arith, c.if-place-end.true, k.size)) (skips_to t e c.args.slots.now c.args.left.now c.loop-place.slots c.loop-place.place c.next-place.result y c.next-place.ensures.order.0 pass (k.ahead t e l))

pub returns-clause-crosses : goal.returns-clause-crosses
returns-clause-crosses c =
    let k = c.loop-place.invariant in
    λ t e l. at_end t e c.args.slots.now c.args.left.now c.loop-place.slots c.loop-place.place c.loop-place.left (omega (arith, c.loop-place-test.false, k.size)) (k.ahead t e l)
