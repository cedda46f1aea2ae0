use Rattle.std.proofs.Common.{◌≡◌, ◌-◌, drop, refl, sym, ap, ◌∙◌, arith}
use Rattle.list_lane.specs.Lanes.{length_before}
use Rattle.list_lane.proofs.Joins.{before_none, before_turn}
use Rattle.list_lane.proofs.flat.length_in.Goals as goal

pub loop-i-preserved : goal.loop-i-preserved
loop-i-preserved c =
    let more = c.loop-i-test.true in
    let within = c.requires.within in
    let most = c.loop-i.invariant.most in
    let one = c.length_behind-result.ensures.more in
    record {
      so_far = before_turn _ c.args.slots.now c.args.at c.loop-i.i c.loop-i.result c.length_behind-result.result _ _ (omega (arith, more, within)) more refl c.loop-i.invariant.so_far c.length_behind-result.ensures.is;
      most = omega (arith, most, one);
    }

pub returns : goal.returns
returns c =
    let k : c.args.at - c.loop-i.i ≡ 0 = omega (arith, c.loop-i-test.false) in
    sym (before_none c.loop-i.result (drop c.loop-i.i c.args.slots.now)) ∙ ap (λ n. length_before n c.loop-i.result (drop c.loop-i.i c.args.slots.now)) (sym k) ∙ sym c.loop-i.invariant.so_far
