use Rattle.std.proofs.Common.{◌+◌, ◌++◌, None, take, sym, ap, ◌∙◌, subst, arith}
use Rattle.list_lane.specs.Bursts.{lift_all}
use Rattle.list_lane.specs.Flat.{Placed}
use Rattle.list_lane.proofs.Bounded.{lift_drop, placed_drop, lift_turn}
use Rattle.list_lane.proofs.Turns.{rest_more}
use Rattle.list_lane.proofs.flat.lift_slots.Goals as goal

pub lift_at-requires-clause-placed : goal.lift_at-requires-clause-placed
lift_at-requires-clause-placed c =
    let up = c.args.up in
    let down = c.args.down in
    let i = c.loop-i.i in
    let xs = c.args.slots.now in
    subst (λ r. Placed (lift_all up down r)) (sym c.loop-i.invariant.rest) (subst Placed (sym (lift_drop xs i up down)) (placed_drop (lift_all up down xs) i c.requires))

pub loop-i-preserved : goal.loop-i-preserved
loop-i-preserved c = record {
  so_far = lift_turn c.loop-i.slots c.lift_at.new.slots _ c.loop-i.i c.args.up c.args.down None (omega (arith, c.loop-i-test.true, c.loop-i.invariant.size)) c.loop-i.invariant.so_far c.lift_at.ensures.first
      ∙ ap (λ r. take (c.loop-i.i + 1) c.lift_at.new.slots ++ lift_all c.args.up c.args.down r) (sym c.lift_at.ensures.rest);
  rest = c.lift_at.ensures.rest ∙ rest_more c.loop-i.slots c.args.slots.now c.loop-i.i c.loop-i.invariant.rest;
  size = c.lift_at.ensures.size ∙ c.loop-i.invariant.size;
}
