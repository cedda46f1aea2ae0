use Rattle.std.proofs.Common.{◌<◌, ◌∷◌, [], ◌++◌, length, ap, ◌∙◌, arith}
use Rattle.list_lane.proofs.Listing.{slot_turn, slot_end}
use Rattle.list_lane.proofs.burst.Burst.append_to.Goals as goal

pub loop-i-preserved : goal.loop-i-preserved
loop-i-preserved c =
    let ss = c.args.self.now in
    let lt : c.loop-i.i < length ss = omega (arith, c.loop-i-test.true, c.len-i-end.ensures) in
    slot_turn _ c.loop-i.slots.items _ ss c.loop-i.i lt c.loop-i.invariant (c.in_ok-push_slot.ensures.ok ∙ ap (λ s. c.loop-i.slots.items ++ s ∷ []) c.slot.ensures)

pub returns : goal.returns
returns c =
    let ss = c.args.self.now in
    slot_end _ c.loop-i.slots.items ss c.loop-i.i (omega (arith, c.loop-i-test.false, c.len-i-end.ensures)) c.loop-i.invariant
