use Rattle.std.proofs.Common.{length, Some, sym, ap, ◌∙◌, subst, arith}
use Rattle.list_lane.specs.Lanes.{slot_at}
use Rattle.list_lane.specs.Bursts.{lift}
use Rattle.list_lane.specs.Flat.{Placed}
use Rattle.list_lane.proofs.Bounded.{lift_length, lifted_placed, slot_lifted}
use Rattle.list_lane.proofs.burst.Burst.slot.Goals as goal

pub index-requires : goal.index-requires
index-requires c =
    let a = c.self.inside in
    let view = ap length c.self.view_is in
    let lift = lift_length a.slots.items a.up a.down in
    let ok = a.slots.ok.0 in
    let within = c.requires.within in
    omega (arith, view, lift, ok, within)

pub lifted-requires : goal.lifted-requires
lifted-requires c =
    let a = c.self.inside in
    let view = ap length c.self.view_is in
    let lift = lift_length a.slots.items a.up a.down in
    let within = c.requires.within in
    let h = lifted_placed a.slots.items c.args.at a.up a.down c.index.result.now c.in-Some.op (omega (arith, view, lift, within)) (sym c.in-Some.is ∙ c.index.ensures) (subst Placed (sym c.self.view_is) c.requires.placed) in
    omega (arith, h)

pub returns-in-Some : goal.returns-in-Some
returns-in-Some c =
    let a = c.self.inside in
    let view = ap length c.self.view_is in
    let size = lift_length a.slots.items a.up a.down in
    let within = c.requires.within in
    ap Some c.lifted.ensures
    ∙ ap (lift a.up a.down) (sym c.in-Some.is ∙ c.index.ensures)
    ∙ sym (slot_lifted a.slots.items c.args.at a.up a.down c.index.result.now (omega (arith, view, size, within)))
    ∙ ap (slot_at c.args.at) c.self.view_is

pub returns-in-None : goal.returns-in-None
returns-in-None c =
    let a = c.self.inside in
    let view = ap length c.self.view_is in
    let size = lift_length a.slots.items a.up a.down in
    let within = c.requires.within in
    ap (lift a.up a.down) (sym c.in-None.is ∙ c.index.ensures)
    ∙ sym (slot_lifted a.slots.items c.args.at a.up a.down c.index.result.now (omega (arith, view, size, within)))
    ∙ ap (slot_at c.args.at) c.self.view_is
