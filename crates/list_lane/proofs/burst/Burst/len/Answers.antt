use Rattle.std.proofs.Common.{length, sym, ap, ◌∙◌, arith}
use Rattle.list_lane.proofs.Bounded.{lift_length}
use Rattle.list_lane.proofs.burst.Burst.len.Goals as goal

pub returns : goal.returns
returns c =
    let e = c.len.ensures in
    let ok = c.self.inside.slots.ok.0 in
    let size = lift_length c.self.inside.slots.items c.self.inside.up c.self.inside.down ∙ sym (lift_length c.self.inside.slots.items c.self.inside.up c.self.inside.down) ∙ ap length c.self.view_is in
    let view = ap length c.self.view_is in
    let lift = lift_length c.self.inside.slots.items c.self.inside.up c.self.inside.down in
    omega (arith, e, ok, view, lift)
