use Rattle.std.proofs.Common.{length, sym, ap, ◌∙◌, arith}
use Rattle.list_lane.specs.Lanes.{length_before}
use Rattle.list_lane.proofs.Bounded.{lift_length}
use Rattle.list_lane.proofs.Joins.{lift_before}
use Rattle.list_lane.proofs.burst.Burst.length_before.Goals as goal

pub length_in-requires-clause-within : goal.length_in-requires-clause-within
length_in-requires-clause-within c =
    let a = c.self.inside in
    let size = ap length c.as_slice.ensures.value in
    let view = ap length c.self.view_is in
    let lift = lift_length a.slots.items a.up a.down in
    let within = c.requires.within in
    omega (arith, size, view, lift, within)

pub returns : goal.returns
returns c =
    let a = c.self.inside in
    c.length_in.ensures
    ∙ ap (length_before c.args.at c.args.first) c.as_slice.ensures.value
    ∙ sym (lift_before a.slots.items a.up a.down c.args.at c.args.first)
    ∙ ap (length_before c.args.at c.args.first) c.self.view_is
