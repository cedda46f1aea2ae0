use Rattle.std.proofs.Common.{◌<◌, length, sym, ap, ◌∙◌, subst, arith}
use Rattle.sync_theory.specs.Grid.{tail}
use Rattle.list_lane.specs.Bursts.{IsBurst, lift_all}
use Rattle.list_lane.proofs.Bounded.{burst_rest, first_at, lift_length, lift_tail}
use Rattle.list_lane.proofs.Turns.{tail_of}
use Rattle.list_lane.proofs.burst.Burst.pop_first.Goals as goal

pub index-requires : goal.index-requires
index-requires c =
    let a = c.self.inside in
    let view = ap length c.self.view_is in
    let lift = lift_length a.slots.items a.up a.down in
    let ok = a.slots.ok.0 in
    let there = c.requires.there in
    omega (arith, view, lift, ok, there)

pub invariant_of-self : goal.invariant_of-self
invariant_of-self c =
    let a = c.self.inside in
    let xs = a.slots.items in
    let view = ap length c.self.view_is in
    let lift = lift_length xs a.up a.down in
    let there = c.requires.there in
    let some : 0 < length xs = omega (arith, view, lift, there) in
    subst (IsBurst a.up a.down c.in-Some.bounds) (sym (c.remove-written.ensures.by_index.2 ∙ tail_of xs))
    (subst (λ b. IsBurst a.up a.down b (tail xs)) (sym c.in-Some.ensures) (burst_rest a.up a.down a.bounds xs c.index.result.now some c.index.ensures c.self.invariant))

pub returns-clause-rest : goal.returns-clause-rest
returns-clause-rest c =
    let a = c.self.inside in
    ap (lift_all a.up a.down) (c.remove-written.ensures.by_index.2 ∙ tail_of a.slots.items) ∙ lift_tail a.up a.down a.slots.items ∙ ap tail c.self.view_is

pub returns-clause-slot : goal.returns-clause-slot
returns-clause-slot c = c.slot-first.ensures ∙ first_at c.args.self.now
