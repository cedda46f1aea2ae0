use Rattle.std.proofs.Common.{◌≤◌, ◌+◌, [], ◌∷◌, ◌++◌, length, sym, ap, ◌∙◌, subst, arith}
use Rattle.list_lane.specs.declared.bounds.Bounds.{Bounds}
use Rattle.list_lane.specs.Bursts.{Bounded, lift_all}
use Rattle.list_lane.proofs.Bounded.{lift_length, lift_append, counts_few, bounded_slot, front_slot}
use Rattle.list_lane.proofs.burst.Burst.push.Goals as goal

pub with_slot-self-inside-requires-clause-inserted : goal.with_slot-self-inside-requires-clause-inserted
with_slot-self-inside-requires-clause-inserted c =
    let a = c.self.inside in
    let few = (counts_few a.slots.items).0 in
    let count = c.self.invariant.bounded.inserted in
    let view = ap length c.self.view_is in
    let lift = lift_length a.slots.items a.up a.down in
    let room = c.requires.room in
    omega (arith, few, count, view, lift, room)

pub with_slot-self-inside-requires-clause-erased : goal.with_slot-self-inside-requires-clause-erased
with_slot-self-inside-requires-clause-erased c =
    let a = c.self.inside in
    let few = (counts_few a.slots.items).1 in
    let count = c.self.invariant.bounded.erased in
    let view = ap length c.self.view_is in
    let lift = lift_length a.slots.items a.up a.down in
    let room = c.requires.room in
    omega (arith, few, count, view, lift, room)

pub invariant_of-self-2 : goal.invariant_of-self-2
invariant_of-self-2 c =
    let a = c.self.inside in
    record {
      bounded = subst (Bounded c.with_slot-self-inside.result) (sym c.in-Ok.ensures.ok)
          (subst (λ (b : Bounds). Bounded b (a.slots.items ++ c.in-Some.written ∷ [])) (sym c.with_slot-self-inside.ensures) (bounded_slot c.in-Some.written a.bounds a.slots.items c.self.invariant.bounded));
      front = subst (λ (b : Bounds). a.down ≤ b.low + a.up) (sym c.with_slot-self-inside.ensures) (front_slot c.in-Some.written a.bounds a.up a.down c.in-Some.ensures.front c.self.invariant.front);
    }

pub returns-clause-ok : goal.returns-clause-ok
returns-clause-ok c =
    let a = c.self.inside in
    ap (lift_all a.up a.down) c.in-Ok.ensures.ok
    ∙ lift_append a.slots.items (c.in-Some.written ∷ []) a.up a.down
    ∙ (λ i. c.self.view_is i ++ c.in-Some.ensures.slot i ∷ [])
