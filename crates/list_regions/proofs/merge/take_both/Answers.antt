use Rattle.std.proofs.Common.{◌≡◌, ◌⊎◌, ◌+◌, Some, None, sym, ap, ◌∙◌, subst, arith}
use Rattle.list_lane.specs.Lanes.{length_before}
use Rattle.list_regions.specs.Regions.{moved_on, either}
use Rattle.list_regions.specs.Merges.{Merging}
use Rattle.list_regions.specs.declared.merge.Turn.{Turn}
use Rattle.list_regions.proofs.Popping.{moved_is}
use Rattle.list_regions.proofs.Turned.{number_there, turn_low, right_low, both_taken}
use Rattle.list_regions.proofs.merge.take_both.Goals as goal

pub slot-own-requires : goal.slot-own-requires
slot-own-requires c =
    let there = number_there c.args.left.now.numbers c.args.turn.left c.requires.next.0 c.requires.next.1 in
    let are = c.requires.left.are in
    omega (arith, there, are)

pub slot-requires : goal.slot-requires
slot-requires c =
    let there = number_there c.args.right.now.numbers c.args.turn.right c.requires.next.0 c.requires.next.2 in
    let are = c.requires.right.are in
    omega (arith, there, are)

pub number-requires : goal.number-requires
number-requires c = number_there c.args.left.now.numbers c.args.turn.left c.requires.next.0 c.requires.next.1

pub lifted-other-requires : goal.lifted-other-requires
lifted-other-requires c =
    let r = c.args.right.now in
    let t = c.args.turn in
    let low = turn_low c.args.left.now r t c.args.region.now c.requires.so_far c.requires.room in
    right_low c.slot.result (t.length + c.gap.result) t.length r.gap (length_before t.right r.lane.first r.lane.slots) c.slot.ensures.fits low (ap (λ n. t.length + n) c.gap.ensures)

pub overflow_add-result : goal.overflow_add-result
overflow_add-result c =
    let there = number_there c.args.left.now.numbers c.args.turn.left c.number.result c.number.ensures in
    let are = c.requires.left.are in
    let few = c.requires.left.few in
    omega (arith, there, are, few)

pub overflow_add-result-2 : goal.overflow_add-result-2
overflow_add-result-2 c =
    let there = number_there c.args.right.now.numbers c.args.turn.right c.requires.next.0 c.requires.next.2 in
    let are = c.requires.right.are in
    let few = c.requires.right.few in
    omega (arith, there, are, few)

pub length_behind-requires : goal.length_behind-requires
length_behind-requires c = let low = turn_low c.args.left.now c.args.right.now c.args.turn c.args.region.now c.requires.so_far c.requires.room in omega (arith, low)

pub returns : goal.returns
returns c =
    let q = c.args.left.now in
    let r = c.args.right.now in
    let t = c.args.turn in
    let n = c.number.result in
    let s = c.slot-own.result in
    let o = c.slot.result in
    let v = c.in_ok-slot.slot in
    let u : Turn = record { left = t.left + 1; right = t.right + 1; length = c.length_behind.result } in
    let lt = number_there q.numbers t.left n c.number.ensures in
    let rt = number_there r.numbers t.right c.requires.next.0 c.requires.next.2 in
    let a = c.requires.left.are in
    let b = c.requires.right.are in
    let same : c.requires.next.0 ≡ n = (let a = c.requires.next.1 in let b = c.number.ensures in cc) in
    let number = c.requires.next.2 ∙ ap Some same in
    let moved = c.lifted-other.ensures ∙ moved_is (t.length + c.gap.result) o ∙ ap (λ g. moved_on (t.length + g) o) c.gap.ensures in
    let one = subst (λ p. (s ≡ None) ⊎ (p ≡ None)) moved c.in_ok-slot.ensures.1 in
    let is = c.in_ok-slot.ensures.0 ∙ ap (either s) moved in
    record {
      ok = (
        subst (Merging q r u) (sym c.in_ok-push.ensures.ok) (both_taken q r t c.args.region.now c.requires.so_far n s o v u (omega (arith, lt, a)) (omega (arith, rt, b)) c.number.ensures number c.slot-own.ensures.slot c.slot.ensures.slot c.slot-own.ensures.fits c.slot.ensures.fits one is (λ i. record { left = t.left + 1; right = t.right + 1; length = c.length_behind.ensures i })),
        omega arith,
      );
    }
