use Rattle.std.proofs.Common.{◌≡◌, ◌+◌, drop, refl, sym, ap, ◌∙◌, subst, arith}
use Rattle.list_lane.specs.Lanes.{length_before}
use Rattle.list_regions.specs.Regions.{Ahead, moved_on}
use Rattle.list_regions.specs.Kept.{pushed_region}
use Rattle.list_regions.specs.Merges.{Merging}
use Rattle.list_regions.specs.declared.merge.Turn.{Turn}
use Rattle.list_regions.proofs.Popping.{moved_is}
use Rattle.list_regions.proofs.Turned.{number_there, turn_low, right_low, right_taken}
use Rattle.list_regions.proofs.merge.take_right.Goals as goal

pub slot-requires : goal.slot-requires
slot-requires c =
    let there = number_there c.args.right.now.numbers c.args.turn.right c.requires.next.0 c.requires.next.1 in
    let are = c.requires.right.are in
    omega (arith, there, are)

pub number-requires : goal.number-requires
number-requires c = number_there c.args.right.now.numbers c.args.turn.right c.requires.next.0 c.requires.next.1

pub lifted-slot-requires : goal.lifted-slot-requires
lifted-slot-requires c =
    let r = c.args.right.now in
    let t = c.args.turn in
    let low = turn_low c.args.left.now r t c.args.region.now c.requires.so_far c.requires.room in
    right_low c.slot.result (t.length + c.gap.result) t.length r.gap (length_before t.right r.lane.first r.lane.slots) c.slot.ensures.fits low (ap (λ n. t.length + n) c.gap.ensures)

pub overflow_add-result : goal.overflow_add-result
overflow_add-result c =
    let there = number_there c.args.right.now.numbers c.args.turn.right c.number.result c.number.ensures in
    let are = c.requires.right.are in
    let few = c.requires.right.few in
    omega (arith, there, are, few)

pub returns : goal.returns
returns c =
    let q = c.args.left.now in
    let r = c.args.right.now in
    let t = c.args.turn in
    let n = c.number.result in
    let s = c.slot.result in
    let u : Turn = record { left = t.left; right = t.right + 1; length = t.length } in
    let there = number_there r.numbers t.right n c.number.ensures in
    let are = c.requires.right.are in
    let same : c.requires.next.0 ≡ n = (let a = c.requires.next.1 in let b = c.number.ensures in cc) in
    let ahead = subst (λ k. Ahead k (drop t.left q.numbers)) same c.requires.next.2 in
    let moved = c.lifted-slot.ensures ∙ moved_is (t.length + c.gap.result) s ∙ ap (λ g. moved_on (t.length + g) s) c.gap.ensures in
    record {
      ok = (
        subst (Merging q r u) (sym (c.in_ok-push.ensures.ok ∙ ap (λ v. pushed_region n v c.args.region.now) moved)) (right_taken q r t c.args.region.now c.requires.so_far n s u (omega (arith, there, are)) c.number.ensures ahead c.slot.ensures.slot c.slot.ensures.fits refl),
        omega arith,
      );
    }
