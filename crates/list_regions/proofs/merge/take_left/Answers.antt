use Rattle.std.proofs.Common.{◌≡◌, ◌+◌, drop, sym, subst, arith}
use Rattle.list_regions.specs.Regions.{Ahead}
use Rattle.list_regions.specs.Merges.{Merging}
use Rattle.list_regions.specs.declared.merge.Turn.{Turn}
use Rattle.list_regions.proofs.Turned.{number_there, turn_low, left_taken}
use Rattle.list_regions.proofs.merge.take_left.Goals as goal

pub slot-slot-requires : goal.slot-slot-requires
slot-slot-requires c =
    let there = number_there c.args.left.now.numbers c.args.turn.left c.requires.next.0 c.requires.next.1 in
    let are = c.requires.left.are in
    omega (arith, there, are)

pub overflow_add-result : goal.overflow_add-result
overflow_add-result c =
    let there = number_there c.args.left.now.numbers c.args.turn.left c.number.result c.number.ensures in
    let are = c.requires.left.are in
    let few = c.requires.left.few in
    omega (arith, there, are, few)

pub length_behind-requires : goal.length_behind-requires
length_behind-requires c = let low = turn_low c.args.left.now c.args.right.now c.args.turn c.args.region.now c.requires.so_far c.requires.room in omega (arith, low)

pub returns : goal.returns
returns c =
    let q = c.args.left.now in
    let r = c.args.right.now in
    let t = c.args.turn in
    let n = c.number.result in
    let s = c.slot-slot.result in
    let u : Turn = record { left = t.left + 1; right = t.right; length = c.length_behind.result } in
    let there = number_there q.numbers t.left n c.number.ensures in
    let are = c.requires.left.are in
    let same : c.requires.next.0 ≡ n = (let a = c.requires.next.1 in let b = c.number.ensures in cc) in
    let ahead = subst (λ k. Ahead k (drop t.right r.numbers)) same c.requires.next.2 in
    record {
      ok = (
        subst (Merging q r u) (sym c.in_ok-push.ensures.ok) (left_taken q r t c.args.region.now c.requires.so_far n s u (omega (arith, there, are)) c.number.ensures ahead c.slot-slot.ensures.slot c.slot-slot.ensures.fits (λ i. record { left = t.left + 1; right = t.right; length = c.length_behind.ensures i })),
        omega arith,
      );
    }
