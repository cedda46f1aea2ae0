use Rattle.std.proofs.Common.{◌+◌, length, drop, arith}
use Rattle.list_regions.proofs.Sets.{some_there}
use Rattle.list_regions.proofs.Turned.{none_left, first_some, second_some, ahead_none, ahead_one, number_rest}
use Rattle.list_regions.proofs.merge.order.Goals as goal

pub returns-then-turn-len : goal.returns-then-turn-len
returns-then-turn-len c =
    let q = c.args.left.now in
    let r = c.args.right.now in
    let t = c.args.turn in
    let past = c.if-turn-len.true in
    let len = c.len.ensures.slots in
    let a = c.requires.left.are in
    let b = c.requires.right.are in
    let lt = first_some t.left (length q.lane.slots) t.right (length r.lane.slots) c.requires.some (omega (arith, past, len)) in
    let h = some_there q.numbers t.left (omega (arith, lt, a)) in
    (h.0, h.1, ahead_none h.0 (drop t.right r.numbers) (none_left r.numbers t.right (omega (arith, past, len, b))))

pub returns-then-turn-len-2 : goal.returns-then-turn-len-2
returns-then-turn-len-2 c =
    let q = c.args.left.now in
    let r = c.args.right.now in
    let t = c.args.turn in
    let past = c.if-turn-len-2.true in
    let len = c.len-2.ensures.slots in
    let a = c.requires.left.are in
    let b = c.requires.right.are in
    let lt = second_some t.left (length q.lane.slots) t.right (length r.lane.slots) c.requires.some (omega (arith, past, len)) in
    let h = some_there r.numbers t.right (omega (arith, lt, b)) in
    (h.0, h.1, ahead_none h.0 (drop t.left q.numbers) (none_left q.numbers t.left (omega (arith, past, len, a))))

pub returns-then-one-other : goal.returns-then-one-other
returns-then-one-other c =
    let r = c.args.right.now in
    let t = c.args.turn in
    (c.number-one.result, c.number-one.ensures, ahead_one c.number-one.result c.number-other.result (drop t.right r.numbers) (drop (t.right + 1) r.numbers) (number_rest r.numbers t.right c.number-other.result c.number-other.ensures) c.if-one-other.true)

pub returns-then-other-one : goal.returns-then-other-one
returns-then-other-one c =
    let q = c.args.left.now in
    let t = c.args.turn in
    (c.number-other.result, c.number-other.ensures, ahead_one c.number-other.result c.number-one.result (drop t.left q.numbers) (drop (t.left + 1) q.numbers) (number_rest q.numbers t.left c.number-one.result c.number-one.ensures) c.if-other-one.true)
