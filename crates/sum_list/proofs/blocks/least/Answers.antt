use Rattle.std.proofs.Common.{◌+◌, ◌<◌, ◌≤◌, List, length, take, drop, get_or, sym, ap, ◌∙◌, subst, arith}
use Rattle.std.specs.Prelude.{All}
use Rattle.std.proofs.lemmas.Bool.{eqb-false}
use Rattle.sum_list.specs.Block.{least}
use Rattle.sum_list.specs.Blocks.{joined}
use Rattle.sum_list.proofs.Joined.{cut, ends_within}
use Rattle.sum_list.proofs.Least.{least_joined}
use Rattle.sum_list.proofs.Parts.{get_or_within}
use Rattle.sum_list.proofs.blocks.least.Goals as goal

pub overflow_add-front : goal.overflow_add-front
overflow_add-front g c =
    let front = c.loop-i.invariant.front in let len = c.len-front.ensures.len in
    let ends = ends_within c.args.blocks.now c.loop-i.i c.index-blocks-i.result c.loop-i-test.true c.index-blocks-i.is in omega arith

pub overflow_add-result : goal.overflow_add-result
overflow_add-result g c =
    let some = eqb-false (length c.args.blocks.now) 0 (sym c.is_empty.ensures ∙ c.if-is_empty.false) in let long = c.loop-i-test.false in
    let within = c.loop-i.invariant.within (omega arith) in
    let place = c.loop-i.invariant.place in let low = c.least.ensures.within in
    let ends = ends_within c.args.blocks.now c.loop-i.seat.block c.index-blocks-seat.result (omega arith) c.index-blocks-seat.is in omega arith

pub returns : goal.returns
returns g c =
    let n = g.T.Measured.first in let bs = c.args.blocks.now in let seat = c.loop-i.seat in let b = c.index-blocks-seat.result in
    let p = c.least.result in let was = c.loop-i.invariant in let low = c.least.ensures.within in let is = c.index-blocks-seat.is in
    let i = c.loop-i.i in let long = c.loop-i-test.false in let empty = eqb-false (length bs) 0 (sym c.is_empty.ensures ∙ c.if-is_empty.false) in
    let some : 0 < i = omega arith in let within = was.within some in let there : seat.block < length bs = omega arith in
    let ends = ends_within bs seat.block b there is in let place = was.place in
    let all = least_joined n bs c.loop-i.first (λ k d h. was.low k d (omega (arith, h))) in
    record {
      within = omega arith;
      least = λ d.
          let same = (λ k. get_or (cut bs seat.block b there is k) (place k + p) d) ∙ get_or_within (joined (take seat.block bs)) b (joined (drop (seat.block + 1) bs)) p d low in
          let first = ap n same ∙ c.least.ensures.least d ∙ ap (λ (l : List g.row.T.Denot). least n l) is ∙ was.first b some in
          subst (λ v. All (λ x. v ≤ n x) (joined bs)) (sym first) all;
    }
