use Rattle.std.proofs.Common.{◌<◌, sym, ap, ◌∙◌, arith, get_or}
use Rattle.std.proofs.lemmas.List.{get_or_read}
use Rattle.sum_list.proofs.Least.{least_more, some_before}
use Rattle.sum_list.proofs.block.least_among.Goals as goal
use Rattle.sum_list.proofs.block.least_among.Goals.{then-number-first, else-number-first}

pub loop-i-preserved : goal.loop-i-preserved
loop-i-preserved g c =
    let n = g.T.Measured.first in let items = c.args.items.now in let i = c.loop-i.i in let x = c.index-items-i.result in
    let low = c.loop-i-test.true in let read = c.first-number.ensures in let fits = c.first-number.type_inv in let was = c.loop-i.invariant in
    let more = least_more n items i x low c.index-items-i.is in let first = was.first in
    elim c.if-number-first.branch [
      | then-number-first w ↦
          let number = w.first-is in let place = w.place-is in let less = w.if-number-first.true in
          record {
            first = omega arith;
            within = λ _. omega arith;
            least = λ d _. ap (λ k. n (get_or items k d)) place ∙ ap n (sym (get_or_read items i x low c.index-items-i.is d)) ∙ sym read ∙ sym number;
          }
      | else-number-first w ↦
          let number = w.first-is in let place = w.place-is in let more_than = w.if-number-first.false in
          let some : 0 < i = some_before n items i (c.first-number.result) (omega arith) (omega arith) in let within = was.within some in
          record {
            first = omega arith;
            within = λ _. omega arith;
            least = λ d _. ap (λ k. n (get_or items k d)) place ∙ was.least d some ∙ sym number;
          }
    ]
