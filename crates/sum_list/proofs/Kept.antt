-- The measures of a list with one more item.
use Rattle.std.proofs.Common.{◌≡◌, ℕ, ◌+◌, ◌^◌, ◌<◌, ◌≤◌, List, min, length, get_or, take, ap, arith}
use Rattle.std.specs.Prelude.{insert}
use Rattle.std.proofs.lemmas.List.{length-take-le}
use Rattle.std.proofs.lemmas.List.Edits.{length-insert}
use Rattle.std.proofs.lemmas.List.Sums.{sum_by_more, sum_by-insert}
use Rattle.sum_list.specs.declared.block.Measures.{Measures}
use Rattle.sum_list.specs.Block.{Keeps, IsBlock}
use Rattle.sum_list.proofs.Least.{least_more, least-insert}

module _ {X : Type 0} (f g n : X → ℕ) where
  pub keeps_more : (xs : List X) (i : ℕ) (m r : Measures) (x : X) → i < length xs → x ≡ get_or xs i x → Keeps f g n (take i xs) m → r.before ≡ m.before + f x → r.after ≡ m.after + g x → r.first ≡ min m.first (n x) → f x < 2 ^ 32 → g x < 2 ^ 32 → Keeps f g n (take (i + 1) xs) r
  keeps_more xs i m r x low is k rb ra rf lf lg =
      let long = length-take-le i xs (omega arith) in let longer = length-take-le (i + 1) xs (omega arith) in
      let fx = ap f is in let gx = ap g is in
      let b = sum_by_more f xs i x low in let a = sum_by_more g xs i x low in let l = least_more n xs i x low is in
      let kb = k.before in let ka = k.after in let kf = k.first in let mb = k.low_before in let ma = k.low_after in
      record {
        before = omega arith;
        after = omega arith;
        first = omega arith;
        low_before = omega arith;
        low_after = omega arith;
      }

  pub block_more : (xs : List X) (i : ℕ) (x : X) (m r : Measures) → IsBlock f g n xs m → i ≤ length xs → length xs < 128 → r.before ≡ m.before + f x → r.after ≡ m.after + g x → r.first ≡ min m.first (n x) → f x < 2 ^ 32 → g x < 2 ^ 32 → IsBlock f g n (insert xs i x) r
  block_more xs i x m r b at few rb ra rf lf lg =
      let long = length-insert xs i x at in let k = b.keeps in
      let sb = sum_by-insert f xs i x in let sa = sum_by-insert g xs i x in let l = least-insert n xs i x in
      let kb = k.before in let ka = k.after in let kf = k.first in let mb = k.low_before in let ma = k.low_after in
      record {
        keeps = record { before = omega arith; after = omega arith; first = omega arith; low_before = omega arith; low_after = omega arith };
        some = omega arith;
        few = omega arith;
      }
