-- The least number of the items of a list, and of those of several.
use Rattle.std.proofs.Common.{◌≡◌, ℕ, zero, suc, ◌+◌, ◌<◌, ◌≤◌, List, [], ◌∷◌, ◌++◌, min, length, get_or, take, sym, ap, ◌∙◌, arith}
use Rattle.std.specs.Prelude.{All, insert}
use Rattle.std.proofs.lemmas.List.{take_more}
use Rattle.std.proofs.lemmas.List.Elements.{All-nil, All-append}
use Rattle.sum_list.specs.Block.{least}
use Rattle.sum_list.specs.Blocks.{joined}

module _ {X : Type 0} (n : X → ℕ) where
  pub least-append : (xs ys : List X) → least n (xs ++ ys) ≡ min (least n xs) (least n ys)
  least-append [] [] = omega arith
  least-append [] (y ∷ ys) = let rest = least-append [] ys in omega arith
  least-append (x ∷ xs) ys = let rest = least-append xs ys in omega arith

  pub least_few : (xs : List X) → least n xs ≤ 18446744073709551615
  least_few [] = omega arith
  least_few (x ∷ xs) = let rest = least_few xs in omega arith

  pub least_more : (xs : List X) (i : ℕ) (x : X) → i < length xs → x ≡ get_or xs i x → least n (take (i + 1) xs) ≡ min (least n (take i xs)) (n x)
  least_more xs i x low is =
      let e = ap (least n) (take_more xs i x low ∙ ap (λ y. take i xs ++ y ∷ []) (sym is)) in
      let cut = least-append (take i xs) (x ∷ []) in let few = least_few (take i xs) in omega arith

  pub least-insert : (xs : List X) (i : ℕ) (x : X) → least n (insert xs i x) ≡ min (least n xs) (n x)
  least-insert xs zero x = omega arith
  least-insert [] (suc i) x = omega arith
  least-insert (y ∷ ys) (suc i) x = let rest = least-insert ys i x in omega arith

  pub some_before : (xs : List X) (i v : ℕ) → least n (take i xs) < v → v < 18446744073709551616 → 0 < i
  some_before xs zero v low few = absurd (omega arith)
  some_before xs (suc i) v low few = omega arith

  single : (x : X) (v k : ℕ) (d : X) → k < 1 → v ≤ n x → v ≤ n (get_or (x ∷ []) k d)
  single x v zero d h low = low
  single x v (suc k) d h low = absurd (omega arith)

  -- no item is below the least number
  pub least_low : (xs : List X) (v : ℕ) → v ≤ least n xs → All (λ x. v ≤ n x) xs
  least_low [] v low = All-nil (λ x. v ≤ n x)
  least_low (x ∷ xs) v low = All-append (λ y. v ≤ n y) (x ∷ []) xs (λ k d h. single x v k d h (omega arith)) (least_low xs v (omega arith))

  pub least_joined : (bs : List (List X)) (v : ℕ) → ((k : ℕ) (d : List X) → k < length bs → v ≤ least n (get_or bs k d)) → All (λ x. v ≤ n x) (joined bs)
  least_joined [] v low = All-nil (λ x. v ≤ n x)
  least_joined (b ∷ bs) v low = All-append (λ x. v ≤ n x) b (joined bs) (least_low b v (low zero b (omega arith))) (least_joined bs v (λ k d h. low (suc k) d (omega arith)))
