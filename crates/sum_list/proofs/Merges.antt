-- Two neighbouring blocks that become one.
use Rattle.std.proofs.Common.{◌≡◌, ℕ, suc, ◌+◌, ◌<◌, List, ◌∷◌, ◌++◌, length, get_or, set, take, drop, sym, ap, ◌∙◌, append_assoc, arith}
use Rattle.std.specs.Prelude.{insert, remove}
use Rattle.std.proofs.lemmas.List.{length-take-le, take-append-le, take-take, drop_at, drop_more, get_or_default}
use Rattle.std.proofs.lemmas.List.Edits.{length-remove, get_or-remove_below}
use Rattle.sum_list.specs.Blocks.{joined}
use Rattle.sum_list.proofs.Joined.{one_further, cut, joined_set, joined_insert}

module _ {X : Type 0} (bs : List (List X)) (i : ℕ) (one next : List X) (low : i + 1 < length bs) (is-one : one ≡ get_or bs i one) (is-next : next ≡ get_or bs (i + 1) next) where
  -- the first of them stays where it was
  pub still : (x : List X) → x ≡ get_or (remove bs (i + 1)) i x → x ≡ one
  still x read = read ∙ get_or-remove_below bs (i + 1) x i (omega arith) low ∙ get_or_default bs i x one (omega arith) ∙ sym is-one

  together : joined (take i (remove bs (i + 1))) ++ ((one ++ next) ++ joined (drop (i + 1) (remove bs (i + 1)))) ≡ joined bs
  together =
      let front = take-append-le i (take (i + 1) bs) (drop (suc (i + 1)) bs) (omega (arith, length-take-le (i + 1) bs (omega arith))) ∙ take-take i (i + 1) bs (omega arith) in
      let back = drop_at (take (i + 1) bs) (drop (suc (i + 1)) bs) (i + 1) (length-take-le (i + 1) bs (omega arith)) ∙ ap (λ k. drop k bs) (one_further (i + 1)) in
      let xs = joined (take i bs) in let ys = joined (drop (i + 1 + 1) bs) in
      (λ k. joined (front k) ++ ((one ++ next) ++ joined (back k))) ∙ ap (λ l. xs ++ l) (append_assoc one next ys)
      ∙ sym (cut bs i one (omega arith) is-one ∙ ap (λ l. xs ++ (one ++ joined l)) (drop_more bs (i + 1) next low ∙ ap (λ y. y ∷ drop (i + 1 + 1) bs) (sym is-next)))

  room : i < length (remove bs (i + 1))
  room = omega (arith, length-remove bs (i + 1) low)

  pub merged : joined (set (remove bs (i + 1)) i (one ++ next)) ≡ joined bs
  merged = joined_set (remove bs (i + 1)) i (one ++ next) room ∙ together

  pub put_back : joined (insert (set (remove bs (i + 1)) i one) (i + 1) next) ≡ joined bs
  put_back = joined_insert (remove bs (i + 1)) i one next room ∙ together
