-- One turn of the loops that rewrite lists in their places.
use Rattle.std.proofs.Common.{◌≡◌, ℕ, ◌+◌, ◌<◌, ◌≤◌, List, ◌∷◌, ◌++◌, Bool, true, false, cond, Option, Some, None, Result, Ok, length, take, drop, sym, ap, ◌∙◌, arith}
use Rattle.std.proofs.lemmas.List.{drop-set, drop-set-lt, take-set-le, set-get_or}
use Rattle.std.proofs.Math.ListN.{set, get_or}
use Rattle.sync_theory.specs.Lists.{kept, row, cross}
use Rattle.sync_theory.specs.Loops.{row_after, cross_after}
use Rattle.sync_theory.proofs.Steps.{row_step, row_gone, cross_step}

-- xs is the list before the turn, ys with the element at r taken out, zs with what is left of it put at w
module _ {A : Type 0} (xs ys zs : List A) (w r j : ℕ) (b : A) (y : Option A) (opened : drop r xs ≡ b ∷ drop (r + 1) ys) (before : (n : ℕ) → n ≤ r → take n ys ≡ take n xs)
    (laid : take j zs ≡ take w ys ++ kept y) (after : (n : ℕ) → w < n → drop n zs ≡ drop n ys) (order : w ≤ r) where
  pub row_turn : {L M : Type 0} (meet : L → A → Result (Option L × Option A) M) (whole : Result (Option L × List A) (ℕ × M)) (a : L) (x : Option L) → whole ≡ row_after (take w xs) r (row meet (Some a) (drop r xs)) → meet a b ≡ Ok (x, y)
      → whole ≡ row_after (take j zs) (r + 1) (row meet x (drop (r + 1) zs))
  row_turn meet whole a x inv m =
      let s = row_step meet (take w xs) r a b (drop (r + 1) ys) x y m in
      let e = before w order in
      let f = after (r + 1) (omega arith) in
      cc

  pub cross_turn : {R M : Type 0} (meet : A → R → Result (Option A × Option R) M) (whole : Result (List A × List R) (ℕ × ℕ × M)) (bs ds : List R) → whole ≡ cross_after (take w xs) r (cross meet (drop r xs) bs) → row meet (Some b) bs ≡ Ok (y, ds)
      → whole ≡ cross_after (take j zs) (r + 1) (cross meet (drop (r + 1) zs) ds)
  cross_turn meet whole bs ds inv m =
      let s = cross_step meet (take w xs) r b (drop (r + 1) ys) bs y ds m in
      let e = before w order in
      let f = after (r + 1) (omega arith) in
      cc

-- the element at r becomes x in its place, and is kept as the next one
pub in_place : {L R M : Type 0} (meet : L → R → Result (Option L × Option R) M) (xs zs : List R) (w r j : ℕ) (d x : R) (a now : L) → r < length xs → w ≤ r
    → ((b : R) → drop r (set xs r x) ≡ b ∷ drop (r + 1) (set xs r x) → take j zs ≡ take w (set xs r x) ++ kept (Some b)) → drop (r + 1) zs ≡ drop (r + 1) (set xs r x) → meet a (get_or xs r d) ≡ Ok (Some now, Some x)
    → row_after (take w xs) r (row meet (Some a) (drop r xs)) ≡ row_after (take j zs) (r + 1) (row meet (Some now) (drop (r + 1) zs))
in_place meet xs zs w r j d x a now within order kept_next after m =
    let opened : drop r xs ≡ get_or xs r d ∷ drop (r + 1) xs = ap (drop r) (sym (set-get_or xs r d)) ∙ drop-set xs r (get_or xs r d) within in
    let rest = drop-set-lt (r + 1) xs r x (omega arith) in
    let front = take-set-le w xs r x order in
    let laid = kept_next x (drop-set xs r x within ∙ ap (λ l. x ∷ l) (sym rest)) in
    let s = row_step meet (take w xs) r a (get_or xs r d) (drop (r + 1) xs) (Some now) (Some x) m in
    cc

-- the instruction is gone: what is left of the list stays
pub row_over : {L R M : Type 0} (meet : L → R → Result (Option L × Option R) M) (whole : Result (Option L × List R) (ℕ × M)) (cs : List R) (n : ℕ) (stays : Bool) (x : L) (bs : List R) → stays ≡ false
    → whole ≡ row_after cs n (row meet (cond stays (Some x) None) bs) → whole ≡ Ok (None, cs ++ bs)
row_over meet whole cs n true x bs h e = cc
row_over meet whole cs n false x bs h e = e ∙ row_gone meet cs n bs
