-- One list change and then another, shifted, is the text with both marks.
use Rattle.std.specs.Prelude.{◌≡◌, ℕ, ◌≤◌, ◌<◌, Bool, true, false, cond, ◌||◌, List, [], ◌∷◌, ◌++◌, length, refl, slice_set}
use Rattle.std.specs.List.{insert, remove}
use Rattle.std.proofs.Common.{sym, ◌∙◌, ap, arith, zero, suc}
use Rattle.sync_base.specs.Merged.{text, is_at}

pub or_false : (b : Bool) → (b || false) ≡ b
or_false true = refl
or_false false = refl

module _ {V : Type 0} where
  abbrev pub one : ℕ → V → ℕ → List V
  one p v g = cond (is_at p g) (v ∷ []) []

  abbrev pub none : ℕ → List V
  none g = []

  abbrev pub keep : ℕ → V → List V
  keep g x = x ∷ []

  abbrev pub cut : ℕ → ℕ → V → List V
  cut q g x = cond (is_at q g) [] (x ∷ [])

  abbrev pub swap : ℕ → V → ℕ → V → List V
  swap q w g x = cond (is_at q g) w x ∷ []

  pub plain : (xs : List V) → text none keep xs ≡ xs
  plain [] = refl
  plain (x ∷ xs) = ap (λ ys. x ∷ ys) (plain xs)

  -- one mark
  pub inserted : (xs : List V) (p : ℕ) (v : V) → p ≤ length xs → insert xs p v ≡ text (one p v) keep xs
  inserted [] zero v h = refl
  inserted [] (suc p) v h = absurd (omega arith)
  inserted (x ∷ xs) zero v h = ap (λ ys. v ∷ x ∷ ys) (sym (plain xs))
  inserted (x ∷ xs) (suc p) v h = ap (λ ys. x ∷ ys) (inserted xs p v (omega arith))

  pub removed : (xs : List V) (q : ℕ) → q < length xs → remove xs q ≡ text none (cut q) xs
  removed [] q h = absurd (omega arith)
  removed (x ∷ xs) zero h = sym (plain xs)
  removed (x ∷ xs) (suc q) h = ap (λ ys. x ∷ ys) (removed xs q (omega arith))

  pub replaced : (xs : List V) (q : ℕ) (w : V) → q < length xs → slice_set xs q w ≡ text none (swap q w) xs
  replaced [] q w h = absurd (omega arith)
  replaced (x ∷ xs) zero w h = ap (λ ys. w ∷ ys) (sym (plain xs))
  replaced (x ∷ xs) (suc q) w h = ap (λ ys. x ∷ ys) (replaced xs q w (omega arith))

  -- two marks: insertion and erasure
  pub inserted_removed_after : (xs : List V) (p q : ℕ) (v : V) → p ≤ q → q < length xs → remove (insert xs p v) (suc q) ≡ text (one p v) (cut q) xs
  inserted_removed_after [] p q v h k = absurd (omega arith)
  inserted_removed_after (x ∷ xs) zero zero v h k = ap (λ ys. v ∷ ys) (sym (plain xs))
  inserted_removed_after (x ∷ xs) zero (suc q) v h k = ap (λ ys. v ∷ x ∷ ys) (removed xs q (omega arith))
  inserted_removed_after (x ∷ xs) (suc p) zero v h k = absurd (omega arith)
  inserted_removed_after (x ∷ xs) (suc p) (suc q) v h k = ap (λ ys. x ∷ ys) (inserted_removed_after xs p q v (omega arith) (omega arith))

  pub inserted_removed_before : (xs : List V) (p q : ℕ) (v : V) → q < p → p ≤ length xs → remove (insert xs p v) q ≡ text (one p v) (cut q) xs
  inserted_removed_before [] p q v h k = absurd (omega arith)
  inserted_removed_before (x ∷ xs) zero q v h k = absurd (omega arith)
  inserted_removed_before (x ∷ xs) (suc p) zero v h k = inserted xs p v (omega arith)
  inserted_removed_before (x ∷ xs) (suc p) (suc q) v h k = ap (λ ys. x ∷ ys) (inserted_removed_before xs p q v (omega arith) (omega arith))

  -- erasure and insertion
  pub removed_inserted_before : (xs : List V) (p q : ℕ) (v : V) → p ≤ q → q < length xs → insert (remove xs q) p v ≡ text (one p v) (cut q) xs
  removed_inserted_before [] p q v h k = absurd (omega arith)
  removed_inserted_before (x ∷ xs) zero zero v h k = ap (λ ys. v ∷ ys) (sym (plain xs))
  removed_inserted_before (x ∷ xs) zero (suc q) v h k = ap (λ ys. v ∷ x ∷ ys) (removed xs q (omega arith))
  removed_inserted_before (x ∷ xs) (suc p) zero v h k = absurd (omega arith)
  removed_inserted_before (x ∷ xs) (suc p) (suc q) v h k = ap (λ ys. x ∷ ys) (removed_inserted_before xs p q v (omega arith) (omega arith))

  -- p is one more than the place after the erasure
  pub removed_inserted_after : (xs : List V) (p q : ℕ) (v : V) → q ≤ p → p < length xs → insert (remove xs q) p v ≡ text (one (suc p) v) (cut q) xs
  removed_inserted_after [] p q v h k = absurd (omega arith)
  removed_inserted_after (x ∷ xs) p zero v h k = inserted xs p v (omega arith)
  removed_inserted_after (x ∷ xs) zero (suc q) v h k = absurd (omega arith)
  removed_inserted_after (x ∷ xs) (suc p) (suc q) v h k = ap (λ ys. x ∷ ys) (removed_inserted_after xs p q v (omega arith) (omega arith))

  -- two insertions, that at p first
  pub both_inserted_after : (xs : List V) (p q : ℕ) (v w : V) → p ≤ q → q ≤ length xs → insert (insert xs p v) (suc q) w ≡ text (λ g. one p v g ++ one q w g) keep xs
  both_inserted_after [] zero zero v w h k = refl
  both_inserted_after [] p (suc q) v w h k = absurd (omega arith)
  both_inserted_after [] (suc p) zero v w h k = absurd (omega arith)
  both_inserted_after (x ∷ xs) zero zero v w h k = ap (λ ys. v ∷ w ∷ x ∷ ys) (sym (plain xs))
  both_inserted_after (x ∷ xs) zero (suc q) v w h k = ap (λ ys. v ∷ x ∷ ys) (inserted xs q w (omega arith))
  both_inserted_after (x ∷ xs) (suc p) zero v w h k = absurd (omega arith)
  both_inserted_after (x ∷ xs) (suc p) (suc q) v w h k = ap (λ ys. x ∷ ys) (both_inserted_after xs p q v w (omega arith) (omega arith))

  pub both_inserted_before : (xs : List V) (p q : ℕ) (v w : V) → q ≤ p → p ≤ length xs → insert (insert xs p v) q w ≡ text (λ g. one q w g ++ one p v g) keep xs
  both_inserted_before [] zero zero v w h k = refl
  both_inserted_before [] (suc p) q v w h k = absurd (omega arith)
  both_inserted_before [] zero (suc q) v w h k = absurd (omega arith)
  both_inserted_before (x ∷ xs) zero zero v w h k = ap (λ ys. w ∷ v ∷ x ∷ ys) (sym (plain xs))
  both_inserted_before (x ∷ xs) zero (suc q) v w h k = absurd (omega arith)
  both_inserted_before (x ∷ xs) (suc p) zero v w h k = ap (λ ys. w ∷ x ∷ ys) (inserted xs p v (omega arith))
  both_inserted_before (x ∷ xs) (suc p) (suc q) v w h k = ap (λ ys. x ∷ ys) (both_inserted_before xs p q v w (omega arith) (omega arith))

  -- two erasures; the second at what was place suc q
  abbrev pub cut_both : ℕ → ℕ → ℕ → V → List V
  cut_both p q g x = cond (is_at p g || is_at q g) [] (x ∷ [])

  pub both_removed_after : (xs : List V) (p q : ℕ) → p ≤ q → suc q < length xs → remove (remove xs p) q ≡ text none (cut_both p (suc q)) xs
  both_removed_after [] p q h k = absurd (omega arith)
  both_removed_after (x ∷ xs) zero q h k = removed xs q (omega arith)
  both_removed_after (x ∷ xs) (suc p) zero h k = absurd (omega arith)
  both_removed_after (x ∷ xs) (suc p) (suc q) h k = ap (λ ys. x ∷ ys) (both_removed_after xs p q (omega arith) (omega arith))

  pub both_removed_before : (xs : List V) (p q : ℕ) → q < p → p < length xs → remove (remove xs p) q ≡ text none (cut_both p q) xs
  both_removed_before [] p q h k = absurd (omega arith)
  both_removed_before (x ∷ xs) zero q h k = absurd (omega arith)
  both_removed_before (x ∷ xs) (suc p) zero h k = removed xs p (omega arith) ∙ ap (λ (f : ℕ → V → List V). text none f xs) (λ i g y. cond (sym (or_false (is_at p g)) i) [] (y ∷ []))
  both_removed_before (x ∷ xs) (suc p) (suc q) h k = ap (λ ys. x ∷ ys) (both_removed_before xs p q (omega arith) (omega arith))

  -- insertion and replacement
  pub inserted_replaced_after : (xs : List V) (p q : ℕ) (v w : V) → p ≤ q → q < length xs → slice_set (insert xs p v) (suc q) w ≡ text (one p v) (swap q w) xs
  inserted_replaced_after [] p q v w h k = absurd (omega arith)
  inserted_replaced_after (x ∷ xs) zero zero v w h k = ap (λ ys. v ∷ w ∷ ys) (sym (plain xs))
  inserted_replaced_after (x ∷ xs) zero (suc q) v w h k = ap (λ ys. v ∷ x ∷ ys) (replaced xs q w (omega arith))
  inserted_replaced_after (x ∷ xs) (suc p) zero v w h k = absurd (omega arith)
  inserted_replaced_after (x ∷ xs) (suc p) (suc q) v w h k = ap (λ ys. x ∷ ys) (inserted_replaced_after xs p q v w (omega arith) (omega arith))

  pub inserted_replaced_before : (xs : List V) (p q : ℕ) (v w : V) → q < p → p ≤ length xs → slice_set (insert xs p v) q w ≡ text (one p v) (swap q w) xs
  inserted_replaced_before [] p q v w h k = absurd (omega arith)
  inserted_replaced_before (x ∷ xs) zero q v w h k = absurd (omega arith)
  inserted_replaced_before (x ∷ xs) (suc p) zero v w h k = ap (λ ys. w ∷ ys) (inserted xs p v (omega arith))
  inserted_replaced_before (x ∷ xs) (suc p) (suc q) v w h k = ap (λ ys. x ∷ ys) (inserted_replaced_before xs p q v w (omega arith) (omega arith))

  pub replaced_inserted : (xs : List V) (p q : ℕ) (v w : V) → p ≤ length xs → q < length xs → insert (slice_set xs q w) p v ≡ text (one p v) (swap q w) xs
  replaced_inserted [] p q v w h k = absurd (omega arith)
  replaced_inserted (x ∷ xs) zero zero v w h k = ap (λ ys. v ∷ w ∷ ys) (sym (plain xs))
  replaced_inserted (x ∷ xs) zero (suc q) v w h k = ap (λ ys. v ∷ x ∷ ys) (replaced xs q w (omega arith))
  replaced_inserted (x ∷ xs) (suc p) zero v w h k = ap (λ ys. w ∷ ys) (inserted xs p v (omega arith))
  replaced_inserted (x ∷ xs) (suc p) (suc q) v w h k = ap (λ ys. x ∷ ys) (replaced_inserted xs p q v w (omega arith) (omega arith))

  -- erasure at p and replacement at q
  abbrev pub cut_or_swap : ℕ → ℕ → V → ℕ → V → List V
  cut_or_swap p q w g x = cond (is_at p g) [] (cond (is_at q g) w x ∷ [])

  pub removed_replaced_after : (xs : List V) (p q : ℕ) (w : V) → p ≤ q → suc q < length xs → slice_set (remove xs p) q w ≡ text none (cut_or_swap p (suc q) w) xs
  removed_replaced_after [] p q w h k = absurd (omega arith)
  removed_replaced_after (x ∷ xs) zero q w h k = replaced xs q w (omega arith)
  removed_replaced_after (x ∷ xs) (suc p) zero w h k = absurd (omega arith)
  removed_replaced_after (x ∷ xs) (suc p) (suc q) w h k = ap (λ ys. x ∷ ys) (removed_replaced_after xs p q w (omega arith) (omega arith))

  pub removed_replaced_before : (xs : List V) (p q : ℕ) (w : V) → q < p → p < length xs → slice_set (remove xs p) q w ≡ text none (cut_or_swap p q w) xs
  removed_replaced_before [] p q w h k = absurd (omega arith)
  removed_replaced_before (x ∷ xs) zero q w h k = absurd (omega arith)
  removed_replaced_before (x ∷ xs) (suc p) zero w h k = ap (λ ys. w ∷ ys) (removed xs p (omega arith))
  removed_replaced_before (x ∷ xs) (suc p) (suc q) w h k = ap (λ ys. x ∷ ys) (removed_replaced_before xs p q w (omega arith) (omega arith))

  pub removed_here : (xs : List V) (p : ℕ) (w : V) → p < length xs → remove xs p ≡ text none (cut_or_swap p p w) xs
  removed_here [] p w h = absurd (omega arith)
  removed_here (x ∷ xs) zero w h = sym (plain xs)
  removed_here (x ∷ xs) (suc p) w h = ap (λ ys. x ∷ ys) (removed_here xs p w (omega arith))

  pub replaced_removed : (xs : List V) (p q : ℕ) (w : V) → p < length xs → q < length xs → remove (slice_set xs q w) p ≡ text none (cut_or_swap p q w) xs
  replaced_removed [] p q w h k = absurd (omega arith)
  replaced_removed (x ∷ xs) zero zero w h k = sym (plain xs)
  replaced_removed (x ∷ xs) zero (suc q) w h k = replaced xs q w (omega arith)
  replaced_removed (x ∷ xs) (suc p) zero w h k = ap (λ ys. w ∷ ys) (removed xs p (omega arith))
  replaced_removed (x ∷ xs) (suc p) (suc q) w h k = ap (λ ys. x ∷ ys) (replaced_removed xs p q w (omega arith) (omega arith))

  -- two replacements, the second later
  abbrev pub swap_both : ℕ → V → ℕ → V → ℕ → V → List V
  swap_both p v q w g x = cond (is_at q g) w (cond (is_at p g) v x) ∷ []

  pub replaced_replaced : (xs : List V) (p q : ℕ) (v w : V) → p < length xs → q < length xs → slice_set (slice_set xs p v) q w ≡ text none (swap_both p v q w) xs
  replaced_replaced [] p q v w h k = absurd (omega arith)
  replaced_replaced (x ∷ xs) zero zero v w h k = ap (λ ys. w ∷ ys) (sym (plain xs))
  replaced_replaced (x ∷ xs) zero (suc q) v w h k = ap (λ ys. v ∷ ys) (replaced xs q w (omega arith))
  replaced_replaced (x ∷ xs) (suc p) zero v w h k = ap (λ ys. w ∷ ys) (replaced xs p v (omega arith))
  replaced_replaced (x ∷ xs) (suc p) (suc q) v w h k = ap (λ ys. x ∷ ys) (replaced_replaced xs p q v w (omega arith) (omega arith))

  pub replaced_once : (xs : List V) (p : ℕ) (v w : V) → p < length xs → slice_set xs p v ≡ text none (swap_both p w p v) xs
  replaced_once [] p v w h = absurd (omega arith)
  replaced_once (x ∷ xs) zero v w h = ap (λ ys. v ∷ ys) (sym (plain xs))
  replaced_once (x ∷ xs) (suc p) v w h = ap (λ ys. x ∷ ys) (replaced_once xs p v w (omega arith))
