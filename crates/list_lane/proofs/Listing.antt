-- Slots in one list.
use Rattle.std.proofs.Common.{◌≡◌, ℕ, zero, suc, ◌+◌, ◌<◌, ◌≤◌, List, [], ◌∷◌, ◌++◌, length, drop, get_or, Option, refl, sym, ap, ◌∙◌, append_assoc, append-nil, arith}
use Rattle.list_lane.specs.Lanes.{slot_at}
use Rattle.list_lane.specs.Flat.{joined}
use Rattle.list_lane.specs.declared.op.Op.{Op}
use Rattle.list_lane.proofs.Joins.{joined_more}

pub slot_rest : (ss : List (Option Op)) (i : ℕ) → i < length ss → drop i ss ≡ slot_at i ss ∷ drop (i + 1) ss
slot_rest ss i lt = let e : suc i ≡ i + 1 = omega arith in one ss i lt ∙ ap (λ n. slot_at i ss ∷ drop n ss) e
  where
    one : (ss : List (Option Op)) (i : ℕ) → i < length ss → drop i ss ≡ slot_at i ss ∷ drop (suc i) ss
    one [] i lt = absurd (omega (arith, lt))
    one (s ∷ ss) zero lt = refl
    one (s ∷ ss) (suc i) lt = one ss i (omega (arith, lt))

none_left : {A : Type 0} (xs : List A) (i : ℕ) → length xs ≤ i → drop i xs ≡ []
none_left [] zero h = refl
none_left [] (suc i) h = refl
none_left (x ∷ xs) zero h = absurd (omega (arith, h))
none_left (x ∷ xs) (suc i) h = none_left xs i (omega (arith, h))

-- so far, and what follows, is all; one slot further, and at the end
pub slot_turn : (whole xs ys ss : List (Option Op)) (i : ℕ) → i < length ss → xs ++ drop i ss ≡ whole → ys ≡ xs ++ slot_at i ss ∷ [] → ys ++ drop (i + 1) ss ≡ whole
slot_turn whole xs ys ss i lt e h =
    ap (λ r. r ++ drop (i + 1) ss) h ∙ append_assoc xs (slot_at i ss ∷ []) (drop (i + 1) ss) ∙ ap (λ r. xs ++ r) (sym (slot_rest ss i lt)) ∙ e

pub slot_end : (whole xs ss : List (Option Op)) (i : ℕ) → length ss ≤ i → xs ++ drop i ss ≡ whole → xs ≡ whole
slot_end whole xs ss i le e = sym (append-nil xs) ∙ ap (λ r. xs ++ r) (sym (none_left ss i le)) ∙ e

-- the same by bursts
pub burst_turn : (whole xs ys : List (Option Op)) (bs : List (List (Option Op))) (i : ℕ) (d x : List (Option Op)) → i < length bs → x ≡ get_or bs i d → xs ++ joined (drop i bs) ≡ whole → ys ≡ xs ++ x → ys ++ joined (drop (i + 1) bs) ≡ whole
burst_turn whole xs ys bs i d x lt at e h =
    ap (λ r. r ++ joined (drop (i + 1) bs)) h ∙ append_assoc xs x (joined (drop (i + 1) bs)) ∙ ap (λ r. xs ++ r) (sym (joined_more bs i d x lt at)) ∙ e

pub burst_end : (whole xs : List (Option Op)) (bs : List (List (Option Op))) (i : ℕ) → length bs ≤ i → xs ++ joined (drop i bs) ≡ whole → xs ≡ whole
burst_end whole xs bs i le e = sym (append-nil xs) ∙ ap (λ r. xs ++ joined r) (sym (none_left bs i le)) ∙ e
