-- Blocks that are joined, and an edit of one of them.
use Rattle.std.proofs.Common.{◌≡◌, ℕ, suc, ◌+◌, ◌<◌, ◌≤◌, List, [], ◌∷◌, ◌++◌, length, get_or, set, take, drop, slice_get, Some, sym, ap, subst, ◌∙◌, length-append, append_assoc, append-nil, add-one, arith}
use Rattle.std.specs.Prelude.{insert, remove}
use Rattle.std.proofs.lemmas.List.{take-append-drop, take_more, drop_more, set_split, take_more_set, drop-set-lt, drop_all}
use Rattle.std.proofs.lemmas.List.Concat.{flat_map-append}
use Rattle.std.proofs.lemmas.Option.{slice_get_within, get_or_from_slice_get}
use Rattle.sum_list.specs.declared.blocks.Seat.{Seat}
use Rattle.sum_list.specs.Blocks.{joined, IsSeat}

pub one_further : (i : ℕ) → suc i ≡ i + 1
one_further i = sym (add-one i)

module _ {X : Type 0} where
  pub joined-append : (bs cs : List (List X)) → joined (bs ++ cs) ≡ joined bs ++ joined cs
  joined-append bs cs = flat_map-append (λ xs. xs) bs cs

  pub joined_more : (bs : List (List X)) (i : ℕ) (b : List X) → i < length bs → b ≡ get_or bs i b → joined (take (i + 1) bs) ≡ joined (take i bs) ++ b
  joined_more bs i b low is =
      ap joined (take_more bs i b low) ∙ joined-append (take i bs) (get_or bs i b ∷ []) ∙ ap (λ l. joined (take i bs) ++ l) (append-nil (get_or bs i b) ∙ sym is)

  -- what lies in front of a block, the block, and what lies behind it
  pub cut : (bs : List (List X)) (i : ℕ) (b : List X) → i < length bs → b ≡ get_or bs i b → joined bs ≡ joined (take i bs) ++ (b ++ joined (drop (i + 1) bs))
  cut bs i b low is =
      ap joined (sym (take-append-drop i bs)) ∙ joined-append (take i bs) (drop i bs)
      ∙ ap (λ l. joined (take i bs) ++ joined l) (drop_more bs i b low ∙ ap (λ y. y ∷ drop (i + 1) bs) (sym is))

  pub cut_at : (bs : List (List X)) (i : ℕ) (b : List X) → slice_get bs i ≡ Some b → joined bs ≡ joined (take i bs) ++ (b ++ joined (drop (i + 1) bs))
  cut_at bs i b is = cut bs i b (slice_get_within bs i b is) (sym (get_or_from_slice_get bs i b b is))

  pub joined_set : (bs : List (List X)) (i : ℕ) (c : List X) → i < length bs → joined (set bs i c) ≡ joined (take i bs) ++ (c ++ joined (drop (i + 1) bs))
  joined_set bs i c low =
      ap joined (set_split bs i c low) ∙ joined-append (take i bs) (c ∷ drop (suc i) bs)
      ∙ ap (λ k. joined (take i bs) ++ (c ++ joined (drop k bs))) (one_further i)

  pub joined_insert : (bs : List (List X)) (i : ℕ) (c u : List X) → i < length bs → joined (insert (set bs i c) (i + 1) u) ≡ joined (take i bs) ++ ((c ++ u) ++ joined (drop (i + 1) bs))
  joined_insert bs i c u low =
      let xs = joined (take i bs) in let ys = joined (drop (i + 1) bs) in
      (λ k. joined (take_more_set bs i c low k ++ u ∷ drop-set-lt (i + 1) bs i c (omega arith) k))
      ∙ joined-append (take i bs ++ c ∷ []) (u ∷ drop (i + 1) bs)
      ∙ ap (λ l. l ++ (u ++ ys)) (joined-append (take i bs) (c ∷ []) ∙ ap (λ l. xs ++ l) (append-nil c))
      ∙ append_assoc xs c (u ++ ys) ∙ ap (λ l. xs ++ l) (sym (append_assoc c u ys))

  pub joined_remove : (bs : List (List X)) (i : ℕ) → joined (remove bs i) ≡ joined (take i bs) ++ joined (drop (i + 1) bs)
  joined_remove bs i = joined-append (take i bs) (drop (suc i) bs) ∙ ap (λ k. joined (take i bs) ++ joined (drop k bs)) (one_further i)

  -- a block ends within the list, and the last one with it
  pub ends_within : (bs : List (List X)) (i : ℕ) (b : List X) → i < length bs → b ≡ get_or bs i b → length (joined (take i bs)) + length b ≤ length (joined bs)
  ends_within bs i b low is =
      let xs = joined (take i bs) in let ys = joined (drop (i + 1) bs) in
      let whole = ap length (cut bs i b low is) in let long = length-append xs (b ++ ys) in let longer = length-append b ys in omega arith

  pub ends_last : (bs : List (List X)) (i : ℕ) (b : List X) → i + 1 ≡ length bs → b ≡ get_or bs i b → length (joined bs) ≡ length (joined (take i bs)) + length b
  ends_last bs i b last is =
      let low : i < length bs = omega arith in
      let none = ap (λ l. length (joined l)) (drop_all (i + 1) bs (omega arith)) in
      let xs = joined (take i bs) in let ys = joined (drop (i + 1) bs) in
      let whole = ap length (cut bs i b low is) in let long = length-append xs (b ++ ys) in let longer = length-append b ys in omega arith

  -- what holds of the block that was read at a seat
  pub seated : (bs : List (List X)) (place : ℕ) (seat : Seat) → IsSeat bs place seat → (b : List X) → b ≡ get_or bs seat.block b → (slice_get bs seat.block ≡ Some b) × (seat.within ≤ length b) × (place < length (joined bs) → seat.within < length b)
  seated bs place seat s b read =
      let same : s.block ≡ b = sym (read ∙ get_or_from_slice_get bs seat.block s.block b s.is) in
      (s.is ∙ ap Some same, subst (λ (l : List X). seat.within ≤ length l) same s.ends, λ low. subst (λ (l : List X). seat.within < length l) same (s.within low))
