-- A part of a list from a place to its end, and the list after that part was rewritten.
use Rattle.std.proofs.Common.{◌≡◌, ℕ, ◌+◌, ◌-◌, ◌≤◌, List, [], ◌++◌, length, take, drop, sym, ap, ◌∙◌, append-nil, arith, length-drop, length-append}
use Rattle.std.proofs.lemmas.List.{drop-drop, drop_at, length-take-le}
use Rattle.std.proofs.Math.ListN.{drop_of_length-le}
use borrow.Rule.Slice.PartMut.{put_mid}

module _ {A : Type 0} (bs part : List A) (f : ℕ) (within : f ≤ length bs) where
  nothing_after : drop (length bs - f) (drop f bs) ≡ []
  nothing_after = drop_of_length-le (drop f bs) (omega (arith, length-drop f bs))

  pub rest_part : (g : ℕ) → drop (f + g) (put_mid f (length bs - f) bs part) ≡ drop g part
  rest_part g =
      sym (drop-drop g f (put_mid f (length bs - f) bs part))
      ∙ ap (drop g) (drop_at (take f bs) (part ++ drop (length bs - f) (drop f bs)) f (length-take-le f bs within) ∙ ap (λ l. part ++ l) nothing_after ∙ append-nil part)

  pub length_part : length (put_mid f (length bs - f) bs part) ≡ f + length part
  length_part =
      length-append (take f bs) (part ++ drop (length bs - f) (drop f bs))
      ∙ (λ i. length-take-le f bs within i + length (part ++ nothing_after i)) ∙ ap (λ l. f + length l) (append-nil part)
