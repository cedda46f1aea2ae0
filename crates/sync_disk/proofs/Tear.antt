-- How bytes are torn, one after the other.
use Rattle.std.proofs.Common.{◌≡◌, ℕ, ◌+◌, ◌-◌, ◌<◌, Bool, true, false, nat_lt, if◌then◌else◌, List, [], ◌∷◌, ◌++◌, length, take, drop, get_or, sym, ◌∙◌, ap, arith, append_assoc}
use Rattle.std.proofs.lemmas.List.{drop_more, take_more, take_more_set, drop-set-lt}
use Rattle.std.proofs.Math.ListN.{set}
use Rattle.std.proofs.lemmas.Bool.Decides.{nat_tests}
use Rattle.sync_disk.specs.Images.{is_written}
use Rattle.sync_disk.specs.Leaving.{tear}

module _ (k left : ℕ) (ranges : List (ℕ × ℕ)) (bytes : List ℕ) (inside : k < length bytes) where
  b : ℕ
  b = get_or bytes k 0

  rest : List ℕ
  rest = drop (k + 1) bytes

  step : tear k left ranges (drop k bytes) ≡ (if is_written k ranges then (if nat_lt 0 left then b ∷ tear (k + 1) (left - 1) ranges rest else 0x5a ∷ tear (k + 1) 0 ranges rest) else b ∷ tear (k + 1) left ranges rest)
  unfolding b rest
  step = ap (tear k left ranges) (drop_more bytes k 0 inside)

  moved : (tail : List ℕ) → take k bytes ++ b ∷ tail ≡ take (k + 1) bytes ++ tail
  unfolding b
  moved tail = sym (append_assoc (take k bytes) (get_or bytes k 0 ∷ []) tail) ∙ ap (λ (l : List ℕ). l ++ tail) (sym (take_more bytes k 0 inside))

  -- a place that wasn't written
  pub tear_kept : is_written k ranges ≡ false → take k bytes ++ tear k left ranges (drop k bytes) ≡ take (k + 1) bytes ++ tear (k + 1) left ranges (drop (k + 1) bytes)
  unfolding rest
  tear_kept out =
      ap (λ (l : List ℕ). take k bytes ++ l) (step ∙ ap (λ (w : Bool). if w then (if nat_lt 0 left then b ∷ tear (k + 1) (left - 1) ranges rest else 0x5a ∷ tear (k + 1) 0 ranges rest) else b ∷ tear (k + 1) left ranges rest) out)
      ∙ moved (tear (k + 1) left ranges rest)

  -- one of the first half of those that were
  pub tear_half : is_written k ranges ≡ true → 0 < left → take k bytes ++ tear k left ranges (drop k bytes) ≡ take (k + 1) bytes ++ tear (k + 1) (left - 1) ranges (drop (k + 1) bytes)
  unfolding rest
  tear_half there more =
      let some : nat_lt 0 left ≡ true = grind (arith, nat_tests) in
      ap (λ (l : List ℕ). take k bytes ++ l)
      (step ∙ ap (λ (w : Bool). if w then (if nat_lt 0 left then b ∷ tear (k + 1) (left - 1) ranges rest else 0x5a ∷ tear (k + 1) 0 ranges rest) else b ∷ tear (k + 1) left ranges rest) there
      ∙ ap (λ (w : Bool). if w then b ∷ tear (k + 1) (left - 1) ranges rest else 0x5a ∷ tear (k + 1) 0 ranges rest) some)
      ∙ moved (tear (k + 1) (left - 1) ranges rest)

  -- one of the others
  pub tear_torn : is_written k ranges ≡ true → left ≡ 0 → take k bytes ++ tear k left ranges (drop k bytes) ≡ take (k + 1) (set bytes k 0x5a) ++ tear (k + 1) left ranges (drop (k + 1) (set bytes k 0x5a))
  unfolding rest
  tear_torn there none =
      let no : nat_lt 0 left ≡ false = grind (arith, nat_tests) in
      ap (λ (l : List ℕ). take k bytes ++ l)
      (step ∙ ap (λ (w : Bool). if w then (if nat_lt 0 left then b ∷ tear (k + 1) (left - 1) ranges rest else 0x5a ∷ tear (k + 1) 0 ranges rest) else b ∷ tear (k + 1) left ranges rest) there
      ∙ ap (λ (w : Bool). if w then b ∷ tear (k + 1) (left - 1) ranges rest else 0x5a ∷ tear (k + 1) 0 ranges rest) no)
      ∙ sym (append_assoc (take k bytes) (0x5a ∷ []) (tear (k + 1) 0 ranges rest))
      ∙ ap (λ (l : List ℕ). l ++ tear (k + 1) 0 ranges rest) (sym (take_more_set bytes k 0x5a inside))
      ∙ ap (λ (l : List ℕ). take (k + 1) (set bytes k 0x5a) ++ tear (k + 1) 0 ranges l) (sym (drop-set-lt (k + 1) bytes k 0x5a (omega arith)))
      ∙ ap (λ (n : ℕ). take (k + 1) (set bytes k 0x5a) ++ tear (k + 1) n ranges (drop (k + 1) (set bytes k 0x5a))) (sym none)
