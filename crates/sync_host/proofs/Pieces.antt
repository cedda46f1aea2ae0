-- Bytes that are put one piece behind the other.
use Rattle.std.proofs.Common.{◌≡◌, ℕ, ◌+◌, ◌<◌, List, ◌∷◌, ◌++◌, length, drop, get_or, sym, ap, ◌∙◌, append_assoc}
use Rattle.std.specs.List.{flat_map}
use Rattle.std.proofs.lemmas.List.{at_drop_more}

and_then : (out a b x y : List ℕ) → x ≡ out ++ a → y ≡ x ++ b → y ≡ out ++ (a ++ b)
and_then out a b x y e f = f ∙ ap (λ (l : List ℕ). l ++ b) e ∙ append_assoc out a b

pub five : (out a b c d e v w x y z : List ℕ) → v ≡ out ++ a → w ≡ v ++ b → x ≡ w ++ c → y ≡ x ++ d → z ≡ y ++ e → z ≡ out ++ ((((a ++ b) ++ c) ++ d) ++ e)
five out a b c d e v w x y z p q r s t =
    and_then out (((a ++ b) ++ c) ++ d) e y z (and_then out ((a ++ b) ++ c) d x y (and_then out (a ++ b) c w x (and_then out a b v w p q) r) s) t

module _ {A : Type 0} (tell : A → List ℕ) where
  pub one_told : (out more all : List ℕ) (left rest : List A) (x : A) → left ≡ x ∷ rest → more ≡ out ++ tell x → out ++ flat_map tell left ≡ all → more ++ flat_map tell rest ≡ all
  one_told out more all left rest x left_is more_is so_far =
      ap (λ (o : List ℕ). o ++ flat_map tell rest) more_is ∙ append_assoc out (tell x) (flat_map tell rest) ∙ sym (ap (λ (l : List A). out ++ flat_map tell l) left_is) ∙ so_far

  -- the item at a place
  pub item_told : (out more all : List ℕ) (xs : List A) (i : ℕ) (x : A) → i < length xs → x ≡ get_or xs i x → more ≡ out ++ tell x → out ++ flat_map tell (drop i xs) ≡ all → more ++ flat_map tell (drop (i + 1) xs) ≡ all
  item_told out more all xs i x inside is more_is so_far =
      one_told out more all (drop i xs) (drop (i + 1) xs) x (at_drop_more (λ (l : List A). l) xs i x inside ∙ ap (λ (y : A). y ∷ drop (i + 1) xs) (sym is)) more_is so_far
