-- A list in three parts, and an edit in the middle one.
use Rattle.std.proofs.Common.{◌≡◌, ℕ, ◌+◌, ◌-◌, ◌<◌, ◌≤◌, List, ◌∷◌, ◌++◌, length, get_or, set, take, drop, slice_get, Some, refl, sym, ap, ◌∙◌, length-append, append_assoc, arith}
use Rattle.std.specs.Prelude.{insert, remove, sum_by}
use Rattle.std.proofs.lemmas.List.{length-take-le, take-append-drop, drop_more, take_at, take-append-le, set-append_left, set-append_right, get_or_append_left, get_or-append-add}
use Rattle.std.proofs.lemmas.List.Edits.{insert-append_left, insert-append_right, remove-append_left, remove-append_right}
use Rattle.std.proofs.lemmas.List.Sums.{sum_by-append}
use Rattle.std.proofs.lemmas.Option.{slice_get_read, slice_get_within, get_or_from_slice_get}

further : (n p : ℕ) → n + p - n ≡ p
further n p = omega arith

module _ {X : Type 0} where
  -- what lies in front of an item, the item, and what lies behind it
  pub cut_list : (xs : List X) (i : ℕ) (x : X) → i < length xs → x ≡ get_or xs i x → xs ≡ take i xs ++ (x ∷ drop (i + 1) xs)
  cut_list xs i x low is =
      sym (take-append-drop i xs) ∙ ap (λ l. take i xs ++ l) (drop_more xs i x low ∙ ap (λ y. y ∷ drop (i + 1) xs) (sym is))

  pub take_join : (xs zs : List X) (p : ℕ) → p ≤ length zs → take (length xs + p) (xs ++ zs) ≡ xs ++ take p zs
  take_join xs zs p low =
      let cut : xs ++ zs ≡ (xs ++ take p zs) ++ drop p zs = ap (λ l. xs ++ l) (sym (take-append-drop p zs)) ∙ sym (append_assoc xs (take p zs) (drop p zs)) in
      ap (take (length xs + p)) cut ∙ take_at (xs ++ take p zs) (drop p zs) (length xs + p) (omega (arith, length-append xs (take p zs), length-take-le p zs low))

  -- up to a place of the middle part
  pub take_within : (xs b ys : List X) (p : ℕ) → p ≤ length b → take (length xs + p) (xs ++ (b ++ ys)) ≡ xs ++ take p b
  take_within xs b ys p low =
      take_join xs (b ++ ys) p (omega (arith, length-append b ys)) ∙ ap (λ l. xs ++ l) (take-append-le p b ys low)

  pub sum_within : (f : X → ℕ) (xs b ys : List X) (p : ℕ) → p ≤ length b → sum_by f (take (length xs + p) (xs ++ (b ++ ys))) ≡ sum_by f xs + sum_by f (take p b)
  sum_within f xs b ys p low = ap (sum_by f) (take_within xs b ys p low) ∙ sum_by-append f xs (take p b)

  pub insert_within : (xs b ys : List X) (p : ℕ) (x : X) → p ≤ length b → insert (xs ++ (b ++ ys)) (length xs + p) x ≡ xs ++ (insert b p x ++ ys)
  insert_within xs b ys p x low =
      insert-append_right xs (b ++ ys) (length xs) (length xs + p) x refl (omega arith)
      ∙ ap (λ k. xs ++ insert (b ++ ys) k x) (further (length xs) p) ∙ ap (λ l. xs ++ l) (insert-append_left b ys p x low)

  pub remove_within : (xs b ys : List X) (p : ℕ) → p < length b → remove (xs ++ (b ++ ys)) (length xs + p) ≡ xs ++ (remove b p ++ ys)
  remove_within xs b ys p low =
      remove-append_right xs (b ++ ys) (length xs) (length xs + p) refl (omega arith)
      ∙ ap (λ k. xs ++ remove (b ++ ys) k) (further (length xs) p) ∙ ap (λ l. xs ++ l) (remove-append_left b ys p low)

  pub set_within : (xs b ys : List X) (p : ℕ) (x : X) → p < length b → set (xs ++ (b ++ ys)) (length xs + p) x ≡ xs ++ (set b p x ++ ys)
  set_within xs b ys p x low =
      set-append_right xs (b ++ ys) (length xs) (length xs + p) x refl (omega arith)
      ∙ ap (λ k. xs ++ set (b ++ ys) k x) (further (length xs) p) ∙ ap (λ l. xs ++ l) (set-append_left b ys p x low)

  pub get_within : (xs b ys : List X) (p : ℕ) (x : X) → slice_get b p ≡ Some x → slice_get (xs ++ (b ++ ys)) (length xs + p) ≡ Some x
  get_within xs b ys p x is =
      let low = slice_get_within b p x is in
      let read : x ≡ get_or (xs ++ (b ++ ys)) (length xs + p) x =
      sym (get_or-append-add xs (b ++ ys) p x ∙ get_or_append_left b ys x p low ∙ get_or_from_slice_get b p x x is) in
      slice_get_read (xs ++ (b ++ ys)) (length (xs ++ (b ++ ys))) (length xs + p) x refl (omega (arith, length-append xs (b ++ ys), length-append b ys)) read

  pub get_or_within : (xs b ys : List X) (p : ℕ) (d : X) → p < length b → get_or (xs ++ (b ++ ys)) (length xs + p) d ≡ get_or b p d
  get_or_within xs b ys p d low = get_or-append-add xs (b ++ ys) p d ∙ get_or_append_left b ys d p low
