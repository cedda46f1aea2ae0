-- An item of a list is replaced, and once more.
use Rattle.std.proofs.Common.{◌≡◌, ℕ, zero, suc, ◌<◌, List, [], ◌∷◌, length, set, Some, Result, Ok, Err, true, false, refl, ap, arith}
use Rattle.std.specs.Prelude.{slice_get, insert, OnOk, OnErr, is_ok, is_err}

pub set_twice : {A : Type 0} (xs : List A) (i : ℕ) (x y : A) → set (set xs i x) i y ≡ set xs i y
set_twice [] i x y = refl
set_twice (z ∷ xs) zero x y = refl
set_twice (z ∷ xs) (suc i) x y = ap (λ r. z ∷ r) (set_twice xs i x y)

pub same_item : {A : Type 0} (xs : List A) (i : ℕ) (x y : A) → slice_get xs i ≡ Some x → slice_get xs i ≡ Some y → x ≡ y
same_item xs i x y e h = cc

pub set_same : {A : Type 0} (xs : List A) (i : ℕ) (x : A) → slice_get xs i ≡ Some x → set xs i x ≡ xs
set_same [] i x e = refl
set_same (z ∷ xs) zero x e = let h : x ≡ z = cc in ap (λ r. r ∷ xs) h
set_same (z ∷ xs) (suc i) x e = ap (λ r. z ∷ r) (set_same xs i x e)

-- what follows an item that is put in
pub inserted_next : {A : Type 0} (xs : List A) (i : ℕ) (x : A) → i < length xs → slice_get (insert xs i x) (suc i) ≡ slice_get xs i
inserted_next [] i x lt = absurd (omega (arith, lt))
inserted_next (z ∷ xs) zero x lt = refl
inserted_next (z ∷ xs) (suc i) x lt = inserted_next xs i x (omega (arith, lt))

pub insert_set : {A : Type 0} (xs : List A) (i : ℕ) (x y : A) → i < length xs → set (insert xs i x) (suc i) y ≡ insert (set xs i y) i x
insert_set [] i x y lt = absurd (omega (arith, lt))
insert_set (z ∷ xs) zero x y lt = refl
insert_set (z ∷ xs) (suc i) x y lt = ap (λ r. z ∷ r) (insert_set xs i x y (omega (arith, lt)))

pub some_there : {A : Type 0} (xs : List A) (i : ℕ) → i < length xs → (x : A) × (slice_get xs i ≡ Some x)
some_there [] i lt = absurd (omega (arith, lt))
some_there (z ∷ xs) zero lt = (z, refl)
some_there (z ∷ xs) (suc i) lt = some_there xs i (omega (arith, lt))

-- what holds of a result that is no error
pub ok_of : {A E : Type 0} {P : Type 0} (r : Result A E) → is_err r ≡ false → OnOk r P → P
ok_of (Ok x) e p = p
ok_of (Err y) e p = cc

pub of_ok : {A E : Type 0} {P : Type 0} (r : Result A E) → is_ok r ≡ true → OnOk r P → P
of_ok (Ok x) e p = p
of_ok (Err y) e p = cc

pub on_err : {A E : Type 0} {P : Type 0} (r : Result A E) → P → OnErr r P
on_err (Ok x) p = tt
on_err (Err y) p = p

pub set_length : {A : Type 0} (xs : List A) (i : ℕ) (x : A) → length (set xs i x) ≡ length xs
set_length [] i x = refl
set_length (z ∷ xs) zero x = refl
set_length (z ∷ xs) (suc i) x = ap (λ n. suc n) (set_length xs i x)
