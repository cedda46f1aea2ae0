-- Lists that are put together piece by piece, and what is left of one from a place on.
use Rattle.std.proofs.Common.{◌≡◌, ℕ, zero, suc, ◌+◌, ◌≤◌, List, [], ◌∷◌, ◌++◌, length, map, drop, Option, Some, None, refl, sym, ap, ◌∙◌, arith, append_assoc, add-one}
use Rattle.std.specs.Prelude.{slice_get}
use Rattle.std.specs.Option.{option_map}
use Rattle.sync_model.specs.Worlds.{at}

-- one item more
pub one_more : {A B : Type 0} (f : A → B) (xs ys : List A) (x : A) (rest : List B) → ys ≡ xs ++ x ∷ [] → map f ys ++ rest ≡ map f xs ++ f x ∷ rest
one_more {A = A} f xs ys x rest e = ap (λ l. map f l ++ rest) e ∙ on xs
  where
    on : (xs : List A) → map f (xs ++ x ∷ []) ++ rest ≡ map f xs ++ f x ∷ rest
    on [] = refl
    on (y ∷ ys) = ap (λ l. f y ∷ l) (on ys)

-- one piece behind the other
pub and_more : {A : Type 0} (a b c x y : List A) → b ≡ a ++ x → c ≡ b ++ y → c ≡ a ++ (x ++ y)
and_more a b c x y e f = f ∙ ap (λ l. l ++ y) e ∙ append_assoc a x y

-- nothing is left
pub no_more : {A : Type 0} (xs rest all : List A) → rest ≡ [] → xs ++ rest ≡ all → xs ≡ all
no_more {A = A} xs rest all e f = sym (on xs) ∙ ap (λ l. xs ++ l) (sym e) ∙ f
  where
    on : (xs : List A) → xs ++ [] ≡ xs
    on [] = refl
    on (x ∷ xs) = ap (λ l. x ∷ l) (on xs)

-- what is left from a place on
pub at_some : {A : Type 0} (xs : List A) (k : ℕ) (x : A) → at xs k ≡ Some x → drop k xs ≡ x ∷ drop (k + 1) xs
at_some {A = A} xs k x e = on xs k e ∙ ap (λ n. x ∷ drop n xs) (sym (add-one k))
  where
    on : (xs : List A) (k : ℕ) → at xs k ≡ Some x → drop k xs ≡ x ∷ drop (suc k) xs
    on [] k e = cc
    on (y ∷ ys) zero e = let same : y ≡ x = cc in ap (λ z. z ∷ ys) same
    on (y ∷ ys) (suc k) e = on ys k e

pub at_none : {A : Type 0} (xs : List A) (k : ℕ) → at xs k ≡ None → drop k xs ≡ []
at_none [] zero e = refl
at_none [] (suc k) e = refl
at_none (y ∷ ys) zero e = cc
at_none (y ∷ ys) (suc k) e = at_none ys k e

pub drop_all : {A : Type 0} (xs : List A) (k : ℕ) → length xs ≤ k → drop k xs ≡ []
drop_all [] zero h = refl
drop_all [] (suc k) h = refl
drop_all (y ∷ ys) zero h = absurd (omega (arith, h))
drop_all (y ∷ ys) (suc k) h = drop_all ys k (omega (arith, h))

pub get_at : {A : Type 0} (xs : List A) (k : ℕ) → slice_get xs k ≡ at xs k
get_at [] k = refl
get_at (x ∷ xs) zero = refl
get_at (x ∷ xs) (suc k) = get_at xs k

-- what is read of the item at a place tells of it
pub read_some : {A B : Type 0} (f : A → B) (o : Option A) (y : B) → Some y ≡ option_map f o → (x : A) × (o ≡ Some x) × (f x ≡ y)
read_some f None y e = cc
read_some f (Some x) y e = let same : f x ≡ y = cc in (x, refl, same)

pub read_none : {A B : Type 0} (f : A → B) (o : Option A) → None ≡ option_map f o → o ≡ None
read_none f None e = refl
read_none f (Some x) e = cc

-- an item that is put
pub put_one : {A B : Type 0} (f : A → B) (xs ys : List A) (x : A) → ys ≡ xs ++ x ∷ [] → map f ys ≡ map f xs ++ f x ∷ []
put_one {A = A} f xs ys x e = ap (map f) e ∙ on xs
  where
    on : (xs : List A) → map f (xs ++ x ∷ []) ≡ map f xs ++ f x ∷ []
    on [] = refl
    on (y ∷ ys) = ap (λ l. f y ∷ l) (on ys)

pub none_next : {A : Type 0} (xs : List A) (k : ℕ) → at xs k ≡ None → drop k xs ≡ drop (k + 1) xs
none_next {A = A} xs k e = on xs k e ∙ ap (λ n. drop n xs) (sym (add-one k))
  where
    on : (xs : List A) (k : ℕ) → at xs k ≡ None → drop k xs ≡ drop (suc k) xs
    on [] zero e = refl
    on [] (suc k) e = refl
    on (y ∷ ys) zero e = cc
    on (y ∷ ys) (suc k) e = on ys k e
