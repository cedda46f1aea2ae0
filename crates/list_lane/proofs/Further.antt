-- Two instructions whose places are both further on by one number.
use Rattle.std.proofs.Common.{◌≡◌, ℕ, ◌+◌, ◌-◌, ◌<◌, Bool, true, false, cond, not, ◌&&◌, ◌||◌, Option, Some, None, refl, ap, ◌∙◌, arith}
use Rattle.std.specs.Prelude.{◌==◌, nat_lt, nat_le}
use Rattle.std.specs.Option.{option_map}
use Rattle.std.proofs.lemmas.Bool.{leb-false, ltb-false, eqb-false}
use Rattle.std.proofs.lemmas.Bool.Decides.{nat_tests}
use Rattle.list_places.specs.Places.{place_after}
use Rattle.list_places.specs.declared.places.Does.{Does}
use Rattle.list_places.specs.declared.places.Does.TheVariants.{Inserts, Erases, Updates}

lt_on : (k p q : ℕ) → nat_lt (p + k) (q + k) ≡ nat_lt p q
lt_on k p q = grind (arith, nat_tests)

le_on : (k p q : ℕ) → nat_le (p + k) (q + k) ≡ nat_le p q
le_on k p q = grind (arith, nat_tests)

eq_on : (k p q : ℕ) → ((p + k) == (q + k)) ≡ (p == q)
eq_on k p q = grind (arith, nat_tests)

abbrev pub on : ℕ → Option ℕ → Option ℕ
on k x = option_map (λ m. m + k) x

some_on : (k p : ℕ) (t : Bool) → Some (cond t (p + k) (p + k + 1)) ≡ on k (Some (cond t p (p + 1)))
some_on k p true = refl
some_on k p false = ap Some (omega arith)

up_on : (k p : ℕ) (t : Bool) → Some (cond t (p + k + 1) (p + k)) ≡ on k (Some (cond t (p + 1) p))
up_on k p true = ap Some (omega arith)
up_on k p false = refl

down_on : (k p : ℕ) (t : Bool) → (t ≡ false → 0 < p) → Some (cond t (p + k) (p + k - 1)) ≡ on k (Some (cond t p (p - 1)))
down_on k p true h = refl
down_on k p false h = let g = h refl in ap Some (omega (arith, g))

erased_on : (k p q : ℕ) (t : Bool) → (p == q) ≡ t → cond t None (Some (cond (nat_lt p q) (p + k) (p + k - 1))) ≡ on k (cond t None (Some (cond (nat_lt p q) p (p - 1))))
erased_on k p q true e = refl
erased_on k p q false e = down_on k p (nat_lt p q) (λ h. let m = ltb-false p q h in let n = eqb-false p q e in grind (arith, m, n))

updated_on : (k p : ℕ) (t l : Bool) → cond t (cond l (Some (p + k)) None) (Some (p + k)) ≡ on k (cond t (cond l (Some p) None) (Some p))
updated_on k p true true = refl
updated_on k p true false = refl
updated_on k p false l = refl

pub further : (k : ℕ) (l : Bool) (d e : Does) (p q : ℕ) → place_after l d (p + k) e (q + k) ≡ on k (place_after l d p e q)
further k l Inserts Inserts p q = (λ i. Some (cond (lt_on k p q i || (eq_on k p q i && not l)) (p + k) (p + k + 1))) ∙ some_on k p (nat_lt p q || ((p == q) && not l))
further k l Inserts Erases p q = (λ i. Some (cond (le_on k p q i) (p + k) (p + k - 1))) ∙ down_on k p (nat_le p q) (λ h. let m = leb-false p q h in omega (arith, m))
further k l Inserts Updates p q = refl
further k l Erases Inserts p q = (λ i. Some (cond (le_on k q p i) (p + k + 1) (p + k))) ∙ up_on k p (nat_le q p)
further k l Erases Erases p q = (λ i. cond (eq_on k p q i) None (Some (cond (lt_on k p q i) (p + k) (p + k - 1)))) ∙ erased_on k p q (p == q) refl
further k l Erases Updates p q = refl
further k l Updates Inserts p q = (λ i. Some (cond (le_on k q p i) (p + k + 1) (p + k))) ∙ up_on k p (nat_le q p)
further k l Updates Erases p q = (λ i. cond (eq_on k p q i) None (Some (cond (lt_on k p q i) (p + k) (p + k - 1)))) ∙ erased_on k p q (p == q) refl
further k l Updates Updates p q = (λ i. cond (eq_on k p q i) (cond l (Some (p + k)) None) (Some (p + k))) ∙ updated_on k p (p == q) l
