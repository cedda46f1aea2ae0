-- The lengths of a list after two instructions that met.
use Rattle.std.proofs.Common.{◌≡◌, ℕ, ◌-◌, Bool, true, false, cond, not, Option, Some, None, refl, arith}
use Rattle.std.specs.Prelude.{◌==◌, nat_lt}
use Rattle.std.proofs.lemmas.Bool.Decides.{nat_tests}
use Rattle.list_places.specs.Places.{longer, Within, place_after}
use Rattle.list_places.specs.declared.places.Does.{Does}
use Rattle.list_places.specs.declared.places.Does.TheVariants.{Inserts, Erases, Updates}

-- the lengths of the lists after both, where both are left, one or none
abbrev pub Lengths : Does → Does → ℕ → Option ℕ → Option ℕ → Type 0
Lengths d e n (Some p) (Some q) = longer d (longer e n) ≡ longer e (longer d n)
Lengths d e n None (Some q) = longer e (longer d n) ≡ longer e n
Lengths d e n (Some p) None = longer d (longer e n) ≡ longer d n
Lengths d e n None None = longer d n ≡ longer e n

two_erased : (n x y : ℕ) (t u : Bool) → u ≡ t → Lengths Erases Erases n (cond t None (Some x)) (cond u None (Some y))
two_erased n x y true true h = refl
two_erased n x y true false h = cc
two_erased n x y false true h = cc
two_erased n x y false false h = refl

two_updated : (n p q : ℕ) (t u l m : Bool) → Lengths Updates Updates n (cond t (cond l (Some p) None) (Some p)) (cond u (cond m (Some q) None) (Some q))
two_updated n p q true true true true = refl
two_updated n p q true true true false = refl
two_updated n p q true true false true = refl
two_updated n p q true true false false = refl
two_updated n p q true false true m = refl
two_updated n p q true false false m = refl
two_updated n p q false true l true = refl
two_updated n p q false true l false = refl
two_updated n p q false false l m = refl

number_turned : (m n : ℕ) → (m == n) ≡ (n == m)
number_turned m n = grind (arith, nat_tests)

pub lengths : (l : Bool) (d e : Does) (p q n : ℕ) → Within d p n → Within e q n → Lengths d e n (place_after l d p e q) (place_after (not l) e q d p)
lengths l Inserts Inserts p q n f g = refl
lengths l Inserts Erases p q n f g = omega (arith, g)
lengths l Inserts Updates p q n f g = refl
lengths l Erases Inserts p q n f g = omega (arith, f)
lengths l Erases Erases p q n f g = two_erased n _ _ (p == q) (q == p) (number_turned q p)
lengths l Erases Updates p q n f g = elim (q == p) as (λ u. Lengths Erases Updates n (Some p) (cond u None (Some (cond (nat_lt q p) q (q - 1))))) [ true ↦ refl | false ↦ refl ]
lengths l Updates Inserts p q n f g = refl
lengths l Updates Erases p q n f g = elim (p == q) as (λ t. Lengths Updates Erases n (cond t None (Some (cond (nat_lt p q) p (p - 1)))) (Some q)) [ true ↦ refl | false ↦ refl ]
lengths l Updates Updates p q n f g = two_updated n p q (p == q) (q == p) l (not l)
