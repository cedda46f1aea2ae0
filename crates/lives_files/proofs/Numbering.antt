-- Lives can be numbered.
use Rattle.std.proofs.Common.{◌≡◌, ℕ, zero, suc, List, [], ◌∷◌, refl, sym, ap, ap₂, arith}
use Rattle.lives_files.specs.Files.{Numbering}

abbrev twice : ℕ → ℕ
twice zero = zero
twice (suc n) = suc (suc (twice n))

twice_one : (a b : ℕ) → twice a ≡ twice b → a ≡ b
twice_one zero zero e = refl
twice_one zero (suc b) e = absurd (omega arith)
twice_one (suc a) zero e = absurd (omega arith)
twice_one (suc a) (suc b) e = ap suc (twice_one a b (omega arith))

odd_even : (a b : ℕ) → suc (twice a) ≡ twice b → ⊥
odd_even zero zero e = absurd (omega arith)
odd_even zero (suc b) e = absurd (omega arith)
odd_even (suc a) zero e = absurd (omega arith)
odd_even (suc a) (suc b) e = odd_even a b (omega arith)

-- two numbers as one
abbrev pair : ℕ → ℕ → ℕ
pair zero b = suc (twice b)
pair (suc a) b = twice (pair a b)

pair_one : (a b c d : ℕ) → pair a b ≡ pair c d → (a ≡ c) × (b ≡ d)
pair_one zero b zero d e = (refl, twice_one b d (omega arith))
pair_one zero b (suc c) d e = absurd (odd_even b (pair c d) e)
pair_one (suc a) b zero d e = absurd (odd_even d (pair a b) (sym e))
pair_one (suc a) b (suc c) d e = let r = pair_one a b c d (twice_one (pair a b) (pair c d) e) in (ap suc r.0, r.1)

abbrev coded : List ℕ → ℕ
coded [] = 0
coded (x ∷ xs) = suc (pair x (coded xs))

coded_one : (xs ys : List ℕ) → coded xs ≡ coded ys → xs ≡ ys
coded_one [] [] e = refl
coded_one [] (y ∷ ys) e = absurd (omega arith)
coded_one (x ∷ xs) [] e = absurd (omega arith)
coded_one (x ∷ xs) (y ∷ ys) e = let r = pair_one x (coded xs) y (coded ys) (omega arith) in ap₂ (λ z zs. z ∷ zs) r.0 (coded_one xs ys r.1)

pub numbering : Numbering
numbering = record { number = coded; apart = coded_one }
