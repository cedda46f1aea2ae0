-- The lists that an index has as listed, after a change of its marks or of the lists.
use Rattle.std.proofs.Common.{◌≡◌, ◌≤◌, ◌<◌, ◌+◌, ℕ, zero, suc, List, [], ◌∷◌, ◌++◌, sym, ap, length, get_or, drop, map, subst, arith}
use Rattle.sync_data.specs.declared.instr.Instr.{Instr}
use Rattle.sync_rivals.specs.Marks.{Marks, IsListed, KeepsAll, KeepsOthers}
use Rattle.sync_rivals.specs.Lists.{AreListed, StandsAt, StaysAt, StaysListed, put_list}
use Rattle.sync_rivals.proofs.Kept.{listed_more, listed_others}

pub more_marks : (s t : Marks) (n k : ℕ) (ls : List (List Instr)) → KeepsAll s t → AreListed s n k ls → AreListed t n k ls
more_marks s t n zero ls g h = tt
more_marks s t n (suc k) [] g h = h
more_marks s t n (suc k) (l ∷ ls) g h = (listed_more s t n l g h.0, more_marks s t (suc n) k ls g h.1)

-- marks of a number below all of theirs
pub below_all : (s t : Marks) (m n k : ℕ) (ls : List (List Instr)) → m < n → KeepsOthers m s t → AreListed s n k ls → AreListed t n k ls
below_all s t m n zero ls b g h = tt
below_all s t m n (suc k) [] b g h = h
below_all s t m n (suc k) (l ∷ ls) b g h = (listed_others s t m n l (omega (arith, b)) g h.0, below_all s t m (suc n) k ls (omega (arith, b)) g h.1)

-- and of a number from theirs on
pub above_all : (s t : Marks) (m n k : ℕ) (ls : List (List Instr)) → n + k ≤ m → KeepsOthers m s t → AreListed s n k ls → AreListed t n k ls
above_all s t m n zero ls b g h = tt
above_all s t m n (suc k) [] b g h = h
above_all s t m n (suc k) (l ∷ ls) b g h = (listed_others s t m n l (omega (arith, b)) g h.0, above_all s t m (suc n) k ls (omega (arith, b)) g h.1)

pub one_more : (s : Marks) (n k : ℕ) (ls : List (List Instr)) (l : List Instr) → AreListed s n k ls → StandsAt k l ls → IsListed s (n + k) l → AreListed s n (suc k) ls
one_more s n zero [] l h at g = absurd at
one_more s n zero (m ∷ ls) l h at g = (subst (IsListed s n) (sym at) (subst (λ i. IsListed s i l) (omega arith) g), tt)
one_more s n (suc k) [] l h at g = absurd at
one_more s n (suc k) (m ∷ ls) l h at g = (h.0, one_more s (suc n) k ls l h.1 at (subst (λ i. IsListed s i l) (omega arith) g))

-- fewer of them
pub fewer : (s : Marks) (n k j : ℕ) (ls : List (List Instr)) → j ≤ k → AreListed s n k ls → AreListed s n j ls
fewer s n k zero ls b h = tt
fewer s n zero (suc j) ls b h = absurd (omega (arith, b))
fewer s n (suc k) (suc j) [] b h = h
fewer s n (suc k) (suc j) (l ∷ ls) b h = (h.0, fewer s (suc n) k j ls (omega (arith, b)) h.1)

pub listed_at : (s : Marks) (n k : ℕ) (ls : List (List Instr)) (i : ℕ) (l : List Instr) → AreListed s n k ls → i < k → StandsAt i l ls → IsListed s (n + i) l
listed_at s n zero ls i l h b at = absurd (omega (arith, b))
listed_at s n (suc k) [] i l h b at = absurd h
listed_at s n (suc k) (m ∷ ls) zero l h b at = subst (λ j. IsListed s j l) (omega arith) (subst (IsListed s n) at h.0)
listed_at s n (suc k) (m ∷ ls) (suc i) l h b at = subst (λ j. IsListed s j l) (omega arith) (listed_at s (suc n) k ls i l h.1 (omega (arith, b)) at)

-- another list at a place: below those that are listed no longer, and among those that are
pub put_after : (s : Marks) (n k : ℕ) (ls : List (List Instr)) (i : ℕ) (is : List Instr) → k ≤ i → AreListed s n k ls → AreListed s n k (put_list i is ls)
put_after s n zero ls i is b h = tt
put_after s n (suc k) [] i is b h = absurd h
put_after s n (suc k) (l ∷ ls) zero is b h = absurd (omega (arith, b))
put_after s n (suc k) (l ∷ ls) (suc i) is b h = (h.0, put_after s (suc n) k ls i is (omega (arith, b)) h.1)

pub put_among : (s t : Marks) (n k : ℕ) (ls : List (List Instr)) (i : ℕ) (is : List Instr) → KeepsOthers (n + i) s t → (IsListed s (n + i) is → IsListed t (n + i) is) → StaysAt i is ls → AreListed s n k ls → AreListed t n k (put_list i is ls)
put_among s t n zero ls i is g f stays h = tt
put_among s t n (suc k) [] i is g f stays h = absurd h
put_among s t n (suc k) (l ∷ ls) zero is g f stays h =
    let same : n + 0 ≡ n = omega arith in
    (subst (λ m. IsListed t m is) same (f (subst (λ m. IsListed s m is) (sym same) (stays s n h.0))), below_all s t (n + 0) (suc n) k ls (omega arith) g h.1)
put_among s t n (suc k) (l ∷ ls) (suc i) is g f stays h =
    let same : n + suc i ≡ suc n + i = omega arith in
    (listed_others s t (n + suc i) n l (omega arith) g h.0, put_among s t (suc n) k ls i is (subst (λ m. KeepsOthers m s t) same g) (subst (λ m. IsListed s m is → IsListed t m is) same f) stays h.1)

-- where what stands there is listed where the one before it was, no mark has to change
pub put_same_listed : (s : Marks) (n k : ℕ) (ls : List (List Instr)) (i : ℕ) (is : List Instr) → StaysAt i is ls → AreListed s n k ls → AreListed s n k (put_list i is ls)
put_same_listed s n k ls i is stays h = put_among s s n k ls i is (λ m b g. g) (λ g. g) stays h

-- ---- of what the lists are made
pub pushed : (s : Marks) (n k : ℕ) (ls : List (List Instr)) (l : List Instr) → AreListed s n k ls → AreListed s n k (ls ++ l ∷ [])
pushed s n zero ls l h = tt
pushed s n (suc k) [] l h = absurd h
pushed s n (suc k) (m ∷ ls) l h = (h.0, pushed s (suc n) k ls l h.1)

module _ {A : Type 0} (list_of : A → List Instr) where
  pub stands_at : (as_ : List A) (i : ℕ) (a : A) → i < length as_ → a ≡ get_or as_ i a → StandsAt i (list_of a) (map list_of as_)
  stands_at [] i a b e = absurd (omega (arith, b))
  stands_at (x ∷ as_) zero a b e = ap list_of (sym e)
  stands_at (x ∷ as_) (suc i) a b e = stands_at as_ i a (omega (arith, b)) e

  pub stays_at : (as_ : List A) (i : ℕ) (is : List Instr) (a : A) (rest : List A) → drop i as_ ≡ a ∷ rest → StaysListed (list_of a) is → StaysAt i is (map list_of as_)
  stays_at [] zero is a rest e h = cc
  stays_at [] (suc i) is a rest e h = cc
  stays_at (x ∷ as_) zero is a rest e h = let g : x ≡ a = cc in subst (λ y. StaysListed (list_of y) is) (sym g) h
  stays_at (x ∷ as_) (suc i) is a rest e h = stays_at as_ i is a rest e h
