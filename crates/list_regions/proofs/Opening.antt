-- Elements become a region, or come to one.
use Rattle.std.proofs.Common.{◌≡◌, ℕ, zero, suc, ◌+◌, ◌<◌, List, [], ◌∷◌, ◌++◌, length, take, set, Some, refl, sym, ap, subst, arith}
use Rattle.std.specs.Prelude.{slice_get}
use Rattle.list_regions.specs.Regions.{RegionOf, before, befores, Woven, next}
use Rattle.list_regions.specs.Kept.{with_gap, fresh, with_fresh, with_front}
use Rattle.list_regions.proofs.Edits.{Same, SameWhole, same_behind, fresh_gap, fresh_front, fresh_tail, fresh_first}
use Rattle.list_regions.proofs.Growing.{front_grown, first_grown}

-- ---- a region without slots among elements
module _ (k : ℕ) (q : RegionOf) (p y g : ℕ) (more : 0 < g) (e : q.gap ≡ p + (y + g)) where
  fresh_woven : (qs : List RegionOf) (i : ℕ) → slice_get qs i ≡ Some q → 0 < p → Same k qs (with_fresh qs i q p y g)
  fresh_woven [] i h lt n ls ss w = cc
  fresh_woven (x ∷ qs) zero h lt n ls ss w = let j : x ≡ q = cc in fresh_gap k p y g q qs lt more e n ls ss (subst (λ (r : RegionOf). Woven k n ls (r ∷ qs) ss) j w)
  fresh_woven (x ∷ qs) (suc i) h lt n ls ss (next {fs = fs} {rs = rs} z f m d) = next z f (fresh_woven qs i h lt x.lane.first fs rs m) d

  pub fresh_whole : (qs : List RegionOf) (i : ℕ) → slice_get qs i ≡ Some q → (0 < i → 0 < p) → SameWhole k qs (with_fresh qs i q p y g)
  fresh_whole [] i h lt = cc
  fresh_whole (x ∷ qs) zero h lt = let j : x ≡ q = cc in subst (λ (r : RegionOf). SameWhole k (r ∷ qs) (fresh p y ∷ with_gap g q ∷ qs)) (sym j) (fresh_front k p y g q qs more e)
  fresh_whole (x ∷ qs) (suc i) h lt = same_behind k x qs (with_fresh qs i q p y g) (fresh_woven qs i h (lt (omega arith)))

fresh_sum : (q : RegionOf) (p y g : ℕ) → q.gap ≡ p + (y + g) → (qs : List RegionOf) (i : ℕ) → slice_get qs i ≡ Some q → befores (with_fresh qs i q p y g) ≡ befores qs
fresh_sum q p y g e [] i h = cc
fresh_sum q p y g e (x ∷ qs) zero h = let j : x ≡ q = cc in let u = ap before j in omega (arith, u, e)
fresh_sum q p y g e (x ∷ qs) (suc i) h = let u = fresh_sum q p y g e qs i h in omega (arith, u)

pub fresh_befores : (q : RegionOf) (p y g : ℕ) → q.gap ≡ p + (y + g) → (qs : List RegionOf) (i : ℕ) → slice_get qs i ≡ Some q → befores (with_fresh qs i q p y g) ≡ befores qs
fresh_befores = fresh_sum

pub fresh_get : (q : RegionOf) (p y g : ℕ) (qs : List RegionOf) (i : ℕ) → slice_get qs i ≡ Some q → slice_get (with_fresh qs i q p y g) i ≡ Some (fresh p y)
fresh_get q p y g [] i h = cc
fresh_get q p y g (x ∷ qs) zero h = refl
fresh_get q p y g (x ∷ qs) (suc i) h = fresh_get q p y g qs i h

pub fresh_take : (q : RegionOf) (p y g : ℕ) (qs : List RegionOf) (i : ℕ) → slice_get qs i ≡ Some q → take i (with_fresh qs i q p y g) ≡ take i qs
fresh_take q p y g [] i h = cc
fresh_take q p y g (x ∷ qs) zero h = refl
fresh_take q p y g (x ∷ qs) (suc i) h = ap (λ r. x ∷ r) (fresh_take q p y g qs i h)

-- ---- or behind all regions
module _ (k : ℕ) (p y : ℕ) where
  tail_woven : (qs : List RegionOf) → 0 < p → Same k qs (qs ++ fresh p y ∷ [])
  tail_woven [] lt n ls ss w = fresh_tail k p y lt n ls ss w
  tail_woven (x ∷ qs) lt n ls ss (next {fs = fs} {rs = rs} z f m d) = next z f (tail_woven qs lt x.lane.first fs rs m) d

  pub tail_whole : (qs : List RegionOf) → (0 < length qs → 0 < p) → SameWhole k qs (qs ++ fresh p y ∷ [])
  tail_whole [] lt = fresh_first k p y
  tail_whole (x ∷ qs) lt = same_behind k x qs (qs ++ fresh p y ∷ []) (tail_woven qs (lt (omega arith)))

pub tail_befores : (p y : ℕ) (qs : List RegionOf) → befores (qs ++ fresh p y ∷ []) ≡ befores qs + (p + y)
tail_befores p y [] = omega arith
tail_befores p y (x ∷ qs) = let u = tail_befores p y qs in omega (arith, u)

pub tail_get : (p y : ℕ) (qs : List RegionOf) → slice_get (qs ++ fresh p y ∷ []) (length qs) ≡ Some (fresh p y)
tail_get p y [] = refl
tail_get p y (x ∷ qs) = tail_get p y qs

pub tail_take : (p y : ℕ) (qs : List RegionOf) → take (length qs) (qs ++ fresh p y ∷ []) ≡ qs
tail_take p y [] = refl
tail_take p y (x ∷ qs) = ap (λ r. x ∷ r) (tail_take p y qs)

-- ---- a region takes the element in front of it
module _ (k : ℕ) (q : RegionOf) where
  grown_woven : (qs : List RegionOf) (i : ℕ) → slice_get qs i ≡ Some q → 1 < q.gap → Same k qs (set qs i (with_front q))
  grown_woven [] i h lt n ls ss w = cc
  grown_woven (x ∷ qs) zero h lt n ls ss w = let j : x ≡ q = cc in front_grown k q qs lt n ls ss (subst (λ (r : RegionOf). Woven k n ls (r ∷ qs) ss) j w)
  grown_woven (x ∷ qs) (suc i) h lt n ls ss (next {fs = fs} {rs = rs} z f m d) = next z f (grown_woven qs i h lt x.lane.first fs rs m) d

  pub grown_whole : (qs : List RegionOf) (i : ℕ) → slice_get qs i ≡ Some q → 0 < q.gap → (0 < i → 1 < q.gap) → SameWhole k qs (set qs i (with_front q))
  grown_whole [] i h z lt = cc
  grown_whole (x ∷ qs) zero h z lt = let j : x ≡ q = cc in subst (λ (r : RegionOf). SameWhole k (r ∷ qs) (with_front q ∷ qs)) (sym j) (first_grown k q qs z)
  grown_whole (x ∷ qs) (suc i) h z lt = same_behind k x qs (set qs i (with_front q)) (grown_woven qs i h (lt (omega arith)))

pub set_befores : (q y : RegionOf) (qs : List RegionOf) (i : ℕ) → slice_get qs i ≡ Some q → befores (set qs i y) + before q ≡ befores qs + before y
set_befores q y [] i h = cc
set_befores q y (x ∷ qs) zero h = let j : x ≡ q = cc in let u = ap before j in omega (arith, u)
set_befores q y (x ∷ qs) (suc i) h = let u = set_befores q y qs i h in omega (arith, u)

pub set_get : (q y : RegionOf) (qs : List RegionOf) (i : ℕ) → slice_get qs i ≡ Some q → slice_get (set qs i y) i ≡ Some y
set_get q y [] i h = cc
set_get q y (x ∷ qs) zero h = refl
set_get q y (x ∷ qs) (suc i) h = set_get q y qs i h

pub set_take : (y : RegionOf) (qs : List RegionOf) (i : ℕ) → take i (set qs i y) ≡ take i qs
set_take y [] zero = refl
set_take y [] (suc i) = refl
set_take y (x ∷ qs) zero = refl
set_take y (x ∷ qs) (suc i) = ap (λ r. x ∷ r) (set_take y qs i)
