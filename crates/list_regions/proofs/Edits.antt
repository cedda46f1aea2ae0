-- Regions are cut otherwise, and tell the same slots.
use Rattle.std.proofs.Common.{◌≡◌, ℕ, zero, suc, ◌+◌, ◌<◌, List, [], ◌∷◌, ◌++◌, length, take, drop, Option, Some, None, refl, sym, ap, subst, arith}
use Rattle.list_places.specs.Places.{longer, Within}
use Rattle.list_places.specs.declared.places.Does.{Does}
use Rattle.list_places.specs.declared.places.Does.TheVariants.{Inserts, Erases, Updates}
use Rattle.list_lane.specs.Lanes.{Chains}
use Rattle.list_lane.specs.Parts.{Parts, end, empty, front, back, from}
use Rattle.list_lane.specs.declared.op.Op.{Op}
use Rattle.list_lane.proofs.Turns.{whole_again}
use Rattle.list_regions.specs.Regions.{RegionOf, AllEmpty, empties, Spread, skip, end as done, Woven, last, next, Whole, none, first}
use Rattle.list_regions.specs.Kept.{with_gap, fresh, onward}
use Rattle.list_regions.proofs.Spreads.{all_empties}
use Rattle.list_regions.proofs.Behind.{alone}

-- ---- slots of elements behind others
pub within_on : (d : Does) (p n x : ℕ) → Within d p x → Within d (p + n) (x + n)
within_on Inserts p n x h = omega (arith, h)
within_on Erases p n x h = omega (arith, h)
within_on Updates p n x h = omega (arith, h)

pub longer_on : (d : Does) (p n x : ℕ) → Within d p x → longer d (x + n) ≡ longer d x + n
longer_on Inserts p n x h = omega arith
longer_on Erases p n x h = omega (arith, h)
longer_on Updates p n x h = refl

pub within_more : (d : Does) (p n x : ℕ) → Within d p x → Within d p (x + n)
within_more Inserts p n x h = omega (arith, h)
within_more Erases p n x h = omega (arith, h)
within_more Updates p n x h = omega (arith, h)

-- ---- elements that part a lane, in two
pub split_gap : (p n g : ℕ) {x : ℕ} {ss ls rs : List (Option Op)} → g ≡ p + n → Parts g x ss ls rs → Parts p x ss ls (onward n rs)
split_gap p n g e end = end
split_gap p n g e (empty d) = empty (split_gap p n g e d)
split_gap p n g e (front w d) = front w (split_gap p n g e d)
split_gap p n g {x = x} e (back {a = a} {ss = ss} {ls = ls} {rs = rs} d) =
    let k : a.place + n + (x + p) ≡ a.place + (x + g) = omega (arith, e) in
    subst (λ m. Parts p x (Some (record a { place = m }) ∷ ss) (None ∷ ls) (Some (from n a) ∷ onward n rs)) k (back {a = from n a} (split_gap p n g e d))

pub join_gap : (p n g : ℕ) (ts : List (Option Op)) {x : ℕ} {ss ls rs : List (Option Op)} → g ≡ p + n → rs ≡ onward n ts → Parts p x ss ls rs → Parts g x ss ls ts
join_gap p n g [] e h end = end
join_gap p n g (None ∷ ts) e h end = absurd (cc)
join_gap p n g (Some a ∷ ts) e h end = absurd (cc)
join_gap p n g [] e h (empty d) = absurd (cc)
join_gap p n g (None ∷ ts) e h (empty d) = empty (join_gap p n g ts e (cc) d)
join_gap p n g (Some a ∷ ts) e h (empty d) = absurd (cc)
join_gap p n g [] e h (front w d) = absurd (cc)
join_gap p n g (None ∷ ts) e h (front w d) = front w (join_gap p n g ts e (cc) d)
join_gap p n g (Some a ∷ ts) e h (front w d) = absurd (cc)
join_gap p n g [] e h (back d) = absurd (cc)
join_gap p n g (None ∷ ts) e h (back d) = absurd (cc)
join_gap p n g (Some b ∷ ts) {x = x} e h (back {a = a} {ss = ss} {ls = ls} {rs = rs} d) =
    let i : a ≡ from n b = cc in
    let k : b.place + n + (x + p) ≡ b.place + (x + g) = omega (arith, e) in
    let r = back {a = b} (join_gap p n g ts e (cc) d) in
    subst (λ (y : Op). Parts g x (Some (from (x + p) y) ∷ ss) (None ∷ ls) (Some b ∷ ts)) (sym i) (subst (λ m. Parts g x (Some (record b { place = m }) ∷ ss) (None ∷ ls) (Some b ∷ ts)) (sym k) r)

pub empty_front : (g y : ℕ) (rs : List (Option Op)) → Parts g y (onward (y + g) rs) (empties (length rs)) rs
empty_front g y [] = end
empty_front g y (None ∷ rs) = empty (empty_front g y rs)
empty_front g y (Some a ∷ rs) = back (empty_front g y rs)

spread_none : (k c : ℕ) → Spread k [] [] (empties c)
spread_none k zero = done
spread_none k (suc c) = skip (spread_none (suc k) c)

empty_chain : (x : ℕ) (ls : List (Option Op)) → AllEmpty ls → Chains x ls
empty_chain x [] h = tt
empty_chain x (None ∷ ls) h = (tt, empty_chain x ls h)
empty_chain x (Some a ∷ ls) h = absurd h

pub onward_length : (n : ℕ) (rs : List (Option Op)) → length (onward n rs) ≡ length rs
onward_length n [] = refl
onward_length n (None ∷ rs) = ap (λ m. suc m) (onward_length n rs)
onward_length n (Some a ∷ rs) = ap (λ m. suc m) (onward_length n rs)

module _ (k : ℕ) where
  -- regions qs tell what the regions zs tell
  abbrev pub Same : List RegionOf → List RegionOf → Type 0
  Same qs zs = (x : ℕ) (ls ss : List (Option Op)) → Woven k x ls qs ss → Woven k x ls zs ss

  abbrev pub SameWhole : List RegionOf → List RegionOf → Type 0
  SameWhole qs zs = (ss : List (Option Op)) → Whole k qs ss → Whole k zs ss

  -- ---- also behind others
  pub same_many : (xs qs zs : List RegionOf) → Same qs zs → Same (xs ++ qs) (xs ++ zs)
  same_many [] qs zs c x ls ss w = c x ls ss w
  same_many (q ∷ xs) qs zs c x ls ss (next {fs = fs} {rs = rs} h f m d) = next h f (same_many xs qs zs c q.lane.first fs rs m) d

  pub same_behind : (q : RegionOf) (qs zs : List RegionOf) → Same qs zs → SameWhole (q ∷ qs) (q ∷ zs)
  same_behind q qs zs c ss (first {fs = fs} {rs = rs} h f m d) = first h f (c q.lane.first fs rs m) d

  pub same_through : (qs : List RegionOf) (j : ℕ) (zs : List RegionOf) → j < length qs → Same (drop (suc j) qs) zs → SameWhole qs (take (suc j) qs ++ zs)
  same_through [] j zs lt c = absurd (omega (arith, lt))
  same_through (q ∷ qs) j zs lt c = subst (λ ys. SameWhole (q ∷ ys) (q ∷ (take j qs ++ zs))) (whole_again qs j) (same_behind q (take j qs ++ drop j qs) (take j qs ++ zs) (same_many (take j qs) (drop j qs) zs c))

  -- ---- a region without slots, in the elements between regions
  fresh_rest : (y g : ℕ) (q : RegionOf) (qs : List RegionOf) (fs rs : List (Option Op)) → 0 < g → Spread k q.numbers q.lane.slots fs → Woven k q.lane.first fs qs rs → Woven k y (empties (length rs)) (with_gap g q ∷ qs) (onward (y + g) rs)
  fresh_rest y g q qs fs rs h f m = next h f m (empty_front g y rs)

  pub fresh_gap : (p y g : ℕ) (q : RegionOf) (qs : List RegionOf) → 0 < p → 0 < g → q.gap ≡ p + (y + g) → Same (q ∷ qs) (fresh p y ∷ with_gap g q ∷ qs)
  fresh_gap p y g q qs hp hg e x ls ss (next {fs = fs} {rs = rs} h f m d) =
      next hp (spread_none k (length rs)) (fresh_rest y g q qs fs rs hg f m) (split_gap p (y + g) q.gap e d)

  pub fresh_front : (p y g : ℕ) (q : RegionOf) (qs : List RegionOf) → 0 < g → q.gap ≡ p + (y + g) → SameWhole (q ∷ qs) (fresh p y ∷ with_gap g q ∷ qs)
  fresh_front p y g q qs hg e ss (first {fs = fs} {rs = rs} h f m d) =
      first h (spread_none k (length rs)) (fresh_rest y g q qs fs rs hg f m) (split_gap p (y + g) q.gap e d)

  pub fresh_tail : (p y : ℕ) → 0 < p → Same [] (fresh p y ∷ [])
  fresh_tail p y hp x ls ss (last h) = next hp (spread_none k (length ls)) (last (empty_chain y (empties (length ls)) (all_empties (length ls)))) (alone p ls x h)

  pub fresh_first : (p y : ℕ) → SameWhole [] (fresh p y ∷ [])
  fresh_first p y ss (none h) = first h (spread_none k (length ss)) (last (empty_chain y (empties (length ss)) (all_empties (length ss)))) (alone p ss zero (empty_chain zero ss h))
