-- What regions tell: their slots as one list, how many these are, and the lengths of the list.
use Rattle.std.proofs.Common.{◌≡◌, ℕ, zero, suc, ◌+◌, ◌≤◌, List, [], ◌∷◌, length, take, Option, Some, None, refl, sym, ap, ◌∙◌, subst, arith}
use Rattle.std.specs.Prelude.{slice_get}
use Rattle.list_places.specs.Places.{longer, Within}
use Rattle.list_places.specs.declared.places.Does.{Does}
use Rattle.list_places.specs.declared.places.Does.TheVariants.{Inserts, Erases, Updates}
use Rattle.list_lane.specs.Lanes.{length_after, length_at_end, Chains}
use Rattle.list_lane.specs.Parts.{Parts, end, empty, front, back}
use Rattle.list_lane.specs.declared.op.Op.{Op}
use Rattle.list_regions.specs.Regions.{RegionOf, before, befores, afters, empties, weave, spread, woven, Spread, skip, here, end as done, Woven, last, next, Whole, none, first}
use Rattle.list_regions.proofs.Spreads.{empties_are, end_empty, spread_end, spread_length, spread_is}
use Rattle.list_regions.proofs.Behind.{parts_left, parts_right, weave_is}

-- ---- how many slots
pub woven_length : {k x : ℕ} {qs : List RegionOf} {ls ss : List (Option Op)} → Woven k x ls qs ss → length ls ≡ length ss
woven_length (last h) = refl
woven_length (next h f m d) = parts_left d

spread_all : {k : ℕ} (q : RegionOf) (qs : List RegionOf) (fs rs : List (Option Op)) → Woven k q.lane.first fs qs rs → length fs ≡ length rs
spread_all q qs fs rs m = woven_length m

pub woven_slots : {k x : ℕ} {qs : List RegionOf} {ls ss : List (Option Op)} → Woven k x ls qs ss → (i : ℕ) (q : RegionOf) → slice_get qs i ≡ Some q → length q.lane.slots ≤ length ss
woven_slots (last h) i q e = cc
woven_slots {ss = ss} (next {q = r} h f m d) zero q e =
    let k : r ≡ q = cc in
    let a = spread_length f in
    let b = woven_length m in
    let c = parts_right d in
    subst (λ (y : RegionOf). length y.lane.slots ≤ length ss) k (omega (arith, a, b, c))
woven_slots (next h f m d) (suc i) q e = let a = woven_slots m i q e in let c = parts_right d in omega (arith, a, c)

pub whole_slots : {k : ℕ} {qs : List RegionOf} {ss : List (Option Op)} → Whole k qs ss → (i : ℕ) (q : RegionOf) → slice_get qs i ≡ Some q → length q.lane.slots ≤ length ss
whole_slots (none h) i q e = cc
whole_slots {ss = ss} (first {q = r} h f m d) zero q e =
    let k : r ≡ q = cc in
    let a = spread_length f in
    let b = woven_length m in
    let c = parts_right d in
    subst (λ (y : RegionOf). length y.lane.slots ≤ length ss) k (omega (arith, a, b, c))
whole_slots (first h f m d) (suc i) q e = let a = woven_slots m i q e in let c = parts_right d in omega (arith, a, c)

pub before_at : (qs : List RegionOf) (i : ℕ) (q : RegionOf) → slice_get qs i ≡ Some q → befores (take i qs) + before q ≤ befores qs
before_at [] i q e = cc
before_at (r ∷ qs) zero q e = let k : r ≡ q = cc in let n = ap before k in omega (arith, n)
before_at (r ∷ qs) (suc i) q e = let n = before_at qs i q e in omega (arith, n)

-- ---- the slots as one list
module _ (k : ℕ) where
  woven_one : (x : ℕ) (q : RegionOf) (qs : List RegionOf) (ls fs rs ss : List (Option Op)) → length ls ≡ length fs → Spread k q.numbers q.lane.slots fs → woven k (length fs) q.lane.first fs qs ≡ rs → Parts q.gap x ss ls rs
      → woven k (length ls) x ls (q ∷ qs) ≡ ss
  woven_one x q qs ls fs rs ss e f m d =
      ap (λ c. weave x q.gap ls (woven k c q.lane.first (spread k c q.numbers q.lane.slots) qs)) e
      ∙ ap (λ ys. weave x q.gap ls (woven k (length fs) q.lane.first ys qs)) (spread_is f)
      ∙ ap (weave x q.gap ls) m
      ∙ weave_is d

  pub woven_is : {x : ℕ} {qs : List RegionOf} {ls ss : List (Option Op)} → Woven k x ls qs ss → woven k (length ls) x ls qs ≡ ss
  woven_is (last h) = refl
  woven_is {x = x} {ls = ls} {ss = ss} (next {q = q} {qs = qs} {fs = fs} {rs = rs} h f m d) =
      let a = woven_length m in
      let b = parts_right d in
      let c = parts_left d in
      woven_one x q qs ls fs rs ss (omega (arith, a, b, c)) f (woven_is m) d

  pub whole_is : {qs : List RegionOf} {ss : List (Option Op)} → Whole k qs ss → (c : ℕ) → c ≡ length ss → woven k c 0 (empties c) qs ≡ ss
  whole_is {ss = ss} (none h) c e = ap empties e ∙ sym (empties_are ss h)
  whole_is {ss = ss} (first {q = q} {qs = qs} {ls = ls} {fs = fs} {rs = rs} h f m d) c e =
      let a = woven_length m in
      let b = parts_right d in
      let n = parts_left d in
      let count : c ≡ length ls = omega (arith, e, n) in
      ap (λ j. woven k j 0 (empties j) (q ∷ qs)) count
      ∙ ap (λ ys. woven k (length ls) 0 ys (q ∷ qs)) (sym (empties_are ls h))
      ∙ woven_one 0 q qs ls fs rs ss (omega (arith, a, b, n)) f (woven_is m) d

-- ---- the lengths of the list
-- an instruction of the first elements acts on the whole list, and one behind them too
pub within_more : (d : Does) (p x y : ℕ) → Within d p x → Within d p (x + y)
within_more Inserts p x y h = omega (arith, h)
within_more Erases p x y h = omega (arith, h)
within_more Updates p x y h = omega (arith, h)

pub within_on : (d : Does) (p x g y : ℕ) → Within d p y → Within d (p + (x + g)) (x + (g + y))
within_on Inserts p x g y h = omega (arith, h)
within_on Erases p x g y h = omega (arith, h)
within_on Updates p x g y h = omega (arith, h)

pub longer_more : (d : Does) (p x y : ℕ) → Within d p x → longer d (x + y) ≡ longer d x + y
longer_more Inserts p x y h = omega arith
longer_more Erases p x y h = omega (arith, h)
longer_more Updates p x y h = refl

pub longer_behind : (d : Does) (p x g y : ℕ) → Within d p y → longer d (x + (g + y)) ≡ x + (g + longer d y)
longer_behind Inserts p x g y h = omega arith
longer_behind Erases p x g y h = omega (arith, h)
longer_behind Updates p x g y h = refl

pub parts_chain : {g x : ℕ} {ss ls rs : List (Option Op)} → Parts g x ss ls rs → (y : ℕ) → Chains y rs → Chains (x + (g + y)) ss
parts_chain end y c = tt
parts_chain (empty d) y c = (tt, parts_chain d y c.1)
parts_chain {g = g} {x = x} (front {a = a} {ss = ss} w d) y c =
    (within_more a.does a.place x (g + y) w, subst (λ n. Chains n ss) (sym (longer_more a.does a.place x (g + y) w)) (parts_chain d y c.1))
parts_chain {g = g} {x = x} (back {a = a} {ss = ss} d) y c =
    (within_on a.does a.place x g y c.0, subst (λ n. Chains n ss) (sym (longer_behind a.does a.place x g y c.0)) (parts_chain d (longer a.does y) c.1))

chains_on : (ss : List (Option Op)) (x t : ℕ) → Chains x ss → Chains (x + t) ss
chains_on [] x t h = tt
chains_on (None ∷ ss) x t h = (tt, chains_on ss x t h.1)
chains_on (Some a ∷ ss) x t h = (within_more a.does a.place x t h.0, subst (λ n. Chains n ss) (sym (longer_more a.does a.place x t h.0)) (chains_on ss (longer a.does x) t h.1))

end_on : (ss : List (Option Op)) (x t : ℕ) → Chains x ss → length_at_end (x + t) ss ≡ length_at_end x ss + t
end_on [] x t h = refl
end_on (None ∷ ss) x t h = end_on ss x t h.1
end_on (Some a ∷ ss) x t h = ap (λ n. length_at_end n ss) (longer_more a.does a.place x t h.0) ∙ end_on ss (longer a.does x) t h.1

parts_end : {g x : ℕ} {ss ls rs : List (Option Op)} → Parts g x ss ls rs → (y : ℕ) → Chains y rs → length_at_end (x + (g + y)) ss ≡ length_at_end x ls + (g + length_at_end y rs)
parts_end end y c = refl
parts_end (empty d) y c = parts_end d y c.1
parts_end {g = g} {x = x} (front {a = a} {ss = ss} w d) y c = ap (λ n. length_at_end n ss) (longer_more a.does a.place x (g + y) w) ∙ parts_end d y c.1
parts_end {g = g} {x = x} (back {a = a} {ss = ss} d) y c = ap (λ n. length_at_end n ss) (longer_behind a.does a.place x g y c.0) ∙ parts_end d (longer a.does y) c.1

-- t elements lie behind all regions
pub woven_chain : {k x : ℕ} {qs : List RegionOf} {ls ss : List (Option Op)} → Woven k x ls qs ss → (t : ℕ) → Chains (x + (befores qs + t)) ss
woven_chain {x = x} {ls = ls} (last h) t = let e : x + t ≡ x + (0 + t) = omega arith in subst (λ n. Chains n ls) e (chains_on ls x t h)
woven_chain {x = x} {ss = ss} (next {q = q} {qs = qs} h f m d) t =
    let e : x + (q.gap + (q.lane.first + (befores qs + t))) ≡ x + (q.gap + q.lane.first + befores qs + t) = omega arith in
    subst (λ n. Chains n ss) e (parts_chain d (q.lane.first + (befores qs + t)) (woven_chain m t))

pub woven_end : {k x : ℕ} {qs : List RegionOf} {ls ss : List (Option Op)} → Woven k x ls qs ss → (t : ℕ) → length_at_end (x + (befores qs + t)) ss ≡ length_at_end x ls + (afters qs + t)
woven_end {x = x} {ls = ls} (last h) t =
    let e : x + (0 + t) ≡ x + t = omega arith in
    let k : length_at_end x ls + t ≡ length_at_end x ls + (0 + t) = omega arith in
    ap (λ n. length_at_end n ls) e ∙ end_on ls x t h ∙ k
woven_end {x = x} {ls = ls} {ss = ss} (next {q = q} {qs = qs} {fs = fs} {rs = rs} h f m d) t =
    let y = q.lane.first + (befores qs + t) in
    let e : x + (q.gap + q.lane.first + befores qs + t) ≡ x + (q.gap + y) = omega arith in
    let r = parts_end d y (woven_chain m t) in
    let s = woven_end m t in
    let v = spread_end q.lane.first f in
    let last = length_at_end q.lane.first q.lane.slots in
    let k : length_at_end x ls + (q.gap + length_at_end y rs) ≡ length_at_end x ls + (q.gap + last + afters qs + t) = omega (arith, s, v) in
    ap (λ n. length_at_end n ss) e ∙ r ∙ k

pub whole_end : {k : ℕ} {qs : List RegionOf} {ss : List (Option Op)} → Whole k qs ss → (t : ℕ) → length_at_end (befores qs + t) ss ≡ afters qs + t
whole_end {ss = ss} (none h) t = end_empty (0 + t) ss h
whole_end {ss = ss} (first {q = q} {qs = qs} {ls = ls} {fs = fs} {rs = rs} h f m d) t =
    let y = q.lane.first + (befores qs + t) in
    let e : q.gap + q.lane.first + befores qs + t ≡ 0 + (q.gap + y) = omega arith in
    let r = parts_end d y (woven_chain m t) in
    let s = woven_end m t in
    let v = spread_end q.lane.first f in
    let z = end_empty 0 ls h in
    let last = length_at_end q.lane.first q.lane.slots in
    let k : length_at_end 0 ls + (q.gap + length_at_end y rs) ≡ q.gap + last + afters qs + t = omega (arith, s, v, z) in
    ap (λ n. length_at_end n ss) e ∙ r ∙ k

-- ---- each region chains
pub parts_front_chain : {g x : ℕ} {ss ls rs : List (Option Op)} → Parts g x ss ls rs → Chains x ls
parts_front_chain end = tt
parts_front_chain (empty d) = (tt, parts_front_chain d)
parts_front_chain (front w d) = (w, parts_front_chain d)
parts_front_chain (back d) = (tt, parts_front_chain d)

spread_chain : {k : ℕ} {ns : List ℕ} {ss fs : List (Option Op)} (x : ℕ) → Spread k ns ss fs → Chains x fs → Chains x ss
spread_chain x done c = tt
spread_chain x (skip d) c = spread_chain x d c.1
spread_chain x (here {s = s} d) c = (c.0, spread_chain (length_after s x) d c.1)

woven_front : {k x : ℕ} {qs : List RegionOf} {ls ss : List (Option Op)} → Woven k x ls qs ss → Chains x ls
woven_front (last h) = h
woven_front (next h f m d) = parts_front_chain d

woven_chain_at : {k x : ℕ} {qs : List RegionOf} {ls ss : List (Option Op)} → Woven k x ls qs ss → (i : ℕ) (q : RegionOf) → slice_get qs i ≡ Some q → Chains q.lane.first q.lane.slots
woven_chain_at (last h) i q e = cc
woven_chain_at (next {q = r} h f m d) zero q e = let j : r ≡ q = cc in subst (λ (y : RegionOf). Chains y.lane.first y.lane.slots) j (spread_chain r.lane.first f (woven_front m))
woven_chain_at (next h f m d) (suc i) q e = woven_chain_at m i q e

pub whole_chain_at : {k : ℕ} {qs : List RegionOf} {ss : List (Option Op)} → Whole k qs ss → (i : ℕ) (q : RegionOf) → slice_get qs i ≡ Some q → Chains q.lane.first q.lane.slots
whole_chain_at (none h) i q e = cc
whole_chain_at (first {q = r} h f m d) zero q e = let j : r ≡ q = cc in subst (λ (y : RegionOf). Chains y.lane.first y.lane.slots) j (spread_chain r.lane.first f (woven_front m))
whole_chain_at (first h f m d) (suc i) q e = woven_chain_at m i q e
