-- The region that is found by a place, and what becomes of all regions as an instruction crosses them there.
use Rattle.std.proofs.Common.{◌≡◌, ℕ, zero, suc, ◌+◌, ◌<◌, Bool, List, [], ◌∷◌, ◌++◌, length, take, drop, set, Option, Some, refl, sym, ap, ◌∙◌, subst, arith}
use Rattle.std.specs.Prelude.{sum_by, slice_get}
use Rattle.std.specs.Option.{option_map}
use Rattle.std.proofs.lemmas.List.Sums.{sum_by-cons}
use Rattle.sync_data.specs.declared.entry.Stamp.{Stamp}
use Rattle.list_places.specs.Places.{longer, Within}
use Rattle.list_lane.specs.Lanes.{crossed}
use Rattle.list_lane.specs.Parts.{from}
use Rattle.list_lane.specs.declared.op.Op.{Op}
use Rattle.list_lane.proofs.Turns.{whole_again}
use Rattle.list_regions.specs.Regions.{RegionOf, before, after, befores, afters}
use Rattle.list_regions.specs.Kept.{at, crossed_region, with_gap, Inner}
use Rattle.list_regions.proofs.Across.{from_twice, Crosses, CrossesWhole, touch, gap, tail, behind_many, whole_touch, whole_front, whole_none, whole_behind}

-- ---- sums
pub befores_are : (qs : List RegionOf) → sum_by before qs ≡ befores qs
befores_are [] = refl
befores_are (q ∷ qs) = let h = befores_are qs in let e = sum_by-cons before q qs in omega (arith, h, e)

pub afters_are : (qs : List RegionOf) → sum_by after qs ≡ afters qs
afters_are [] = refl
afters_are (q ∷ qs) = let h = afters_are qs in let e = sum_by-cons after q qs in omega (arith, h, e)

pub befores_more : (qs : List RegionOf) (i : ℕ) (q : RegionOf) → slice_get qs i ≡ Some q → befores (take (suc i) qs) ≡ befores (take i qs) + before q
befores_more [] i q e = cc
befores_more (x ∷ qs) zero q e = let h : x ≡ q = cc in let k = ap before h in omega (arith, k)
befores_more (x ∷ qs) (suc i) q e = let h = befores_more qs i q e in omega (arith, h)

-- ---- lists
pub rest_at : {A : Type 0} (qs : List A) (i : ℕ) (q : A) → slice_get qs i ≡ Some q → drop i qs ≡ q ∷ drop (suc i) qs
rest_at [] i q e = cc
rest_at (x ∷ qs) zero q e = let h : x ≡ q = cc in ap (λ y. y ∷ qs) h
rest_at (x ∷ qs) (suc i) q e = rest_at qs i q e

pub set_at : {A : Type 0} (qs : List A) (i : ℕ) (q y : A) → slice_get qs i ≡ Some q → set qs i y ≡ take i qs ++ y ∷ drop (suc i) qs
set_at [] i q y e = cc
set_at (x ∷ qs) zero q y e = refl
set_at (x ∷ qs) (suc i) q y e = ap (λ r. x ∷ r) (set_at qs i q y e)

pub take_all_of : {A : Type 0} (qs : List A) → take (length qs) qs ≡ qs
take_all_of [] = refl
take_all_of (x ∷ qs) = ap (λ r. x ∷ r) (take_all_of qs)

none_behind : {A : Type 0} (qs : List A) → drop (length qs) qs ≡ []
none_behind [] = refl
none_behind (x ∷ qs) = none_behind qs

module _ (l : Stamp → Stamp → Bool) (k : ℕ) where
  -- the regions in front of a place stay, where there is one
  pub through : (qs : List RegionOf) (j : ℕ) (zs : List RegionOf) (b : Op) (p : ℕ) (z : Option Op) → j < length qs → Crosses l k (drop (suc j) qs) zs b p z
      → CrossesWhole l k qs (take (suc j) qs ++ zs) (at b (befores (take (suc j) qs) + p)) (option_map (from (afters (take (suc j) qs))) z)
  through [] j zs b p z lt c = absurd (omega (arith, lt))
  through (h ∷ qs) j zs b p z lt c =
      let xs = take j qs in
      let e : before h + (befores xs + p) ≡ before h + befores xs + p = omega arith in
      let r = whole_behind l k h (xs ++ drop j qs) (xs ++ zs) b (befores xs + p) (option_map (from (afters xs)) z) (behind_many l k xs (drop j qs) zs b p z c) in
      subst (λ n. CrossesWhole l k (h ∷ qs) (h ∷ (xs ++ zs)) (at b n) (option_map (from (after h + afters xs)) z)) e
      (subst (CrossesWhole l k (h ∷ qs) (h ∷ (xs ++ zs)) (at b (before h + (befores xs + p)))) (from_twice (after h) (afters xs) z)
      (subst (λ ys. CrossesWhole l k (h ∷ ys) (h ∷ (xs ++ zs)) (at b (before h + (befores xs + p))) (option_map (from (after h)) (option_map (from (afters xs)) z))) (whole_again qs j) r))

  same_place : (qs zs : List RegionOf) (b : Op) (n : ℕ) (y z : Option Op) → b.place ≡ n → y ≡ z → CrossesWhole l k qs zs (at b n) y → CrossesWhole l k qs zs b z
  same_place qs zs b n y z e h c = subst (λ m. CrossesWhole l k qs zs (at b m) z) (sym e) (subst (CrossesWhole l k qs zs (at b n)) h c)

  behind_front : (qs : List RegionOf) (i : ℕ) (q : RegionOf) → slice_get qs i ≡ Some q → i < length qs
  behind_front [] i q e = cc
  behind_front (x ∷ qs) zero q e = omega arith
  behind_front (x ∷ qs) (suc i) q e = let h = behind_front qs i q e in omega (arith, h)

  -- ---- the region at a place is touched
  pub touched_at : (qs : List RegionOf) (i : ℕ) (q : RegionOf) (b : Op) (p : ℕ) → slice_get qs i ≡ Some q → Within b.does p q.lane.first → b.place ≡ befores (take i qs) + (q.gap + p)
      → CrossesWhole l k qs (set qs i (crossed_region l q (at b p))) b (option_map (from (afters (take i qs) + q.gap)) (crossed l q.lane.slots (Some (at b p))).left)
  touched_at [] i q b p g w e = cc
  touched_at (x ∷ qs) zero q b p g w e =
      let h : x ≡ q = cc in
      let z = (crossed l q.lane.slots (Some (at b p))).left in
      let m : b.place ≡ q.gap + p = omega (arith, e) in
      let n : q.gap ≡ 0 + q.gap = omega arith in
      same_place (x ∷ qs) (crossed_region l q (at b p) ∷ qs) b (q.gap + p) (option_map (from q.gap) z) (option_map (from (0 + q.gap)) z) m (ap (λ j. option_map (from j) z) n)
      (subst (λ y. CrossesWhole l k (y ∷ qs) (crossed_region l q (at b p) ∷ qs) (at b (q.gap + p)) (option_map (from q.gap) z)) (sym h) (whole_touch l k q qs b p w))
  touched_at (x ∷ qs) (suc j) q b p g w e =
      let y = crossed_region l q (at b p) in
      let z = (crossed l q.lane.slots (Some (at b p))).left in
      let lt = behind_front qs j q g in
      let r = rest_at qs j q g in
      let c = through (x ∷ qs) j (y ∷ drop (suc j) qs) b (q.gap + p) (option_map (from q.gap) z) (omega (arith, lt)) (subst (λ ys. Crosses l k ys (y ∷ drop (suc j) qs) b (q.gap + p) (option_map (from q.gap) z)) (sym r) (touch l k q (drop (suc j) qs) b p w)) in
      let front = take (suc j) (x ∷ qs) in
      subst (λ ys. CrossesWhole l k (x ∷ qs) ys b (option_map (from (afters front + q.gap)) z)) (sym (set_at (x ∷ qs) (suc j) q y g))
      (same_place (x ∷ qs) (front ++ y ∷ drop (suc j) qs) b (befores front + (q.gap + p)) (option_map (from (afters front)) (option_map (from q.gap) z)) (option_map (from (afters front + q.gap)) z) e (from_twice (afters front) q.gap z) c)

  -- ---- elements in front of it are
  pub gap_at : (qs : List RegionOf) (i : ℕ) (q : RegionOf) (b : Op) (p : ℕ) → slice_get qs i ≡ Some q → 0 < i → Inner b.does p → p < q.gap → 0 < longer b.does q.gap → b.place ≡ befores (take i qs) + p
      → CrossesWhole l k qs (set qs i (with_gap (longer b.does q.gap) q)) b (Some (at b (p + afters (take i qs))))
  gap_at [] i q b p g i0 n lt more e = cc
  gap_at (x ∷ qs) zero q b p g i0 n lt more e = absurd (omega (arith, i0))
  gap_at (x ∷ qs) (suc j) q b p g i0 n lt more e =
      let y = with_gap (longer b.does q.gap) q in
      let front = take (suc j) (x ∷ qs) in
      let few = behind_front qs j q g in
      let r = rest_at qs j q g in
      let c = through (x ∷ qs) j (y ∷ drop (suc j) qs) b p (Some (at b p)) (omega (arith, few)) (subst (λ ys. Crosses l k ys (y ∷ drop (suc j) qs) b p (Some (at b p))) (sym r) (gap l k q (drop (suc j) qs) b p n lt more)) in
      subst (λ ys. CrossesWhole l k (x ∷ qs) ys b (Some (at b (p + afters front)))) (sym (set_at (x ∷ qs) (suc j) q y g))
      (same_place (x ∷ qs) (front ++ y ∷ drop (suc j) qs) b (befores front + p) (Some (at b (p + afters front))) (Some (at b (p + afters front))) e refl c)

  pub front_at : (qs : List RegionOf) (q : RegionOf) (b : Op) → slice_get qs 0 ≡ Some q → b.place < q.gap → CrossesWhole l k qs (set qs 0 (with_gap (longer b.does q.gap) q)) b (Some b)
  front_at [] q b g lt = cc
  front_at (x ∷ qs) q b g lt =
      let h : x ≡ q = cc in
      subst (λ y. CrossesWhole l k (y ∷ qs) (with_gap (longer b.does q.gap) q ∷ qs) b (Some b)) (sym h) (whole_front l k q qs b lt)

  -- ---- or those behind all regions
  behind_all : (qs : List RegionOf) (b : Op) (p : ℕ) → Inner b.does p → 0 < length qs → b.place ≡ befores qs + p → CrossesWhole l k qs qs b (Some (at b (p + afters qs)))
  behind_all [] b p n lt e = absurd (omega (arith, lt))
  behind_all (x ∷ qs) b p n lt e =
      let c = through (x ∷ qs) (length qs) [] b p (Some (at b p)) (omega arith) (subst (λ ys. Crosses l k ys [] b p (Some (at b p))) (sym (none_behind qs)) (tail l k b p n)) in
      let all : take (suc (length qs)) (x ∷ qs) ++ [] ≡ x ∷ qs = ap (λ ys. take (suc (length qs)) (x ∷ qs) ++ ys) (sym (none_behind qs)) ∙ whole_again (x ∷ qs) (suc (length qs)) in
      let taken : take (suc (length qs)) (x ∷ qs) ≡ x ∷ qs = take_all_of (x ∷ qs) in
      subst (λ ys. CrossesWhole l k (x ∷ qs) ys b (Some (at b (p + afters (x ∷ qs))))) all
      (same_place (x ∷ qs) (take (suc (length qs)) (x ∷ qs) ++ []) b (befores (x ∷ qs) + p) (Some (at b (p + afters (x ∷ qs)))) (Some (at b (p + afters (x ∷ qs)))) e refl
      (subst (λ ys. CrossesWhole l k (x ∷ qs) (take (suc (length qs)) (x ∷ qs) ++ []) (at b (befores ys + p)) (Some (at b (p + afters ys)))) taken c))

  pub tail_at : (qs : List RegionOf) (b : Op) (p : ℕ) → (0 < length qs → Inner b.does p) → b.place ≡ befores qs + p → CrossesWhole l k qs qs b (Some (at b (p + afters qs)))
  tail_at [] b p n e =
      let m : b.place ≡ p + 0 = omega (arith, e) in
      subst (λ j. CrossesWhole l k [] [] b (Some (at b j))) m (whole_none l k b)
  tail_at (x ∷ qs) b p n e = behind_all (x ∷ qs) b p (n (omega arith)) (omega arith) e
