-- The numbers that are kept of a lane, as it grows, is crossed, and loses its first slot.
use Rattle.std.proofs.Common.{◌≡◌, ℕ, zero, suc, ◌+◌, ◌-◌, ◌<◌, ◌≤◌, Bool, true, false, cond, not, ◌&&◌, ◌||◌, List, [], ◌∷◌, ◌++◌, length, length-append, Option, Some, None, refl, sym, ap, ◌∙◌, subst, arith}
use Rattle.std.specs.Prelude.{◌==◌, nat_lt, nat_le, IfSome}
use Rattle.sync_data.specs.declared.entry.Stamp.{Stamp}
use Rattle.sync_base.specs.Rules.{top}
use Rattle.sync_theory.specs.Grid.{tail}
use Rattle.list_places.specs.Places.{longer, Within, place_after}
use Rattle.list_places.specs.declared.places.Does.{Does}
use Rattle.list_places.specs.declared.places.Does.TheVariants.{Inserts, Erases, Updates}
use Rattle.list_lane.specs.Ops.{moved, op_after, lane_later}
use Rattle.list_lane.specs.Lanes.{Crossed, crossed, length_after, length_at_end, length_before, Fits, Chains, first_slot, without_first, slot_at, lane_after, IsLeftOf}
use Rattle.list_lane.specs.Flat.{Placed, IsLane}
use Rattle.list_lane.specs.Laws.{CrossesLeft, CrossesRight, StillTold}
use Rattle.list_lane.specs.declared.op.Op.{Op}
use Rattle.list_lane.proofs.Chain.{crossed_none, still_chains, ends}
use Rattle.list_lane.proofs.Meets.{Below, left_is, right_is, still_told}

pub within_most : (d : Does) (p n : ℕ) → Within d p n → p ≤ n
within_most Inserts p n h = h
within_most Erases p n h = omega (arith, h)
within_most Updates p n h = omega (arith, h)

one_longer : (d : Does) (n : ℕ) → longer d n ≤ n + 1
one_longer Inserts n = omega arith
one_longer Erases n = omega arith
one_longer Updates n = omega arith

pub after_more : (s : Option Op) (n : ℕ) → length_after s n ≤ n + 1
after_more None n = omega arith
after_more (Some a) n = one_longer a.does n

pub placed_of : (ss : List (Option Op)) (n : ℕ) → Chains n ss → n + length ss < top → Placed ss
placed_of [] n h r = tt
placed_of (None ∷ ss) n h r = placed_of ss n h.1 (omega (arith, r))
placed_of (Some a ∷ ss) n h r =
    let w = within_most a.does a.place n h.0 in
    let m = one_longer a.does n in
    (omega (arith, w, r), placed_of ss (longer a.does n) h.1 (omega (arith, m, r)))

pub last_below : (ss : List (Option Op)) (n : ℕ) → length_at_end n ss ≤ n + length ss
last_below [] n = omega arith
last_below (s ∷ ss) n = let m = after_more s n in let k = last_below ss (length_after s n) in omega (arith, m, k)

below_of : (ss : List (Option Op)) (n : ℕ) → n + length ss < top → Below top n ss
below_of [] n r = tt
below_of (s ∷ ss) n r = let m = after_more s n in (omega (arith, r), below_of ss (length_after s n) (omega (arith, m, r)))

-- ---- a crossing
module _ (l : Stamp → Stamp → Bool) where
  pub crossed_length : (ss : List (Option Op)) (x : Option Op) → length (crossed l ss x).slots ≡ length ss
  crossed_length [] x = refl
  crossed_length (s ∷ ss) None = refl
  crossed_length (None ∷ ss) (Some b) = ap (λ n. suc n) (crossed_length ss (Some b))
  crossed_length (Some a ∷ ss) (Some b) = ap (λ n. suc n) (crossed_length ss (op_after (not (l a.stamp b.stamp)) b a))

  pub crossed_lane : (first last count : ℕ) (ss : List (Option Op)) (b : Op) → IsLane first last count ss → Within b.does b.place first → first + length ss + 1 < top
      → IsLane (longer b.does first) (length_after (crossed l ss (Some b)).left last) count (crossed l ss (Some b)).slots
  crossed_lane first last count ss b h w room =
      let m = one_longer b.does first in
      let k = crossed_length ss (Some b) in
      let q = ends l ss first b h.chains w in
      record {
        chains = still_chains l ss first b h.chains w;
        last_is = ap (length_after (crossed l ss (Some b)).left) h.last_is ∙ sym q.length_is;
        count_is = h.count_is ∙ sym k;
        room = omega (arith, m, room, k);
      }

-- ---- how far on what is left may be
near : (l : Bool) (d e : Does) (p q : ℕ) → IfSome (place_after l d p e q) (λ r. r ≤ p + 1)
near l Inserts Inserts p q = elim (nat_lt p q || ((p == q) && not l)) as (λ s. cond s p (p + 1) ≤ p + 1) [ true ↦ omega arith | false ↦ omega arith ]
near l Inserts Erases p q = elim (nat_le p q) as (λ s. cond s p (p - 1) ≤ p + 1) [ true ↦ omega arith | false ↦ omega arith ]
near l Inserts Updates p q = omega arith
near l Erases Inserts p q = elim (nat_le q p) as (λ s. cond s (p + 1) p ≤ p + 1) [ true ↦ omega arith | false ↦ omega arith ]
near l Erases Erases p q = elim (p == q) as (λ t. IfSome (cond t None (Some (cond (nat_lt p q) p (p - 1)))) (λ r. r ≤ p + 1)) [ true ↦ tt | false ↦ elim (nat_lt p q) as (λ s. cond s p (p - 1) ≤ p + 1) [ true ↦ omega arith | false ↦ omega arith ] ]
near l Erases Updates p q = omega arith
near l Updates Inserts p q = elim (nat_le q p) as (λ s. cond s (p + 1) p ≤ p + 1) [ true ↦ omega arith | false ↦ omega arith ]
near l Updates Erases p q = elim (p == q) as (λ t. IfSome (cond t None (Some (cond (nat_lt p q) p (p - 1)))) (λ r. r ≤ p + 1)) [ true ↦ tt | false ↦ elim (nat_lt p q) as (λ s. cond s p (p - 1) ≤ p + 1) [ true ↦ omega arith | false ↦ omega arith ] ]
near l Updates Updates p q = elim (p == q) as (λ t. IfSome (cond t (cond l (Some p) None) (Some p)) (λ r. r ≤ p + 1)) [ true ↦ elim l as (λ b. IfSome (cond b (Some p) None) (λ r. r ≤ p + 1)) [ true ↦ omega arith | false ↦ tt ] | false ↦ omega arith ]

at_most_more : (r : Option Op) (m k : ℕ) → m ≤ k → IfSome r (λ z. z.place ≤ m) → IfSome r (λ z. z.place ≤ k)
at_most_more None m k h f = tt
at_most_more (Some z) m k h f = omega (arith, h, f)

module _ (l : Stamp → Stamp → Bool) where
  near_one : (ss : List (Option Op)) (b : Op) (x : Option ℕ) → IfSome x (λ q. q ≤ b.place + 1) → ((q : ℕ) → IfSome (crossed l ss (Some (record b { place = q }))).left (λ z. z.place ≤ q + length ss)) → IfSome (crossed l ss (moved b x)).left (λ z. z.place ≤ b.place + suc (length ss))
  near_one ss b None h f = subst (λ (r : Crossed). IfSome r.left (λ z. z.place ≤ b.place + suc (length ss))) (sym (crossed_none l ss)) tt
  near_one ss b (Some q) h f = at_most_more (crossed l ss (Some (record b { place = q }))).left (q + length ss) (b.place + suc (length ss)) (omega (arith, h)) (f q)

  pub left_near : (ss : List (Option Op)) (b : Op) → IfSome (crossed l ss (Some b)).left (λ z. z.place ≤ b.place + length ss)
  left_near [] b = omega arith
  left_near (None ∷ ss) b = at_most_more (crossed l ss (Some b)).left (b.place + length ss) (b.place + suc (length ss)) (omega arith) (left_near ss b)
  left_near (Some a ∷ ss) b = near_one ss b (place_after (not (l a.stamp b.stamp)) b.does b.place a.does a.place) (near (not (l a.stamp b.stamp)) b.does a.does b.place a.place) (λ q. left_near ss (record b { place = q }))

  pub left_at : (ss : List (Option Op)) (b z : Op) → Some z ≡ (crossed l ss (Some b)).left → z.place ≤ b.place + length ss
  left_at ss b z e = subst (λ r. IfSome r (λ y. y.place ≤ b.place + length ss)) (sym e) (left_near ss b)

-- ---- a slot more
chains_more : (ss : List (Option Op)) (n : ℕ) (s : Option Op) → Chains n ss → Fits (length_at_end n ss) s → Chains n (ss ++ s ∷ [])
chains_more [] n s h w = (w, tt)
chains_more (a ∷ ss) n s h w = (h.0, chains_more ss (length_after a n) s h.1 w)

end_more : (ss : List (Option Op)) (n : ℕ) (s : Option Op) → length_at_end n (ss ++ s ∷ []) ≡ length_after s (length_at_end n ss)
end_more [] n s = refl
end_more (a ∷ ss) n s = end_more ss (length_after a n) s

pub lane_more : (first last count : ℕ) (ss : List (Option Op)) (s : Option Op) → IsLane first last count ss → Fits (length_at_end first ss) s → first + length ss + 1 < top → IsLane first (length_after s last) (count + 1) (ss ++ s ∷ [])
lane_more first last count ss s h w room =
    let k = length-append ss (s ∷ []) in
    let e = h.count_is in
    record {
      chains = chains_more ss first s h.chains w;
      last_is = ap (length_after s) h.last_is ∙ sym (end_more ss first s);
      count_is = omega (arith, e, k);
      room = omega (arith, room, k);
    }

-- ---- and one less
pub lane_less : (first last count : ℕ) (ss : List (Option Op)) → IsLane first last count ss → IsLane (length_after (first_slot ss) first) last (count - 1) (tail ss)
lane_less first last count [] h = let e = h.count_is in record { chains = tt; last_is = h.last_is; count_is = omega (arith, e); room = h.room }
lane_less first last count (s ∷ ss) h =
    let m = after_more s first in
    let e = h.count_is in
    let r = h.room in
    record { chains = h.chains.1; last_is = h.last_is; count_is = omega (arith, e); room = omega (arith, m, r) }

pub less_is : (n : ℕ) (ss : List (Option Op)) → without_first n ss ≡ record { first = length_after (first_slot ss) n; slots = tail ss }
less_is n [] = refl
less_is n (s ∷ ss) = refl

pub first_fits : (n : ℕ) (ss : List (Option Op)) → Chains n ss → Fits n (first_slot ss)
first_fits n [] h = tt
first_fits n (s ∷ ss) h = h.0

pub slot_fits : (i n : ℕ) (ss : List (Option Op)) → Chains n ss → Fits (length_before i n ss) (slot_at i ss)
slot_fits zero n [] h = tt
slot_fits (suc i) n [] h = tt
slot_fits zero n (s ∷ ss) h = h.0
slot_fits (suc i) n (s ∷ ss) h = slot_fits i (length_after s n) ss h.1

-- ---- what a crossing promises
pub is_left : (l : Stamp → Stamp → Bool) (first last count : ℕ) (ss : List (Option Op)) (b : Op) → IsLane first last count ss → Within b.does b.place first → IfSome (crossed l ss (Some b)).left (IsLeftOf b (length_at_end first ss))
is_left l first last count ss b h w = let q = ends l ss first b h.chains w in q.left

pub on_left : (lane_left : Bool) (first last count : ℕ) (ss : List (Option Op)) (b : Op) → IsLane first last count ss → Within b.does b.place first → lane_left ≡ true
    → CrossesLeft (record { first = first; slots = ss }) b (crossed (lane_later lane_left) ss (Some b)).left (lane_after (lane_later lane_left) (record { first = first; slots = ss }) b)
on_left true first last count ss b h w e = λ c ps x t f. left_is c ss ps first b x h.chains (below_of ss first h.room) w t f
on_left false first last count ss b h w e = cc

pub on_right : (lane_left : Bool) (first last count : ℕ) (ss : List (Option Op)) (b : Op) → IsLane first last count ss → Within b.does b.place first → lane_left ≡ false
    → CrossesRight (record { first = first; slots = ss }) b (crossed (lane_later lane_left) ss (Some b)).left (lane_after (lane_later lane_left) (record { first = first; slots = ss }) b)
on_right false first last count ss b h w e = λ c ps x t f. right_is c ss ps first b x h.chains (below_of ss first h.room) w t f
on_right true first last count ss b h w e = cc

pub stays_told : StillTold
stays_told lane_left c a b ps t = still_told c (lane_later lane_left) a.slots ps (Some b) t
