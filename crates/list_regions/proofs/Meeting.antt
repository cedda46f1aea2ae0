-- Where an instruction meets regions, and that it crosses them there.
use Rattle.std.proofs.Common.{◌≡◌, ◌⊎◌, inl, inr, ℕ, zero, suc, ◌+◌, ◌-◌, ◌<◌, ◌≤◌, Bool, List, [], ◌∷◌, length, take, set, Option, Some, None, refl, sym, ap, ◌∙◌, subst, arith}
use Rattle.std.specs.Prelude.{slice_get, IfSome}
use Rattle.std.specs.Option.{option_map}
use Rattle.sync_data.specs.declared.entry.Stamp.{Stamp}
use Rattle.sync_base.specs.Rules.{top}
use Rattle.list_places.specs.Places.{longer, Within}
use Rattle.list_places.specs.declared.places.Does.{Does}
use Rattle.list_places.specs.declared.places.Does.TheVariants.{Inserts, Erases, Updates}
use Rattle.sum_list.specs.declared.at.At.{At}
use Rattle.sum_list.specs.Places.{IsAt, Reaches}
use Rattle.list_lane.specs.Lanes.{crossed, length_at_end}
use Rattle.list_lane.specs.Parts.{from, IsOfElement}
use Rattle.list_lane.specs.declared.op.Op.{Op}
use Rattle.list_lane.proofs.Rooms.{within_most, left_at, last_below}
use Rattle.list_regions.specs.Regions.{RegionOf, before, after, befores, afters, Whole}
use Rattle.list_regions.specs.Kept.{at, crossed_region, with_gap, reach, Inner, Meets, Passes}
use Rattle.list_regions.proofs.Found.{befores_are, afters_are, befores_more, touched_at, gap_at, front_at, tail_at}
use Rattle.list_regions.proofs.Leaving.{whole_leaves}
use Rattle.list_regions.proofs.Views.{whole_slots, whole_end, before_at}
use Rattle.list_regions.proofs.Opening.{set_befores}

-- ---- places by what is done
pub inner_of : (d : Does) (p s : ℕ) → s < reach d p → Inner d (p - s)
inner_of Inserts p s h = omega (arith, h)
inner_of Erases p s h = tt
inner_of Updates p s h = tt

pub start_of : (d : Does) (p s : ℕ) → s < reach d p → s ≤ p
start_of Inserts p s h = omega (arith, h)
start_of Erases p s h = omega (arith, h)
start_of Updates p s h = omega (arith, h)

starts_from : (d : Does) (p s : ℕ) (qs : List RegionOf) (i : ℕ) → s ≡ befores (take i qs) → (0 < i → s < reach d p) → s ≤ p
starts_from d p s qs zero e h = omega (arith, e)
starts_from d p s qs (suc i) e h = start_of d p s (h (omega arith))

some_front : (qs : List RegionOf) (i : ℕ) → take i qs ≡ qs → 0 < length qs → 0 < i
some_front qs zero e h = let k = ap length e in absurd (omega (arith, k, h))
some_front qs (suc i) e h = omega arith

pub within_of : (d : Does) (p s g f : ℕ) → reach d p ≤ s + (g + f) → s + g ≤ p → Within d (p - s - g) f
within_of Inserts p s g f h k = omega (arith, h, k)
within_of Erases p s g f h k = omega (arith, h, k)
within_of Updates p s g f h k = omega (arith, h, k)

-- what isn't the first has some, where it hasn't none
pub more_of : (g i : ℕ) → (g ≡ 0 × i ≤ 0) ⊎ (g ≡ 0 → ⊥) → 0 < i → 0 < g
more_of g i (inl h) lt = let k = h.1 in absurd (omega (arith, k, lt))
more_of zero i (inr h) lt = absurd (h refl)
more_of (suc g) i (inr h) lt = omega arith

-- the sums of other regions
tail_fits : (d : Does) (p s n : ℕ) → s ≤ p → s ≤ n → Within d p n → s ≤ longer d n
tail_fits Inserts p s n h k w = omega (arith, k)
tail_fits Erases p s n h k w = omega (arith, h, w)
tail_fits Updates p s n h k w = k

more_fits : (d : Does) (p g f s t n : ℕ) → Within d p f → t + (g + f) ≡ s + (g + longer d f) → g + f ≤ s → s ≤ n → t ≤ longer d n
more_fits Inserts p g f s t n w e h k = omega (arith, e, k)
more_fits Erases p g f s t n w e h k = omega (arith, e, w, h, k)
more_fits Updates p g f s t n w e h k = omega (arith, e, k)

gap_fits : (d : Does) (p g f s t n : ℕ) → p < g → t + (g + f) ≡ s + (longer d g + f) → g + f ≤ s → s ≤ n → t ≤ longer d n
gap_fits Inserts p g f s t n w e h k = omega (arith, e, k)
gap_fits Erases p g f s t n w e h k = omega (arith, e, w, h, k)
gap_fits Updates p g f s t n w e h k = omega (arith, e, k)

pub nothing_there : {A : Type 0} (qs : List A) (i : ℕ) → i ≤ length qs → slice_get qs i ≡ None → take i qs ≡ qs
nothing_there [] zero h e = refl
nothing_there [] (suc i) h e = refl
nothing_there (x ∷ qs) zero h e = cc
nothing_there (x ∷ qs) (suc i) h e = ap (λ r. x ∷ r) (nothing_there qs i (omega (arith, h)) e)

pub there : {A : Type 0} (qs : List A) (i : ℕ) (q : A) → slice_get qs i ≡ Some q → i < length qs
there [] i q e = cc
there (x ∷ qs) zero q e = omega arith
there (x ∷ qs) (suc i) q e = let h = there qs i q e in omega (arith, h)

pub one_more : {A : Type 0} (qs : List A) (i : ℕ) → take (i + 1) qs ≡ take (suc i) qs
one_more qs i = let e : i + 1 ≡ suc i = omega arith in ap (λ n. take n qs) e

-- nothing that is left is too far
pub left_low : (l : Stamp → Stamp → Bool) (qs zs : List RegionOf) (b : Op) (z : Option Op) → Meets qs b → Passes l qs b z zs → IfSome z (λ y. y.place ≤ top)
left_low l qs zs b None m p = tt
left_low l qs zs b (Some y) m p =
    let r = p.slots m.popped m.slots m.whole in
    let far = left_at l m.slots b y (sym r.1) in
    let most = within_most b.does b.place m.length_is m.within in
    let room = m.room in
    omega (arith, far, most, room)

pub roomy : (qs : List RegionOf) (b : Op) (i : ℕ) (q : RegionOf) → Meets qs b → slice_get qs i ≡ Some q → q.gap + q.lane.first + length q.lane.slots + 1 < top
roomy qs b i q m g =
    let few = whole_slots m.whole i q g in
    let low = before_at qs i q g in
    let fits = m.fits in
    let room = m.room in
    omega (arith, few, low, fits, room)

pub after_at : (qs : List RegionOf) (i : ℕ) (q : RegionOf) → slice_get qs i ≡ Some q → afters (take i qs) + after q ≤ afters qs
after_at [] i q e = cc
after_at (r ∷ qs) zero q e = let k : r ≡ q = cc in let n = ap after k in omega (arith, n)
after_at (r ∷ qs) (suc i) q e = let n = after_at qs i q e in omega (arith, n)

pub after_low : (qs : List RegionOf) (b : Op) (i : ℕ) (q : RegionOf) → Meets qs b → slice_get qs i ≡ Some q → afters (take i qs) + after q ≤ top
after_low qs b i q m g =
    let fits = m.fits in
    let room = m.room in
    let t = m.length_is - befores qs in
    let all : befores qs + t ≡ m.length_is = omega (arith, fits) in
    let last = whole_end m.whole t in
    let same = ap (λ n. length_at_end n m.slots) all in
    let low = last_below m.slots m.length_is in
    let part = after_at qs i q g in
    omega (arith, last, same, low, part, room)

pub lifted_low : (r : Option Op) (m : ℕ) → IfSome (option_map (from m) r) (λ y. y.place ≤ top) → IfSome r (λ z. z.place + m ≤ top)
lifted_low None m h = tt
lifted_low (Some z) m h = h

module _ (l : Stamp → Stamp → Bool) (qs : List RegionOf) (b : Op) (a : At) (s : IsAt before after qs a) (r : Reaches before (reach b.does b.place) qs a.place) where
  pub front_is : a.before ≡ befores (take a.place qs)
  front_is = s.before ∙ befores_are (take a.place qs)

  pub after_is : a.after ≡ afters (take a.place qs)
  after_is = s.after ∙ afters_are (take a.place qs)

  short : 0 < a.place → a.before < reach b.does b.place
  short h = let e = r.short h in let f = s.before in omega (arith, e, f)

  pub starts : a.before ≤ b.place
  starts = starts_from b.does b.place a.before qs a.place front_is short

  inner : 0 < a.place → Inner b.does (b.place - a.before)
  inner h = inner_of b.does b.place a.before (short h)

  pub within : (q : RegionOf) → slice_get qs a.place ≡ Some q → q.gap ≤ b.place - a.before → Within b.does (b.place - a.before - q.gap) q.lane.first
  within q g h =
      let e = starts in
      let more = befores_more qs a.place q g in
      let sum = ap befores (one_more qs a.place) in
      let all = befores_are (take (a.place + 1) qs) in
      let reached = r.reached (there qs a.place q g) in
      let f = front_is in
      within_of b.does b.place a.before q.gap q.lane.first (omega (arith, more, sum, all, reached, f)) (omega (arith, e, h))

  -- ---- behind all of them
  pub pass_tail : slice_get qs a.place ≡ None → Passes l qs b (Some (at b (b.place - a.before + a.after))) qs
  pass_tail g =
      let e = starts in
      let f = front_is in
      let all = nothing_there qs a.place s.within g in
      let sum = ap befores all in
      let last : a.after ≡ afters qs = after_is ∙ ap afters all in
      let place : b.place ≡ befores qs + (b.place - a.before) = omega (arith, e, f, sum) in
      record {
        slots = λ k ss w. let c = tail_at l k qs b (b.place - a.before) (λ h. inner (some_front qs a.place all h)) place ss w in (c.0, c.1 ∙ ap (λ n. Some (at b (b.place - a.before + n))) (sym last));
        fits = λ n h w. tail_fits b.does b.place (befores qs) n (omega (arith, e, f, sum)) h w;
      }

  -- ---- in a region
  pub pass_touch : (q : RegionOf) (zs : List RegionOf) (z : Option Op) → slice_get qs a.place ≡ Some q → q.gap ≤ b.place - a.before → zs ≡ set qs a.place (crossed_region l q (at b (b.place - a.before - q.gap)))
      → z ≡ (crossed l q.lane.slots (Some (at b (b.place - a.before - q.gap)))).left → Passes l qs b (option_map (from (a.after + q.gap)) z) zs
  pass_touch q zs z g h new left =
      let p = b.place - a.before - q.gap in
      let e = starts in
      let f = front_is in
      let y = crossed_region l q (at b p) in
      let w = within q g h in
      let sum = set_befores q y qs a.place g in
      let all = ap befores new in
      let low = before_at qs a.place q g in
      record {
        slots = λ k ss v.
            let c = touched_at l k qs a.place q b p g w (omega (arith, e, f, h)) ss v in
            (subst (λ r. Whole k r (crossed l ss (Some b)).slots) (sym new) c.0, c.1 ∙ (λ j. option_map (from (sym after_is j + q.gap)) (sym left j)));
        fits = λ n k v. more_fits b.does p q.gap q.lane.first (befores qs) (befores zs) n w (omega (arith, sum, all)) (omega (arith, low)) k;
      }

  -- ---- or in front of one
  gap_slots : (q : RegionOf) (i : ℕ) → i ≡ a.place → slice_get qs i ≡ Some q → b.place - a.before < q.gap → (0 < i → 0 < longer b.does q.gap) → (k : ℕ) (ss : List (Option Op)) → Whole k qs ss
      → Whole k (set qs i (with_gap (longer b.does q.gap) q)) (crossed l ss (Some b)).slots × ((crossed l ss (Some b)).left ≡ Some (at b (b.place - a.before + afters (take i qs))))
  gap_slots q zero i g h more k ss v =
      let f = front_is in
      let none = ap (λ n. befores (take n qs)) i in
      let place : b.place ≡ b.place - a.before + 0 = omega (arith, f, none) in
      let c = front_at l k qs q b g (omega (arith, f, none, h)) ss v in
      (c.0, c.1 ∙ ap (λ n. Some (at b n)) place)
  gap_slots q (suc m) i g h more k ss v =
      let e = starts in
      let f = front_is in
      let same = ap (λ n. befores (take n qs)) i in
      let c = gap_at l k qs (suc m) q b (b.place - a.before) g (omega arith) (inner (omega (arith, i))) h (more (omega arith)) (omega (arith, e, f, same)) ss v in
      c

  pub pass_gap : (q : RegionOf) (zs : List RegionOf) → slice_get qs a.place ≡ Some q → b.place - a.before < q.gap → (0 < a.place → 0 < longer b.does q.gap) → zs ≡ set qs a.place (with_gap (longer b.does q.gap) q)
      → Passes l qs b (Some (at b (b.place - a.before + a.after))) zs
  pass_gap q zs g h more new =
      let sum = set_befores q (with_gap (longer b.does q.gap) q) qs a.place g in
      let all = ap befores new in
      let low = before_at qs a.place q g in
      record {
        slots = λ k ss v.
            let c = gap_slots q a.place refl g h more k ss v in
            (subst (λ r. Whole k r (crossed l ss (Some b)).slots) (sym new) c.0, c.1 ∙ ap (λ n. Some (at b (b.place - a.before + n))) (sym after_is));
        fits = λ n k v. gap_fits b.does (b.place - a.before) q.gap q.lane.first (befores qs) (befores zs) n h (omega (arith, sum, all)) (omega (arith, low)) k;
      }

  -- ---- what is left of it where they stay
  left_by : (d : Does) (q : RegionOf) → b.does ≡ d → slice_get qs a.place ≡ Some q → b.place - a.before < q.gap → (i : ℕ) → i ≡ a.place → (k : ℕ) (ss : List (Option Op)) → Whole k qs ss
      → (crossed l ss (Some b)).left ≡ Some (at b (b.place - a.before + afters (take i qs)))
  left_by d q e g h zero i k ss v = let r = gap_slots q zero i (ap (slice_get qs) i ∙ g) h (λ z. absurd (omega (arith, z))) k ss v in r.1
  left_by Inserts q e g h (suc m) i k ss v =
      let more : 0 < longer b.does q.gap = subst (λ (d : Does). 0 < longer d q.gap) (sym e) (omega arith) in
      let r = gap_slots q (suc m) i (ap (slice_get qs) i ∙ g) h (λ z. more) k ss v in
      r.1
  left_by Erases q e g h (suc m) i k ss v =
      let s = starts in let f = front_is in let same = ap (λ n. befores (take n qs)) i in
      whole_leaves l k b qs (suc m) q (b.place - a.before) (ap (slice_get qs) i ∙ g) (omega arith) (subst IsOfElement (sym e) tt) h (omega (arith, s, f, same)) ss v
  left_by Updates q e g h (suc m) i k ss v =
      let s = starts in let f = front_is in let same = ap (λ n. befores (take n qs)) i in
      whole_leaves l k b qs (suc m) q (b.place - a.before) (ap (slice_get qs) i ∙ g) (omega arith) (subst IsOfElement (sym e) tt) h (omega (arith, s, f, same)) ss v

  pub left_gap : (q : RegionOf) → slice_get qs a.place ≡ Some q → b.place - a.before < q.gap → (k : ℕ) (ss : List (Option Op)) → Whole k qs ss → (crossed l ss (Some b)).left ≡ Some (at b (b.place - a.before + a.after))
  left_gap q g h k ss v = left_by b.does q refl g h a.place refl k ss v ∙ ap (λ n. Some (at b (b.place - a.before + n))) (sym after_is)

-- nothing that is left is too far
pub left_is_low : (l : Stamp → Stamp → Bool) (qs : List RegionOf) (b : Op) (z : Option Op) → Meets qs b → ((k : ℕ) (ss : List (Option Op)) → Whole k qs ss → (crossed l ss (Some b)).left ≡ z) → IfSome z (λ y. y.place ≤ top)
left_is_low l qs b None m p = tt
left_is_low l qs b (Some y) m p =
    let far = left_at l m.slots b y (sym (p m.popped m.slots m.whole)) in
    let most = within_most b.does b.place m.length_is m.within in
    let room = m.room in
    omega (arith, far, most, room)
