-- Where an instruction acts on the list behind regions, and that elements become one there.
use Rattle.std.proofs.Common.{◌≡◌, ℕ, zero, suc, ◌+◌, ◌-◌, ◌<◌, ◌≤◌, List, [], ◌∷◌, ◌++◌, length, take, set, Some, refl, sym, ap, ◌∙◌, subst, arith}
use Rattle.std.specs.Prelude.{slice_get}
use Rattle.sync_base.specs.Rules.{top}
use Rattle.list_places.specs.Places.{Within}
use Rattle.list_places.specs.declared.places.Does.{Does}
use Rattle.list_places.specs.declared.places.Does.TheVariants.{Inserts, Erases, Updates}
use Rattle.sum_list.specs.declared.at.At.{At}
use Rattle.sum_list.specs.Places.{IsAt, Reaches}
use Rattle.list_lane.specs.Lanes.{length_at_end}
use Rattle.list_lane.specs.declared.op.Op.{Op}
use Rattle.list_lane.proofs.Rooms.{last_below}
use Rattle.list_regions.specs.Regions.{RegionOf, before, after, befores, afters, Whole}
use Rattle.list_regions.specs.Kept.{at, fresh, with_fresh, with_front, pushed_region, elements, reach, Ends, LiesBehind, Opened, Touches, Pushed}
use Rattle.list_regions.proofs.Sets.{same_item}
use Rattle.list_regions.proofs.Found.{afters_are, take_all_of}
use Rattle.list_regions.proofs.Views.{whole_slots, whole_chain_at, before_at}
use Rattle.list_regions.proofs.Growing.{onward_end}
use Rattle.list_regions.proofs.Pushing.{pushed_at}
use Rattle.list_regions.proofs.Opening.{fresh_whole, fresh_befores, fresh_get, fresh_take, tail_whole, tail_befores, tail_get, tail_take, grown_whole, set_befores, set_get, set_take}
use Rattle.list_regions.proofs.Meeting.{inner_of, start_of, within_of, there, one_more}

pub reach_is : (d : Does) (p : ℕ) → reach d p ≡ p + elements d
reach_is Inserts p = omega arith
reach_is Erases p = refl
reach_is Updates p = refl

fresh_within : (d : Does) → Within d 0 (elements d)
fresh_within Inserts = omega arith
fresh_within Erases = omega arith
fresh_within Updates = omega arith

afters_more : (qs : List RegionOf) (i : ℕ) (q : RegionOf) → slice_get qs i ≡ Some q → afters (take (suc i) qs) ≡ afters (take i qs) + after q
afters_more [] i q e = cc
afters_more (x ∷ qs) zero q e = let h : x ≡ q = cc in let k = ap after h in omega (arith, k)
afters_more (x ∷ qs) (suc i) q e = let h = afters_more qs i q e in omega (arith, h)

starts_from : (d : Does) (p s : ℕ) (qs : List RegionOf) (i : ℕ) → s ≡ afters (take i qs) → (0 < i → s < reach d p) → s ≤ p
starts_from d p s qs zero e h = omega (arith, e)
starts_from d p s qs (suc i) e h = start_of d p s (h (omega arith))

module _ (qs : List RegionOf) (b : Op) (a : At) (s : IsAt before after qs a) (r : Reaches after (reach b.does b.place) qs a.place) where
  behind_is : a.after ≡ afters (take a.place qs)
  behind_is = s.after ∙ afters_are (take a.place qs)

  short : 0 < a.place → a.after < reach b.does b.place
  short h = let e = r.short h in let f = s.after in omega (arith, e, f)

  pub starts : a.after ≤ b.place
  starts = starts_from b.does b.place a.after qs a.place behind_is short

  pub lies : LiesBehind qs b a.place (b.place - a.after)
  lies = let e = starts in let f = behind_is in record { place = omega (arith, e, f); inner = λ h. inner_of b.does b.place a.after (short h) }

  pub touches : (q : RegionOf) (inner : Op) → slice_get qs a.place ≡ Some q → q.gap ≤ b.place - a.after → inner ≡ at b (b.place - a.after - q.gap) → Touches qs b a.place inner
  touches q inner g h i =
      let e = starts in
      let f = behind_is in
      let more = afters_more qs a.place q g in
      let sum = ap afters (one_more qs a.place) in
      let all = afters_are (take (a.place + 1) qs) in
      let reached = r.reached (there qs a.place q g) in
      let p = ap (λ (o : Op). o.place) i in
      record {
        region = q;
        is = g;
        inner_is = i ∙ ap (at b) (sym p);
        within = subst (λ n. Within b.does n (length_at_end q.lane.first q.lane.slots)) (sym p) (within_of b.does b.place a.after q.gap (length_at_end q.lane.first q.lane.slots) (omega (arith, more, sum, all, reached, f)) (omega (arith, e, h)));
        place = omega (arith, e, f, h, p);
      }

pub opened_same : (qs : List RegionOf) (b : Op) → Opened qs b qs
opened_same qs b = record { same = λ k ss w. w; fits = omega arith }

-- how far behind the regions it may act
element_within : (d : Does) (p n : ℕ) → Within d p n → p + elements d ≤ n
element_within Inserts p n h = omega (arith, h)
element_within Erases p n h = omega (arith, h)
element_within Updates p n h = omega (arith, h)

pub end_low : (qs : List RegionOf) (b : Op) (n : ℕ) → Ends qs b n → b.place + elements b.does < top
end_low qs b n e =
    let far = element_within b.does b.place (length_at_end e.length_is e.slots) e.within in
    let low = last_below e.slots e.length_is in
    let room = e.room in
    omega (arith, far, low, room)

pub end_room : (qs : List RegionOf) (b : Op) (n i : ℕ) (q : RegionOf) → Ends qs b n → slice_get qs i ≡ Some q → q.gap + q.lane.first + length q.lane.slots + 1 < top
end_room qs b n i q e g =
    let few = whole_slots e.whole i q g in
    let low = before_at qs i q g in
    let fits = e.fits in
    let room = e.room in
    omega (arith, few, low, fits, room)

pub few_elements : (d : Does) → elements d ≤ 1
few_elements Inserts = omega arith
few_elements Erases = omega arith
few_elements Updates = omega arith

some_within : (d : Does) (n : ℕ) → 0 < n → Within d 0 n
some_within Inserts n h = omega arith
some_within Erases n h = h
some_within Updates n h = h

-- ---- elements behind all of them become one
module _ (qs : List RegionOf) (b : Op) (i offset : ℕ) (lies : LiesBehind qs b i offset) where
  pub opened_tail : i ≡ length qs → (0 < i → 0 < offset) → Opened qs b (qs ++ fresh offset (elements b.does) ∷ []) × Touches (qs ++ fresh offset (elements b.does) ∷ []) b i (at b 0)
  opened_tail len lt =
      let size = elements b.does in
      let all = ap (λ n. afters (take n qs)) len ∙ ap afters (take_all_of qs) in
      let more = tail_befores offset size qs in
      let far = reach_is b.does b.place in
      let place = lies.place in
      let front = ap (λ n. afters (take n (qs ++ fresh offset size ∷ []))) len ∙ ap afters (tail_take offset size qs) in (
        record { same = λ k. tail_whole k offset size qs (λ m. lt (omega (arith, len, m))); fits = omega (arith, all, more, far, place) },
        record {
          region = fresh offset size;
          is = ap (slice_get (qs ++ fresh offset size ∷ [])) len ∙ tail_get offset size qs;
          inner_is = refl;
          within = fresh_within b.does;
          place = omega (arith, front, all, place);
        },
      )

  -- ---- or in front of one
  pub opened_fresh : (q : RegionOf) (g : ℕ) → slice_get qs i ≡ Some q → 0 < g → q.gap ≡ offset + (elements b.does + g) → (0 < i → 0 < offset) → Opened qs b (with_fresh qs i q offset (elements b.does) g) × Touches (with_fresh qs i q offset (elements b.does) g) b i (at b 0)
  opened_fresh q g is more e lt =
      let size = elements b.does in
      let sum = fresh_befores q offset size g e qs i is in
      let front = ap afters (fresh_take q offset size g qs i is) in
      let place = lies.place in (
        record { same = λ k. fresh_whole k q offset size g more e qs i is lt; fits = omega (arith, sum) },
        record {
          region = fresh offset size;
          is = fresh_get q offset size g qs i is;
          inner_is = refl;
          within = fresh_within b.does;
          place = omega (arith, front, place);
        },
      )

  pub opened_front : (q : RegionOf) (n : ℕ) → Ends qs b n → slice_get qs i ≡ Some q → q.gap ≡ offset + 1 → (0 < i → 0 < offset) → Opened qs b (set qs i (with_front q)) × Touches (set qs i (with_front q)) b i (at b 0)
  opened_front q n e is one lt =
      let y = with_front q in
      let sum = set_befores q y qs i is in
      let front = ap afters (set_take y qs i) in
      let place = lies.place in
      let long = onward_end q.lane.slots q.lane.first (whole_chain_at e.whole i q is) in (
        record { same = λ k. grown_whole k q qs i is (omega (arith, one)) (λ h. let m = lt h in omega (arith, one, m)); fits = omega (arith, sum, one) },
        record {
          region = y;
          is = set_get q y qs i is;
          inner_is = refl;
          within = some_within b.does (length_at_end y.lane.first y.lane.slots) (omega (arith, long));
          place = omega (arith, front, place, one);
        },
      )

-- ---- what touches a region becomes one of its slots
pub pushed : (qs ys zs : List RegionOf) (b : Op) (n i : ℕ) (inner : Op) → Opened qs b ys → (t : Touches ys b i inner) → zs ≡ set ys i (pushed_region n (Some inner) t.region) → Pushed qs b n zs
pushed qs ys zs b n i inner o t e =
    let q = t.region in
    let new : zs ≡ set ys i (pushed_region n (Some (at b inner.place)) q) = e ∙ ap (λ (r : Op). set ys i (pushed_region n (Some r) q)) t.inner_is in
    let sum = set_befores q (pushed_region n (Some (at b inner.place)) q) ys i t.is in
    let same = ap befores new in
    let fits = o.fits in
    record {
      slots = λ k ss c w. subst (λ r. Whole k r (ss ++ Some b ∷ [])) (sym new) (pushed_at k n ys i q b inner.place t.is t.within t.place ss c (o.same k ss w));
      fits = omega (arith, sum, same, fits);
    }

pub touched_within : (qs : List RegionOf) (b : Op) (i : ℕ) (inner : Op) (q : RegionOf) → Touches qs b i inner → slice_get qs i ≡ Some q → Within inner.does inner.place (length_at_end q.lane.first q.lane.slots)
touched_within qs b i inner q t g =
    let e = same_item qs i t.region q t.is g in
    let does = ap (λ (o : Op). o.does) t.inner_is in
    subst (λ (d : Does). Within d inner.place (length_at_end q.lane.first q.lane.slots)) (sym does) (subst (λ (r : RegionOf). Within b.does inner.place (length_at_end r.lane.first r.lane.slots)) e t.within)
