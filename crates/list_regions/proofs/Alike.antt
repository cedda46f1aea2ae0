-- Others take the place of regions, and tell the same.
use Rattle.std.proofs.Common.{◌≡◌, ℕ, zero, suc, ◌+◌, ◌-◌, ◌<◌, ◌≤◌, Bool, List, [], ◌∷◌, ◌++◌, take, set, Option, Some, refl, sym, ap, ◌∙◌, subst, arith}
use Rattle.std.specs.Prelude.{slice_get, remove, max}
use Rattle.sync_data.specs.declared.entry.Stamp.{Stamp}
use Rattle.sync_base.specs.Rules.{top}
use Rattle.list_places.specs.declared.places.Does.{Does}
use Rattle.list_places.specs.declared.places.Does.TheVariants.{Inserts, Erases, Updates}
use Rattle.list_lane.specs.Lanes.{length_at_end}
use Rattle.list_lane.specs.declared.op.Op.{Op}
use Rattle.list_regions.specs.Regions.{RegionOf, before, befores, afters, Woven, next, Whole}
use Rattle.list_regions.specs.Kept.{fresh, with_fresh, elements, reach, region, Inner, Meets, Passes, Ends, Opened, Pushed, Holds, Alike, LiesBehind}
use Rattle.list_regions.specs.Merges.{Slots, IsMerged}
use Rattle.list_regions.proofs.Views.{whole_slots, whole_end}
use Rattle.list_regions.proofs.Edits.{Same, SameWhole, same_behind}
use Rattle.list_regions.proofs.Opening.{fresh_whole, fresh_befores, tail_whole, tail_befores}
use Rattle.list_regions.proofs.Merging.{merge_two, merge_first}
use Rattle.list_regions.proofs.Popping.{whole_numbers}
use Rattle.list_regions.proofs.Keeping.{more_fits, reach_low}
use Rattle.list_regions.proofs.Ending.{reach_is}

pub alike_same : (qs : List RegionOf) → Alike qs qs
alike_same qs = record { same = λ k ss w. w; befores_are = refl }

-- ---- two of them are one
module _ (q r m : RegionOf) (h : IsMerged q r m) where
  merged_is : m ≡ region q.gap m.numbers (q.lane.first + (r.gap + r.lane.first)) m.lane.slots
  merged_is = (λ i. region (h.gap i) m.numbers (h.first i) m.lane.slots)

  merged_woven : (k : ℕ) (qs : List RegionOf) (i : ℕ) → slice_get qs i ≡ Some q → slice_get qs (suc i) ≡ Some r → Same k qs (remove (set qs i m) (suc i))
  merged_woven k [] i e f n ls ss w = cc
  merged_woven k (x ∷ []) zero e f n ls ss w = cc
  merged_woven k (x ∷ y ∷ qs) zero e f n ls ss w =
      let a : x ≡ q = cc in
      let b : y ≡ r = cc in
      subst (λ (o : RegionOf). Woven k n ls (o ∷ qs) ss) (sym merged_is) (merge_two k q r qs m.numbers m.lane.slots h.merge n ls ss (subst (λ (o : RegionOf). Woven k n ls (o ∷ (r ∷ qs)) ss) a (subst (λ (o : RegionOf). Woven k n ls (x ∷ (o ∷ qs)) ss) b w)))
  merged_woven k (x ∷ qs) (suc i) e f n ls ss (next {fs = fs} {rs = rs} z g v d) = next z g (merged_woven k qs i e f x.lane.first fs rs v) d

  merged_whole : (k : ℕ) (qs : List RegionOf) (i : ℕ) → slice_get qs i ≡ Some q → slice_get qs (suc i) ≡ Some r → SameWhole k qs (remove (set qs i m) (suc i))
  merged_whole k [] i e f ss w = cc
  merged_whole k (x ∷ []) zero e f ss w = cc
  merged_whole k (x ∷ y ∷ qs) zero e f ss w =
      let a : x ≡ q = cc in
      let b : y ≡ r = cc in
      subst (λ (o : RegionOf). Whole k (o ∷ qs) ss) (sym merged_is) (merge_first k q r qs m.numbers m.lane.slots h.merge ss (subst (λ (o : RegionOf). Whole k (o ∷ (r ∷ qs)) ss) a (subst (λ (o : RegionOf). Whole k (x ∷ (o ∷ qs)) ss) b w)))
  merged_whole k (x ∷ qs) (suc i) e f ss w = same_behind k x qs (remove (set qs i m) (suc i)) (merged_woven k qs i e f) ss w

  merged_sum : (qs : List RegionOf) (i : ℕ) → slice_get qs i ≡ Some q → slice_get qs (suc i) ≡ Some r → befores (remove (set qs i m) (suc i)) ≡ befores qs
  merged_sum [] i e f = cc
  merged_sum (x ∷ []) zero e f = cc
  merged_sum (x ∷ y ∷ qs) zero e f =
      let a : x ≡ q = cc in
      let b : y ≡ r = cc in
      let u = ap before a in
      let v = ap before b in
      let g = h.gap in
      let w = h.first in
      omega (arith, u, v, g, w)
  merged_sum (x ∷ qs) (suc i) e f = let u = merged_sum qs i e f in omega (arith, u)

  pub merged_alike : (qs zs : List RegionOf) (i : ℕ) → slice_get qs i ≡ Some q → slice_get qs (suc i) ≡ Some r → zs ≡ remove (set qs i m) (suc i) → Alike qs zs
  merged_alike qs zs i e f new = subst (Alike qs) (sym new) (record { same = λ k. merged_whole k qs i e f; befores_are = merged_sum qs i e f })

two_low : (qs : List RegionOf) (i : ℕ) (q r : RegionOf) → slice_get qs i ≡ Some q → slice_get qs (suc i) ≡ Some r → before q + before r ≤ befores qs
two_low [] i q r e f = cc
two_low (x ∷ []) zero q r e f = cc
two_low (x ∷ y ∷ qs) zero q r e f = let a : x ≡ q = cc in let b : y ≡ r = cc in let u = ap before a in let v = ap before b in omega (arith, u, v)
two_low (x ∷ qs) (suc i) q r e f = let u = two_low qs i q r e f in omega (arith, u)

pub merge_low : (qs : List RegionOf) (i : ℕ) (q r : RegionOf) → Holds qs → slice_get qs i ≡ Some q → slice_get qs (suc i) ≡ Some r → q.gap + (q.lane.first + (r.gap + r.lane.first)) < top
merge_low qs i q r h e f = let low = two_low qs i q r e f in let fits = h.fits in let room = h.room in omega (arith, low, fits, room)

pub slots_of : (qs : List RegionOf) (i : ℕ) (q : RegionOf) → Holds qs → slice_get qs i ≡ Some q → Slots q
slots_of qs i q h e =
    let few = whole_slots h.whole i q e in
    let room = h.room in
    record { are = whole_numbers h.whole i q e; few = omega (arith, few, room) }

-- ---- what holds of them
pub holds_meets : (qs : List RegionOf) (b : Op) → Meets qs b → Holds qs
holds_meets qs b m = record { popped = m.popped; length_is = m.length_is; slots = m.slots; whole = m.whole; room = m.room; fits = m.fits }

pub holds_ends : (qs : List RegionOf) (b : Op) (n : ℕ) → Ends qs b n → Holds qs
holds_ends qs b n m = record { popped = m.popped; length_is = m.length_is; slots = m.slots; whole = m.whole; room = m.room; fits = m.fits }

pub opened_ends : (qs zs : List RegionOf) (b : Op) (n : ℕ) → Ends qs b n → Opened qs b zs → Ends zs b n
opened_ends qs zs b n e o =
    let fits = e.fits in
    let whole : befores qs + (e.length_is - befores qs) ≡ e.length_is = omega (arith, fits) in
    let last = whole_end e.whole (e.length_is - befores qs) in
    let same = ap (λ n. length_at_end n e.slots) whole in
    let far = reach_low b.does b.place (length_at_end e.length_is e.slots) e.within in
    record {
      popped = e.popped;
      length_is = e.length_is;
      slots = e.slots;
      whole = o.same e.popped e.slots e.whole;
      within = e.within;
      room = e.room;
      fits = more_fits (befores zs) (afters qs) (befores qs) (reach b.does b.place) e.length_is o.fits fits (omega (arith, last, same, far));
      number_is = e.number_is;
    }

pub alike_meets : (qs zs : List RegionOf) (b : Op) → Meets qs b → Alike qs zs → Meets zs b
alike_meets qs zs b m a =
    let fits = m.fits in
    let same = a.befores_are in
    record { popped = m.popped; length_is = m.length_is; slots = m.slots; whole = a.same m.popped m.slots m.whole; within = m.within; room = m.room; fits = omega (arith, fits, same) }

pub alike_passes : (l : Stamp → Stamp → Bool) (qs ys zs : List RegionOf) (b : Op) (z : Option Op) → Alike qs ys → Passes l ys b z zs → Passes l qs b z zs
alike_passes l qs ys zs b z a p =
    let same = a.befores_are in
    record { slots = λ k ss w. p.slots k ss (a.same k ss w); fits = λ n h w. p.fits n (omega (arith, same, h)) w }

pub opened_alike : (qs ys zs : List RegionOf) (b : Op) → Opened qs b ys → Alike ys zs → Opened qs b zs
opened_alike qs ys zs b o a =
    let fits = o.fits in
    let same = a.befores_are in
    record { same = λ k ss w. a.same k ss (o.same k ss w); fits = omega (arith, fits, same) }

-- ---- an element right behind a region
element_one : (d : Does) → Inner d 0 → elements d ≡ 1
element_one Inserts h = absurd (omega (arith, h))
element_one Erases h = refl
element_one Updates h = refl

pub fresh_behind : (qs : List RegionOf) (b : Op) (i : ℕ) → LiesBehind qs b i 0 → 0 < i → take i qs ≡ qs → Opened qs b (qs ++ fresh 1 0 ∷ [])
fresh_behind qs b i h lt all =
    let sum = tail_befores 1 0 qs in
    let place = h.place in
    let same = ap afters all in
    let one = element_one b.does (h.inner lt) in
    let far = reach_is b.does b.place in
    record { same = λ k. tail_whole k 1 0 qs (λ z. omega arith); fits = omega (arith, sum, place, same, one, far) }

pub fresh_between : (qs : List RegionOf) (b : Op) (i g : ℕ) (q : RegionOf) → slice_get qs i ≡ Some q → 0 < g → q.gap ≡ 1 + (0 + g) → Opened qs b (with_fresh qs i q 1 0 g)
fresh_between qs b i g q e more is =
    let sum = fresh_befores q 1 0 g is qs i e in
    record { same = λ k. fresh_whole k q 1 0 g more is qs i e (λ z. omega arith); fits = omega (arith, sum) }

-- the same twice, in a list that is long enough for both
then_fits : (bq aq by ay bz r n l : ℕ) → l ≡ aq + (n - bq) → l ≡ ay + (n - by) → bq ≤ n → by ≤ n → by + aq ≤ bq + max aq r → bz + ay ≤ by + max ay r → bz + aq ≤ bq + max aq r
then_fits bq aq by ay bz r n l e f h k m o = omega (arith, e, f, h, k, m, o)

pub opened_fits : (qs zs : List RegionOf) (b : Op) (n : ℕ) (e : Ends qs b n) → Opened qs b zs → befores zs ≤ e.length_is
opened_fits qs zs b n e o =
    let fits = e.fits in
    let whole : befores qs + (e.length_is - befores qs) ≡ e.length_is = omega (arith, fits) in
    let last = whole_end e.whole (e.length_is - befores qs) in
    let same = ap (λ n. length_at_end n e.slots) whole in
    let far = reach_low b.does b.place (length_at_end e.length_is e.slots) e.within in
    more_fits (befores zs) (afters qs) (befores qs) (reach b.does b.place) e.length_is o.fits fits (omega (arith, last, same, far))

end_sums : (qs : List RegionOf) (k n : ℕ) (ss : List (Option Op)) → Whole k qs ss → befores qs ≤ n → length_at_end n ss ≡ afters qs + (n - befores qs)
end_sums qs k n ss w fits =
    let whole : n ≡ befores qs + (n - befores qs) = omega (arith, fits) in
    ap (λ n. length_at_end n ss) whole ∙ whole_end w (n - befores qs)

both_fit : (qs ys zs : List RegionOf) (b : Op) (n : ℕ) → Ends qs b n → Opened qs b ys → befores zs + afters ys ≤ befores ys + max (afters ys) (reach b.does b.place) → befores zs + afters qs ≤ befores qs + max (afters qs) (reach b.does b.place)
both_fit qs ys zs b n e o p =
    let low = opened_fits qs ys b n e o in
    then_fits (befores qs) (afters qs) (befores ys) (afters ys) (befores zs) (reach b.does b.place) e.length_is (length_at_end e.length_is e.slots) (end_sums qs e.popped e.length_is e.slots e.whole e.fits) (end_sums ys e.popped e.length_is e.slots (o.same e.popped e.slots e.whole) low) e.fits low o.fits p

pub opened_then : (qs ys zs : List RegionOf) (b : Op) (n : ℕ) → Ends qs b n → Opened qs b ys → Opened ys b zs → Opened qs b zs
opened_then qs ys zs b n e o p = record { same = λ k ss w. p.same k ss (o.same k ss w); fits = both_fit qs ys zs b n e o p.fits }

pub pushed_then : (qs ys zs : List RegionOf) (b : Op) (n : ℕ) → Ends qs b n → Opened qs b ys → Pushed ys b n zs → Pushed qs b n zs
pushed_then qs ys zs b n e o p = record { slots = λ k ss c w. p.slots k ss c (o.same k ss w); fits = both_fit qs ys zs b n e o p.fits }
