-- A region without slots leaves.
use Rattle.std.proofs.Common.{◌≡◌, ℕ, zero, suc, ◌+◌, ◌<◌, ◌≤◌, Bool, false, List, [], ◌∷◌, length, set, Option, Some, None, refl, sym, ap, ◌∙◌, subst, arith}
use Rattle.std.specs.Prelude.{slice_get, remove}
use Rattle.sync_data.specs.declared.entry.Stamp.{Stamp}
use Rattle.sync_base.specs.Rules.{top}
use Rattle.list_lane.specs.Parts.{Parts, end, empty, front, back, from}
use Rattle.list_lane.specs.declared.op.Op.{Op}
use Rattle.list_lane.proofs.Rooms.{after_more}
use Rattle.list_regions.specs.Regions.{RegionOf, before, befores, AllEmpty, Spread, skip, end as done, Woven, last, next, Whole, none, first}
use Rattle.list_regions.specs.Kept.{region, with_gap, onward, Starts, PopsFirst, Loose, Shrunk}
use Rattle.list_regions.proofs.Behind.{alone_is}
use Rattle.list_regions.proofs.Views.{parts_front_chain, whole_slots, before_at}
use Rattle.list_regions.proofs.Edits.{Same, SameWhole, same_behind, join_gap}

empty_of : {k : ℕ} {fs : List (Option Op)} → Spread k [] [] fs → AllEmpty fs
empty_of done = tt
empty_of (skip d) = empty_of d

onward_of : {g y : ℕ} {rs fs ts : List (Option Op)} → Parts g y rs fs ts → AllEmpty fs → rs ≡ onward (y + g) ts
onward_of end h = refl
onward_of (empty d) h = ap (λ xs. None ∷ xs) (onward_of d h)
onward_of (front w d) h = absurd h
onward_of {g = g} {y = y} (back {a = a} d) h = ap (λ xs. Some (from (y + g) a) ∷ xs) (onward_of d h)

module _ (l : Stamp → Stamp → Bool) (k p y : ℕ) where
  spent_gap : (q : RegionOf) (qs : List RegionOf) → Same k (region p [] y [] ∷ (q ∷ qs)) (with_gap (p + (y + q.gap)) q ∷ qs)
  spent_gap q qs x ls ss (next h f (next {rs = ts} i g m e) d) = next (omega (arith, h)) g m (join_gap p (y + q.gap) (p + (y + q.gap)) ts refl (onward_of e (empty_of f)) d)

  spent_first : (q : RegionOf) (qs : List RegionOf) → SameWhole k (region p [] y [] ∷ (q ∷ qs)) (with_gap (p + (y + q.gap)) q ∷ qs)
  spent_first q qs ss (first h f (next {rs = ts} i g m e) d) = first h g m (join_gap p (y + q.gap) (p + (y + q.gap)) ts refl (onward_of e (empty_of f)) d)

  spent_last : Same k (region p [] y [] ∷ []) []
  spent_last x ls ss (next h f (last c) d) = subst (λ r. Woven k x ls [] r) (sym (alone_is l d (empty_of f))) (last (parts_front_chain d))

  spent_only : SameWhole k (region p [] y [] ∷ []) []
  spent_only ss (first h f (last c) d) = subst (λ r. Whole k [] r) (sym (alone_is l d (empty_of f))) (none h)

  dropped_woven : (r : RegionOf) (qs : List RegionOf) (i : ℕ) → slice_get qs i ≡ Some (region p [] y []) → slice_get qs (suc i) ≡ Some r → Same k qs (remove (set qs (suc i) (with_gap (p + (y + r.gap)) r)) i)
  dropped_woven r [] i e f n ls ss w = cc
  dropped_woven r (x ∷ []) zero e f n ls ss w = cc
  dropped_woven r (x ∷ z ∷ qs) zero e f n ls ss w =
      let a : x ≡ region p [] y [] = cc in
      let b : z ≡ r = cc in
      spent_gap r qs n ls ss (subst (λ (o : RegionOf). Woven k n ls (o ∷ (r ∷ qs)) ss) a (subst (λ (o : RegionOf). Woven k n ls (x ∷ (o ∷ qs)) ss) b w))
  dropped_woven r (x ∷ qs) (suc i) e f n ls ss (next {fs = fs} {rs = rs} z g v d) = next z g (dropped_woven r qs i e f x.lane.first fs rs v) d

  dropped_whole : (r : RegionOf) (qs : List RegionOf) (i : ℕ) → slice_get qs i ≡ Some (region p [] y []) → slice_get qs (suc i) ≡ Some r → SameWhole k qs (remove (set qs (suc i) (with_gap (p + (y + r.gap)) r)) i)
  dropped_whole r [] i e f ss w = cc
  dropped_whole r (x ∷ []) zero e f ss w = cc
  dropped_whole r (x ∷ z ∷ qs) zero e f ss w =
      let a : x ≡ region p [] y [] = cc in
      let b : z ≡ r = cc in
      spent_first r qs ss (subst (λ (o : RegionOf). Whole k (o ∷ (r ∷ qs)) ss) a (subst (λ (o : RegionOf). Whole k (x ∷ (o ∷ qs)) ss) b w))
  dropped_whole r (x ∷ qs) (suc i) e f ss w = same_behind k x qs (remove (set qs (suc i) (with_gap (p + (y + r.gap)) r)) i) (dropped_woven r qs i e f) ss w

  last_woven : (qs : List RegionOf) (i : ℕ) → slice_get qs i ≡ Some (region p [] y []) → suc i ≡ length qs → Same k qs (remove qs i)
  last_woven [] i e h n ls ss w = cc
  last_woven (x ∷ []) zero e h n ls ss w = let a : x ≡ region p [] y [] = cc in spent_last n ls ss (subst (λ (o : RegionOf). Woven k n ls (o ∷ []) ss) a w)
  last_woven (x ∷ z ∷ qs) zero e h n ls ss w = absurd (omega (arith, h))
  last_woven (x ∷ qs) (suc i) e h n ls ss (next {fs = fs} {rs = rs} z g v d) = next z g (last_woven qs i e (omega (arith, h)) x.lane.first fs rs v) d

  last_whole : (qs : List RegionOf) (i : ℕ) → slice_get qs i ≡ Some (region p [] y []) → suc i ≡ length qs → SameWhole k qs (remove qs i)
  last_whole [] i e h ss w = cc
  last_whole (x ∷ []) zero e h ss w = let a : x ≡ region p [] y [] = cc in spent_only ss (subst (λ (o : RegionOf). Whole k (o ∷ []) ss) a w)
  last_whole (x ∷ z ∷ qs) zero e h ss w = absurd (omega (arith, h))
  last_whole (x ∷ qs) (suc i) e h ss w = same_behind k x qs (remove qs i) (last_woven qs i e (omega (arith, h))) ss w

dropped_sum : (p y : ℕ) (r : RegionOf) (qs : List RegionOf) (i : ℕ) → slice_get qs i ≡ Some (region p [] y []) → slice_get qs (suc i) ≡ Some r → befores (remove (set qs (suc i) (with_gap (p + (y + r.gap)) r)) i) ≡ befores qs
dropped_sum p y r [] i e f = cc
dropped_sum p y r (x ∷ []) zero e f = cc
dropped_sum p y r (x ∷ z ∷ qs) zero e f =
    let a : x ≡ region p [] y [] = cc in
    let b : z ≡ r = cc in
    let u = ap before a in
    let v = ap before b in
    omega (arith, u, v)
dropped_sum p y r (x ∷ qs) (suc i) e f = let u = dropped_sum p y r qs i e f in omega (arith, u)

last_sum : (qs : List RegionOf) (i : ℕ) → befores (remove qs i) ≤ befores qs
last_sum [] zero = omega arith
last_sum [] (suc i) = omega arith
last_sum (x ∷ qs) zero = omega arith
last_sum (x ∷ qs) (suc i) = let u = last_sum qs i in omega (arith, u)

-- ---- as the code does it
-- without slots it is this one
spent_lists : (ns : List ℕ) (g x : ℕ) (ss : List (Option Op)) → length ns ≡ 0 → length ss ≡ 0 → region g ns x ss ≡ region g [] x []
spent_lists [] g x [] h e = refl
spent_lists [] g x (s ∷ ss) h e = absurd (omega (arith, e))
spent_lists (n ∷ ns) g x ss h e = absurd (omega (arith, h))

pub spent_is : (q : RegionOf) → length q.numbers ≡ 0 → length q.lane.slots ≡ 0 → q ≡ region q.gap [] q.lane.first []
spent_is q h e = spent_lists q.numbers q.gap q.lane.first q.lane.slots h e

any : Stamp → Stamp → Bool
any s t = false

pub shrunk_same : (qs : List RegionOf) → Shrunk qs qs
shrunk_same qs = record { same = λ k ss w. w; low = omega arith }

pub shrunk_gap : (qs zs : List RegionOf) (i g : ℕ) (q r : RegionOf) → slice_get qs i ≡ Some q → slice_get qs (suc i) ≡ Some r → q ≡ region q.gap [] q.lane.first [] → g ≡ r.gap + (q.gap + q.lane.first) → zs ≡ remove (set qs (suc i) (with_gap g r)) i → Shrunk qs zs
shrunk_gap qs zs i g q r e f spent is new =
    let h = e ∙ ap Some spent in
    let n : g ≡ q.gap + (q.lane.first + r.gap) = omega (arith, is) in
    let low = dropped_sum q.gap q.lane.first r qs i h f in
    subst (Shrunk qs) (sym (new ∙ ap (λ m. remove (set qs (suc i) (with_gap m r)) i) n)) (record { same = λ k. dropped_whole any k q.gap q.lane.first r qs i h f; low = omega (arith, low) })

pub shrunk_last : (qs zs : List RegionOf) (i : ℕ) (q : RegionOf) → slice_get qs i ≡ Some q → suc i ≡ length qs → q ≡ region q.gap [] q.lane.first [] → zs ≡ remove qs i → Shrunk qs zs
shrunk_last qs zs i q e h spent new =
    subst (Shrunk qs) (sym new) (record { same = λ k. last_whole any k q.gap q.lane.first qs i (e ∙ ap Some spent) h; low = last_sum qs i })

two_low : (qs : List RegionOf) (i : ℕ) (q r : RegionOf) → slice_get qs i ≡ Some q → slice_get qs (suc i) ≡ Some r → before q + before r ≤ befores qs
two_low [] i q r e f = cc
two_low (x ∷ []) zero q r e f = cc
two_low (x ∷ y ∷ qs) zero q r e f = let a : x ≡ q = cc in let b : y ≡ r = cc in let u = ap before a in let v = ap before b in omega (arith, u, v)
two_low (x ∷ qs) (suc i) q r e f = let u = two_low qs i q r e f in omega (arith, u)

pub gap_room : (qs : List RegionOf) (i : ℕ) (q r : RegionOf) → Loose qs → slice_get qs i ≡ Some q → slice_get qs (suc i) ≡ Some r → r.gap + (q.gap + q.lane.first) + r.lane.first + length r.lane.slots < top
gap_room qs i q r l e f =
    let low = two_low qs i q r e f in
    let few = whole_slots l.whole (suc i) r f in
    let room = l.room in
    omega (arith, low, few, room)

pub region_room : (qs : List RegionOf) (i : ℕ) (q : RegionOf) → Loose qs → slice_get qs i ≡ Some q → q.gap + q.lane.first < top
region_room qs i q l e = let low = before_at qs i q e in let room = l.room in omega (arith, low, room)

pub loose : (qs zs : List RegionOf) (k : ℕ) (z : Option Op) → Starts qs k → PopsFirst qs k z zs → Loose zs
loose qs zs k z s p =
    let w = p.slots s.slot s.slots s.whole in
    let more = after_more z (befores qs) in
    let low = p.fits in
    let fits = s.fits in
    let room = s.room in
    record { popped = suc k; slots = s.slots; whole = w.0; room = omega (arith, more, low, fits, room) }

pub pops_shrunk : (qs ys zs : List RegionOf) (k : ℕ) (z : Option Op) → PopsFirst qs k z ys → Shrunk ys zs → PopsFirst qs k z zs
pops_shrunk qs ys zs k z p h =
    let low = p.fits in
    let less = h.low in
    record { slots = λ s ss w. let r = p.slots s ss w in (h.same (suc k) ss r.0, r.1); fits = omega (arith, low, less) }
