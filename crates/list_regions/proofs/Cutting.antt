-- A region becomes two: what they tell.
use Rattle.std.proofs.Common.{◌≡◌, ℕ, zero, suc, ◌+◌, Bool, List, [], ◌∷◌, set, Option, Some, None, sym, ap, ◌∙◌, subst, arith}
use Rattle.std.specs.Prelude.{slice_get, insert}
use Rattle.sync_data.specs.declared.entry.Stamp.{Stamp}
use Rattle.list_places.specs.Places.{longer, Within}
use Rattle.list_places.specs.declared.places.Does.{Does}
use Rattle.list_places.specs.declared.places.Does.TheVariants.{Inserts, Erases, Updates}
use Rattle.list_lane.specs.Lanes.{crossed, Chains}
use Rattle.list_lane.specs.Parts.{Parts, end, empty, front, back, from}
use Rattle.list_lane.specs.declared.op.Op.{Op}
use Rattle.list_regions.specs.Regions.{RegionOf, before, befores, Spread, skip, here, end as done, Woven, last, next, Whole, first}
use Rattle.list_lane.proofs.Rooms.{after_more, crossed_length}
use Rattle.list_regions.specs.Kept.{Alike, Loose, Meets, Passes, Shrunk}
use Rattle.list_regions.specs.Cuts.{Cut, finished, left_out, in_front, in_back, IsCut}
use Rattle.list_regions.proofs.Views.{longer_more, longer_behind}
use Rattle.list_regions.proofs.Edits.{Same, SameWhole, same_behind}

-- ---- the slots among all slots
pub record Halves (k g x : ℕ) (hs : List (Option Op)) (ns : List ℕ) (ss : List (Option Op)) (ms : List ℕ) (ts : List (Option Op)) : Type 0 where
  pub fronts : List (Option Op)
  pub backs : List (Option Op)
  pub parts : Parts g x hs fronts backs
  pub front_spread : Spread k ns ss fronts
  pub back_spread : Spread k ms ts backs

next_half : {g x k : ℕ} {s : Option Op} {os ns ms : List ℕ} {us ss ts fs : List (Option Op)} → ((y : ℕ) (is js : List ℕ) (vs ws : List (Option Op)) → Cut g y os us is vs js ws → Halves (suc k) g y fs is vs js ws)
    → Cut g x (k ∷ os) (s ∷ us) ns ss ms ts → Halves k g x (s ∷ fs) ns ss ms ts
next_half {x = x} f (left_out {ns = ns} {ms = ms} {ss = ss} {ts = ts} c) =
    let h = f x ns ms ss ts c in
    record { fronts = None ∷ h.fronts; backs = None ∷ h.backs; parts = empty h.parts; front_spread = skip h.front_spread; back_spread = skip h.back_spread }
next_half {x = x} f (in_front {a = a} {ns = ns} {ms = ms} {ss = ss} {ts = ts} w c) =
    let h = f (longer a.does x) ns ms ss ts c in
    record { fronts = Some a ∷ h.fronts; backs = None ∷ h.backs; parts = front w h.parts; front_spread = here h.front_spread; back_spread = skip h.back_spread }
next_half {x = x} f (in_back {a = a} {ns = ns} {ms = ms} {ss = ss} {ts = ts} c) =
    let h = f x ns ms ss ts c in
    record { fronts = None ∷ h.fronts; backs = Some a ∷ h.backs; parts = back h.parts; front_spread = skip h.front_spread; back_spread = here h.back_spread }

pub halves : {g k : ℕ} {os : List ℕ} {us hs : List (Option Op)} → Spread k os us hs → {x : ℕ} {ns ms : List ℕ} {ss ts : List (Option Op)} → Cut g x os us ns ss ms ts → Halves k g x hs ns ss ms ts
halves done finished = record { fronts = []; backs = []; parts = end; front_spread = done; back_spread = done }
halves (skip d) c = let h = halves d c in record { fronts = None ∷ h.fronts; backs = None ∷ h.backs; parts = empty h.parts; front_spread = skip h.front_spread; back_spread = skip h.back_spread }
halves (here d) c = next_half (λ y is js vs ws e. halves d e) c

-- ---- three parts in the other order
within_back : (d : Does) (p x g y : ℕ) → Within d (p + (x + g)) (x + (g + y)) → Within d p y
within_back Inserts p x g y h = omega (arith, h)
within_back Erases p x g y h = omega (arith, h)
within_back Updates p x g y h = omega (arith, h)

pub record Apart (g x h y : ℕ) (ss ls rs ts : List (Option Op)) : Type 0 where
  pub middle : List (Option Op)
  pub outer : Parts g x ss ls middle
  pub inner : Parts h y middle rs ts

pub apart : {g x h y : ℕ} {bs ls rs ss ts : List (Option Op)} → Parts g x bs ls rs → Parts h (x + (g + y)) ss bs ts → Apart g x h y ss ls rs ts
apart end end = record { middle = []; outer = end; inner = end }
apart (empty d) (empty e) = let r = apart d e in record { middle = None ∷ r.middle; outer = empty r.outer; inner = empty r.inner }
apart {g = g} {x = x} {h = h} {y = y} (empty {ls = ls} d) (back {a = c} {ss = ss} e) =
    let r = apart d e in
    let k : c.place + (y + h) + (x + g) ≡ c.place + (x + (g + y) + h) = omega arith in
    record {
      middle = Some (from (y + h) c) ∷ r.middle;
      outer = subst (λ n. Parts g x (Some (record c { place = n }) ∷ ss) (None ∷ ls) (Some (from (y + h) c) ∷ r.middle)) k (back {a = from (y + h) c} r.outer);
      inner = back r.inner;
    }
apart {g = g} {x = x} {h = h} {y = y} (front {a = a} {ls = ls} {rs = rs} w d) (front {ss = ss} {ls = bs} {rs = ts} v e) =
    let r = apart d (subst (λ n. Parts h n ss bs ts) (longer_more a.does a.place x (g + y) w) e) in
    record { middle = None ∷ r.middle; outer = front w r.outer; inner = empty r.inner }
apart {g = g} {x = x} {h = h} {y = y} (back {a = a} {ls = ls} {rs = rs} d) (front {ss = ss} {ls = bs} {rs = ts} v e) =
    let w = within_back a.does a.place x g y v in
    let r = apart d (subst (λ n. Parts h n ss bs ts) (longer_behind a.does a.place x g y w) e) in
    record { middle = Some a ∷ r.middle; outer = back r.outer; inner = front w r.inner }

chains_behind : {g x : ℕ} {ss ls rs : List (Option Op)} → Parts g x ss ls rs → (y : ℕ) → Chains (x + (g + y)) ss → Chains y rs
chains_behind end y c = tt
chains_behind (empty d) y c = (tt, chains_behind d y c.1)
chains_behind {g = g} {x = x} (front {a = a} {ss = ss} w d) y c = (tt, chains_behind d y (subst (λ n. Chains n ss) (longer_more a.does a.place x (g + y) w) c.1))
chains_behind {g = g} {x = x} (back {a = a} {ss = ss} d) y c =
    let w = within_back a.does a.place x g y c.0 in
    (w, chains_behind d (longer a.does y) (subst (λ n. Chains n ss) (longer_behind a.does a.place x g y w) c.1))

module _ (k : ℕ) where
  -- the regions behind a region are behind its back half
  record Behind (g x y : ℕ) (qs : List RegionOf) (ls rs ss : List (Option Op)) : Type 0 where
    middle : List (Option Op)
    outer : Parts g x ss ls middle
    inner : Woven k y rs qs middle

  behind : {g x y : ℕ} {qs : List RegionOf} {bs ls rs ss : List (Option Op)} → Parts g x bs ls rs → Woven k (x + (g + y)) bs qs ss → Behind g x y qs ls rs ss
  behind {y = y} {rs = rs} d (last c) = record { middle = rs; outer = d; inner = last (chains_behind d y c) }
  behind d (next h f m e) = let r = apart d e in record { middle = r.middle; outer = r.outer; inner = next h f m r.inner }

-- ---- a region and its halves
module _ (m q r : RegionOf) (h : IsCut m q r) where
  module _ (k : ℕ) where
    half_woven : (qs : List RegionOf) (fs rs : List (Option Op)) (s : Halves k 1 q.lane.first fs q.numbers q.lane.slots r.numbers r.lane.slots) → Woven k m.lane.first fs qs rs → Woven k q.lane.first s.fronts (r ∷ qs) rs
    half_woven qs fs rs s w =
        let one = h.one in
        let b = behind k s.parts (subst (λ n. Woven k n fs qs rs) h.first w) in
        next (omega (arith, one)) s.back_spread b.inner (subst (λ n. Parts n q.lane.first rs s.fronts b.middle) (sym one) b.outer)

    half_next : (qs : List RegionOf) → Same k (m ∷ qs) (q ∷ r ∷ qs)
    half_next qs x ls ss (next {fs = fs} {rs = rs} z f w d) =
        let s = halves f h.cut in
        let gap = h.gap in
        next (omega (arith, gap, z)) s.front_spread (half_woven qs fs rs s w) (subst (λ n. Parts n x ss ls rs) (sym gap) d)

    half_first : (qs : List RegionOf) → SameWhole k (m ∷ qs) (q ∷ r ∷ qs)
    half_first qs ss (first {ls = ls} {fs = fs} {rs = rs} z f w d) =
        let s = halves f h.cut in
        first z s.front_spread (half_woven qs fs rs s w) (subst (λ n. Parts n zero ss ls rs) (sym h.gap) d)

    cut_woven : (qs : List RegionOf) (i : ℕ) → slice_get qs i ≡ Some m → Same k qs (set (insert qs (suc i) r) i q)
    cut_woven [] i e n ls ss w = cc
    cut_woven (x ∷ []) zero e n ls ss w = let a : x ≡ m = cc in half_next [] n ls ss (subst (λ (o : RegionOf). Woven k n ls (o ∷ []) ss) a w)
    cut_woven (x ∷ y ∷ qs) zero e n ls ss w = let a : x ≡ m = cc in half_next (y ∷ qs) n ls ss (subst (λ (o : RegionOf). Woven k n ls (o ∷ y ∷ qs) ss) a w)
    cut_woven (x ∷ qs) (suc i) e n ls ss (next {fs = fs} {rs = rs} z f w d) = next z f (cut_woven qs i e x.lane.first fs rs w) d

    cut_whole : (qs : List RegionOf) (i : ℕ) → slice_get qs i ≡ Some m → SameWhole k qs (set (insert qs (suc i) r) i q)
    cut_whole [] i e ss w = cc
    cut_whole (x ∷ []) zero e ss w = let a : x ≡ m = cc in half_first [] ss (subst (λ (o : RegionOf). Whole k (o ∷ []) ss) a w)
    cut_whole (x ∷ y ∷ qs) zero e ss w = let a : x ≡ m = cc in half_first (y ∷ qs) ss (subst (λ (o : RegionOf). Whole k (o ∷ y ∷ qs) ss) a w)
    cut_whole (x ∷ qs) (suc i) e ss w = same_behind k x qs (set (insert qs (suc i) r) i q) (cut_woven qs i e) ss w

  cut_sum : (qs : List RegionOf) (i : ℕ) → slice_get qs i ≡ Some m → befores (set (insert qs (suc i) r) i q) ≡ befores qs
  cut_sum [] i e = cc
  cut_sum (x ∷ []) zero e = let a : x ≡ m = cc in let u = ap before a in let g = h.gap in let o = h.one in let f = h.first in omega (arith, u, g, o, f)
  cut_sum (x ∷ y ∷ qs) zero e = let a : x ≡ m = cc in let u = ap before a in let g = h.gap in let o = h.one in let f = h.first in omega (arith, u, g, o, f)
  cut_sum (x ∷ qs) (suc i) e = let u = cut_sum qs i e in omega (arith, u)

  pub cut_alike : (qs zs : List RegionOf) (i j : ℕ) → slice_get qs i ≡ Some m → j ≡ suc i → zs ≡ set (insert qs j r) i q → Alike qs zs
  cut_alike qs zs i j e is_next new =
      subst (Alike qs) (sym (new ∙ ap (λ n. set (insert qs n r) i q) is_next)) (record { same = λ k. cut_whole k qs i e; befores_are = cut_sum qs i e })

-- ---- what holds of regions that were crossed, and are cut
pub loose_alike : (qs zs : List RegionOf) → Loose qs → Alike qs zs → Loose zs
loose_alike qs zs h a =
    let same = a.befores_are in
    let room = h.room in
    record { popped = h.popped; slots = h.slots; whole = a.same h.popped h.slots h.whole; room = omega (arith, same, room) }

pub loose_shrunk : (qs zs : List RegionOf) → Loose qs → Shrunk qs zs → Loose zs
loose_shrunk qs zs h a =
    let low = a.low in
    let room = h.room in
    record { popped = h.popped; slots = h.slots; whole = a.same h.popped h.slots h.whole; room = omega (arith, low, room) }

pub shrunk_then : (qs xs ys zs : List RegionOf) → Alike qs xs → Shrunk xs ys → Shrunk ys zs → Shrunk qs zs
shrunk_then qs xs ys zs a s t =
    let same = a.befores_are in
    let one = s.low in
    let two = t.low in
    record { same = λ k ss w. t.same k ss (s.same k ss (a.same k ss w)); low = omega (arith, same, one, two) }

pub passes_loose : (l : Stamp → Stamp → Bool) (qs zs : List RegionOf) (b : Op) (z : Option Op) → Meets qs b → Passes l qs b z zs → Loose zs
passes_loose l qs zs b z m p =
    let low = p.fits m.length_is m.fits m.within in
    let one = after_more (Some b) m.length_is in
    let count = crossed_length l m.slots (Some b) in
    let room = m.room in
    record {
      popped = m.popped;
      slots = (crossed l m.slots (Some b)).slots;
      whole = (p.slots m.popped m.slots m.whole).0;
      room = omega (arith, low, one, count, room);
    }

pub passes_shrunk : (l : Stamp → Stamp → Bool) (qs ys zs : List RegionOf) (b : Op) (z : Option Op) → Passes l qs b z ys → Shrunk ys zs → Passes l qs b z zs
passes_shrunk l qs ys zs b z p a =
    let less = a.low in
    record {
      slots = λ k ss w. (a.same k (crossed l ss (Some b)).slots (p.slots k ss w).0, (p.slots k ss w).1);
      fits = λ n h w. let low = p.fits n h w in omega (arith, less, low);
    }
