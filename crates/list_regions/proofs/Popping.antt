-- The first slot leaves.
use Rattle.std.proofs.Common.{◌≡◌, ℕ, zero, suc, ◌+◌, ◌-◌, ◌<◌, ◌≤◌, List, [], ◌∷◌, length, take, set, Option, Some, None, refl, sym, ap, ◌∙◌, subst, arith}
use Rattle.std.specs.Prelude.{slice_get, IfSome}
use Rattle.list_places.specs.declared.places.Does.{Does}
use Rattle.list_places.specs.declared.places.Does.TheVariants.{Inserts, Erases, Updates}
use Rattle.list_places.specs.Places.{longer, Within}
use Rattle.list_lane.specs.Lanes.{first_slot, length_after, Fits}
use Rattle.list_lane.specs.Parts.{Parts, empty, front, back, from}
use Rattle.list_lane.specs.declared.op.Op.{Op}
use Rattle.std.specs.Option.{option_map}
use Rattle.sync_base.specs.Rules.{top}
use Rattle.list_lane.proofs.Rooms.{within_most}
use Rattle.list_regions.specs.Regions.{RegionOf, before, befores, number, first_number, moved_on, either, Spread, skip, here, Woven, last, next, Whole, none, first}
use Rattle.list_regions.specs.Kept.{region, popped_region, AllLater, PopsAt}
use Rattle.list_regions.proofs.Spreads.{spread_from, spread_numbers}
use Rattle.list_regions.proofs.Behind.{parts_left, parts_right}
use Rattle.list_regions.proofs.Views.{woven_length, whole_chain_at, before_at}
use Rattle.list_regions.proofs.Opening.{set_befores}
use Rattle.list_regions.proofs.Slots.{either_none}

-- ---- the first of spread slots
-- it is none of those with numbers
spread_later : {k : ℕ} {ns : List ℕ} {ss fs : List (Option Op)} {f : Option Op} → Spread k ns ss (f ∷ fs) → (first_number ns ≡ k → ⊥) → Spread (suc k) ns ss fs × (f ≡ None)
spread_later (skip d) h = (d, refl)
spread_later (here d) h = absurd (h refl)

-- or it is their first
spread_first : {k : ℕ} {ns ms : List ℕ} {ss fs : List (Option Op)} {t f : Option Op} → Spread k ns (t ∷ ss) (f ∷ fs) → ns ≡ k ∷ ms → Spread (suc k) ms ss fs × (f ≡ t)
spread_first {k = k} {ms = ms} (skip d) e = absurd (let h = spread_from d k ms e in omega (arith, h))
spread_first {k = k} {ms = ms} (here {ns = ns} {ss = ss} {fs = fs} d) e = let h : ns ≡ ms = cc in (subst (λ r. Spread (suc k) r ss fs) h d, refl)

-- ---- the first of parts
parts_first : {g x : ℕ} {ss ls rs : List (Option Op)} {s l r : Option Op} → Parts g x (s ∷ ss) (l ∷ ls) (r ∷ rs) → r ≡ None → Parts g (length_after l x) ss ls rs × (s ≡ l)
parts_first (empty d) e = (d, refl)
parts_first (front w d) e = (d, refl)
parts_first (back d) e = cc

parts_front : {g x : ℕ} {a : Op} {ss ls rs : List (Option Op)} {s r : Option Op} → Parts g x (s ∷ ss) (Some a ∷ ls) (r ∷ rs) → Parts g (longer a.does x) ss ls rs × (s ≡ Some a) × (r ≡ None)
parts_front (front w d) = (d, refl, refl)

parts_back : {g x : ℕ} {a : Op} {ss ls rs : List (Option Op)} {s l r : Option Op} → Parts g x (s ∷ ss) (l ∷ ls) (r ∷ rs) → r ≡ Some a → Parts g x ss ls rs × (l ≡ None) × (s ≡ Some (from (x + g) a))
parts_back (empty d) e = cc
parts_back (front w d) e = cc
parts_back {g = g} {x = x} (back {a = b} d) e = (d, refl, ap (λ o. option_from (x + g) o) e)
  where
    option_from : ℕ → Option Op → Option Op
    option_from n None = None
    option_from n (Some c) = Some (from n c)

module _ (k : ℕ) where
  -- no region has it
  woven_later : {x : ℕ} {qs : List RegionOf} {ls ss : List (Option Op)} {l s : Option Op} → Woven k x (l ∷ ls) qs (s ∷ ss) → AllLater k qs → Woven (suc k) (length_after l x) ls qs ss × (s ≡ l)
  woven_later (last h) a = (last h.1, refl)
  woven_later (next {fs = []} h f m d) a = absurd (let u = woven_length m in let v = parts_right d in omega (arith, u, v))
  woven_later (next {fs = f0 ∷ fs} {rs = []} h f m d) a = absurd (let v = parts_right d in omega (arith, v))
  woven_later (next {q = q} {qs = qs} {fs = f0 ∷ fs} {rs = r ∷ rs} h f m d) a =
      let p = spread_later f (a 0 q refl) in
      let w = woven_later m (λ i y g. a (suc i) y g) in
      let u = parts_first d (w.1 ∙ p.1) in
      (next h p.0 (subst (λ (t : Option Op). Woven (suc k) (length_after t q.lane.first) fs qs rs) p.1 w.0) u.0, u.1)

  pub whole_later : {qs : List RegionOf} {ss : List (Option Op)} {s : Option Op} → Whole k qs (s ∷ ss) → AllLater k qs → Whole (suc k) qs ss × (s ≡ None)
  whole_later {s = None} (none h) a = (none h, refl)
  whole_later {s = Some b} (none h) a = absurd h
  whole_later (first {ls = []} h f m d) a = absurd (let v = parts_left d in omega (arith, v))
  whole_later (first {ls = Some b ∷ ls} h f m d) a = absurd h
  whole_later (first {ls = None ∷ ls} {fs = []} h f m d) a = absurd (let u = woven_length m in let v = parts_right d in omega (arith, u, v))
  whole_later (first {ls = None ∷ ls} {fs = f0 ∷ fs} {rs = []} h f m d) a = absurd (let v = parts_right d in omega (arith, v))
  whole_later (first {q = q} {qs = qs} {ls = None ∷ ls} {fs = f0 ∷ fs} {rs = r ∷ rs} h f m d) a =
      let p = spread_later f (a 0 q refl) in
      let w = woven_later m (λ i y g. a (suc i) y g) in
      let u = parts_first d (w.1 ∙ p.1) in
      (first h p.0 (subst (λ (t : Option Op). Woven (suc k) (length_after t q.lane.first) fs qs rs) p.1 w.0) u.0, u.1)

  -- ---- a region has it: the slots stay where nothing is in it, and else the first becomes empty; n is how far what is in it is moved
  abbrev pub Popped : Option Op → ℕ → ℕ → Option Op → List (Option Op) → List RegionOf → Option Op → List (Option Op) → Type 0
  Popped None n x l ls zs s ss = Woven k x (l ∷ ls) zs (s ∷ ss)
  Popped (Some a) n x l ls zs s ss = Woven k x (l ∷ ls) zs (None ∷ ss) × (l ≡ None) × (s ≡ Some (from (x + n) a))

  front_popped : {x : ℕ} {qs : List RegionOf} {ls ss : List (Option Op)} {a : Op} {s : Option Op} → Woven k x (Some a ∷ ls) qs (s ∷ ss) → Woven k (longer a.does x) (None ∷ ls) qs (None ∷ ss) × (s ≡ Some a)
  front_popped (last h) = (last (tt, h.1), refl)
  front_popped (next {rs = []} h f m d) = absurd (let v = parts_right d in omega (arith, v))
  front_popped (next {q = q} {qs = qs} {fs = fs} {rs = r ∷ rs} h f m d) = let p = parts_front d in (next h f (subst (λ o. Woven k q.lane.first fs qs (o ∷ rs)) p.2 m) (empty p.0), p.1)

  empty_pair : {g x : ℕ} {ss ls rs : List (Option Op)} (l : Option Op) → l ≡ None → Parts g x ss ls rs → Parts g x (None ∷ ss) (l ∷ ls) (None ∷ rs)
  empty_pair {g = g} {x = x} {ss = ss} {ls = ls} {rs = rs} l e d = subst (λ o. Parts g x (None ∷ ss) (o ∷ ls) (None ∷ rs)) (sym e) (empty d)

  pop_here : (g y : ℕ) (ns : List ℕ) (t : Option Op) (ts : List (Option Op)) (qs : List RegionOf) (x : ℕ) (l s : Option Op) (ls ss : List (Option Op)) → Woven k x (l ∷ ls) (region g (k ∷ ns) y (t ∷ ts) ∷ qs) (s ∷ ss)
      → Popped t g x l ls (region g ns (length_after t y) ts ∷ qs) s ss
  pop_here g y ns t ts qs x l s ls ss (next {fs = []} h f m d) = absurd (let u = woven_length m in let v = parts_right d in omega (arith, u, v))
  pop_here g y ns t ts qs x l s ls ss (next {fs = f0 ∷ fs} {rs = []} h f m d) = absurd (let v = parts_right d in omega (arith, v))
  pop_here g y ns None ts qs x l s ls ss (next {fs = f0 ∷ fs} {rs = r ∷ rs} h f m d) =
      let p = spread_first f refl in
      next h (skip p.0) (subst (λ o. Woven k y (o ∷ fs) qs (r ∷ rs)) p.1 m) d
  pop_here g y ns (Some a) ts qs x l s ls ss (next {fs = f0 ∷ fs} {rs = r ∷ rs} h f m d) =
      let p = spread_first f refl in
      let w = front_popped (subst (λ o. Woven k y (o ∷ fs) qs (r ∷ rs)) p.1 m) in
      let u = parts_back d w.1 in
      (next h (skip p.0) w.0 (empty_pair l u.1 u.0), u.1, u.2)

  pop_moved : (a : Op) (x g y n m : ℕ) (s : Option Op) → g + y + n ≡ m → s ≡ Some (from (x + g) (from (y + n) a)) → s ≡ Some (from (x + m) a)
  pop_moved a x g y n m s e h = let j : a.place + (y + n) + (x + g) ≡ a.place + (x + m) = omega (arith, e) in h ∙ ap (λ p. Some (record a { place = p })) j

  pop_woven : (qs : List RegionOf) (i : ℕ) (g y : ℕ) (ns : List ℕ) (t : Option Op) (ts : List (Option Op)) → slice_get qs i ≡ Some (region g (k ∷ ns) y (t ∷ ts)) → (x : ℕ) (l s : Option Op) (ls ss : List (Option Op)) → Woven k x (l ∷ ls) qs (s ∷ ss)
      → Popped t (befores (take i qs) + g) x l ls (set qs i (region g ns (length_after t y) ts)) s ss
  pop_woven [] i g y ns t ts e x l s ls ss w = cc
  pop_woven (q ∷ qs) zero g y ns t ts e x l s ls ss w =
      let h : q ≡ region g (k ∷ ns) y (t ∷ ts) = cc in
      let n : g ≡ 0 + g = omega arith in
      subst (λ j. Popped t j x l ls (region g ns (length_after t y) ts ∷ qs) s ss) n
      (pop_here g y ns t ts qs x l s ls ss (subst (λ (r : RegionOf). Woven k x (l ∷ ls) (r ∷ qs) (s ∷ ss)) h w))
  pop_woven (q ∷ qs) (suc i) g y ns t ts e x l s ls ss (next {fs = []} h f m d) = absurd (let u = woven_length m in let v = parts_right d in omega (arith, u, v))
  pop_woven (q ∷ qs) (suc i) g y ns t ts e x l s ls ss (next {fs = f0 ∷ fs} {rs = []} h f m d) = absurd (let v = parts_right d in omega (arith, v))
  pop_woven (q ∷ qs) (suc i) g y ns None ts e x l s ls ss (next {fs = f0 ∷ fs} {rs = r ∷ rs} h f m d) = next h f (pop_woven qs i g y ns None ts e q.lane.first f0 r fs rs m) d
  pop_woven (q ∷ qs) (suc i) g y ns (Some a) ts e x l s ls ss (next {fs = f0 ∷ fs} {rs = r ∷ rs} h f m d) =
      let w = pop_woven qs i g y ns (Some a) ts e q.lane.first f0 r fs rs m in
      let u = parts_back d w.2 in
      (next h f w.0 (empty_pair l u.1 u.0), u.1, pop_moved a x q.gap q.lane.first (befores (take i qs) + g) (before q + befores (take i qs) + g) s (omega arith) u.2)

  -- all regions
  abbrev pub PoppedWhole : Option Op → ℕ → List RegionOf → Option Op → List (Option Op) → Type 0
  PoppedWhole None n zs s ss = Whole k zs (s ∷ ss)
  PoppedWhole (Some a) n zs s ss = Whole k zs (None ∷ ss) × (s ≡ Some (from n a))

  whole_here : (g y : ℕ) (ns : List ℕ) (t : Option Op) (ts : List (Option Op)) (qs : List RegionOf) (s : Option Op) (ss : List (Option Op)) → Whole k (region g (k ∷ ns) y (t ∷ ts) ∷ qs) (s ∷ ss)
      → PoppedWhole t g (region g ns (length_after t y) ts ∷ qs) s ss
  whole_here g y ns t ts qs s ss (first {ls = []} h f m d) = absurd (let v = parts_left d in omega (arith, v))
  whole_here g y ns t ts qs s ss (first {ls = Some b ∷ ls} h f m d) = absurd h
  whole_here g y ns t ts qs s ss (first {ls = None ∷ ls} {fs = []} h f m d) = absurd (let u = woven_length m in let v = parts_right d in omega (arith, u, v))
  whole_here g y ns t ts qs s ss (first {ls = None ∷ ls} {fs = f0 ∷ fs} {rs = []} h f m d) = absurd (let v = parts_right d in omega (arith, v))
  whole_here g y ns None ts qs s ss (first {ls = None ∷ ls} {fs = f0 ∷ fs} {rs = r ∷ rs} h f m d) =
      let p = spread_first f refl in
      first {ls = None ∷ ls} h (skip p.0) (subst (λ o. Woven k y (o ∷ fs) qs (r ∷ rs)) p.1 m) d
  whole_here g y ns (Some a) ts qs s ss (first {ls = None ∷ ls} {fs = f0 ∷ fs} {rs = r ∷ rs} h f m d) =
      let p = spread_first f refl in
      let w = front_popped (subst (λ o. Woven k y (o ∷ fs) qs (r ∷ rs)) p.1 m) in
      let u = parts_back d w.1 in
      let j : a.place + (zero + g) ≡ a.place + g = omega arith in
      (first {ls = None ∷ ls} h (skip p.0) w.0 (empty u.0), u.2 ∙ ap (λ n. Some (record a { place = n })) j)

  pub pop_whole : (qs : List RegionOf) (i : ℕ) (g y : ℕ) (ns : List ℕ) (t : Option Op) (ts : List (Option Op)) → slice_get qs i ≡ Some (region g (k ∷ ns) y (t ∷ ts)) → (s : Option Op) (ss : List (Option Op)) → Whole k qs (s ∷ ss)
      → PoppedWhole t (befores (take i qs) + g) (set qs i (region g ns (length_after t y) ts)) s ss
  pop_whole [] i g y ns t ts e s ss w = cc
  pop_whole (q ∷ qs) zero g y ns t ts e s ss w =
      let h : q ≡ region g (k ∷ ns) y (t ∷ ts) = cc in
      let n : g ≡ 0 + g = omega arith in
      subst (λ j. PoppedWhole t j (region g ns (length_after t y) ts ∷ qs) s ss) n
      (whole_here g y ns t ts qs s ss (subst (λ (r : RegionOf). Whole k (r ∷ qs) (s ∷ ss)) h w))
  pop_whole (q ∷ qs) (suc i) g y ns t ts e s ss (first {ls = []} h f m d) = absurd (let v = parts_left d in omega (arith, v))
  pop_whole (q ∷ qs) (suc i) g y ns t ts e s ss (first {ls = Some b ∷ ls} h f m d) = absurd h
  pop_whole (q ∷ qs) (suc i) g y ns t ts e s ss (first {ls = None ∷ ls} {fs = []} h f m d) = absurd (let u = woven_length m in let v = parts_right d in omega (arith, u, v))
  pop_whole (q ∷ qs) (suc i) g y ns t ts e s ss (first {ls = None ∷ ls} {fs = f0 ∷ fs} {rs = []} h f m d) = absurd (let v = parts_right d in omega (arith, v))
  pop_whole (q ∷ qs) (suc i) g y ns None ts e s ss (first {ls = None ∷ ls} {fs = f0 ∷ fs} {rs = r ∷ rs} h f m d) = first {ls = None ∷ ls} h f (pop_woven qs i g y ns None ts e q.lane.first f0 r fs rs m) d
  pop_whole (q ∷ qs) (suc i) g y ns (Some a) ts e s ss (first {ls = None ∷ ls} {fs = f0 ∷ fs} {rs = r ∷ rs} h f m d) =
      let w = pop_woven qs i g y ns (Some a) ts e q.lane.first f0 r fs rs m in
      let u = parts_back d w.2 in
      let j : a.place + (q.lane.first + (befores (take i qs) + g)) + (zero + q.gap) ≡ a.place + (before q + befores (take i qs) + g) = omega arith in
      (first {ls = None ∷ ls} h f w.0 (empty u.0), u.2 ∙ ap (λ n. Some (record a { place = n })) j)

  -- ---- from one region to the next that has it
  -- what is left of the first slot and what was popped; nothing is left behind what was
  pub record Popping (qs zs : List RegionOf) (z s : Option Op) (ss : List (Option Op)) : Type 0 where
    pub rest : Option Op
    pub whole : Whole k zs (rest ∷ ss)
    pub slot : s ≡ either z rest
    pub once : IfSome z (λ a. rest ≡ None)
    pub sum : befores zs ≡ length_after z (befores qs)

  pub popping_none : (qs : List RegionOf) (s : Option Op) (ss : List (Option Op)) → Whole k qs (s ∷ ss) → Popping qs qs None s ss
  popping_none qs s ss w = record { rest = s; whole = w; slot = refl; once = tt; sum = refl }

  longer_part : (d : Does) (p x y n : ℕ) → Within d p x → y + x ≡ n → y + longer d x ≡ longer d n
  longer_part Inserts p x y n w e = omega (arith, e)
  longer_part Erases p x y n w e = omega (arith, w, e)
  longer_part Updates p x y n w e = e

  first_chain : (ys : List RegionOf) (i g x : ℕ) (ns : List ℕ) (a : Op) (ts ss : List (Option Op)) → Whole k ys ss → slice_get ys i ≡ Some (region g ns x (Some a ∷ ts)) → Within a.does a.place x
  first_chain ys i g x ns a ts ss w e = let c = whole_chain_at w i (region g ns x (Some a ∷ ts)) e in c.0

  popped_more : (qs ys zs : List RegionOf) (z t s : Option Op) (ss : List (Option Op)) (i g x : ℕ) (ns : List ℕ) (u : Option Op) (ts : List (Option Op)) → Popping qs ys z s ss → slice_get ys i ≡ Some (region g (k ∷ ns) x (u ∷ ts))
      → zs ≡ set ys i (region g ns (length_after u x) ts) → t ≡ moved_on (befores (take i ys) + g) u → Popping qs zs (either z t) s ss
  popped_more qs ys zs z t s ss i g x ns None ts p e new is =
      let y = region g ns x ts in
      let sum = set_befores (region g (k ∷ ns) x (None ∷ ts)) y ys i e in
      let same = ap befores new in
      let gone : either z t ≡ z = ap (either z) is ∙ either_none z in
      let old = p.sum in
      subst (λ o. Popping qs zs o s ss) (sym gone) (record {
        rest = p.rest;
        whole = subst (λ r. Whole k r (p.rest ∷ ss)) (sym new) (pop_whole ys i g x ns None ts e p.rest ss p.whole);
        slot = p.slot;
        once = p.once;
        sum = omega (arith, sum, same) ∙ old;
      })
  popped_more qs ys zs None t s ss i g x ns (Some a) ts p e new is =
      let y = region g ns (longer a.does x) ts in
      let r = pop_whole ys i g x ns (Some a) ts e p.rest ss p.whole in
      let sum = set_befores (region g (k ∷ ns) x (Some a ∷ ts)) y ys i e in
      let same = ap befores new in
      let w = first_chain ys i g x (k ∷ ns) a ts (p.rest ∷ ss) p.whole e in
      let low = before_at ys i (region g (k ∷ ns) x (Some a ∷ ts)) e in
      let others = befores ys - x in
      let part = longer_part a.does a.place x others (befores ys) w (omega (arith, low)) in
      let all : befores zs ≡ longer a.does (befores ys) = omega (arith, sum, same, part, low) in
      let place = befores (take i ys) + g in
      subst (λ o. Popping qs zs o s ss) (sym is) (record {
        rest = None;
        whole = subst (λ r. Whole k r (None ∷ ss)) (sym new) r.0;
        slot = p.slot ∙ r.1;
        once = refl;
        sum = all ∙ ap (longer a.does) p.sum;
      })
  popped_more qs ys zs (Some b) t s ss i g x ns (Some a) ts p e new is =
      let r = pop_whole ys i g x ns (Some a) ts e p.rest ss p.whole in
      let gone = p.once in
      cc

  pub pop_more : (qs ys zs : List RegionOf) (z t s : Option Op) (ss : List (Option Op)) (i : ℕ) → Popping qs ys z s ss → PopsAt ys k i t zs → Popping qs zs (either z t) s ss
  pop_more qs ys zs z t s ss i p r = popped_more qs ys zs z t s ss i r.gap r.first r.numbers r.slot r.slots p r.is r.regions r.popped

  pub pop_done : (qs zs : List RegionOf) (z s : Option Op) (ss : List (Option Op)) → Popping qs zs z s ss → AllLater k zs → Whole (suc k) zs ss × (z ≡ s)
  pop_done qs zs z s ss p a = let r = whole_later p.whole a in (r.0, sym (p.slot ∙ ap (either z) r.1 ∙ either_none z))

  spread_low : {ns : List ℕ} {ss fs : List (Option Op)} → Spread k ns ss fs → k < 18446744073709551615 → k ≤ first_number ns
  spread_low {ns = []} d low = omega (arith, low)
  spread_low {ns = n ∷ ns} d low = spread_from d n ns refl

  woven_from : {x : ℕ} {qs : List RegionOf} {ls ss : List (Option Op)} → Woven k x ls qs ss → k < 18446744073709551615 → (i : ℕ) (q : RegionOf) → slice_get qs i ≡ Some q → k ≤ number q
  woven_from (last h) low i q e = cc
  woven_from (next {q = r} h f m d) low zero q e = let j : r ≡ q = cc in subst (λ (y : RegionOf). k ≤ number y) j (spread_low f low)
  woven_from (next h f m d) low (suc i) q e = woven_from m low i q e

  pub whole_from : {qs : List RegionOf} {ss : List (Option Op)} → Whole k qs ss → k < 18446744073709551615 → (i : ℕ) (q : RegionOf) → slice_get qs i ≡ Some q → k ≤ number q
  whole_from (none h) low i q e = cc
  whole_from (first {q = r} h f m d) low zero q e = let j : r ≡ q = cc in subst (λ (y : RegionOf). k ≤ number y) j (spread_low f low)
  whole_from (first h f m d) low (suc i) q e = woven_from m low i q e

-- how many slots there are
abbrev pub slots_in : List RegionOf → ℕ
slots_in [] = 0
slots_in (q ∷ qs) = length q.numbers + slots_in qs

pub fewer_slots : (qs : List RegionOf) (i : ℕ) (q y : RegionOf) → slice_get qs i ≡ Some q → length y.numbers < length q.numbers → slots_in (set qs i y) < slots_in qs
fewer_slots [] i q y e lt = cc
fewer_slots (x ∷ qs) zero q y e lt = let h : x ≡ q = cc in let n = ap (λ (r : RegionOf). length r.numbers) h in omega (arith, lt, n)
fewer_slots (x ∷ qs) (suc i) q y e lt = let h = fewer_slots qs i q y e lt in omega (arith, h)

-- ---- a region with a first slot
pub record HasFirst (k : ℕ) (q : RegionOf) : Type 0 where
  pub numbers : List ℕ
  pub slot : Option Op
  pub slots : List (Option Op)
  pub is : q ≡ region q.gap (k ∷ numbers) q.lane.first (slot ∷ slots)

first_of : (k g x : ℕ) (ns : List ℕ) (ss : List (Option Op)) → first_number ns ≡ k → k < 18446744073709551615 → length ns ≡ length ss → HasFirst k (region g ns x ss)
first_of k g x [] ss e low same = absurd (omega (arith, e, low))
first_of k g x (n ∷ ns) [] e low same = absurd (omega (arith, same))
first_of k g x (n ∷ ns) (t ∷ ts) e low same = record { numbers = ns; slot = t; slots = ts; is = (λ i. region g (e i ∷ ns) x (t ∷ ts)) }

pub has_first : (k : ℕ) (q : RegionOf) → number q ≡ k → k < 18446744073709551615 → length q.numbers ≡ length q.lane.slots → HasFirst k q
has_first k q e low same = first_of k q.gap q.lane.first q.numbers q.lane.slots e low same

pub moved_is : (m : ℕ) (s : Option Op) → option_map (from m) s ≡ moved_on m s
moved_is m None = refl
moved_is m (Some a) = refl

pub pops : (qs : List RegionOf) (k i : ℕ) (q : RegionOf) (z : Option Op) (zs : List RegionOf) → slice_get qs i ≡ Some q → HasFirst k q → zs ≡ set qs i (popped_region q) → z ≡ moved_on (befores (take i qs) + q.gap) (first_slot q.lane.slots) → PopsAt qs k i z zs
pops qs k i q z zs g h new is = record {
  gap = q.gap;
  first = q.lane.first;
  numbers = h.numbers;
  slot = h.slot;
  slots = h.slots;
  is = g ∙ ap Some h.is;
  regions = new ∙ ap (λ (r : RegionOf). set qs i (popped_region r)) h.is;
  popped = is ∙ ap (λ (r : RegionOf). moved_on (befores (take i qs) + q.gap) (first_slot r.lane.slots)) h.is;
}

-- as many numbers as slots
woven_numbers : {k x : ℕ} {qs : List RegionOf} {ls ss : List (Option Op)} → Woven k x ls qs ss → (i : ℕ) (q : RegionOf) → slice_get qs i ≡ Some q → length q.numbers ≡ length q.lane.slots
woven_numbers (last h) i q e = cc
woven_numbers (next {q = r} h f m d) zero q e = let j : r ≡ q = cc in subst (λ (y : RegionOf). length y.numbers ≡ length y.lane.slots) j (spread_numbers f)
woven_numbers (next h f m d) (suc i) q e = woven_numbers m i q e

pub whole_numbers : {k : ℕ} {qs : List RegionOf} {ss : List (Option Op)} → Whole k qs ss → (i : ℕ) (q : RegionOf) → slice_get qs i ≡ Some q → length q.numbers ≡ length q.lane.slots
whole_numbers (none h) i q e = cc
whole_numbers (first {q = r} h f m d) zero q e = let j : r ≡ q = cc in subst (λ (y : RegionOf). length y.numbers ≡ length y.lane.slots) j (spread_numbers f)
whole_numbers (first h f m d) (suc i) q e = woven_numbers m i q e

pub popped_low : (z : Option Op) (n : ℕ) (x m : ℕ) → Fits n z → n + m ≤ top → x ≡ m → IfSome z (λ y. y.place + x ≤ top)
popped_low None n x m f low e = tt
popped_low (Some a) n x m f low e = let w = within_most a.does a.place n f in omega (arith, w, low, e)
