-- A slot by its number, and the length of the list before it.
use Rattle.std.proofs.Common.{◌≡◌, ℕ, zero, suc, ◌+◌, ◌<◌, ◌≤◌, cond, List, [], ◌∷◌, Option, Some, None, refl, sym, ap, ◌∙◌, arith}
use Rattle.std.proofs.lemmas.Bool.{eq-eqb, ne_eqb, lt-ltb, le-ltb}
use Rattle.list_places.specs.Places.{longer}
use Rattle.list_lane.specs.Lanes.{length_after, length_before, slot_at, Chains}
use Rattle.list_lane.specs.Parts.{Parts, end, empty, front, back}
use Rattle.list_lane.specs.declared.op.Op.{Op}
use Rattle.list_regions.specs.Regions.{RegionOf, befores, AllEmpty, Spread, skip, here, end as done, Woven, last, next, Whole, none, first, moved_on, either, find, length_to, look, lengths_to}
use Rattle.list_regions.proofs.Views.{longer_more, longer_behind, woven_chain}

-- ---- a slot of two parts
pub moved_zero : (s : Option Op) → moved_on 0 s ≡ s
moved_zero None = refl
moved_zero (Some a) = let e : a.place + 0 ≡ a.place = omega arith in ap (λ n. Some (record a { place = n })) e

pub moved_twice : (m n k : ℕ) (s : Option Op) → m + n ≡ k → moved_on m (moved_on n s) ≡ moved_on k s
moved_twice m n k None h = refl
moved_twice m n k (Some a) h = let e : a.place + n + m ≡ a.place + k = omega (arith, h) in ap (λ j. Some (record a { place = j })) e

pub either_none : (s : Option Op) → either s None ≡ s
either_none None = refl
either_none (Some a) = refl

pub either_moved : (n : ℕ) (s t : Option Op) → moved_on n (either s t) ≡ either (moved_on n s) (moved_on n t)
either_moved n None t = refl
either_moved n (Some a) t = refl

pub either_more : (s t u : Option Op) → either (either s t) u ≡ either s (either t u)
either_more None t u = refl
either_more (Some a) t u = refl

parts_slot : {g x : ℕ} {ss ls rs : List (Option Op)} → Parts g x ss ls rs → (i : ℕ) → slot_at i ss ≡ either (slot_at i ls) (moved_on (length_before i x ls + g) (slot_at i rs))
parts_slot end i = refl
parts_slot (empty d) zero = refl
parts_slot (empty d) (suc i) = parts_slot d i
parts_slot (front w d) zero = refl
parts_slot (front w d) (suc i) = parts_slot d i
parts_slot (back d) zero = refl
parts_slot (back d) (suc i) = parts_slot d i

parts_before : {g x : ℕ} {ss ls rs : List (Option Op)} → Parts g x ss ls rs → (i y : ℕ) → Chains y rs → length_before i (x + (g + y)) ss ≡ length_before i x ls + (g + length_before i y rs)
parts_before end i y c = refl
parts_before (empty d) zero y c = refl
parts_before (empty d) (suc i) y c = parts_before d i y c.1
parts_before (front w d) zero y c = refl
parts_before {g = g} {x = x} (front {a = a} {ss = ss} w d) (suc i) y c = ap (λ n. length_before i n ss) (longer_more a.does a.place x (g + y) w) ∙ parts_before d i y c.1
parts_before (back d) zero y c = refl
parts_before {g = g} {x = x} (back {a = a} {ss = ss} d) (suc i) y c = ap (λ n. length_before i n ss) (longer_behind a.does a.place x g y c.0) ∙ parts_before d i (longer a.does y) c.1

-- ---- a slot of a region
find_later : {k : ℕ} (n : ℕ) {ns : List ℕ} {ss fs : List (Option Op)} → Spread k ns ss fs → n < k → find n ns ss ≡ None
find_later n done lt = refl
find_later n (skip d) lt = find_later n d (omega (arith, lt))
find_later n (here {k = k} {ns = ns} {s = s} {ss = ss} d) lt = ap (λ t. cond t s (find n ns ss)) (ne_eqb k n (λ e. omega (arith, lt, e))) ∙ find_later n d (omega (arith, lt))

spread_slot : {k : ℕ} {ns : List ℕ} {ss fs : List (Option Op)} → Spread k ns ss fs → (i n : ℕ) → k + i ≡ n → slot_at i fs ≡ find n ns ss
spread_slot done i n e = refl
spread_slot (skip {k = k} d) zero n e = sym (find_later n d (omega (arith, e)))
spread_slot (skip d) (suc i) n e = spread_slot d i n (omega (arith, e))
spread_slot (here {k = k} {ns = ns} {s = s} {ss = ss} d) zero n e = ap (λ t. cond t s (find n ns ss)) (sym (eq-eqb k n (omega (arith, e))))
spread_slot (here {k = k} {ns = ns} {s = s} {ss = ss} d) (suc i) n e = spread_slot d i n (omega (arith, e)) ∙ ap (λ t. cond t s (find n ns ss)) (sym (ne_eqb k n (λ h. omega (arith, h, e))))

to_later : {k : ℕ} (n x : ℕ) {ns : List ℕ} {ss fs : List (Option Op)} → Spread k ns ss fs → n ≤ k → length_to n x ns ss ≡ x
to_later n x done le = refl
to_later n x (skip d) le = to_later n x d (omega (arith, le))
to_later n x (here {k = k} {ns = ns} {s = s} {ss = ss} d) le = ap (λ t. cond t (length_to n (length_after s x) ns ss) x) (le-ltb k n le)

spread_before : {k : ℕ} {ns : List ℕ} {ss fs : List (Option Op)} → Spread k ns ss fs → (i n x : ℕ) → k + i ≡ n → length_before i x fs ≡ length_to n x ns ss
spread_before done i n x e = refl
spread_before (skip d) zero n x e = sym (to_later n x d (omega (arith, e)))
spread_before (skip d) (suc i) n x e = spread_before d i n x (omega (arith, e))
spread_before (here {k = k} {ns = ns} {s = s} {ss = ss} d) zero n x e = ap (λ t. cond t (length_to n (length_after s x) ns ss) x) (sym (le-ltb k n (omega (arith, e))))
spread_before (here {k = k} {ns = ns} {s = s} {ss = ss} d) (suc i) n x e = spread_before d i n (length_after s x) (omega (arith, e)) ∙ ap (λ t. cond t (length_to n (length_after s x) ns ss) x) (sym (lt-ltb k n (omega (arith, e))))

-- ---- of all regions
none_before : (i x : ℕ) (ss : List (Option Op)) → AllEmpty ss → length_before i x ss ≡ x
none_before i x [] h = refl
none_before zero x (None ∷ ss) h = refl
none_before (suc i) x (None ∷ ss) h = none_before i x ss h
none_before i x (Some a ∷ ss) h = absurd h

none_at : (i : ℕ) (ss : List (Option Op)) → AllEmpty ss → slot_at i ss ≡ None
none_at i [] h = refl
none_at zero (None ∷ ss) h = refl
none_at (suc i) (None ∷ ss) h = none_at i ss h
none_at i (Some a ∷ ss) h = absurd h

module _ (k i n : ℕ) (e : k + i ≡ n) where
  one_slot : (q : RegionOf) (qs : List RegionOf) (m : ℕ) (fs rs : List (Option Op)) → slot_at i fs ≡ find n q.numbers q.lane.slots → length_before i q.lane.first fs ≡ length_to n q.lane.first q.numbers q.lane.slots
      → slot_at i rs ≡ either (slot_at i fs) (moved_on (length_before i q.lane.first fs) (look n qs)) → moved_on (m + q.gap) (slot_at i rs) ≡ moved_on m (look n (q ∷ qs))
  one_slot q qs m fs rs f g h =
      let s = find n q.numbers q.lane.slots in
      let y = length_to n q.lane.first q.numbers q.lane.slots in
      ap (moved_on (m + q.gap)) (h ∙ (λ j. either (f j) (moved_on (g j) (look n qs))))
      ∙ sym (moved_twice m q.gap (m + q.gap) (either s (moved_on y (look n qs))) refl)
      ∙ ap (moved_on m) (either_moved q.gap s (moved_on y (look n qs)) ∙ ap (either (moved_on q.gap s)) (moved_twice q.gap y (q.gap + y) (look n qs) refl))

  woven_slot : {x : ℕ} {qs : List RegionOf} {ls ss : List (Option Op)} → Woven k x ls qs ss → slot_at i ss ≡ either (slot_at i ls) (moved_on (length_before i x ls) (look n qs))
  woven_slot {ls = ls} (last h) = sym (either_none (slot_at i ls))
  woven_slot {x = x} {ls = ls} (next {q = q} {qs = qs} {fs = fs} {rs = rs} h f m d) =
      parts_slot d i ∙ ap (either (slot_at i ls)) (one_slot q qs (length_before i x ls) fs rs (spread_slot f i n e) (spread_before f i n q.lane.first e) (woven_slot m))

  pub whole_slot : {qs : List RegionOf} {ss : List (Option Op)} → Whole k qs ss → slot_at i ss ≡ look n qs
  whole_slot {ss = ss} (none h) = none_at i ss h
  whole_slot (first {q = q} {qs = qs} {ls = ls} {fs = fs} {rs = rs} h f m d) =
      parts_slot d i
      ∙ (λ j. either (none_at i ls h j) (moved_on (none_before i zero ls h j + q.gap) (slot_at i rs)))
      ∙ one_slot q qs 0 fs rs (spread_slot f i n e) (spread_before f i n q.lane.first e) (woven_slot m)
      ∙ moved_zero (look n (q ∷ qs))

before_on : (i : ℕ) (ss : List (Option Op)) (x t : ℕ) → Chains x ss → length_before i (x + t) ss ≡ length_before i x ss + t
before_on i [] x t h = refl
before_on zero (s ∷ ss) x t h = refl
before_on (suc i) (None ∷ ss) x t h = before_on i ss x t h.1
before_on (suc i) (Some a ∷ ss) x t h = ap (λ n. length_before i n ss) (longer_more a.does a.place x t h.0) ∙ before_on i ss (longer a.does x) t h.1

module _ (k i n : ℕ) (e : k + i ≡ n) where
  woven_before : {x : ℕ} {qs : List RegionOf} {ls ss : List (Option Op)} → Woven k x ls qs ss → (t : ℕ) → length_before i (x + (befores qs + t)) ss ≡ length_before i x ls + (lengths_to n qs + t)
  woven_before {x = x} {ls = ls} (last h) t =
      let j : x + (0 + t) ≡ x + t = omega arith in
      let m : length_before i x ls + t ≡ length_before i x ls + (0 + t) = omega arith in
      ap (λ n. length_before i n ls) j ∙ before_on i ls x t h ∙ m
  woven_before {x = x} {ls = ls} {ss = ss} (next {q = q} {qs = qs} {fs = fs} {rs = rs} h f m d) t =
      let y = q.lane.first + (befores qs + t) in
      let j : x + (q.gap + q.lane.first + befores qs + t) ≡ x + (q.gap + y) = omega arith in
      let r = parts_before d i y (woven_chain m t) in
      let s = woven_before m t in
      let v = spread_before f i n q.lane.first e in
      let own = length_to n q.lane.first q.numbers q.lane.slots in
      let z : length_before i x ls + (q.gap + length_before i y rs) ≡ length_before i x ls + (q.gap + own + lengths_to n qs + t) = omega (arith, s, v) in
      ap (λ n. length_before i n ss) j ∙ r ∙ z

  pub whole_before : {qs : List RegionOf} {ss : List (Option Op)} → Whole k qs ss → (t : ℕ) → length_before i (befores qs + t) ss ≡ lengths_to n qs + t
  whole_before {ss = ss} (none h) t = none_before i (0 + t) ss h
  whole_before {ss = ss} (first {q = q} {qs = qs} {ls = ls} {fs = fs} {rs = rs} h f m d) t =
      let y = q.lane.first + (befores qs + t) in
      let j : q.gap + q.lane.first + befores qs + t ≡ 0 + (q.gap + y) = omega arith in
      let r = parts_before d i y (woven_chain m t) in
      let s = woven_before m t in
      let v = spread_before f i n q.lane.first e in
      let z0 = none_before i 0 ls h in
      let own = length_to n q.lane.first q.numbers q.lane.slots in
      let z : length_before i 0 ls + (q.gap + length_before i y rs) ≡ q.gap + own + lengths_to n qs + t = omega (arith, s, v, z0) in
      ap (λ n. length_before i n ss) j ∙ r ∙ z
