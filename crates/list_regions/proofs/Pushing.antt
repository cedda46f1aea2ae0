-- A slot more.
use Rattle.std.proofs.Common.{◌≡◌, ℕ, zero, suc, ◌+◌, List, [], ◌∷◌, ◌++◌, length, take, set, Option, Some, None, sym, subst, arith}
use Rattle.std.specs.Prelude.{slice_get}
use Rattle.list_places.specs.Places.{Within}
use Rattle.list_lane.specs.Lanes.{length_after, length_at_end, Chains, Fits}
use Rattle.list_lane.specs.Parts.{Parts, end, empty, front, back, from}
use Rattle.list_lane.specs.declared.op.Op.{Op}
use Rattle.list_regions.specs.Regions.{RegionOf, after, afters, AllEmpty, Spread, skip, here, end as done, Woven, last, next, Whole, none, first}
use Rattle.list_regions.specs.Kept.{at, pushed_region}
use Rattle.list_regions.proofs.Spreads.{spread_end, end_empty}
use Rattle.list_regions.proofs.Behind.{parts_right}
use Rattle.list_regions.proofs.Views.{woven_length}

-- ---- at the end of slots
pub spread_more : {k : ℕ} {ns : List ℕ} {ss fs : List (Option Op)} → Spread k ns ss fs → (n : ℕ) (s : Option Op) → k + length fs ≡ n → Spread k (ns ++ n ∷ []) (ss ++ s ∷ []) (fs ++ s ∷ [])
spread_more {k = k} done n s e = let h : k ≡ n = omega (arith, e) in subst (λ m. Spread k (m ∷ []) (s ∷ []) (s ∷ [])) h (here done)
spread_more (skip d) n s e = skip (spread_more d n s (omega (arith, e)))
spread_more (here d) n s e = here (spread_more d n s (omega (arith, e)))

pub spread_empty : {k : ℕ} {ns : List ℕ} {ss fs : List (Option Op)} → Spread k ns ss fs → Spread k ns ss (fs ++ None ∷ [])
spread_empty done = skip done
spread_empty (skip d) = skip (spread_empty d)
spread_empty (here d) = here (spread_empty d)

chain_more : (ss : List (Option Op)) (x : ℕ) (s : Option Op) → Chains x ss → Fits (length_at_end x ss) s → Chains x (ss ++ s ∷ [])
chain_more [] x s h w = (w, tt)
chain_more (a ∷ ss) x s h w = (h.0, chain_more ss (length_after a x) s h.1 w)

empty_more : (ss : List (Option Op)) → AllEmpty ss → AllEmpty (ss ++ None ∷ [])
empty_more [] h = tt
empty_more (None ∷ ss) h = empty_more ss h
empty_more (Some a ∷ ss) h = absurd h

pub parts_none : {g x : ℕ} {ss ls rs : List (Option Op)} → Parts g x ss ls rs → Parts g x (ss ++ None ∷ []) (ls ++ None ∷ []) (rs ++ None ∷ [])
parts_none end = empty end
parts_none (empty d) = empty (parts_none d)
parts_none (front w d) = front w (parts_none d)
parts_none (back d) = back (parts_none d)

pub parts_front : {g x : ℕ} {ss ls rs : List (Option Op)} → Parts g x ss ls rs → (b : Op) → Within b.does b.place (length_at_end x ls) → Parts g x (ss ++ Some b ∷ []) (ls ++ Some b ∷ []) (rs ++ None ∷ [])
parts_front end b w = front w end
parts_front (empty d) b w = empty (parts_front d b w)
parts_front (front v d) b w = front v (parts_front d b w)
parts_front (back d) b w = back (parts_front d b w)

pub parts_back : {g x : ℕ} {ss ls rs : List (Option Op)} → Parts g x ss ls rs → (b : Op) → Parts g x (ss ++ Some (from (length_at_end x ls + g) b) ∷ []) (ls ++ None ∷ []) (rs ++ Some b ∷ [])
parts_back end b = back end
parts_back (empty d) b = empty (parts_back d b)
parts_back (front v d) b = front v (parts_back d b)
parts_back (back d) b = back (parts_back d b)

-- the same at a place
parts_at : {g x : ℕ} {ss ls rs : List (Option Op)} → Parts g x ss ls rs → (b : Op) (p m : ℕ) → m ≡ p + (length_at_end x ls + g) → Parts g x (ss ++ Some (at b m) ∷ []) (ls ++ None ∷ []) (rs ++ Some (at b p) ∷ [])
parts_at {g = g} {x = x} {ss = ss} {ls = ls} {rs = rs} d b p m e = subst (λ n. Parts g x (ss ++ Some (at b n) ∷ []) (ls ++ None ∷ []) (rs ++ Some (at b p) ∷ [])) (sym e) (parts_back d (at b p))

module _ (k : ℕ) where
  pub none_pushed : {x : ℕ} {qs : List RegionOf} {ls ss : List (Option Op)} → Woven k x ls qs ss → Woven k x (ls ++ None ∷ []) qs (ss ++ None ∷ [])
  none_pushed {x = x} {ls = ls} (last h) = last (chain_more ls x None h tt)
  none_pushed (next h f m d) = next h (spread_empty f) (none_pushed m) (parts_none d)

  front_pushed : {x : ℕ} {qs : List RegionOf} {ls ss : List (Option Op)} → Woven k x ls qs ss → (b : Op) → Within b.does b.place (length_at_end x ls) → Woven k x (ls ++ Some b ∷ []) qs (ss ++ Some b ∷ [])
  front_pushed {x = x} {ls = ls} (last h) b w = last (chain_more ls x (Some b) h w)
  front_pushed (next h f m d) b w = next h (spread_empty f) (none_pushed m) (parts_front d b w)

  -- regions qs become zs as slot n is pushed, of an instruction at place p in the list behind them
  abbrev pub Pushes : ℕ → List RegionOf → List RegionOf → Op → ℕ → Type 0
  Pushes n qs zs b p = (x : ℕ) (ls ss : List (Option Op)) → k + length ss ≡ n → Woven k x ls qs ss → Woven k x (ls ++ None ∷ []) zs (ss ++ Some (at b (length_at_end x ls + p)) ∷ [])

  abbrev pub PushesWhole : ℕ → List RegionOf → List RegionOf → Op → Type 0
  PushesWhole n qs zs b = (ss : List (Option Op)) → k + length ss ≡ n → Whole k qs ss → Whole k zs (ss ++ Some b ∷ [])

  touched_rest : (q : RegionOf) {qs : List RegionOf} {fs rs : List (Option Op)} (b : Op) (p : ℕ) → Spread k q.numbers q.lane.slots fs → Woven k q.lane.first fs qs rs → Within b.does p (length_at_end q.lane.first q.lane.slots)
      → Woven k q.lane.first (fs ++ Some (at b p) ∷ []) qs (rs ++ Some (at b p) ∷ [])
  touched_rest q b p f m w = front_pushed m (at b p) (subst (Within b.does p) (sym (spread_end q.lane.first f)) w)

  push_touch : (n : ℕ) (q : RegionOf) (qs : List RegionOf) (b : Op) (p : ℕ) → Within b.does p (length_at_end q.lane.first q.lane.slots) → Pushes n (q ∷ qs) (pushed_region n (Some (at b p)) q ∷ qs) b (q.gap + p)
  push_touch n q qs b p w x ls ss e (next {fs = fs} {rs = rs} h f m d) =
      let u = woven_length m in
      let v = parts_right d in
      next h (spread_more f n (Some (at b p)) (omega (arith, e, u, v))) (touched_rest q b p f m w) (parts_at d b p (length_at_end x ls + (q.gap + p)) (omega arith))

  push_behind : (n : ℕ) (q : RegionOf) (qs zs : List RegionOf) (b : Op) (p : ℕ) → Pushes n qs zs b p → Pushes n (q ∷ qs) (q ∷ zs) b (after q + p)
  push_behind n q qs zs b p c x ls ss e (next {fs = fs} {rs = rs} h f m d) =
      let v = parts_right d in
      let i = spread_end q.lane.first f in
      next h (spread_empty f) (c q.lane.first fs rs (omega (arith, e, v)) m) (parts_at d b (length_at_end q.lane.first fs + p) (length_at_end x ls + (after q + p)) (omega (arith, i)))

  same_place : (n : ℕ) (qs zs : List RegionOf) (b : Op) (p m : ℕ) → p ≡ m → Pushes n qs zs b p → Pushes n qs zs b m
  same_place n qs zs b p m e c = subst (Pushes n qs zs b) e c

  push_many : (n : ℕ) (qs : List RegionOf) (i : ℕ) (q : RegionOf) (b : Op) (p : ℕ) → slice_get qs i ≡ Some q → Within b.does p (length_at_end q.lane.first q.lane.slots) → Pushes n qs (set qs i (pushed_region n (Some (at b p)) q)) b (afters (take i qs) + (q.gap + p))
  push_many n [] i q b p g w = cc
  push_many n (y ∷ qs) zero q b p g w =
      let h : y ≡ q = cc in
      subst (λ (r : RegionOf). Pushes n (r ∷ qs) (pushed_region n (Some (at b p)) q ∷ qs) b (0 + (q.gap + p))) (sym h)
      (same_place n (q ∷ qs) (pushed_region n (Some (at b p)) q ∷ qs) b (q.gap + p) (0 + (q.gap + p)) (omega arith) (push_touch n q qs b p w))
  push_many n (y ∷ qs) (suc i) q b p g w =
      same_place n (y ∷ qs) (y ∷ set qs i (pushed_region n (Some (at b p)) q)) b (after y + (afters (take i qs) + (q.gap + p))) (after y + afters (take i qs) + (q.gap + p)) (omega arith)
      (push_behind n y qs (set qs i (pushed_region n (Some (at b p)) q)) b (afters (take i qs) + (q.gap + p)) (push_many n qs i q b p g w))

  whole_at : (n : ℕ) (q : RegionOf) (qs zs : List RegionOf) (b : Op) (p : ℕ) → Pushes n qs zs b p → b.place ≡ after q + p → PushesWhole n (q ∷ qs) (q ∷ zs) b
  whole_at n q qs zs b p c i ss e (first {ls = ls} {fs = fs} {rs = rs} h f m d) =
      let v = parts_right d in
      let j = spread_end q.lane.first f in
      let z = end_empty zero ls h in
      first (empty_more ls h) (spread_empty f) (c q.lane.first fs rs (omega (arith, e, v)) m) (parts_at d b (length_at_end q.lane.first fs + p) b.place (omega (arith, i, j, z)))

  whole_touch : (n : ℕ) (q : RegionOf) (qs : List RegionOf) (b : Op) (p : ℕ) → Within b.does p (length_at_end q.lane.first q.lane.slots) → b.place ≡ q.gap + p → PushesWhole n (q ∷ qs) (pushed_region n (Some (at b p)) q ∷ qs) b
  whole_touch n q qs b p w i ss e (first {ls = ls} {fs = fs} {rs = rs} h f m d) =
      let u = woven_length m in
      let v = parts_right d in
      let z = end_empty zero ls h in
      first (empty_more ls h) (spread_more f n (Some (at b p)) (omega (arith, e, u, v))) (touched_rest q b p f m w) (parts_at d b p b.place (omega (arith, i, z)))

  pub pushed_at : (n : ℕ) (qs : List RegionOf) (i : ℕ) (q : RegionOf) (b : Op) (p : ℕ) → slice_get qs i ≡ Some q → Within b.does p (length_at_end q.lane.first q.lane.slots) → b.place ≡ afters (take i qs) + (q.gap + p)
      → PushesWhole n qs (set qs i (pushed_region n (Some (at b p)) q)) b
  pushed_at n [] i q b p g w e = cc
  pushed_at n (y ∷ qs) zero q b p g w e =
      let h : y ≡ q = cc in
      subst (λ (r : RegionOf). PushesWhole n (r ∷ qs) (pushed_region n (Some (at b p)) q ∷ qs) b) (sym h) (whole_touch n q qs b p w (omega (arith, e)))
  pushed_at n (y ∷ qs) (suc i) q b p g w e =
      whole_at n y qs (set qs i (pushed_region n (Some (at b p)) q)) b (afters (take i qs) + (q.gap + p)) (push_many n qs i q b p g w) (omega (arith, e))

  pub whole_none_pushed : (qs : List RegionOf) (ss : List (Option Op)) → Whole k qs ss → Whole k qs (ss ++ None ∷ [])
  whole_none_pushed [] ss (none h) = none (empty_more ss h)
  whole_none_pushed (q ∷ qs) ss (first {ls = ls} h f m d) = first (empty_more ls h) (spread_empty f) (none_pushed m) (parts_none d)
