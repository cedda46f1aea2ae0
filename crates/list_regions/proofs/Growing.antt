-- A region takes an element beside it.
use Rattle.std.proofs.Common.{◌≡◌, ℕ, suc, ◌+◌, ◌-◌, ◌<◌, List, [], ◌∷◌, Option, Some, None, refl, sym, ap, ◌∙◌, subst, arith}
use Rattle.list_places.specs.Places.{longer}
use Rattle.list_lane.specs.Lanes.{length_at_end, Chains}
use Rattle.list_lane.specs.Parts.{Parts, end, empty, front, back}
use Rattle.list_lane.specs.declared.op.Op.{Op}
use Rattle.list_regions.specs.Regions.{RegionOf, Spread, skip, here, end as done, Woven, last, next, first}
use Rattle.list_regions.specs.Kept.{with_gap, onward, with_front, with_end}
use Rattle.list_regions.proofs.Edits.{split_gap, within_on, longer_on, within_more, Same, SameWhole}

-- ---- at its end
grown_end : (g h : ℕ) {x : ℕ} {ss ls rs : List (Option Op)} → g ≡ suc h → Parts g x ss ls rs → Parts h (x + 1) ss ls rs
grown_end g h e end = end
grown_end g h e (empty d) = empty (grown_end g h e d)
grown_end g h {x = x} e (front {a = a} {ss = ss} {ls = ls} {rs = rs} w d) =
    front (within_more a.does a.place 1 x w) (subst (λ n. Parts h n ss ls rs) (sym (longer_on a.does a.place 1 x w)) (grown_end g h e d))
grown_end g h {x = x} e (back {a = a} {ss = ss} {ls = ls} {rs = rs} d) =
    let k : a.place + (x + 1 + h) ≡ a.place + (x + g) = omega (arith, e) in
    subst (λ m. Parts h (x + 1) (Some (record a { place = m }) ∷ ss) (None ∷ ls) (Some a ∷ rs)) k (back {a = a} (grown_end g h e d))

chains_one : (ss : List (Option Op)) (x : ℕ) → Chains x ss → Chains (x + 1) ss
chains_one [] x h = tt
chains_one (None ∷ ss) x h = (tt, chains_one ss x h.1)
chains_one (Some a ∷ ss) x h = (within_more a.does a.place 1 x h.0, subst (λ n. Chains n ss) (sym (longer_on a.does a.place 1 x h.0)) (chains_one ss (longer a.does x) h.1))

-- ---- in front of it
onward_parts : (g n : ℕ) {x : ℕ} {ss ls rs : List (Option Op)} → Parts g x ss ls rs → Parts g (x + n) (onward n ss) (onward n ls) rs
onward_parts g n end = end
onward_parts g n (empty d) = empty (onward_parts g n d)
onward_parts g n {x = x} (front {a = a} {ss = ss} {ls = ls} {rs = rs} w d) =
    front (within_on a.does a.place n x w) (subst (λ m. Parts g m (onward n ss) (onward n ls) rs) (sym (longer_on a.does a.place n x w)) (onward_parts g n d))
onward_parts g n {x = x} (back {a = a} {ss = ss} {ls = ls} {rs = rs} d) =
    let k : a.place + (x + n + g) ≡ a.place + (x + g) + n = omega arith in
    subst (λ m. Parts g (x + n) (Some (record a { place = m }) ∷ onward n ss) (None ∷ onward n ls) (Some a ∷ rs)) k (back {a = a} (onward_parts g n d))

onward_chains : (n : ℕ) (ss : List (Option Op)) (x : ℕ) → Chains x ss → Chains (x + n) (onward n ss)
onward_chains n [] x h = tt
onward_chains n (None ∷ ss) x h = (tt, onward_chains n ss x h.1)
onward_chains n (Some a ∷ ss) x h = (within_on a.does a.place n x h.0, subst (λ m. Chains m (onward n ss)) (sym (longer_on a.does a.place n x h.0)) (onward_chains n ss (longer a.does x) h.1))

pub onward_end : (ss : List (Option Op)) (x : ℕ) → Chains x ss → length_at_end (x + 1) (onward 1 ss) ≡ length_at_end x ss + 1
onward_end [] x h = refl
onward_end (None ∷ ss) x h = onward_end ss x h.1
onward_end (Some a ∷ ss) x h = ap (λ n. length_at_end n (onward 1 ss)) (longer_on a.does a.place 1 x h.0) ∙ onward_end ss (longer a.does x) h.1

onward_spread : (n : ℕ) {k : ℕ} {ns : List ℕ} {ss fs : List (Option Op)} → Spread k ns ss fs → Spread k ns (onward n ss) (onward n fs)
onward_spread n done = done
onward_spread n (skip d) = skip (onward_spread n d)
onward_spread n (here {s = None} d) = here (onward_spread n d)
onward_spread n (here {s = Some a} d) = here (onward_spread n d)

module _ (k : ℕ) where
  onward_woven : (n : ℕ) {x : ℕ} {qs : List RegionOf} {ls ss : List (Option Op)} → Woven k x ls qs ss → Woven k (x + n) (onward n ls) qs (onward n ss)
  onward_woven n {x = x} {ls = ls} (last h) = last (onward_chains n ls x h)
  onward_woven n (next {q = q} h f m d) = next h f m (onward_parts q.gap n d)

  pub front_grown : (q : RegionOf) (qs : List RegionOf) → 1 < q.gap → Same k (q ∷ qs) (with_front q ∷ qs)
  front_grown q qs lt x ls ss (next h f m d) = next (omega (arith, lt)) (onward_spread 1 f) (onward_woven 1 m) (split_gap (q.gap - 1) 1 q.gap (omega (arith, lt)) d)

  pub first_grown : (q : RegionOf) (qs : List RegionOf) → 0 < q.gap → SameWhole k (q ∷ qs) (with_front q ∷ qs)
  first_grown q qs lt ss (first h f m d) = first h (onward_spread 1 f) (onward_woven 1 m) (split_gap (q.gap - 1) 1 q.gap (omega (arith, lt)) d)

  -- the region and what is behind it
  end_woven : (x : ℕ) (ls : List (Option Op)) (r : RegionOf) (qs : List RegionOf) {ss : List (Option Op)} → 1 < r.gap → Woven k x ls (r ∷ qs) ss → Woven k (x + 1) ls (with_gap (r.gap - 1) r ∷ qs) ss
  end_woven x ls r qs lt (next h f m d) = next (omega (arith, lt)) f m (grown_end r.gap (r.gap - 1) (omega (arith, lt)) d)

  last_woven : (x : ℕ) (ls ss : List (Option Op)) → Woven k x ls [] ss → Woven k (x + 1) ls [] ss
  last_woven x ls ss (last h) = last (chains_one ls x h)

  pub end_grown : (q r : RegionOf) (qs : List RegionOf) → 1 < r.gap → Same k (q ∷ (r ∷ qs)) (with_end q ∷ (with_gap (r.gap - 1) r ∷ qs))
  end_grown q r qs lt x ls ss (next {fs = fs} h f m d) = next h f (end_woven q.lane.first fs r qs lt m) d

  pub first_end_grown : (q r : RegionOf) (qs : List RegionOf) → 1 < r.gap → SameWhole k (q ∷ (r ∷ qs)) (with_end q ∷ (with_gap (r.gap - 1) r ∷ qs))
  first_end_grown q r qs lt ss (first {fs = fs} h f m d) = first h f (end_woven q.lane.first fs r qs lt m) d

  pub last_grown : (q : RegionOf) → Same k (q ∷ []) (with_end q ∷ [])
  last_grown q x ls ss (next {fs = fs} {rs = rs} h f m d) = next h f (last_woven q.lane.first fs rs m) d

  pub first_last_grown : (q : RegionOf) → SameWhole k (q ∷ []) (with_end q ∷ [])
  first_last_grown q ss (first {fs = fs} {rs = rs} h f m d) = first h f (last_woven q.lane.first fs rs m) d
