-- Two regions become one.
use Rattle.std.proofs.Common.{◌≡◌, ℕ, suc, ◌+◌, ◌<◌, List, [], ◌∷◌, Option, Some, None, refl, sym, subst, arith}
use Rattle.list_lane.specs.Parts.{Parts, end, empty, front, back, from}
use Rattle.list_lane.specs.declared.op.Op.{Op}
use Rattle.list_regions.specs.Regions.{RegionOf, Spread, skip, here, end as done, Woven, last, next, first, Merge, nothing, left, right, both}
use Rattle.list_regions.specs.Kept.{region}
use Rattle.list_regions.proofs.Spreads.{spread_from}
use Rattle.list_regions.proofs.Views.{within_more, within_on, longer_more, longer_behind, parts_chain}
use Rattle.list_regions.proofs.Edits.{Same, SameWhole}

-- ---- the slots
not_ahead : {k m : ℕ} {ms : List ℕ} {ts gs : List (Option Op)} → Spread (suc k) (m ∷ ms) ts gs → m < k → ⊥
not_ahead {k = k} {m = m} {ms = ms} d h = let e = spread_from d m ms refl in omega (arith, e, h)

not_ahead_same : {k m : ℕ} {ms : List ℕ} {ts gs : List (Option Op)} → Spread (suc k) (m ∷ ms) ts gs → k ≡ m → ⊥
not_ahead_same {k = k} {m = m} {ms = ms} d h = let e = spread_from d m ms refl in omega (arith, e, h)

pub merged : {g x : ℕ} {hs fs gs : List (Option Op)} → Parts g x hs fs gs → {k : ℕ} {ns ms os : List ℕ} {ss ts us : List (Option Op)} → Spread k ns ss fs → Spread k ms ts gs → Merge g x ns ss ms ts os us → Spread k os us hs
merged end done done nothing = done
merged (empty d) (skip f) (skip g) m = skip (merged d f g m)
merged (empty d) (here f) (skip g) (left c m) = here (merged d f g m)
merged (empty d) (here f) (skip g) (right c m) = absurd (not_ahead g c)
merged (empty d) (here f) (skip g) (both j m) = absurd (not_ahead_same g j)
merged (empty d) (skip f) (here g) (left c m) = absurd (not_ahead f c)
merged (empty d) (skip f) (here g) (right c m) = here (merged d f g m)
merged (empty d) (skip f) (here g) (both j m) = absurd (not_ahead_same f (sym j))
merged (empty d) {k = k} (here f) (here g) (left c m) = absurd (omega (arith, c))
merged (empty d) {k = k} (here f) (here g) (right c m) = absurd (omega (arith, c))
merged (empty d) (here f) (here g) (both j m) = here (merged d f g m)
merged (front w d) (here f) (skip g) (left c m) = here (merged d f g m)
merged (front w d) (here f) (skip g) (right c m) = absurd (not_ahead g c)
merged (front w d) (here f) (skip g) (both j m) = absurd (not_ahead_same g j)
merged (front w d) {k = k} (here f) (here g) (left c m) = absurd (omega (arith, c))
merged (front w d) {k = k} (here f) (here g) (right c m) = absurd (omega (arith, c))
merged (front w d) (here f) (here g) (both j m) = here (merged d f g m)
merged (back d) (skip f) (here g) (left c m) = absurd (not_ahead f c)
merged (back d) (skip f) (here g) (right c m) = here (merged d f g m)
merged (back d) (skip f) (here g) (both j m) = absurd (not_ahead_same f (sym j))
merged (back d) {k = k} (here f) (here g) (left c m) = absurd (omega (arith, c))
merged (back d) {k = k} (here f) (here g) (right c m) = absurd (omega (arith, c))
merged (back d) (here f) (here g) (both j m) = here (merged d f g m)

-- ---- three parts in either order
pub record Joined (g x h y : ℕ) (ss ls rs ts : List (Option Op)) : Type 0 where
  pub both_are : List (Option Op)
  pub inner : Parts g x both_are ls rs
  pub outer : Parts h (x + (g + y)) ss both_are ts

pub joined : {h y : ℕ} {rs ms ts : List (Option Op)} → Parts h y ms rs ts → {g x : ℕ} {ss ls : List (Option Op)} → Parts g x ss ls ms → Joined g x h y ss ls rs ts
joined end end = record { both_are = []; inner = end; outer = end }
joined (empty e) (empty d) = let r = joined e d in record { both_are = None ∷ r.both_are; inner = empty r.inner; outer = empty r.outer }
joined {h = h} {y = y} (empty {rs = ts} e) {g = g} {x = x} (front {a = a} {ss = ss} w d) =
    let r = joined e d in
    record {
      both_are = Some a ∷ r.both_are;
      inner = front w r.inner;
      outer = front (within_more a.does a.place x (g + y) w) (subst (λ n. Parts h n ss r.both_are ts) (sym (longer_more a.does a.place x (g + y) w)) r.outer);
    }
joined {h = h} {y = y} (front {a = a} {rs = ts} v e) {g = g} {x = x} (back {ss = ss} d) =
    let r = joined e d in
    record {
      both_are = Some (from (x + g) a) ∷ r.both_are;
      inner = back r.inner;
      outer = front (within_on a.does a.place x g y v) (subst (λ n. Parts h n ss r.both_are ts) (sym (longer_behind a.does a.place x g y v)) r.outer);
    }
joined {h = h} {y = y} (back {a = c} {rs = ts} e) {g = g} {x = x} (back {ss = ss} d) =
    let r = joined e d in
    let k : c.place + (x + (g + y) + h) ≡ c.place + (y + h) + (x + g) = omega arith in
    record {
      both_are = None ∷ r.both_are;
      inner = empty r.inner;
      outer = subst (λ n. Parts h (x + (g + y)) (Some (record c { place = n }) ∷ ss) (None ∷ r.both_are) (Some c ∷ ts)) k (back {a = c} r.outer);
    }

module _ (k : ℕ) where
  -- the slots of two regions together, and the regions behind them
  record Together (g x y : ℕ) (qs : List RegionOf) (ls rs ss : List (Option Op)) : Type 0 where
    both_are : List (Option Op)
    inner : Parts g x both_are ls rs
    outer : Woven k (x + (g + y)) both_are qs ss

  together : {g x y : ℕ} {qs : List RegionOf} {ls rs ms ss : List (Option Op)} → Parts g x ss ls ms → Woven k y rs qs ms → Together g x y qs ls rs ss
  together {y = y} {ss = ss} d (last c) = record { both_are = ss; inner = d; outer = last (parts_chain d y c) }
  together d (next h f m e) = let r = joined e d in record { both_are = r.both_are; inner = r.inner; outer = next h f m r.outer }

  pub merge_two : (q r : RegionOf) (qs : List RegionOf) (os : List ℕ) (us : List (Option Op)) → Merge r.gap q.lane.first q.numbers q.lane.slots r.numbers r.lane.slots os us
      → Same k (q ∷ (r ∷ qs)) (region q.gap os (q.lane.first + (r.gap + r.lane.first)) us ∷ qs)
  merge_two q r qs os us c x ls ss (next h f (next i g m e) d) = let t = together e m in next h (merged t.inner f g c) t.outer d

  pub merge_first : (q r : RegionOf) (qs : List RegionOf) (os : List ℕ) (us : List (Option Op)) → Merge r.gap q.lane.first q.numbers q.lane.slots r.numbers r.lane.slots os us
      → SameWhole k (q ∷ (r ∷ qs)) (region q.gap os (q.lane.first + (r.gap + r.lane.first)) us ∷ qs)
  merge_first q r qs os us c ss (first h f (next i g m e) d) = let t = together e m in first h (merged t.inner f g c) t.outer d
