-- What is left of an instruction that erases or updates one of the elements between regions, which stay.
use Rattle.std.proofs.Common.{◌≡◌, ℕ, zero, suc, ◌+◌, ◌<◌, Bool, List, [], ◌∷◌, take, Option, Some, sym, ap, ◌∙◌, subst, arith}
use Rattle.std.specs.Prelude.{slice_get}
use Rattle.std.specs.Option.{option_map}
use Rattle.sync_data.specs.declared.entry.Stamp.{Stamp}
use Rattle.list_lane.specs.Lanes.{Crossed, crossed, length_at_end}
use Rattle.list_lane.specs.Parts.{from, IsOfElement}
use Rattle.list_lane.specs.declared.op.Op.{Op}
use Rattle.list_lane.proofs.Apart.{crosses_behind, passes_one}
use Rattle.list_regions.specs.Regions.{RegionOf, before, after, befores, afters, Woven, next, Whole, first}
use Rattle.list_regions.specs.Kept.{at}
use Rattle.list_regions.proofs.Spreads.{spread_end}
use Rattle.list_regions.proofs.Behind.{behind_front, end_none}
use Rattle.list_regions.proofs.Across.{from_twice, further_on, further_left, at_start, no_more}

module _ (l : Stamp → Stamp → Bool) (k : ℕ) (b : Op) where
  abbrev pub Leaves : List RegionOf → ℕ → Option Op → Type 0
  Leaves qs p z = (x : ℕ) (ls ss : List (Option Op)) → Woven k x ls qs ss → (crossed l ss (Some (at b (x + p)))).left ≡ option_map (from (length_at_end x ls)) z

  gap_leaves : (q : RegionOf) (qs : List RegionOf) (p : ℕ) → IsOfElement b.does → p < q.gap → Leaves (q ∷ qs) p (Some (at b p))
  gap_leaves q qs p i lt x ls ss (next h f m d) =
      let r = passes_one l q.gap p b d i lt in
      let e : length_at_end x ls + p ≡ p + length_at_end x ls = omega arith in
      r.1 ∙ ap (λ n. Some (at b n)) e

  leaves_behind : (q : RegionOf) (qs : List RegionOf) (p : ℕ) (z : Option Op) → Leaves qs p z → Leaves (q ∷ qs) (before q + p) (option_map (from (after q)) z)
  leaves_behind q qs p z c x ls ss (next {fs = fs} {rs = rs} h f m d) =
      let r = crosses_behind l q.gap d (at b (q.lane.first + p)) h in
      ap (λ (r : Crossed). r.left) (sym (further_on l k q b x p ss))
      ∙ further_left l k q fs (crossed l ss (Some (from (x + q.gap) (at b (q.lane.first + p))))) (crossed l rs (Some (at b (q.lane.first + p)))) z (length_at_end x ls) (spread_end q.lane.first f) (c q.lane.first fs rs m) r.1

  leaves_at : (qs : List RegionOf) (i : ℕ) (q : RegionOf) (p : ℕ) → slice_get qs i ≡ Some q → IsOfElement b.does → p < q.gap → Leaves qs (befores (take i qs) + p) (Some (at b (p + afters (take i qs))))
  leaves_at [] i q p g e lt = cc
  leaves_at (y ∷ qs) zero q p g e lt =
      let h : y ≡ q = cc in
      let m : p ≡ 0 + p = omega arith in
      let n : p ≡ p + 0 = omega arith in
      subst (λ (r : RegionOf). Leaves (r ∷ qs) (0 + p) (Some (at b (p + 0)))) (sym h)
      (subst (λ j. Leaves (q ∷ qs) j (Some (at b (p + 0)))) m (subst (λ j. Leaves (q ∷ qs) p (Some (at b j))) n (gap_leaves q qs p e lt)))
  leaves_at (y ∷ qs) (suc i) q p g e lt =
      let m : before y + (befores (take i qs) + p) ≡ before y + befores (take i qs) + p = omega arith in
      let n : p + afters (take i qs) + after y ≡ p + (after y + afters (take i qs)) = omega arith in
      subst (λ j. Leaves (y ∷ qs) j (Some (at b (p + (after y + afters (take i qs)))))) m
      (subst (λ j. Leaves (y ∷ qs) (before y + (befores (take i qs) + p)) (Some (at b j))) n (leaves_behind y qs (befores (take i qs) + p) (Some (at b (p + afters (take i qs)))) (leaves_at qs i q p g e lt)))

  pub whole_leaves : (qs : List RegionOf) (i : ℕ) (q : RegionOf) (p : ℕ) → slice_get qs i ≡ Some q → 0 < i → IsOfElement b.does → p < q.gap → b.place ≡ befores (take i qs) + p → (ss : List (Option Op)) → Whole k qs ss
      → (crossed l ss (Some b)).left ≡ Some (at b (p + afters (take i qs)))
  whole_leaves [] i q p g i0 e lt at_place ss w = cc
  whole_leaves (y ∷ qs) zero q p g i0 e lt at_place ss w = absurd (omega (arith, i0))
  whole_leaves (y ∷ qs) (suc i) q p g i0 e lt at_place ss (first {ls = ls} {fs = fs} {rs = rs} h f m d) =
      let n = befores (take i qs) + p in
      let z : Option Op = Some (at b (p + afters (take i qs))) in
      let s = leaves_at qs i q p g e lt y.lane.first fs rs m in
      let r = behind_front l y.gap d h (at b (y.lane.first + n)) in
      let place : b.place ≡ y.gap + (y.lane.first + n) = omega (arith, at_place) in
      let last = spread_end y.lane.first f in
      let last_place : p + afters (take i qs) + (y.gap + length_at_end y.lane.first fs) ≡ p + (after y + afters (take i qs)) = omega (arith, last) in
      ap (λ j. (crossed l ss (Some (at b j))).left) place
      ∙ ap (λ (r : Crossed). r.left) (sym (at_start l k b y.gap (y.lane.first + n) ss))
      ∙ no_more l k (length_at_end zero ls) y.gap (crossed l ss (Some (from (zero + y.gap) (at b (y.lane.first + n))))).left (crossed l rs (Some (at b (y.lane.first + n)))).left (option_map (from (length_at_end y.lane.first fs)) z) (end_none l ls h) r.1 s
      ∙ from_twice y.gap (length_at_end y.lane.first fs) z
      ∙ ap (λ j. Some (at b j)) (let t : p + afters (take i qs) + (y.gap + length_at_end y.lane.first fs) ≡ p + (after y + afters (take i qs)) = last_place in t)
