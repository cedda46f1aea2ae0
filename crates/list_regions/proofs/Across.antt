-- An instruction crosses the regions of a lane.
use Rattle.std.proofs.Common.{◌≡◌, ℕ, zero, ◌+◌, ◌<◌, Bool, List, [], ◌∷◌, ◌++◌, Option, Some, None, refl, sym, ap, ◌∙◌, subst, arith}
use Rattle.std.specs.Option.{option_map}
use Rattle.sync_data.specs.declared.entry.Stamp.{Stamp}
use Rattle.list_places.specs.Places.{longer, Within}
use Rattle.list_places.specs.declared.places.Does.{Does}
use Rattle.list_places.specs.declared.places.Does.TheVariants.{Inserts, Erases, Updates}
use Rattle.list_lane.specs.Lanes.{Crossed, crossed, length_at_end}
use Rattle.list_lane.specs.Parts.{from, IsOfElement}
use Rattle.list_lane.specs.declared.op.Op.{Op}
use Rattle.list_lane.proofs.Chain.{still_chains}
use Rattle.list_lane.proofs.Apart.{crosses_before, crosses_behind, passes_one, passes_among}
use Rattle.list_regions.specs.Regions.{RegionOf, before, after, befores, afters, Woven, last, next, Whole, none, first}
use Rattle.list_regions.specs.Kept.{at, crossed_region, with_gap, Inner}
use Rattle.list_regions.proofs.Spreads.{spread_end, spread_crossed, crossed_empty}
use Rattle.list_regions.proofs.Behind.{behind_front, end_none, passes_first, beyond_element, beyond_insertion}

pub from_twice : (m n : ℕ) (b : Option Op) → option_map (from m) (option_map (from n) b) ≡ option_map (from (m + n)) b
from_twice m n None = refl
from_twice m n (Some b) = let e : b.place + n + m ≡ b.place + (m + n) = omega arith in ap (λ p. Some (record b { place = p })) e

from_zero : (b : Option Op) → option_map (from 0) b ≡ b
from_zero None = refl
from_zero (Some b) = let e : b.place + 0 ≡ b.place = omega arith in ap (λ p. Some (record b { place = p })) e

module _ (l : Stamp → Stamp → Bool) (k : ℕ) where
  -- regions qs become zs as b crosses them at the place p, and z is left of it; both places are counted from where the first begins
  abbrev pub After : ℕ → List (Option Op) → List RegionOf → Option Op → Crossed → Type 0
  After x ls zs z r = Woven k x ls zs r.slots × (r.left ≡ option_map (from (length_at_end x ls)) z)

  abbrev pub Crosses : List RegionOf → List RegionOf → Op → ℕ → Option Op → Type 0
  Crosses qs zs b p z = (x : ℕ) (ls ss : List (Option Op)) → Woven k x ls qs ss → After x ls zs z (crossed l ss (Some (at b (x + p))))

  -- the same of all regions
  abbrev pub WholeAfter : List RegionOf → Option Op → Crossed → Type 0
  WholeAfter zs z r = Whole k zs r.slots × (r.left ≡ z)

  abbrev pub CrossesWhole : List RegionOf → List RegionOf → Op → Option Op → Type 0
  CrossesWhole qs zs b z = (ss : List (Option Op)) → Whole k qs ss → WholeAfter zs z (crossed l ss (Some b))

  -- what is in front of them crosses what is there alone
  pub front_touched : {x : ℕ} {ls ss : List (Option Op)} {qs : List RegionOf} → Woven k x ls qs ss → (b : Op) → Within b.does b.place x
      → Woven k (longer b.does x) (crossed l ls (Some b)).slots qs (crossed l ss (Some b)).slots × ((crossed l ss (Some b)).left ≡ (crossed l ls (Some b)).left)
  front_touched {x = x} {ls = ls} (last h) b w = (last (still_chains l ls x b h w), refl)
  front_touched (next {q = q} h f m d) b w = let r = crosses_before l q.gap d b h w in (next h f m r.0, r.1)

  -- ---- a region is touched
  -- the place is behind the elements in front of the region
  gap_on : (b : Op) (x g p : ℕ) (ss : List (Option Op)) → crossed l ss (Some (from (x + g) (at b p))) ≡ crossed l ss (Some (at b (x + (g + p))))
  gap_on b x g p ss = let e : p + (x + g) ≡ x + (g + p) = omega arith in ap (λ m. crossed l ss (Some (at b m))) e

  touched_left : (r s : Crossed) (z : Option Op) (g n : ℕ) → s.left ≡ z → r.left ≡ option_map (from (n + g)) s.left → r.left ≡ option_map (from n) (option_map (from g) z)
  touched_left r s z g n e h = h ∙ ap (option_map (from (n + g))) e ∙ sym (from_twice n g z)

  pub touch : (q : RegionOf) (qs : List RegionOf) (b : Op) (p : ℕ) → Within b.does p q.lane.first → Crosses (q ∷ qs) (crossed_region l q (at b p) ∷ qs) b (q.gap + p) (option_map (from q.gap) (crossed l q.lane.slots (Some (at b p))).left)
  touch q qs b p w x ls ss (next {fs = fs} {rs = rs} h f m d) =
      let t = front_touched m (at b p) w in
      let s = spread_crossed l f (Some (at b p)) in
      let r = crosses_behind l q.gap d (at b p) h in
      subst (After x ls (crossed_region l q (at b p) ∷ qs) (option_map (from q.gap) (crossed l q.lane.slots (Some (at b p))).left)) (gap_on b x q.gap p ss)
      (next h s.0 t.0 r.0, touched_left (crossed l ss (Some (from (x + q.gap) (at b p)))) (crossed l rs (Some (at b p))) (crossed l q.lane.slots (Some (at b p))).left q.gap (length_at_end x ls) (t.1 ∙ s.1) r.1)

  -- ---- elements between regions are
  gap_element : (q : RegionOf) (qs : List RegionOf) (b : Op) (p : ℕ) → IsOfElement b.does → p < q.gap → 0 < longer b.does q.gap → Crosses (q ∷ qs) (with_gap (longer b.does q.gap) q ∷ qs) b p (Some (at b p))
  gap_element q qs b p i lt more x ls ss (next h f m d) =
      let r = passes_one l q.gap p b d i lt in
      let e : length_at_end x ls + p ≡ p + length_at_end x ls = omega arith in
      (next more f m r.0, r.1 ∙ ap (λ n. Some (at b n)) e)

  gap_insertion : (q : RegionOf) (qs : List RegionOf) (b : Op) (p : ℕ) → b.does ≡ Inserts → 0 < p → p < q.gap → Crosses (q ∷ qs) (with_gap (q.gap + 1) q ∷ qs) b p (Some (at b p))
  gap_insertion q qs b p i z lt x ls ss (next h f m d) =
      let r = passes_among l q.gap p b d i z lt in
      let e : length_at_end x ls + p ≡ p + length_at_end x ls = omega arith in
      (next (omega arith) f m r.0, r.1 ∙ ap (λ n. Some (at b n)) e)

  gap_by : (d : Does) (q : RegionOf) (qs : List RegionOf) (b : Op) (p : ℕ) → b.does ≡ d → Inner d p → p < q.gap → 0 < longer b.does q.gap → Crosses (q ∷ qs) (with_gap (longer b.does q.gap) q ∷ qs) b p (Some (at b p))
  gap_by Inserts q qs b p e i lt more = subst (λ (d : Does). Crosses (q ∷ qs) (with_gap (longer d q.gap) q ∷ qs) b p (Some (at b p))) (sym e) (gap_insertion q qs b p e i lt)
  gap_by Erases q qs b p e i lt more = gap_element q qs b p (subst IsOfElement (sym e) tt) lt more
  gap_by Updates q qs b p e i lt more = gap_element q qs b p (subst IsOfElement (sym e) tt) lt more

  pub gap : (q : RegionOf) (qs : List RegionOf) (b : Op) (p : ℕ) → Inner b.does p → p < q.gap → 0 < longer b.does q.gap → Crosses (q ∷ qs) (with_gap (longer b.does q.gap) q ∷ qs) b p (Some (at b p))
  gap q qs b p i lt more = gap_by b.does q qs b p refl i lt more

  -- ---- or those behind all regions
  tail_element : (b : Op) (p : ℕ) → IsOfElement b.does → Crosses [] [] b p (Some (at b p))
  tail_element b p i x ls ss (last h) =
      let e : length_at_end x ls + p ≡ p + length_at_end x ls = omega arith in
      subst (After x ls [] (Some (at b p))) (sym (beyond_element l x p ls b h i)) (last h, ap (λ n. Some (at b n)) e)

  tail_insertion : (b : Op) (p : ℕ) → b.does ≡ Inserts → 0 < p → Crosses [] [] b p (Some (at b p))
  tail_insertion b p i z x ls ss (last h) =
      let e : length_at_end x ls + p ≡ p + length_at_end x ls = omega arith in
      subst (After x ls [] (Some (at b p))) (sym (beyond_insertion l x p ls b h i z)) (last h, ap (λ n. Some (at b n)) e)

  tail_by : (d : Does) (b : Op) (p : ℕ) → b.does ≡ d → Inner d p → Crosses [] [] b p (Some (at b p))
  tail_by Inserts b p e i = tail_insertion b p e i
  tail_by Erases b p e i = tail_element b p (subst IsOfElement (sym e) tt)
  tail_by Updates b p e i = tail_element b p (subst IsOfElement (sym e) tt)

  pub tail : (b : Op) (p : ℕ) → Inner b.does p → Crosses [] [] b p (Some (at b p))
  tail b p i = tail_by b.does b p refl i

  -- ---- regions in front
  pub further_on : (q : RegionOf) (b : Op) (x p : ℕ) (ss : List (Option Op)) → crossed l ss (Some (from (x + q.gap) (at b (q.lane.first + p)))) ≡ crossed l ss (Some (at b (x + (before q + p))))
  further_on q b x p ss = let e : q.lane.first + p + (x + q.gap) ≡ x + (q.gap + q.lane.first + p) = omega arith in ap (λ m. crossed l ss (Some (at b m))) e

  pub further_left : (q : RegionOf) (fs : List (Option Op)) (r s : Crossed) (z : Option Op) (n : ℕ) → length_at_end q.lane.first fs ≡ length_at_end q.lane.first q.lane.slots → s.left ≡ option_map (from (length_at_end q.lane.first fs)) z → r.left ≡ option_map (from (n + q.gap)) s.left
      → r.left ≡ option_map (from n) (option_map (from (after q)) z)
  further_left q fs r s z n e h g =
      let m = length_at_end q.lane.first fs in
      let last = length_at_end q.lane.first q.lane.slots in
      let k : n + q.gap + m ≡ n + (q.gap + last) = omega arith in
      g ∙ ap (option_map (from (n + q.gap))) h ∙ from_twice (n + q.gap) m z ∙ ap (λ j. option_map (from j) z) k ∙ sym (from_twice n (after q) z)

  behind_one : (q : RegionOf) (qs zs : List RegionOf) (b : Op) (p : ℕ) (z : Option Op) → Crosses qs zs b p z → Crosses (q ∷ qs) (q ∷ zs) b (before q + p) (option_map (from (after q)) z)
  behind_one q qs zs b p z c x ls ss (next {fs = fs} {rs = rs} h f m d) =
      let s = c q.lane.first fs rs m in
      let r = crosses_behind l q.gap d (at b (q.lane.first + p)) h in
      subst (After x ls (q ∷ zs) (option_map (from (after q)) z)) (further_on q b x p ss)
      (next h f s.0 r.0, further_left q fs (crossed l ss (Some (from (x + q.gap) (at b (q.lane.first + p))))) (crossed l rs (Some (at b (q.lane.first + p)))) z (length_at_end x ls) (spread_end q.lane.first f) s.1 r.1)

  same_place : (qs zs : List RegionOf) (b : Op) (m n : ℕ) (y z : Option Op) → m ≡ n → y ≡ z → Crosses qs zs b m y → Crosses qs zs b n z
  same_place qs zs b m n y z e h c = subst (λ j. Crosses qs zs b j z) e (subst (Crosses qs zs b m) h c)

  pub behind_many : (xs qs zs : List RegionOf) (b : Op) (p : ℕ) (z : Option Op) → Crosses qs zs b p z → Crosses (xs ++ qs) (xs ++ zs) b (befores xs + p) (option_map (from (afters xs)) z)
  behind_many [] qs zs b p z c = let e : p ≡ 0 + p = omega arith in same_place qs zs b p (0 + p) z (option_map (from 0) z) e (sym (from_zero z)) c
  behind_many (x ∷ xs) qs zs b p z c =
      let e : before x + (befores xs + p) ≡ before x + befores xs + p = omega arith in
      same_place (x ∷ (xs ++ qs)) (x ∷ (xs ++ zs)) b (before x + (befores xs + p)) (before x + befores xs + p) (option_map (from (after x)) (option_map (from (afters xs)) z)) (option_map (from (after x + afters xs)) z) e (from_twice (after x) (afters xs) z)
      (behind_one x (xs ++ qs) (xs ++ zs) b (befores xs + p) (option_map (from (afters xs)) z) (behind_many xs qs zs b p z c))

  -- ---- all regions
  pub no_more : (n : ℕ) (g : ℕ) (r : Option Op) (s z : Option Op) → n ≡ 0 → r ≡ option_map (from (n + g)) s → s ≡ z → r ≡ option_map (from g) z
  no_more n g r s z e h k = let j : n + g ≡ g = omega arith in h ∙ (λ i. option_map (from (j i)) (k i))

  pub at_start : (b : Op) (g p : ℕ) (ss : List (Option Op)) → crossed l ss (Some (from (zero + g) (at b p))) ≡ crossed l ss (Some (at b (g + p)))
  at_start b g p ss = let e : p + (zero + g) ≡ g + p = omega arith in ap (λ m. crossed l ss (Some (at b m))) e

  pub whole_touch : (q : RegionOf) (qs : List RegionOf) (b : Op) (p : ℕ) → Within b.does p q.lane.first → CrossesWhole (q ∷ qs) (crossed_region l q (at b p) ∷ qs) (at b (q.gap + p)) (option_map (from q.gap) (crossed l q.lane.slots (Some (at b p))).left)
  whole_touch q qs b p w ss (first {ls = ls} {rs = rs} h f m d) =
      let t = front_touched m (at b p) w in
      let s = spread_crossed l f (Some (at b p)) in
      let r = behind_front l q.gap d h (at b p) in
      subst (WholeAfter (crossed_region l q (at b p) ∷ qs) (option_map (from q.gap) (crossed l q.lane.slots (Some (at b p))).left)) (at_start b q.gap p ss)
      (first h s.0 t.0 r.0, no_more (length_at_end zero ls) q.gap (crossed l ss (Some (from (zero + q.gap) (at b p)))).left (crossed l rs (Some (at b p))).left (crossed l q.lane.slots (Some (at b p))).left (end_none l ls h) r.1 (t.1 ∙ s.1))

  pub whole_front : (q : RegionOf) (qs : List RegionOf) (b : Op) → b.place < q.gap → CrossesWhole (q ∷ qs) (with_gap (longer b.does q.gap) q ∷ qs) b (Some b)
  whole_front q qs b lt ss (first h f m d) = let r = passes_first l q.gap d h b lt in (first h f m r.0, r.1)

  pub whole_none : (b : Op) → CrossesWhole [] [] b (Some b)
  whole_none b ss (none h) = subst (WholeAfter [] (Some b)) (sym (crossed_empty l ss b h)) (none h, refl)

  pub whole_behind : (q : RegionOf) (qs zs : List RegionOf) (b : Op) (p : ℕ) (z : Option Op) → Crosses qs zs b p z → CrossesWhole (q ∷ qs) (q ∷ zs) (at b (before q + p)) (option_map (from (after q)) z)
  whole_behind q qs zs b p z c ss (first {ls = ls} {fs = fs} {rs = rs} h f m d) =
      let s = c q.lane.first fs rs m in
      let r = behind_front l q.gap d h (at b (q.lane.first + p)) in
      let e : q.gap + (q.lane.first + p) ≡ before q + p = omega arith in
      let last = spread_end q.lane.first f in
      let k : q.gap + length_at_end q.lane.first fs ≡ after q = omega (arith, last) in
      subst (WholeAfter (q ∷ zs) (option_map (from (after q)) z)) (at_start b q.gap (q.lane.first + p) ss ∙ ap (λ n. crossed l ss (Some (at b n))) e) (
        first h f s.0 r.0,
        no_more (length_at_end zero ls) q.gap (crossed l ss (Some (from (zero + q.gap) (at b (q.lane.first + p))))).left (crossed l rs (Some (at b (q.lane.first + p)))).left (option_map (from (length_at_end q.lane.first fs)) z) (end_none l ls h) r.1 s.1
            ∙ from_twice q.gap (length_at_end q.lane.first fs) z ∙ ap (λ j. option_map (from j) z) k,
      )
