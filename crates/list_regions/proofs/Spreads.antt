-- The slots of a region among all slots.
use Rattle.std.proofs.Common.{◌≡◌, ℕ, zero, suc, ◌≤◌, Bool, cond, not, List, [], ◌∷◌, length, Option, Some, None, refl, sym, ap, ◌∙◌, subst, arith}
use Rattle.std.proofs.lemmas.Bool.{eq-eqb, ne_eqb}
use Rattle.sync_data.specs.declared.entry.Stamp.{Stamp}
use Rattle.list_lane.specs.Ops.{op_after}
use Rattle.list_lane.specs.Lanes.{Crossed, behind, crossed, length_after, length_at_end}
use Rattle.list_lane.specs.declared.op.Op.{Op}
use Rattle.list_lane.proofs.Chain.{crossed_none}
use Rattle.list_regions.specs.Regions.{AllEmpty, empties, spread, Spread, end, skip, here}

-- ---- empty slots
pub all_empties : (c : ℕ) → AllEmpty (empties c)
all_empties zero = tt
all_empties (suc c) = all_empties c

pub empties_are : (ss : List (Option Op)) → AllEmpty ss → ss ≡ empties (length ss)
empties_are [] h = refl
empties_are (None ∷ ss) h = ap (λ xs. None ∷ xs) (empties_are ss h)
empties_are (Some a ∷ ss) h = absurd h

pub length_empties : (c : ℕ) → length (empties c) ≡ c
length_empties zero = refl
length_empties (suc c) = ap (λ n. suc n) (length_empties c)

pub end_empty : (x : ℕ) (ss : List (Option Op)) → AllEmpty ss → length_at_end x ss ≡ x
end_empty x [] h = refl
end_empty x (None ∷ ss) h = end_empty x ss h
end_empty x (Some a ∷ ss) h = absurd h

pub crossed_empty : (l : Stamp → Stamp → Bool) (ss : List (Option Op)) (b : Op) → AllEmpty ss → crossed l ss (Some b) ≡ record { slots = ss; left = Some b }
crossed_empty l [] b h = refl
crossed_empty l (None ∷ ss) b h = ap (behind None) (crossed_empty l ss b h)
crossed_empty l (Some a ∷ ss) b h = absurd h

-- ---- spread slots
pub spread_end : {k : ℕ} {ns : List ℕ} {ss fs : List (Option Op)} (x : ℕ) → Spread k ns ss fs → length_at_end x fs ≡ length_at_end x ss
spread_end x end = refl
spread_end x (skip d) = spread_end x d
spread_end x (here {s = s} d) = spread_end (length_after s x) d

pub spread_length : {k : ℕ} {ns : List ℕ} {ss fs : List (Option Op)} → Spread k ns ss fs → length ss ≤ length fs
spread_length end = omega arith
spread_length (skip d) = let h = spread_length d in omega (arith, h)
spread_length (here d) = let h = spread_length d in omega (arith, h)

pub spread_numbers : {k : ℕ} {ns : List ℕ} {ss fs : List (Option Op)} → Spread k ns ss fs → length ns ≡ length ss
spread_numbers end = refl
spread_numbers (skip d) = spread_numbers d
spread_numbers (here d) = ap (λ n. suc n) (spread_numbers d)

module _ (l : Stamp → Stamp → Bool) where
  -- an instruction crosses them as it crosses the slots themselves
  abbrev pub SpreadCrossed : ℕ → List ℕ → Crossed → Crossed → Type 0
  SpreadCrossed k ns whole part = Spread k ns part.slots whole.slots × (whole.left ≡ part.left)

  pub spread_crossed : {k : ℕ} {ns : List ℕ} {ss fs : List (Option Op)} → Spread k ns ss fs → (x : Option Op) → SpreadCrossed k ns (crossed l fs x) (crossed l ss x)
  spread_crossed end x = (end, refl)
  spread_crossed {k = k} {ns = ns} {ss = ss} (skip {fs = fs} d) None = subst (λ (r : Crossed). SpreadCrossed k ns (record { slots = None ∷ fs; left = None }) r) (sym (crossed_none l ss)) (skip d, refl)
  spread_crossed (skip d) (Some b) = let r = spread_crossed d (Some b) in (skip r.0, r.1)
  spread_crossed (here {s = s} d) None = (here d, refl)
  spread_crossed (here {s = None} d) (Some b) = let r = spread_crossed d (Some b) in (here r.0, r.1)
  spread_crossed (here {s = Some a} d) (Some b) = let r = spread_crossed d (op_after (not (l a.stamp b.stamp)) b a) in (here r.0, r.1)

-- ---- the slots are told by their numbers
pub spread_from : {k : ℕ} {ns : List ℕ} {ss fs : List (Option Op)} → Spread k ns ss fs → (n : ℕ) (ms : List ℕ) → ns ≡ n ∷ ms → k ≤ n
spread_from end n ms e = cc
spread_from (skip {k = k} d) n ms e = let h = spread_from d n ms e in omega (arith, h)
spread_from (here {k = k} d) n ms e = let h : k ≡ n = cc in omega (arith, h)

module _ (k c : ℕ) (n : ℕ) (ns : List ℕ) (s : Option Op) (ss : List (Option Op)) where
  spread_skips : suc k ≤ n → spread k (suc c) (n ∷ ns) (s ∷ ss) ≡ None ∷ spread (suc k) c (n ∷ ns) (s ∷ ss)
  spread_skips h = ap (λ t. cond t (s ∷ spread (suc k) c ns ss) (None ∷ spread (suc k) c (n ∷ ns) (s ∷ ss))) (ne_eqb n k (λ e. omega (arith, h, e)))

spread_here : (k c : ℕ) (ns : List ℕ) (s : Option Op) (ss : List (Option Op)) → spread k (suc c) (k ∷ ns) (s ∷ ss) ≡ s ∷ spread (suc k) c ns ss
spread_here k c ns s ss = ap (λ t. cond t (s ∷ spread (suc k) c ns ss) (None ∷ spread (suc k) c (k ∷ ns) (s ∷ ss))) (eq-eqb k k refl)

spread_skip : (k c : ℕ) (ns : List ℕ) (ss fs : List (Option Op)) → Spread (suc k) ns ss fs → spread k (suc c) ns ss ≡ None ∷ spread (suc k) c ns ss
spread_skip k c [] ss fs d = refl
spread_skip k c (n ∷ ns) [] fs d = absurd (let h = spread_numbers d in omega (arith, h))
spread_skip k c (n ∷ ns) (s ∷ ss) fs d = spread_skips k c n ns s ss (spread_from d n ns refl)

pub spread_is : {k : ℕ} {ns : List ℕ} {ss fs : List (Option Op)} → Spread k ns ss fs → spread k (length fs) ns ss ≡ fs
spread_is end = refl
spread_is {k = k} {ns = ns} {ss = ss} (skip {fs = fs} d) = spread_skip k (length fs) ns ss fs d ∙ ap (λ xs. None ∷ xs) (spread_is d)
spread_is {k = k} (here {ns = ns} {s = s} {ss = ss} {fs = fs} d) = spread_here k (length fs) ns s ss ∙ ap (λ xs. s ∷ xs) (spread_is d)
