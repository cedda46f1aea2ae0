-- A lane that chains from the length on which an instruction was made chains as that crossed it.
use Rattle.std.proofs.Common.{◌≡◌, ℕ, suc, Bool, true, false, not, List, [], ◌∷◌, Option, Some, None, refl, sym, ap, ◌∙◌, subst, length}
use Rattle.std.specs.Prelude.{IfSome}
use Rattle.sync_data.specs.declared.entry.Stamp.{Stamp}
use Rattle.list_places.specs.Places.{longer, Within, place_after}
use Rattle.list_places.specs.declared.places.Does.{Does}
use Rattle.list_places.proofs.Stands.{WithinIf, within_after}
use Rattle.list_lane.specs.Ops.{moved}
use Rattle.list_lane.specs.Lanes.{Crossed, crossed, length_after, length_at_end, Chains, IsLeftOf}
use Rattle.list_lane.specs.declared.op.Op.{Op}
use Rattle.list_lane.proofs.Lengths.{Lengths, lengths}

-- where nothing is left of the instruction, the lane stays
pub crossed_none : (l : Stamp → Stamp → Bool) (ss : List (Option Op)) → crossed l ss None ≡ record { slots = ss; left = None }
crossed_none l [] = refl
crossed_none l (s ∷ ss) = refl

pub length_crossed : (l : Stamp → Stamp → Bool) (ss : List (Option Op)) (b : Option Op) → length (crossed l ss b).slots ≡ length ss
length_crossed l [] b = refl
length_crossed l (s ∷ ss) None = refl
length_crossed l (None ∷ ss) (Some b) = ap suc (length_crossed l ss (Some b))
length_crossed l (Some a ∷ ss) (Some b) = ap suc (length_crossed l ss _)

pub if_some : (d : Does) (m : ℕ) (Q : ℕ → Type 0) (x : Option ℕ) → WithinIf d m x → ((q : ℕ) → Within d q m → Q q) → IfSome x Q
if_some d m Q None w f = tt
if_some d m Q (Some q) w f = f q w

pub not_not : (b : Bool) → not (not b) ≡ b
not_not true = refl
not_not false = refl

-- the lengths after two that met, by the flag of the first
pub both_lengths : (la : Bool) (n : ℕ) (a b : Op) → Within a.does a.place n → Within b.does b.place n → Lengths b.does a.does n (place_after (not la) b.does b.place a.does a.place) (place_after la a.does a.place b.does b.place)
both_lengths la n a b h w = subst (λ k. Lengths b.does a.does n (place_after (not la) b.does b.place a.does a.place) (place_after k a.does a.place b.does b.place)) (not_not la) (lengths (not la) b.does a.does b.place a.place n w h)

module _ (l : Stamp → Stamp → Bool) where
  -- ---- what is left of the lane chains from the length after the instruction
  abbrev StillChains : ℕ → List (Option Op) → Op → Type 0
  StillChains n ss b = Chains (longer b.does n) (crossed l ss (Some b)).slots

  still_one : (n : ℕ) (a : Op) (ss : List (Option Op)) (b : Op) (x y : Option ℕ) → Lengths b.does a.does n x y → WithinIf a.does (longer b.does n) y → Chains (longer a.does n) ss → IfSome x (λ q. StillChains (longer a.does n) ss (record b { place = q })) → Chains (longer b.does n) (moved a y ∷ (crossed l ss (moved b x)).slots)
  still_one n a ss b (Some q) (Some p) e w h g = (w, subst (λ m. Chains m (crossed l ss (Some (record b { place = q }))).slots) e g)
  still_one n a ss b (Some q) None e w h g = (tt, subst (λ m. Chains m (crossed l ss (Some (record b { place = q }))).slots) e g)
  still_one n a ss b None (Some p) e w h g = (w, subst (λ (r : Crossed). Chains (longer a.does (longer b.does n)) r.slots) (sym (crossed_none l ss)) (subst (λ m. Chains m ss) (sym e) h))
  still_one n a ss b None None e w h g = (tt, subst (λ (r : Crossed). Chains (longer b.does n) r.slots) (sym (crossed_none l ss)) (subst (λ m. Chains m ss) (sym e) h))

  pub still_chains : (ss : List (Option Op)) (n : ℕ) (b : Op) → Chains n ss → Within b.does b.place n → StillChains n ss b
  still_chains [] n b h w = tt
  still_chains (None ∷ ss) n b h w = (tt, still_chains ss n b h.1 w)
  still_chains (Some a ∷ ss) n b h w =
      let la : Bool = l a.stamp b.stamp in
      still_one n a ss b (place_after (not la) b.does b.place a.does a.place) (place_after la a.does a.place b.does b.place)
      (both_lengths la n a b h.0 w)
      (within_after la a.does b.does a.place b.place n h.0 w) h.1
      (if_some b.does (longer a.does n) _ (place_after (not la) b.does b.place a.does a.place) (within_after (not la) b.does a.does b.place a.place n w h.0) (λ q v. still_chains ss (longer a.does n) (record b { place = q }) h.1 v))

  -- ---- the length at the end, and what is left of the instruction there
  pub record Ends (n : ℕ) (ss : List (Option Op)) (b : Op) : Type 0 where
    pub length_is : length_at_end (longer b.does n) (crossed l ss (Some b)).slots ≡ length_after (crossed l ss (Some b)).left (length_at_end n ss)
    pub left : IfSome (crossed l ss (Some b)).left (IsLeftOf b (length_at_end n ss))

  record EndsOf (n : ℕ) (a : Op) (ss : List (Option Op)) (b : Op) (x y : Option ℕ) : Type 0 where
    length_is : length_at_end (longer b.does n) (moved a y ∷ (crossed l ss (moved b x)).slots) ≡ length_after (crossed l ss (moved b x)).left (length_at_end (longer a.does n) ss)
    left : IfSome (crossed l ss (moved b x)).left (IsLeftOf b (length_at_end (longer a.does n) ss))

  left_same : (b : Op) (q m : ℕ) (r : Option Op) → IfSome r (IsLeftOf (record b { place = q }) m) → IfSome r (IsLeftOf b m)
  left_same b q m None h = tt
  left_same b q m (Some z) h = record { does = h.does; stamp = h.stamp; within = h.within }

  none_left : (b : Op) (m : ℕ) (ss : List (Option Op)) → IfSome (crossed l ss None).left (IsLeftOf b m)
  none_left b m ss = subst (λ (r : Crossed). IfSome r.left (IsLeftOf b m)) (sym (crossed_none l ss)) tt

  none_length : (k m : ℕ) (ss : List (Option Op)) → k ≡ m → length_at_end k (crossed l ss None).slots ≡ length_after (crossed l ss None).left (length_at_end m ss)
  none_length k m ss e =
      ap (λ (r : Crossed). length_at_end k r.slots) (crossed_none l ss) ∙ ap (λ n. length_at_end n ss) e ∙ ap (λ (r : Crossed). length_after r.left (length_at_end m ss)) (sym (crossed_none l ss))

  ends_of : (n : ℕ) (a : Op) (ss : List (Option Op)) (b : Op) (x y : Option ℕ) → Lengths b.does a.does n x y → IfSome x (λ q. Ends (longer a.does n) ss (record b { place = q })) → EndsOf n a ss b x y
  ends_of n a ss b (Some q) (Some p) e g = record {
    length_is = ap (λ m. length_at_end m (crossed l ss (Some (record b { place = q }))).slots) (sym e) ∙ g.length_is;
    left = left_same b q _ (crossed l ss (Some (record b { place = q }))).left g.left;
  }
  ends_of n a ss b (Some q) None e g = record {
    length_is = ap (λ m. length_at_end m (crossed l ss (Some (record b { place = q }))).slots) (sym e) ∙ g.length_is;
    left = left_same b q _ (crossed l ss (Some (record b { place = q }))).left g.left;
  }
  ends_of n a ss b None (Some p) e g = record { length_is = none_length (longer a.does (longer b.does n)) (longer a.does n) ss e; left = none_left b _ ss }
  ends_of n a ss b None None e g = record { length_is = none_length (longer b.does n) (longer a.does n) ss e; left = none_left b _ ss }

  pub ends : (ss : List (Option Op)) (n : ℕ) (b : Op) → Chains n ss → Within b.does b.place n → Ends n ss b
  ends [] n b h w = record { length_is = refl; left = record { does = refl; stamp = refl; within = w } }
  ends (None ∷ ss) n b h w = let q = ends ss n b h.1 w in record { length_is = q.length_is; left = q.left }
  ends (Some a ∷ ss) n b h w =
      let la : Bool = l a.stamp b.stamp in
      let q = ends_of n a ss b (place_after (not la) b.does b.place a.does a.place) (place_after la a.does a.place b.does b.place)
      (both_lengths la n a b h.0 w)
      (if_some b.does (longer a.does n) (λ q. Ends (longer a.does n) ss (record b { place = q })) (place_after (not la) b.does b.place a.does a.place) (within_after (not la) b.does a.does b.place a.place n w h.0) (λ q v. ends ss (longer a.does n) (record b { place = q }) h.1 v)) in
      record { length_is = q.length_is; left = q.left }
