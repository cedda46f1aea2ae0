-- Changesets that a lane tells cross as the lane does, one by one.
use Rattle.std.proofs.Common.{◌≡◌, ℕ, ◌<◌, Bool, true, false, not, ◌&&◌, List, [], ◌∷◌, Option, Some, None, Result, Ok, refl, sym, ap, ◌∙◌, arith}
use Rattle.std.specs.Prelude.{◌==◌, IfSome}
use Rattle.std.proofs.lemmas.Bool.Decides.{nat_tests}
use Rattle.sync_data.specs.declared.value.Value.{Value}
use Rattle.sync_data.specs.declared.entry.Stamp.{Stamp}
use Rattle.sync_data.specs.declared.instr.CellName.{CellName}
use Rattle.sync_data.specs.declared.instr.Instr.{Instr}
use Rattle.sync_base.specs.Rules.{top}
use Rattle.sync_theory.specs.Lists.{kept, row, cross, met, rowed, step_down}
use Rattle.sync_theory.specs.Changesets.{Changeset, cross_sets, with_lists, later_stamp}
use Rattle.sync_theory.specs.Grid.{rebase, rebase_put, rebase_one, carry, carry_put, carry_one}
use Rattle.sync_law.specs.Instrs.{meet}
use Rattle.list_places.specs.Places.{longer, Within, place_after}
use Rattle.list_places.specs.Moves.{instr_at, instr_left, moved_first}
use Rattle.list_places.specs.declared.places.Does.{Does}
use Rattle.list_places.specs.declared.places.Does.TheVariants.{Inserts, Erases, Updates}
use Rattle.list_places.proofs.Rows.{grows, pair}
use Rattle.list_places.proofs.Stands.{within_after}
use Rattle.list_lane.specs.Ops.{moved, op_after, lane_later}
use Rattle.list_lane.specs.Lanes.{crossed, length_after, length_at_end, Chains}
use Rattle.list_lane.specs.Told.{action, told, told_set, told_sets, IsOne, stamp_of, IsTold, AreTold}
use Rattle.list_lane.specs.declared.op.Op.{Op}
use Rattle.list_lane.proofs.Lengths.{Lengths}
use Rattle.list_lane.proofs.Chain.{crossed_none, if_some, not_not, both_lengths}

-- the list stays shorter than that before each of the lane
abbrev pub Below : ℕ → ℕ → List (Option Op) → Type 0
Below most n [] = Unit {0}
Below most n (s ∷ ss) = (n < most) × Below most (length_after s n) ss

below_top : (d e : Does) (n : ℕ) → n < top → (grows d e && (n == top)) ≡ false
below_top d e n h = elim (grows d e) as (λ b. (b && (n == top)) ≡ false) [ true ↦ grind (arith, nat_tests, h) | false ↦ refl ]

-- ---- two instructions
module _ {L R M : Type 0} (m : L → R → Result (Option L × Option R) M) where
  both_left : (x : Option L) (y : Option R) → rowed {L = L} {R = R} {M = M} (met {L = L} {R = R} {M = M} (Ok (x, y)) (λ z. row m z [])) (λ cs. cross m [] cs) ≡ Ok (kept x, kept y)
  both_left None None = refl
  both_left None (Some b) = refl
  both_left (Some a) None = refl
  both_left (Some a) (Some b) = refl

  ones_cross : (a : L) (b : R) (x : Option L) (y : Option R) → m a b ≡ Ok (x, y) → cross m (a ∷ []) (b ∷ []) ≡ Ok (kept x, kept y)
  ones_cross a b x y e = ap (λ r. rowed (met r (λ z. row m z [])) (λ cs. cross m [] cs)) e ∙ both_left x y

  -- what is empty on the right crosses nothing
  nothing_crosses : (as_ : List L) → cross m as_ [] ≡ Ok (as_, [])
  nothing_crosses [] = refl
  nothing_crosses (a ∷ as_) = ap (step_down (Some a)) (nothing_crosses as_)

-- ---- as they are told
one_told : (c : CellName) (v : Value) (d : Does) (p q n m : ℕ) → moved_first (action d p n) (instr_at c v d q m ∷ []) ≡ instr_at c v d p n ∷ []
one_told c v Inserts p q n m = refl
one_told c v Erases p q n m = refl
one_told c v Updates p q n m = refl

module _ (c : CellName) where
  is_told : (a : Op) (is : List Instr) (h : IsOne c a.does is) (n : ℕ) → told n (Some a) is ≡ instr_at c h.value a.does a.place n ∷ []
  is_told a is h n = ap (moved_first (action a.does a.place n)) h.instrs ∙ one_told c h.value a.does a.place h.place n h.length

  left_told : (a : Op) (is : List Instr) (h : IsOne c a.does is) (n : ℕ) (x : Option ℕ) → kept (instr_left c h.value a.does n x) ≡ told n (moved a x) is
  left_told a is h n None = refl
  left_told a is h n (Some p) = sym (is_told (record a { place = p }) is h n)

  -- what is left of two
  both_told : (l : Bool) (a b : Op) (is js : List Instr) (n : ℕ) → IsOne c a.does is → IsOne c b.does js → n < top
      → cross (λ x y. meet x y l) (told n (Some a) is) (told n (Some b) js) ≡ Ok (told (longer b.does n) (op_after l a b) is, told (longer a.does n) (op_after (not l) b a) js)
  both_told l a b is js n f g s =
      (λ i. cross (λ x y. meet x y l) (is_told a is f n i) (is_told b js g n i))
      ∙ ones_cross (λ x y. meet x y l) (instr_at c f.value a.does a.place n) (instr_at c g.value b.does b.place n) _ _ (pair l c f.value g.value a.does b.does a.place b.place n (below_top a.does b.does n s))
      ∙ (λ i. Ok (left_told a is f (longer b.does n) (place_after l a.does a.place b.does b.place) i, left_told b js g (longer a.does n) (place_after (not l) b.does b.place a.does a.place) i))

  -- ---- two changesets, the lane's on the left
  later_left : (a b : Op) (p e : Changeset Instr) → stamp_of p ≡ a.stamp → stamp_of e ≡ b.stamp → later_stamp p.ms p.origin e.ms e.origin ≡ lane_later true a.stamp b.stamp
  later_left a b p e f g = (λ i. later_stamp (f i).ms (f i).ident (g i).ms (g i).ident)

  meets_left : (a b : Op) (p e : Changeset Instr) (n : ℕ) → IsTold c (Some a) p → IsTold c (Some b) e → n < top
      → cross_sets meet (told_set n (Some a) p) (told_set n (Some b) e) ≡ Ok (told_set (longer b.does n) (op_after (lane_later true a.stamp b.stamp) a b) p, told_set (longer a.does n) (op_after (not (lane_later true a.stamp b.stamp)) b a) e)
  meets_left a b p e n f g s =
      ap (λ t. with_lists (told_set n (Some a) p) (told_set n (Some b) e) (cross (λ x y. meet x y t) (told n (Some a) p.instrs) (told n (Some b) e.instrs))) (later_left a b p e f.0 g.0)
      ∙ ap (with_lists (told_set n (Some a) p) (told_set n (Some b) e)) (both_told (lane_later true a.stamp b.stamp) a b p.instrs e.instrs n f.1 g.1 s)

  -- ---- and on the right
  later_right : (a b : Op) (p e : Changeset Instr) → stamp_of p ≡ a.stamp → stamp_of e ≡ b.stamp → later_stamp e.ms e.origin p.ms p.origin ≡ not (lane_later false a.stamp b.stamp)
  later_right a b p e f g =
      (λ i. later_stamp (g i).ms (g i).ident (f i).ms (f i).ident) ∙ sym (not_not (later_stamp b.stamp.ms b.stamp.ident a.stamp.ms a.stamp.ident))

  meets_right : (a b : Op) (p e : Changeset Instr) (n : ℕ) → IsTold c (Some a) p → IsTold c (Some b) e → n < top
      → cross_sets meet (told_set n (Some b) e) (told_set n (Some a) p) ≡ Ok (told_set (longer a.does n) (op_after (not (lane_later false a.stamp b.stamp)) b a) e, told_set (longer b.does n) (op_after (lane_later false a.stamp b.stamp) a b) p)
  meets_right a b p e n f g s =
      let la : Bool = lane_later false a.stamp b.stamp in
      ap (λ t. with_lists (told_set n (Some b) e) (told_set n (Some a) p) (cross (λ x y. meet x y t) (told n (Some b) e.instrs) (told n (Some a) p.instrs))) (later_right a b p e f.0 g.0)
      ∙ ap (with_lists (told_set n (Some b) e) (told_set n (Some a) p)) (both_told (not la) b a e.instrs p.instrs n g.1 f.1 s)
      ∙ (λ i. Ok (told_set (longer a.does n) (op_after (not la) b a) e, told_set (longer b.does n) (op_after (not_not la i) a b) p))

  -- ---- nothing is left of what crosses
  rebase_gone : (ps : List (Changeset Instr)) (e : Changeset Instr) (n : ℕ) → rebase (cross_sets meet) ps (told_set n None e) ≡ Ok (ps, told_set n None e)
  rebase_gone [] e n = refl
  rebase_gone (p ∷ ps) e n =
      ap (λ r. rebase_one (with_lists p (told_set n None e) r) (λ f. rebase (cross_sets meet) ps f)) (nothing_crosses (λ x y. meet x y (later_stamp p.ms p.origin e.ms e.origin)) p.instrs)
      ∙ ap (rebase_put p) (rebase_gone ps e n)

  carry_gone : (ps : List (Changeset Instr)) (e : Changeset Instr) (n : ℕ) → carry (cross_sets meet) (told_set n None e) ps ≡ Ok (told_set n None e, ps)
  carry_gone [] e n = refl
  carry_gone (p ∷ ps) e n = ap (carry_put p) (carry_gone ps e n)

  -- ---- the lane on the left
  abbrev pub LeftIs : ℕ → List (Option Op) → List (Changeset Instr) → Op → Changeset Instr → Type 0
  LeftIs n ss ps b e =
      rebase (cross_sets meet) (told_sets n ss ps) (told_set n (Some b) e)
      ≡ Ok (told_sets (longer b.does n) (crossed (lane_later true) ss (Some b)).slots ps, told_set (length_at_end n ss) (crossed (lane_later true) ss (Some b)).left e)

  abbrev LeftOne : ℕ → Op → List (Option Op) → Changeset Instr → List (Changeset Instr) → Op → Changeset Instr → Option ℕ → Option ℕ → Type 0
  LeftOne n a ss p ps b e x y =
      rebase_put (told_set (longer b.does n) (moved a y) p) (rebase (cross_sets meet) (told_sets (longer a.does n) ss ps) (told_set (longer a.does n) (moved b x) e))
      ≡ Ok (told_sets (longer b.does n) (moved a y ∷ (crossed (lane_later true) ss (moved b x)).slots) (p ∷ ps), told_set (length_at_end (longer a.does n) ss) (crossed (lane_later true) ss (moved b x)).left e)

  -- the length before the rest, where it is known
  abbrev Onward : Op → Op → ℕ → Option ℕ → Option ℕ → ℕ → Type 0
  Onward a b n (Some q) y m = longer b.does (longer a.does n) ≡ m
  Onward a b n None y m = longer a.does n ≡ m

  onward : (a b : Op) (n : ℕ) (x y : Option ℕ) → Lengths b.does a.does n x y → Onward a b n x y (length_after (moved a y) (longer b.does n))
  onward a b n (Some q) (Some p) e = e
  onward a b n (Some q) None e = e
  onward a b n None (Some p) e = sym e
  onward a b n None None e = sym e

  left_one : (n : ℕ) (a : Op) (ss : List (Option Op)) (p : Changeset Instr) (ps : List (Changeset Instr)) (b : Op) (e : Changeset Instr) (x y : Option ℕ)
      → Onward a b n x y (length_after (moved a y) (longer b.does n)) → IfSome x (λ q. LeftIs (longer a.does n) ss ps (record b { place = q }) e) → LeftOne n a ss p ps b e x y
  left_one n a ss p ps b e (Some q) y o h =
      ap (rebase_put (told_set (longer b.does n) (moved a y) p)) h
      ∙ (λ i. Ok (told_set (longer b.does n) (moved a y) p ∷ told_sets (o i) (crossed (lane_later true) ss (Some (record b { place = q }))).slots ps, told_set (length_at_end (longer a.does n) ss) (crossed (lane_later true) ss (Some (record b { place = q }))).left e))
  left_one n a ss p ps b e None y o h =
      ap (rebase_put (told_set (longer b.does n) (moved a y) p)) (rebase_gone (told_sets (longer a.does n) ss ps) e (longer a.does n))
      ∙ (λ i. Ok (told_set (longer b.does n) (moved a y) p ∷ told_sets (o i) ss ps, told_set (longer a.does n) None e))
      ∙ (λ i. Ok (told_set (longer b.does n) (moved a y) p ∷ told_sets (length_after (moved a y) (longer b.does n)) (sym (crossed_none (lane_later true) ss) i).slots ps, told_set (length_at_end (longer a.does n) ss) (sym (crossed_none (lane_later true) ss) i).left e))

  pub left_is : (ss : List (Option Op)) (ps : List (Changeset Instr)) (n : ℕ) (b : Op) (e : Changeset Instr) → Chains n ss → Below top n ss → Within b.does b.place n → AreTold c ss ps → IsTold c (Some b) e → LeftIs n ss ps b e
  left_is [] [] n b e h s w t f = refl
  left_is [] (p ∷ ps) n b e h s w t f = absurd t
  left_is (s ∷ ss) [] n b e h k w t f = absurd t
  left_is (None ∷ ss) (p ∷ ps) n b e h s w t f = ap (rebase_put (told_set n None p)) (left_is ss ps n b e h.1 s.1 w t.1 f)
  left_is (Some a ∷ ss) (p ∷ ps) n b e h s w t f =
      let la : Bool = lane_later true a.stamp b.stamp in
      ap (λ r. rebase_one r (λ g. rebase (cross_sets meet) (told_sets (longer a.does n) ss ps) g)) (meets_left a b p e n t.0 f s.0)
      ∙ left_one n a ss p ps b e (place_after (not la) b.does b.place a.does a.place) (place_after la a.does a.place b.does b.place)
      (onward a b n (place_after (not la) b.does b.place a.does a.place) (place_after la a.does a.place b.does b.place) (both_lengths la n a b h.0 w))
      (if_some b.does (longer a.does n) _ (place_after (not la) b.does b.place a.does a.place) (within_after (not la) b.does a.does b.place a.place n w h.0) (λ q v. left_is ss ps (longer a.does n) (record b { place = q }) e h.1 s.1 v t.1 f))

  -- ---- the lane on the right
  abbrev pub RightIs : ℕ → List (Option Op) → List (Changeset Instr) → Op → Changeset Instr → Type 0
  RightIs n ss ps b e =
      carry (cross_sets meet) (told_set n (Some b) e) (told_sets n ss ps)
      ≡ Ok (told_set (length_at_end n ss) (crossed (lane_later false) ss (Some b)).left e, told_sets (longer b.does n) (crossed (lane_later false) ss (Some b)).slots ps)

  abbrev RightOne : ℕ → Op → List (Option Op) → Changeset Instr → List (Changeset Instr) → Op → Changeset Instr → Option ℕ → Option ℕ → Type 0
  RightOne n a ss p ps b e x y =
      carry_put (told_set (longer b.does n) (moved a y) p) (carry (cross_sets meet) (told_set (longer a.does n) (moved b x) e) (told_sets (longer a.does n) ss ps))
      ≡ Ok (told_set (length_at_end (longer a.does n) ss) (crossed (lane_later false) ss (moved b x)).left e, told_sets (longer b.does n) (moved a y ∷ (crossed (lane_later false) ss (moved b x)).slots) (p ∷ ps))

  right_one : (n : ℕ) (a : Op) (ss : List (Option Op)) (p : Changeset Instr) (ps : List (Changeset Instr)) (b : Op) (e : Changeset Instr) (x y : Option ℕ)
      → Onward a b n x y (length_after (moved a y) (longer b.does n)) → IfSome x (λ q. RightIs (longer a.does n) ss ps (record b { place = q }) e) → RightOne n a ss p ps b e x y
  right_one n a ss p ps b e (Some q) y o h =
      ap (carry_put (told_set (longer b.does n) (moved a y) p)) h
      ∙ (λ i. Ok (told_set (length_at_end (longer a.does n) ss) (crossed (lane_later false) ss (Some (record b { place = q }))).left e, told_set (longer b.does n) (moved a y) p ∷ told_sets (o i) (crossed (lane_later false) ss (Some (record b { place = q }))).slots ps))
  right_one n a ss p ps b e None y o h =
      ap (carry_put (told_set (longer b.does n) (moved a y) p)) (carry_gone (told_sets (longer a.does n) ss ps) e (longer a.does n))
      ∙ (λ i. Ok (told_set (longer a.does n) None e, told_set (longer b.does n) (moved a y) p ∷ told_sets (o i) ss ps))
      ∙ (λ i. Ok (told_set (length_at_end (longer a.does n) ss) (sym (crossed_none (lane_later false) ss) i).left e, told_set (longer b.does n) (moved a y) p ∷ told_sets (length_after (moved a y) (longer b.does n)) (sym (crossed_none (lane_later false) ss) i).slots ps))

  -- what is empty on the right is passed
  one_kept : (b : Op) (e : Changeset Instr) (n : ℕ) (p : Changeset Instr) → IsTold c (Some b) e → cross_sets meet (told_set n (Some b) e) (told_set n None p) ≡ Ok (told_set n (Some b) e, told_set n None p)
  one_kept b e n p f = ap (with_lists (told_set n (Some b) e) (told_set n None p)) (nothing_crosses (λ x y. meet x y (later_stamp e.ms e.origin p.ms p.origin)) (told n (Some b) e.instrs))

  pub right_is : (ss : List (Option Op)) (ps : List (Changeset Instr)) (n : ℕ) (b : Op) (e : Changeset Instr) → Chains n ss → Below top n ss → Within b.does b.place n → AreTold c ss ps → IsTold c (Some b) e → RightIs n ss ps b e
  right_is [] [] n b e h s w t f = refl
  right_is [] (p ∷ ps) n b e h s w t f = absurd t
  right_is (s ∷ ss) [] n b e h k w t f = absurd t
  right_is (None ∷ ss) (p ∷ ps) n b e h s w t f =
      ap (λ r. carry_one r (λ g. carry (cross_sets meet) g (told_sets n ss ps))) (one_kept b e n p f)
      ∙ ap (carry_put (told_set n None p)) (right_is ss ps n b e h.1 s.1 w t.1 f)
  right_is (Some a ∷ ss) (p ∷ ps) n b e h s w t f =
      let la : Bool = lane_later false a.stamp b.stamp in
      ap (λ r. carry_one r (λ g. carry (cross_sets meet) g (told_sets (longer a.does n) ss ps))) (meets_right a b p e n t.0 f s.0)
      ∙ right_one n a ss p ps b e (place_after (not la) b.does b.place a.does a.place) (place_after la a.does a.place b.does b.place)
      (onward a b n (place_after (not la) b.does b.place a.does a.place) (place_after la a.does a.place b.does b.place) (both_lengths la n a b h.0 w))
      (if_some b.does (longer a.does n) _ (place_after (not la) b.does b.place a.does a.place) (within_after (not la) b.does a.does b.place a.place n w h.0) (λ q v. right_is ss ps (longer a.does n) (record b { place = q }) e h.1 s.1 v t.1 f))

  -- ---- a lane that was crossed tells the same
  told_moved : (a : Op) (p : Changeset Instr) (y : Option ℕ) → IsTold c (Some a) p → IsTold c (moved a y) p
  told_moved a p None h = tt
  told_moved a p (Some q) h = h

  pub still_told : (l : Stamp → Stamp → Bool) (ss : List (Option Op)) (ps : List (Changeset Instr)) (x : Option Op) → AreTold c ss ps → AreTold c (crossed l ss x).slots ps
  still_told l [] ps x t = t
  still_told l (s ∷ ss) ps None t = t
  still_told l (s ∷ ss) [] (Some b) t = absurd t
  still_told l (None ∷ ss) (p ∷ ps) (Some b) t = (tt, still_told l ss ps (Some b) t.1)
  still_told l (Some a ∷ ss) (p ∷ ps) (Some b) t =
      let la : Bool = l a.stamp b.stamp in
      (told_moved a p (place_after la a.does a.place b.does b.place) t.0, still_told l ss ps (op_after (not la) b a) t.1)
