-- An instruction of a list goes through the slots of its lane.
use Rattle.std.proofs.Common.{◌≡◌, ℕ, ◌+◌, ◌<◌, ◌≤◌, Bool, true, false, not, List, [], ◌∷◌, Option, Some, None, refl, sym, ap, ◌∙◌, subst, length, arith}
use Rattle.std.specs.Prelude.{IfSome, ◌&&◌, ◌==◌}
use Rattle.std.proofs.lemmas.Bool.Decides.{nat_tests}
use Rattle.sync_data.specs.declared.value.Value.{Value}
use Rattle.sync_data.specs.declared.entry.Stamp.{Stamp}
use Rattle.sync_data.specs.declared.instr.CellName.{CellName}
use Rattle.sync_data.specs.declared.instr.Instr.{Instr}
use Rattle.sync_base.specs.Rules.{top}
use Rattle.sync_theory.specs.Changesets.{Changeset, later_stamp}
use Rattle.sync_law.specs.Instrs.{meet}
use Rattle.list_places.specs.Places.{longer, Within, place_after}
use Rattle.list_places.specs.Moves.{instr_at, instr_left}
use Rattle.list_places.specs.declared.places.Does.{Does}
use Rattle.list_places.specs.declared.places.Does.TheVariants.{Inserts, Erases, Updates}
use Rattle.list_places.proofs.Rows.{grows, pair}
use Rattle.list_places.proofs.Stands.{within_after}
use Rattle.list_lane.specs.Ops.{moved, op_after, lane_later}
use Rattle.list_lane.specs.Lanes.{Crossed, crossed, length_after, length_at_end, Chains}
use Rattle.list_lane.specs.Told.{stamp_of}
use Rattle.list_lane.specs.declared.op.Op.{Op}
use Rattle.list_lane.proofs.Chain.{crossed_none, if_some, not_not, both_lengths}
use Rattle.list_lane.proofs.Lengths.{Lengths}
use Rattle.slot_law.specs.Slots.{Meets, meets_in, ok_pair, turned, on_left, on_right}
use Rattle.slot_law.proofs.Through.{Through, end, next, none_left, through_is}
use Rattle.slot_law.specs.Lanes.{told_by, told_slots, Owned, Goes, StillOwned}

-- ---- as in list_lane/proofs, where they aren't exported
abbrev Below : ℕ → ℕ → List (Option Op) → Type 0
Below most n [] = Unit {0}
Below most n (s ∷ ss) = (n < most) × Below most (length_after s n) ss

one_longer : (d : Does) (n : ℕ) → longer d n ≤ n + 1
one_longer Inserts n = omega arith
one_longer Erases n = omega arith
one_longer Updates n = omega arith

after_more : (s : Option Op) (n : ℕ) → length_after s n ≤ n + 1
after_more None n = omega arith
after_more (Some a) n = one_longer a.does n

below_of : (ss : List (Option Op)) (n : ℕ) → n + length ss < top → Below top n ss
below_of [] n r = tt
below_of (s ∷ ss) n r = let m = after_more s n in (omega (arith, r), below_of ss (length_after s n) (omega (arith, m, r)))

below_top : (d e : Does) (n : ℕ) → n < top → (grows d e && (n == top)) ≡ false
below_top d e n h = elim (grows d e) as (λ b. (b && (n == top)) ≡ false) [ true ↦ grind (arith, nat_tests, h) | false ↦ refl ]

abbrev Onward : Op → Op → ℕ → Option ℕ → Option ℕ → ℕ → Type 0
Onward a b n (Some q) y m = longer b.does (longer a.does n) ≡ m
Onward a b n None y m = longer a.does n ≡ m

onward : (a b : Op) (n : ℕ) (x y : Option ℕ) → Lengths b.does a.does n x y → Onward a b n x y (length_after (moved a y) (longer b.does n))
onward a b n (Some q) (Some p) e = e
onward a b n (Some q) None e = e
onward a b n None (Some p) e = sym e
onward a b n None None e = sym e

later_left : (a b : Op) (p e : Changeset Instr) → stamp_of p ≡ a.stamp → stamp_of e ≡ b.stamp → later_stamp p.ms p.origin e.ms e.origin ≡ lane_later true a.stamp b.stamp
later_left a b p e f g = (λ i. later_stamp (f i).ms (f i).ident (g i).ms (g i).ident)

later_right : (a b : Op) (p e : Changeset Instr) → stamp_of p ≡ a.stamp → stamp_of e ≡ b.stamp → later_stamp e.ms e.origin p.ms p.origin ≡ not (lane_later false a.stamp b.stamp)
later_right a b p e f g =
    (λ i. later_stamp (g i).ms (g i).ident (f i).ms (f i).ident) ∙ sym (not_not (later_stamp b.stamp.ms b.stamp.ident a.stamp.ms a.stamp.ident))

-- what is left of an operation, as an instruction
left_told : (c : CellName) (v : Value) (n : ℕ) (a : Op) (x : Option ℕ) → instr_left c v a.does n x ≡ told_by c v n (moved a x)
left_told c v n a None = refl
left_told c v n a (Some p) = refl

module _ (c : CellName) (w : Value) (e : Changeset Instr) (side : Meets (Changeset Instr) Instr) (l : Stamp → Stamp → Bool)
    (meets : (t : Changeset Instr) (v : Value) (n : ℕ) (a b : Op) → stamp_of t ≡ a.stamp → stamp_of e ≡ b.stamp → n < top
    → meets_in side t (told_by c v n (Some a)) (told_by c w n (Some b)) ≡ Some (told_by c v (longer b.does n) (op_after (l a.stamp b.stamp) a b), told_by c w (longer a.does n) (op_after (not (l a.stamp b.stamp)) b a))) where
  abbrev GoesOn : ℕ → List (Option Op) → List (Changeset Instr × Value) → Op → Type 0
  GoesOn n ss vs b = Through side (told_slots c n ss vs) (told_by c w n (Some b)) (told_slots c (longer b.does n) (crossed l ss (Some b)).slots vs) (told_by c w (length_at_end n ss) (crossed l ss (Some b)).left)

  rest : (n : ℕ) (a : Op) (ss : List (Option Op)) (vs : List (Changeset Instr × Value)) (b : Op) (x y : Option ℕ) → Onward a b n x y (length_after (moved a y) (longer b.does n)) → IfSome x (λ q. GoesOn (longer a.does n) ss vs (record b { place = q }))
      → Through side (told_slots c (longer a.does n) ss vs) (told_by c w (longer a.does n) (moved b x)) (told_slots c (length_after (moved a y) (longer b.does n)) (crossed l ss (moved b x)).slots vs) (told_by c w (length_at_end (longer a.does n) ss) (crossed l ss (moved b x)).left)
  rest n a ss vs b (Some q) y o h =
      subst (λ m. Through side (told_slots c (longer a.does n) ss vs) (told_by c w (longer a.does n) (moved b (Some q))) (told_slots c m (crossed l ss (moved b (Some q))).slots vs) (told_by c w (length_at_end (longer a.does n) ss) (crossed l ss (moved b (Some q))).left)) o h
  rest n a ss vs b None y o h =
      subst (λ m. Through side (told_slots c (longer a.does n) ss vs) None (told_slots c m (crossed l ss None).slots vs) (told_by c w (length_at_end (longer a.does n) ss) (crossed l ss None).left)) o
      (subst (λ (r : Crossed). Through side (told_slots c (longer a.does n) ss vs) None (told_slots c (longer a.does n) r.slots vs) (told_by c w (length_at_end (longer a.does n) ss) r.left)) (sym (crossed_none l ss)) (none_left side (told_slots c (longer a.does n) ss vs)))

  goes : (ss : List (Option Op)) (vs : List (Changeset Instr × Value)) (n : ℕ) (b : Op) → Chains n ss → Below top n ss → Within b.does b.place n → Owned ss vs → stamp_of e ≡ b.stamp → GoesOn n ss vs b
  goes [] vs n b h s k o f = end
  goes (s ∷ ss) [] n b h k u o f = absurd (none s o)
    where
      none : (s : Option Op) → Owned (s ∷ ss) [] → ⊥
      none None o = o
      none (Some a) o = o
  goes (None ∷ ss) (v ∷ vs) n b h s k o f = next refl (goes ss vs n b h.1 s.1 k o f)
  goes (Some a ∷ ss) (v ∷ vs) n b h s k o f =
      let la : Bool = l a.stamp b.stamp in
      next (meets v.0 v.1 n a b o.0 f s.0)
      (rest n a ss vs b (place_after (not la) b.does b.place a.does a.place) (place_after la a.does a.place b.does b.place)
      (onward a b n (place_after (not la) b.does b.place a.does a.place) (place_after la a.does a.place b.does b.place) (both_lengths la n a b h.0 k))
      (if_some b.does (longer a.does n) _ (place_after (not la) b.does b.place a.does a.place) (within_after (not la) b.does a.does b.place a.place n k h.0) (λ q u. goes ss vs (longer a.does n) (record b { place = q }) h.1 s.1 u o.1 f)))

-- ---- two that meet, on either side
module _ (c : CellName) (w : Value) (e : Changeset Instr) where
  meets_left : (t : Changeset Instr) (v : Value) (n : ℕ) (a b : Op) → stamp_of t ≡ a.stamp → stamp_of e ≡ b.stamp → n < top
      → meets_in (on_left meet e) t (told_by c v n (Some a)) (told_by c w n (Some b)) ≡ Some (told_by c v (longer b.does n) (op_after (lane_later true a.stamp b.stamp) a b), told_by c w (longer a.does n) (op_after (not (lane_later true a.stamp b.stamp)) b a))
  meets_left t v n a b f g s =
      let la : Bool = lane_later true a.stamp b.stamp in
      ap (λ r. ok_pair (meet (instr_at c v a.does a.place n) (instr_at c w b.does b.place n) r)) (later_left a b t e f g)
      ∙ ap ok_pair (pair la c v w a.does b.does a.place b.place n (below_top a.does b.does n s))
      ∙ (λ i. Some (left_told c v (longer b.does n) a (place_after la a.does a.place b.does b.place) i, left_told c w (longer a.does n) b (place_after (not la) b.does b.place a.does a.place) i))

  meets_right : (t : Changeset Instr) (v : Value) (n : ℕ) (a b : Op) → stamp_of t ≡ a.stamp → stamp_of e ≡ b.stamp → n < top
      → meets_in (on_right meet e) t (told_by c v n (Some a)) (told_by c w n (Some b)) ≡ Some (told_by c v (longer b.does n) (op_after (lane_later false a.stamp b.stamp) a b), told_by c w (longer a.does n) (op_after (not (lane_later false a.stamp b.stamp)) b a))
  meets_right t v n a b f g s =
      let la : Bool = lane_later false a.stamp b.stamp in
      ap (λ r. turned (meet (instr_at c w b.does b.place n) (instr_at c v a.does a.place n) r)) (later_right a b t e f g)
      ∙ ap turned (pair (not la) c w v b.does a.does b.place a.place n (below_top b.does a.does n s))
      ∙ (λ i. Some (left_told c v (longer b.does n) a (place_after (not_not la i) a.does a.place b.does b.place) i, left_told c w (longer a.does n) b (place_after (not la) b.does b.place a.does a.place) i))

pub goes_left : Goes true (on_left meet)
goes_left c a b w e vs h r k o f = through_is (on_left meet e) (goes c w e (on_left meet e) (lane_later true) (meets_left c w e) a.slots vs a.first b h (below_of a.slots a.first r) k o f)

pub goes_right : Goes false (on_right meet)
goes_right c a b w e vs h r k o f = through_is (on_right meet e) (goes c w e (on_right meet e) (lane_later false) (meets_right c w e) a.slots vs a.first b h (below_of a.slots a.first r) k o f)

-- ---- they have their owners still
module _ (l : Stamp → Stamp → Bool) where
  owned_one : (a : Op) (x : Option ℕ) (ss : List (Option Op)) (v : Changeset Instr × Value) (vs : List (Changeset Instr × Value)) → stamp_of v.0 ≡ a.stamp → Owned ss vs → Owned (moved a x ∷ ss) (v ∷ vs)
  owned_one a None ss v vs e h = h
  owned_one a (Some p) ss v vs e h = (e, h)

  owned : (ss : List (Option Op)) (x : Option Op) (vs : List (Changeset Instr × Value)) → Owned ss vs → Owned (crossed l ss x).slots vs
  owned [] x vs h = h
  owned (s ∷ ss) None vs h = h
  owned (None ∷ ss) (Some b) [] h = absurd h
  owned (Some a ∷ ss) (Some b) [] h = absurd h
  owned (None ∷ ss) (Some b) (v ∷ vs) h = owned ss (Some b) vs h
  owned (Some a ∷ ss) (Some b) (v ∷ vs) h =
      let la : Bool = l a.stamp b.stamp in
      owned_one a (place_after la a.does a.place b.does b.place) (crossed l ss (op_after (not la) b a)).slots v vs h.0 (owned ss (op_after (not la) b a) vs h.1)

pub still_owned : StillOwned
still_owned lane_left a b vs h = owned (lane_later lane_left) a.slots (Some b) vs h
