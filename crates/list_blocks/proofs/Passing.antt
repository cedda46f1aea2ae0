-- An instruction comes to a block in a lane, crosses it, or leaves it.
use Rattle.std.proofs.Common.{◌≡◌, ℕ, suc, Bool, false, List, [], ◌∷◌, ◌++◌, append_assoc, append-nil, length, take, Option, Some, None, Result, Ok, refl, sym, ap, ◌∙◌, subst}
use Rattle.sync_data.specs.declared.value.Value.{Value}
use Rattle.sync_data.specs.declared.entry.Stamp.{Stamp}
use Rattle.sync_data.specs.declared.instr.CellName.{CellName}
use Rattle.sync_data.specs.declared.instr.Instr.{Instr}
use Rattle.sync_theory.specs.Lists.{Crossing, no_left, below}
use Rattle.sync_theory.specs.Changesets.{Changeset, cross_sets, later_stamp}
use Rattle.sync_theory.specs.Grid.{carry}
use Rattle.sync_law.specs.Instrs.{meet}
use Rattle.list_places.specs.Moves.{instr_at, moved}
use Rattle.list_places.specs.declared.places.Does.{Does}
use Rattle.list_places.specs.declared.places.Does.TheVariants.{Inserts, Erases, Updates}
use Rattle.list_places.specs.declared.moves.ListAction.{ListAction}
use Rattle.list_lane.specs.Ops.{lane_later}
use Rattle.list_lane.specs.Lanes.{LaneOf, crossed, length_after, length_at_end, lane_after}
use Rattle.list_lane.specs.Told.{action, told, told_set, told_sets, IsOne, IsTold, AreTold}
use Rattle.list_lane.specs.Laws.{CrossesRight}
use Rattle.list_lane.specs.declared.op.Op.{Op}
use Rattle.list_lane.proofs.Rooms.{stays_told}
use Rattle.list_blocks.specs.Blocks.{ActsAs, slot_action, slot_actions, acted, single, singles, all_instrs, block, Tells, CrossesBlock}
use Rattle.list_blocks.proofs.Joined.{Stamped, all_cross}

-- ---- one instruction
there : (c : CellName) (v : Value) (d : Does) (p n : ℕ) → moved (action d p n) (instr_at c v d p n) ≡ instr_at c v d p n
there c v Inserts p n = refl
there c v Erases p n = refl
there c v Updates p n = refl

-- it does what it does already
stays : (c : CellName) (n : ℕ) (i : Instr) (b : Op) → ActsAs c n i b → moved (action b.does b.place n) i ≡ i
stays c n i b h = ap (moved (action b.does b.place n)) h.is ∙ there c h.value b.does b.place n ∙ sym h.is

is_one : (c : CellName) (n : ℕ) (i : Instr) (b : Op) → ActsAs c n i b → IsOne c b.does (i ∷ [])
is_one c n i b h = record { value = h.value; place = b.place; length = n; instrs = ap (λ j. j ∷ []) h.is }

can_tell : (c : CellName) (n : ℕ) (t : Stamp) (i : Instr) (b : Op) → b.stamp ≡ t → ActsAs c n i b → IsTold c (Some b) (single t i)
can_tell c n t i b e h = (sym e, is_one c n i b h)

told_acted : (n : ℕ) (s : Option Op) (i : Instr) → told n s (i ∷ []) ≡ acted (slot_action n s ∷ []) (i ∷ [])
told_acted n None i = refl
told_acted n (Some a) i = refl

-- what is told of changesets of one stamp has that stamp
as_singles : (t : Stamp) (is : List Instr) → Stamped t.ms t.ident (singles t is)
as_singles t [] = tt
as_singles t (i ∷ is) = (refl, refl, as_singles t is)

stamped : (t : Stamp) (n : ℕ) (ss : List (Option Op)) (is : List Instr) → Stamped t.ms t.ident (told_sets n ss (singles t is))
stamped t n [] [] = tt
stamped t n (s ∷ ss) [] = tt
stamped t n [] (i ∷ is) = (refl, refl, as_singles t is)
stamped t n (s ∷ ss) (i ∷ is) = (refl, refl, stamped t (length_after s n) ss is)

-- ---- it comes to the block
pub none_told : (c : CellName) (t : Stamp) (a : LaneOf) → a.slots ≡ [] → Tells c t [] a
none_told c t a e = subst (λ ss. Tells c t [] (record { first = a.first; slots = ss })) (sym e) (record { told = tt; same = refl })

module _ (c : CellName) (t : Stamp) (i : Instr) (b : Op) where
  told_more : (ss : List (Option Op)) (is : List Instr) → IsTold c (Some b) (single t i) → AreTold c ss (singles t is) → AreTold c (ss ++ Some b ∷ []) (singles t (is ++ i ∷ []))
  told_more [] [] k h = (k, tt)
  told_more [] (j ∷ is) k h = absurd h
  told_more (s ∷ ss) [] k h = absurd h
  told_more (s ∷ ss) (j ∷ is) k h = (h.0, told_more ss is k h.1)

  block_more : (ss : List (Option Op)) (is : List Instr) (n : ℕ) → AreTold c ss (singles t is)
      → all_instrs (told_sets n (ss ++ Some b ∷ []) (singles t (is ++ i ∷ []))) ≡ all_instrs (told_sets n ss (singles t is)) ++ told (length_at_end n ss) (Some b) (i ∷ [])
  block_more [] [] n h = refl
  block_more [] (j ∷ is) n h = absurd h
  block_more (s ∷ ss) [] n h = absurd h
  block_more (s ∷ ss) (j ∷ is) n h =
      ap (λ l. told n s (j ∷ []) ++ l) (block_more ss is (length_after s n) h.1)
      ∙ sym (append_assoc (told n s (j ∷ [])) (all_instrs (told_sets (length_after s n) ss (singles t is))) (told (length_at_end (length_after s n) ss) (Some b) (i ∷ [])))

  pub one_more : (is : List Instr) (a : LaneOf) → b.stamp ≡ t → ActsAs c (length_at_end a.first a.slots) i b → Tells c t is a → Tells c t (is ++ i ∷ []) (record { first = a.first; slots = a.slots ++ Some b ∷ [] })
  one_more is a e k h = record {
    told = told_more a.slots is (can_tell c (length_at_end a.first a.slots) t i b e k) h.told;
    same = block_more a.slots is a.first h.told ∙ (λ j. h.same j ++ stays c (length_at_end a.first a.slots) i b k j ∷ []);
  }

-- ---- it crosses the block
pub acted_more : (xs : List (Option ListAction)) (is : List Instr) (x : Option ListAction) (i : Instr) → length xs ≡ length is → acted (xs ++ x ∷ []) (is ++ i ∷ []) ≡ acted xs is ++ acted (x ∷ []) (i ∷ [])
acted_more [] [] x i e = refl
acted_more [] (j ∷ is) x i e = cc
acted_more (y ∷ xs) [] x i e = cc
acted_more (None ∷ xs) (j ∷ is) x i e = acted_more xs is x i (lengths e)
  where
    lengths : {m n : ℕ} → suc m ≡ suc n → m ≡ n
    lengths h = cc
acted_more (Some a ∷ xs) (j ∷ is) x i e = ap (λ l. moved a j ∷ l) (acted_more xs is x i (lengths e))
  where
    lengths : {m n : ℕ} → suc m ≡ suc n → m ≡ n
    lengths h = cc

pub none_crosses : (c : CellName) (own : Stamp) (a : LaneOf) → CrossesBlock c own [] [] a a
none_crosses c own a = record { told = λ t rs h. h; crosses = λ t rs h. no_left }

one_crosses : (c : CellName) (own : Stamp) (i : Instr) (b : Op) (a after : LaneOf) (left : Option Op) → b.stamp ≡ own → ActsAs c a.first i b → CrossesRight a b left after → (t : Stamp) (rs : List Instr) → AreTold c a.slots (singles t rs)
    → Crossing (λ x y. meet x y (later_stamp own.ms own.ident t.ms t.ident)) (i ∷ []) (block a t rs) (acted (slot_action (length_at_end a.first a.slots) left ∷ []) (i ∷ [])) (block after t rs)
one_crosses c own i b a after left e k h t rs g =
    let n = length_at_end a.first a.slots in
    let all = all_cross meet t.ms t.ident (told_sets a.first a.slots (singles t rs)) (stamped t a.first a.slots rs) (told_set a.first (Some b) (single own i)) (told_set n left (single own i)) (told_sets after.first after.slots (singles t rs)) (h c (singles t rs) (single own i) g (can_tell c a.first own i b e k)) in
    subst (λ (l : List Instr). Crossing (λ x y. meet x y (later_stamp own.ms own.ident t.ms t.ident)) (i ∷ []) (block a t rs) l (block after t rs)) (told_acted n left i)
    (subst (λ (j : Instr). Crossing (λ x y. meet x y (later_stamp own.ms own.ident t.ms t.ident)) (j ∷ []) (block a t rs) (told n left (i ∷ [])) (block after t rs)) (stays c a.first i b k) all)

still_told : (c : CellName) (a after : LaneOf) (b : Op) → after ≡ lane_after (lane_later false) a b → (t : Stamp) (rs : List Instr) → AreTold c a.slots (singles t rs) → AreTold c after.slots (singles t rs)
still_told c a after b e t rs h = subst (λ (z : LaneOf). AreTold c z.slots (singles t rs)) (sym e) (stays_told false c a b (singles t rs) h)

pub next_crosses : (c : CellName) (own : Stamp) (is : List Instr) (xs : List (Option ListAction)) (first a after : LaneOf) (i : Instr) (b : Op) (left : Option Op) → length xs ≡ length is → CrossesBlock c own is xs first a
    → b.stamp ≡ own → ActsAs c a.first i b → CrossesRight a b left after → after ≡ lane_after (lane_later false) a b
    → CrossesBlock c own (is ++ i ∷ []) (xs ++ slot_action (length_at_end a.first a.slots) left ∷ []) first after
next_crosses c own is xs first a after i b left same h e k right lane = record {
  told = λ t rs g. still_told c a after b lane t rs (h.told t rs g);
  crosses = λ t rs g.
      subst (λ (l : List Instr). Crossing (λ x y. meet x y (later_stamp own.ms own.ident t.ms t.ident)) (is ++ i ∷ []) (block first t rs) l (block after t rs)) (sym (acted_more xs is (slot_action (length_at_end a.first a.slots) left) i same))
      (below (h.crosses t rs g) (one_crosses c own i b a after left e k right t rs (h.told t rs g)));
}

-- ---- and the block is written
pub actions_tell : (c : CellName) (t : Stamp) (ss : List (Option Op)) (is : List Instr) (n : ℕ) → AreTold c ss (singles t is) → acted (slot_actions n ss) is ≡ all_instrs (told_sets n ss (singles t is))
actions_tell c t [] [] n h = refl
actions_tell c t [] (i ∷ is) n h = absurd h
actions_tell c t (s ∷ ss) [] n h = absurd h
actions_tell c t (None ∷ ss) (i ∷ is) n h = actions_tell c t ss is n h.1
actions_tell c t (Some a ∷ ss) (i ∷ is) n h = ap (λ l. moved (action a.does a.place n) i ∷ l) (actions_tell c t ss is (length_after (Some a) n) h.1)
