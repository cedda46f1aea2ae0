-- Where the pairs cross, so does each instruction.
use Rattle.std.proofs.Common.{◌≡◌, ℕ, Bool, List, [], ◌∷◌, ◌++◌, Option, Some, None, Result, Ok, Err, refl, sym, ap, ◌∙◌, subst}
use Rattle.std.specs.Prelude.{map, IsErr}
use Rattle.sync_theory.specs.Lists.{kept, cross}
use Rattle.sync_theory.specs.Changesets.{Changeset, is_later, with_lists, cross_sets}
use Rattle.sync_theory.specs.Grid.{rebase, rebase_one, rebase_put, carry, carry_one, carry_put}
use Rattle.sync_theory.proofs.Lists.{Row, gone, end, next, Rows, done, more}
use Rattle.sync_theory.proofs.Cross.{rows_of}
use Rattle.slot_law.specs.Slots.{Slot, Meets, meets_in, all_through, alive, Item, set_of, slots_of, flat, with_instrs, ok_pair, turned, on_left, on_right}
use Rattle.slot_law.specs.Laws.{GivesUpLeft, GivesUpRight}
use Rattle.slot_law.proofs.Through as go
use Rattle.slot_law.proofs.Through.{Through, AllThrough, all_is, all_join, no_slots, none_left}

module _ {I M : Type 0} (meet : I → I → Bool → Result (Option I × Option I) M) (e : Changeset I) where
  module _ (t : Changeset I) where
    abbrev L : I → I → Result (Option I × Option I) M
    L a b = meet a b (is_later t e)

    abbrev R : I → I → Result (Option I × Option I) M
    R a b = meet a b (is_later e t)

    -- ---- on the left: one slot
    record SlotGoes (x z : Option I) (ys : List (Option I)) (ms : List I) : Type 0 where
      zs : List (Option I)
      through : AllThrough (on_left meet e) ((t, x) ∷ []) ys ((t, z) ∷ []) zs
      left : alive zs ≡ ms

    slot_goes : (ys : List (Option I)) {x z : Option I} {ms : List I} → Row L x (alive ys) z ms → SlotGoes x z ys ms
    slot_goes [] gone = record { zs = []; through = go.none; left = refl }
    slot_goes [] end = record { zs = []; through = go.none; left = refl }
    slot_goes (None ∷ ys) r = let p = slot_goes ys r in record { zs = None ∷ p.zs; through = go.more (go.next refl go.end) p.through; left = p.left }
    slot_goes (Some b ∷ ys) gone = let p = slot_goes ys gone in record { zs = Some b ∷ p.zs; through = go.more (go.next refl go.end) p.through; left = ap (λ l. b ∷ l) p.left }
    slot_goes (Some b ∷ ys) (next {y = y} m r) = let p = slot_goes ys r in record { zs = y ∷ p.zs; through = go.more (go.next (ap ok_pair m) go.end) p.through; left = ap (λ l. kept y ++ l) p.left }

    -- all of an item
    record ItemGoes (side : Meets (Changeset I) I) (xs ys : List (Option I)) (ds : List I) : Type 0 where
      us : List (Option I)
      zs : List (Option I)
      through : AllThrough side (slots_of t xs) ys (slots_of t us) zs
      left : alive zs ≡ ds

    left_goes : (xs ys : List (Option I)) {cs ds : List I} → Rows L (alive xs) (alive ys) cs ds → ItemGoes (on_left meet e) xs ys ds
    left_goes [] ys done = record { us = []; zs = ys; through = no_slots (on_left meet e) ys; left = refl }
    left_goes (None ∷ xs) ys {cs = cs} {ds = ds} r =
        let s = slot_goes ys (gone) in
        let p = left_goes xs s.zs (subst (λ l. Rows L (alive xs) l cs ds) (sym s.left) r) in
        record { us = None ∷ p.us; zs = p.zs; through = all_join (on_left meet e) s.through p.through; left = p.left }
    left_goes (Some a ∷ xs) ys {ds = ds} (more {as1 = as1} {x = x} r q) =
        let s = slot_goes ys r in
        let p = left_goes xs s.zs (subst (λ l. Rows L (alive xs) l as1 ds) (sym s.left) q) in
        record { us = x ∷ p.us; zs = p.zs; through = all_join (on_left meet e) s.through p.through; left = p.left }

    -- ---- on the right: one instruction
    record OneGoes (xs : List (Option I)) (y z : Option I) (ms : List I) : Type 0 where
      us : List (Option I)
      through : Through (on_right meet e) (slots_of t xs) y (slots_of t us) z
      left : alive us ≡ ms

    one_goes : (xs : List (Option I)) {y z : Option I} {ms : List I} → Row R y (alive xs) z ms → OneGoes xs y z ms
    one_goes [] gone = record { us = []; through = go.end; left = refl }
    one_goes [] end = record { us = []; through = go.end; left = refl }
    one_goes (None ∷ xs) {y} r = let p = one_goes xs r in record { us = None ∷ p.us; through = go.next (passes y) p.through; left = p.left }
      where
        passes : (y : Option I) → meets_in (on_right meet e) t None y ≡ Some (None, y)
        passes None = refl
        passes (Some b) = refl
    one_goes (Some a ∷ xs) gone = record { us = Some a ∷ xs; through = none_left (on_right meet e) (slots_of t (Some a ∷ xs)); left = refl }
    one_goes (Some a ∷ xs) (next {y = y} m r) = let p = one_goes xs r in record { us = y ∷ p.us; through = go.next (ap turned m) p.through; left = ap (λ l. kept y ++ l) p.left }

    right_goes : (ys xs : List (Option I)) {cs ds : List I} → Rows R (alive ys) (alive xs) cs ds → ItemGoes (on_right meet e) xs ys cs
    right_goes [] xs done = record { us = xs; zs = []; through = go.none; left = refl }
    right_goes (None ∷ ys) xs r =
        let p = right_goes ys xs r in
        record { us = p.us; zs = None ∷ p.zs; through = go.more (none_left (on_right meet e) (slots_of t xs)) p.through; left = p.left }
    right_goes (Some b ∷ ys) xs {ds = ds} (more {as1 = as1} {x = x} r q) =
        let s = one_goes xs r in
        let p = right_goes ys s.us (subst (λ l. Rows R (alive ys) l as1 ds) (sym s.left) q) in
        record { us = p.us; zs = x ∷ p.zs; through = go.more s.through p.through; left = ap (λ l. kept x ++ l) p.left }

  -- ---- all items
  record Goes (side : Meets (Changeset I) I) (is : List (Item I)) (ys : List (Option I)) : Type 0 where
    ss : List (Slot (Changeset I) I)
    zs : List (Option I)
    through : AllThrough side (flat is) ys ss zs

  left_rest : (i : Item I) (is : List (Item I)) (ys : List (Option I)) (q : Changeset I) (ds : List I) → ItemGoes i.head (on_left meet e) i.slots ys ds
      → ((zs : List (Option I)) (qs : List (Changeset I)) (f : Changeset I) → rebase (cross_sets meet) (map set_of is) (with_instrs e zs) ≡ Ok (qs, f) → Goes (on_left meet e) is zs)
      → (r : Result (List (Changeset I) × Changeset I) (ℕ × (ℕ × ℕ × M))) → rebase (cross_sets meet) (map set_of is) (record e { instrs = ds }) ≡ r → (qs : List (Changeset I)) (f : Changeset I) → rebase_put q r ≡ Ok (qs, f) → Goes (on_left meet e) (i ∷ is) ys
  left_rest i is ys q ds p on (Err m) h qs f k = cc
  left_rest i is ys q ds p on (Ok w) h qs f k =
      let g = on p.zs w.0 w.1 (ap (λ l. rebase (cross_sets meet) (map set_of is) (record e { instrs = l })) p.left ∙ h) in
      record { ss = slots_of i.head p.us ++ g.ss; zs = g.zs; through = all_join (on_left meet e) p.through g.through }

  left_first : (i : Item I) (is : List (Item I)) (ys : List (Option I)) → ((zs : List (Option I)) (qs : List (Changeset I)) (f : Changeset I) → rebase (cross_sets meet) (map set_of is) (with_instrs e zs) ≡ Ok (qs, f) → Goes (on_left meet e) is zs)
      → (r : Result (List I × List I) (ℕ × ℕ × M)) → cross (L i.head) (alive i.slots) (alive ys) ≡ r → (qs : List (Changeset I)) (f : Changeset I) → rebase_one (with_lists (set_of i) (with_instrs e ys) r) (λ g. rebase (cross_sets meet) (map set_of is) g) ≡ Ok (qs, f) → Goes (on_left meet e) (i ∷ is) ys
  left_first i is ys on (Err m) h qs f k = cc
  left_first i is ys on (Ok p) h qs f k = left_rest i is ys (record (set_of i) { instrs = p.0 }) p.1 (left_goes i.head i.slots ys (rows_of (L i.head) h)) on (rebase (cross_sets meet) (map set_of is) (record e { instrs = p.1 })) refl qs f k

  all_left : (is : List (Item I)) (ys : List (Option I)) (qs : List (Changeset I)) (f : Changeset I) → rebase (cross_sets meet) (map set_of is) (with_instrs e ys) ≡ Ok (qs, f) → Goes (on_left meet e) is ys
  all_left [] ys qs f h = record { ss = []; zs = ys; through = no_slots (on_left meet e) ys }
  all_left (i ∷ is) ys qs f h = left_first i is ys (λ zs. all_left is zs) (cross (L i.head) (alive i.slots) (alive ys)) refl qs f h

  right_rest : (i : Item I) (is : List (Item I)) (ys : List (Option I)) (q : Changeset I) (ds : List I) → ItemGoes i.head (on_right meet e) i.slots ys ds
      → ((zs : List (Option I)) (qs : List (Changeset I)) (f : Changeset I) → carry (cross_sets meet) (with_instrs e zs) (map set_of is) ≡ Ok (f, qs) → Goes (on_right meet e) is zs)
      → (r : Result (Changeset I × List (Changeset I)) (ℕ × ℕ × M)) → carry (cross_sets meet) (record e { instrs = ds }) (map set_of is) ≡ r → (qs : List (Changeset I)) (f : Changeset I) → carry_put q r ≡ Ok (f, qs) → Goes (on_right meet e) (i ∷ is) ys
  right_rest i is ys q ds p on (Err m) h qs f k = cc
  right_rest i is ys q ds p on (Ok w) h qs f k =
      let g = on p.zs w.1 w.0 (ap (λ l. carry (cross_sets meet) (record e { instrs = l }) (map set_of is)) p.left ∙ h) in
      record { ss = slots_of i.head p.us ++ g.ss; zs = g.zs; through = all_join (on_right meet e) p.through g.through }

  right_first : (i : Item I) (is : List (Item I)) (ys : List (Option I)) → ((zs : List (Option I)) (qs : List (Changeset I)) (f : Changeset I) → carry (cross_sets meet) (with_instrs e zs) (map set_of is) ≡ Ok (f, qs) → Goes (on_right meet e) is zs)
      → (r : Result (List I × List I) (ℕ × ℕ × M)) → cross (R i.head) (alive ys) (alive i.slots) ≡ r → (qs : List (Changeset I)) (f : Changeset I) → carry_one (with_lists (with_instrs e ys) (set_of i) r) (λ g. carry (cross_sets meet) g (map set_of is)) ≡ Ok (f, qs) → Goes (on_right meet e) (i ∷ is) ys
  right_first i is ys on (Err m) h qs f k = cc
  right_first i is ys on (Ok p) h qs f k = right_rest i is ys (record (set_of i) { instrs = p.1 }) p.0 (right_goes i.head ys i.slots (rows_of (R i.head) h)) on (carry (cross_sets meet) (record e { instrs = p.0 }) (map set_of is)) refl qs f k

  all_right : (is : List (Item I)) (ys : List (Option I)) (qs : List (Changeset I)) (f : Changeset I) → carry (cross_sets meet) (with_instrs e ys) (map set_of is) ≡ Ok (f, qs) → Goes (on_right meet e) is ys
  all_right [] ys qs f h = record { ss = []; zs = ys; through = no_slots (on_right meet e) ys }
  all_right (i ∷ is) ys qs f h = right_first i is ys (λ zs. all_right is zs) (cross (R i.head) (alive ys) (alive i.slots)) refl qs f h

none_not : {A C : Type 0} (x : Option A) (y : A) → x ≡ None → x ≡ Some y → C
none_not None y e f = cc
none_not (Some z) y e f = cc

module _ {I M : Type 0} (meet : I → I → Bool → Result (Option I × Option I) M) where
  left_ends : (is : List (Item I)) (e : Changeset I) (ys : List (Option I)) → all_through (on_left meet e) (flat is) ys ≡ None → (r : Result (List (Changeset I) × Changeset I) (ℕ × (ℕ × ℕ × M))) → rebase (cross_sets meet) (map set_of is) (with_instrs e ys) ≡ r → IsErr r
  left_ends is e ys h (Ok q) k = let g = all_left meet e is ys q.0 q.1 k in none_not (all_through (on_left meet e) (flat is) ys) (g.ss, g.zs) h (all_is (on_left meet e) g.through)
  left_ends is e ys h (Err m) k = refl

  pub gives_up_left : GivesUpLeft meet
  gives_up_left is e ys h = left_ends is e ys h (rebase (cross_sets meet) (map set_of is) (with_instrs e ys)) refl

  right_ends : (is : List (Item I)) (e : Changeset I) (ys : List (Option I)) → all_through (on_right meet e) (flat is) ys ≡ None → (r : Result (Changeset I × List (Changeset I)) (ℕ × ℕ × M)) → carry (cross_sets meet) (with_instrs e ys) (map set_of is) ≡ r → IsErr r
  right_ends is e ys h (Ok q) k = let g = all_right meet e is ys q.1 q.0 k in none_not (all_through (on_right meet e) (flat is) ys) (g.ss, g.zs) h (all_is (on_right meet e) g.through)
  right_ends is e ys h (Err m) k = refl

  pub gives_up_right : GivesUpRight meet
  gives_up_right is e ys h = right_ends is e ys h (carry (cross_sets meet) (with_instrs e ys) (map set_of is)) refl
