-- A barrier drops each list instruction of its cell.
use Rattle.std.proofs.Common.{◌≡◌, ℕ, Bool, true, cond, List, [], ◌∷◌, ◌++◌, Option, Some, None, Ok, refl, ap}
use Rattle.std.specs.Ordering.{eq_by_cmp}
use Rattle.std.specs.Cmp.{eq_by_cmp_equiv}
use Rattle.sync_data.specs.declared.value.Value.{Value}
use Rattle.sync_data.specs.declared.instr.CellName.{CellName}
use Rattle.sync_data.specs.declared.instr.Instr.{Instr}
use Rattle.sync_base.specs.Effects.{ObjectName, CellPath, path_of, Edit, Erase, Change, Empty}
use Rattle.sync_base.specs.States.{object_cmp}
use Rattle.sync_base.specs.Merged.{path_cmp}
use Rattle.sync_base.specs.Rules.{rule, kept, only_left, only_right, outcome_of}
use Rattle.sync_base.specs.Lemmas.Apart.{changes_there}
use Rattle.sync_theory.specs.Changesets.{Changeset, is_later}
use Rattle.sync_law.specs.Instrs.{as_pair, meet}
use Rattle.list_places.specs.declared.places.Does.{Does}
use Rattle.list_places.specs.declared.places.Does.TheVariants.{Inserts, Erases, Updates}
use Rattle.list_places.specs.Moves.{instr_at}
use Rattle.list_lane.specs.Lanes.{length_after}
use Rattle.list_lane.specs.declared.op.Op.{Op}
use Rattle.slot_law.specs.Slots.{Slot, Meets, meets_in, through, ok_pair, turned, on_left, on_right}
use Rattle.slot_law.proofs.Through.{Through, end, next, none_left, parts, through_of, through_is}
use Rattle.slot_law.specs.Lanes.{told_by, told_slots, Owned, Barrier, Erasing, Clearing, barrier_at, StopsAt, fallen, Sweeps}
use Rattle.sync_base.specs.Lemmas.Looks.{path_total, object_total}
use Rattle.sync_base.specs.Rules.{spot}
use Rattle.sync_base.specs.Effects.{Insert, Remove, Replace}

edit_at : Value → Does → ℕ → ℕ → Edit
edit_at v Inserts p n = Insert (spot p n) v
edit_at v Erases p n = Remove (spot p n)
edit_at v Updates p n = Replace (spot p n) v

path_itself : (p : CellPath) → eq_by_cmp path_cmp p p ≡ true
path_itself p = (eq_by_cmp_equiv path_total).refl p

object_itself : (o : ObjectName) → eq_by_cmp object_cmp o o ≡ true
object_itself o = (eq_by_cmp_equiv object_total).refl o

module _ (l : Bool) (c : CellName) where
  abbrev o : ObjectName
  o = (c.table, c.key)

  erase_first : (e : Edit) → rule l (Erase o) (Change (path_of c) e) ≡ only_left (Erase o)
  erase_first e = ap (λ b. cond b (only_left (Erase o)) (kept (Erase o) (Change (path_of c) e))) (object_itself o)

  erase_last : (e : Edit) → rule l (Change (path_of c) e) (Erase o) ≡ only_right (Erase o)
  erase_last e = ap (λ b. cond b (only_right (Erase o)) (kept (Change (path_of c) e) (Erase o))) (object_itself o)

  -- on the right the list instruction falls
  right_falls : (k : Barrier) (v : Value) (d : Does) (p n : ℕ) → meet (barrier_at k c) (instr_at c v d p n) l ≡ Ok (Some (barrier_at k c), None)
  right_falls Erasing v Inserts p n = ap (λ r. as_pair (outcome_of r)) (erase_first (Insert (spot p n) v))
  right_falls Erasing v Erases p n = ap (λ r. as_pair (outcome_of r)) (erase_first (Remove (spot p n)))
  right_falls Erasing v Updates p n = ap (λ r. as_pair (outcome_of r)) (erase_first (Replace (spot p n) v))
  right_falls Clearing v Inserts p n = ap (λ r. as_pair (outcome_of r)) (changes_there l (path_of c) (path_of c) Empty (Insert (spot p n) v) (path_itself (path_of c)) refl)
  right_falls Clearing v Erases p n = ap (λ r. as_pair (outcome_of r)) (changes_there l (path_of c) (path_of c) Empty (Remove (spot p n)) (path_itself (path_of c)) refl)
  right_falls Clearing v Updates p n = ap (λ r. as_pair (outcome_of r)) (changes_there l (path_of c) (path_of c) Empty (Replace (spot p n) v) (path_itself (path_of c)) refl)

  left_falls : (k : Barrier) (v : Value) (d : Does) (p n : ℕ) → meet (instr_at c v d p n) (barrier_at k c) l ≡ Ok (None, Some (barrier_at k c))
  left_falls Erasing v Inserts p n = ap (λ r. as_pair (outcome_of r)) (erase_last (Insert (spot p n) v))
  left_falls Erasing v Erases p n = ap (λ r. as_pair (outcome_of r)) (erase_last (Remove (spot p n)))
  left_falls Erasing v Updates p n = ap (λ r. as_pair (outcome_of r)) (erase_last (Replace (spot p n) v))
  left_falls Clearing v Inserts p n = ap (λ r. as_pair (outcome_of r)) (changes_there l (path_of c) (path_of c) (Insert (spot p n) v) Empty (path_itself (path_of c)) refl)
  left_falls Clearing v Erases p n = ap (λ r. as_pair (outcome_of r)) (changes_there l (path_of c) (path_of c) (Remove (spot p n)) Empty (path_itself (path_of c)) refl)
  left_falls Clearing v Updates p n = ap (λ r. as_pair (outcome_of r)) (changes_there l (path_of c) (path_of c) (Replace (spot p n) v) Empty (path_itself (path_of c)) refl)

module _ (side : Meets (Changeset Instr) Instr) (c : CellName) (k : Barrier)
    (drops : (t : Changeset Instr) (v : Value) (d : Does) (p n : ℕ) → meets_in side t (Some (barrier_at k c)) (Some (instr_at c v d p n)) ≡ Some (Some (barrier_at k c), None)) where
  stop_one : (t : Changeset Instr) (w : Value) (n : ℕ) (b : Op) (xs us ys : List (Slot (Changeset Instr) Instr)) (x : Option Instr)
      → through side xs x ≡ Some (us, told_by c w n (Some b)) → through side (xs ++ (t, Some (barrier_at k c)) ∷ ys) x ≡ Some (us ++ (t, Some (barrier_at k c)) ∷ ys, None)
  stop_one t w n b xs us ys x h = through_is side (parts side (through_of side xs x us (told_by c w n (Some b)) h) (next (drops t w b.does b.place n) (none_left side ys)))

module _ (side : Meets (Changeset Instr) Instr) (c : CellName) (k : Barrier)
    (drops : (t : Changeset Instr) (v : Value) (d : Does) (p n : ℕ) → meets_in side t (Some (instr_at c v d p n)) (Some (barrier_at k c)) ≡ Some (None, Some (barrier_at k c))) where
  sweep : (n m : ℕ) (ss : List (Option Op)) (vs : List (Changeset Instr × Value)) → Owned ss vs → Through side (told_slots c n ss vs) (Some (barrier_at k c)) (told_slots c m (fallen ss) vs) (Some (barrier_at k c))
  sweep n m [] vs h = end
  sweep n m (None ∷ ss) [] h = absurd h
  sweep n m (Some a ∷ ss) [] h = absurd h
  sweep n m (None ∷ ss) (v ∷ vs) h = next refl (sweep n m ss vs h)
  sweep n m (Some a ∷ ss) (v ∷ vs) h = next (drops v.0 v.1 a.does a.place n) (sweep (length_after (Some a) n) m ss vs h.1)

pub stops_left : StopsAt (on_left meet)
stops_left e t c k w n b xs us ys x h = stop_one (on_left meet e) c k (λ t v d p n. ap ok_pair (right_falls (is_later t e) c k v d p n)) t w n b xs us ys x h

pub stops_right : StopsAt (on_right meet)
stops_right e t c k w n b xs us ys x h = stop_one (on_right meet e) c k (λ t v d p n. ap turned (left_falls (is_later e t) c k v d p n)) t w n b xs us ys x h

pub sweeps_left : Sweeps (on_left meet)
sweeps_left e c k n ss vs h = through_is (on_left meet e) (sweep (on_left meet e) c k (λ t v d p n. ap ok_pair (left_falls (is_later t e) c k v d p n)) n n ss vs h)

pub sweeps_right : Sweeps (on_right meet)
sweeps_right e c k n ss vs h = through_is (on_right meet e) (sweep (on_right meet e) c k (λ t v d p n. ap turned (right_falls (is_later e t) c k v d p n)) n n ss vs h)
