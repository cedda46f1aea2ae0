-- Slots of which those of one list stand in a lane, which has an empty slot for each other.
use Rattle.std.specs.Prelude.{◌≡◌, ℕ, List, [], ◌∷◌, Option, Some, None, map}
use Rattle.sync_data.specs.declared.value.Value.{Value}
use Rattle.sync_data.specs.declared.entry.Stamp.{Stamp}
use Rattle.sync_data.specs.declared.instr.CellName.{CellName}
use Rattle.sync_data.specs.declared.instr.Instr.{Instr}
use Rattle.sync_base.specs.Effects.{path_of}
use Rattle.sync_theory.specs.Changesets.{Changeset}
use Rattle.sync_law.specs.Instrs.{meet}
use Rattle.list_places.specs.Moves.{instr_at}
use Rattle.list_lane.specs.Lanes.{LaneOf}
use Rattle.list_lane.specs.Told.{stamp_of}
use Rattle.list_lane.specs.declared.op.Op.{Op}
use Rattle.slot_law.specs.Slots.{through, all_through, slots_of, on_right}
use Rattle.slot_law.specs.Lanes.{told_by, told_slots, Owned}
use Rattle.long_sets.specs.Parts.{one_of, list_of, others_of, AllStrangers, CrossAll}
use Rattle.long_sets.specs.declared.lists.Stamps.{Stamps}
use Rattle.long_sets.specs.declared.lists.OfList.{OfList}

-- the slot's instruction bears that value, and does what its slot of the lane does
abbrev pub Suits : CellName → Value → Option Instr → Option Op → Type 0
Suits c v x None = Unit {0}
Suits c v x (Some a) = (p : ℕ) × (n : ℕ) × (x ≡ Some (instr_at c v a.does p n))

abbrev pub AllSuit : CellName → List Value → List (Option Instr) → List (Option Op) → Type 0
AllSuit c [] [] [] = Unit {0}
AllSuit c (v ∷ vs) (x ∷ xs) (s ∷ ss) = Suits c v x s × AllSuit c vs xs ss
AllSuit c vs xs ss = ⊥

-- what the slot is in the lane, where its list has that length
pub record ToldSlot (c : CellName) (n : ℕ) (x : Option Instr) (s : Option Op) : Type 0 where
  pub value : Value
  pub is : one_of (path_of c) x ≡ told_by c value n s
  pub suits : Suits c value x s

-- values of a changeset's instructions
abbrev pub owned_by : Changeset Instr → List Value → List (Changeset Instr × Value)
owned_by t vs = map (λ (v : Value). (t, v)) vs

-- the lane tells those of the slots that are of the list
pub record TellsList (c : CellName) (s : Stamp) (xs : List (Option Instr)) (a : LaneOf) : Type 0 where
  pub values : List Value
  pub suit : AllSuit c values xs a.slots
  pub told : (t : Changeset Instr) → told_slots c a.first a.slots (owned_by t values) ≡ slots_of t (list_of (path_of c) xs)
  pub owned : (t : Changeset Instr) → stamp_of t ≡ s → Owned a.slots (owned_by t values)

-- one instruction of that stamp, if it is there, crosses whatever the lane tells
pub record GoesOne (c : CellName) (own : Stamp) (y z : Option Instr) (a b : LaneOf) : Type 0 where
  pub goes : (e : Changeset Instr) (vs : List (Changeset Instr × Value)) → stamp_of e ≡ own → Owned a.slots vs → (through (on_right meet e) (told_slots c a.first a.slots vs) y ≡ Some (told_slots c b.first b.slots vs, z)) × Owned b.slots vs
  pub suit : (vs : List Value) (xs : List (Option Instr)) → AllSuit c vs xs a.slots → AllSuit c vs xs b.slots

-- and so do several in turn
pub record GoesAll (c : CellName) (own : Stamp) (ys zs : List (Option Instr)) (a b : LaneOf) : Type 0 where
  pub goes : (e : Changeset Instr) (vs : List (Changeset Instr × Value)) → stamp_of e ≡ own → Owned a.slots vs → (all_through (on_right meet e) (told_slots c a.first a.slots vs) ys ≡ Some (told_slots c b.first b.slots vs, zs)) × Owned b.slots vs
  pub suit : (vs : List Value) (xs : List (Option Instr)) → AllSuit c vs xs a.slots → AllSuit c vs xs b.slots

-- the instructions of one list cross, and all others are strangers to them
pub record CrossesList (s : Stamps) (ys xs : List (Option Instr)) (o : OfList) : Type 0 where
  pub lists : CrossAll s.left s.right (list_of (path_of o.cell) ys) (list_of (path_of o.cell) xs) o.left.items o.right.items
  pub left : AllStrangers (path_of o.cell) (others_of (path_of o.cell) ys)
  pub right : AllStrangers (path_of o.cell) (others_of (path_of o.cell) xs)
