-- The slots of one list among pending changesets, as a lane tells them, and what drops them all.
use Rattle.std.specs.Prelude.{◌≡◌, ◌+◌, ◌<◌, ℕ, Bool, List, [], ◌∷◌, ◌++◌, Option, Some, None, length}
use Rattle.sync_data.specs.declared.value.Value.{Value}
use Rattle.sync_data.specs.declared.instr.CellName.{CellName}
use Rattle.sync_data.specs.declared.instr.Instr.{Instr}
use Rattle.sync_data.specs.declared.instr.Instr.TheVariants as instrs
use Rattle.sync_base.specs.Rules.{top}
use Rattle.sync_theory.specs.Changesets.{Changeset}
use Rattle.list_places.specs.Places.{Within}
use Rattle.list_places.specs.Moves.{instr_at}
use Rattle.list_lane.specs.Ops.{lane_later}
use Rattle.list_lane.specs.Lanes.{LaneOf, crossed, length_after, length_at_end, lane_after, Chains}
use Rattle.list_lane.specs.Told.{stamp_of}
use Rattle.list_lane.specs.declared.op.Op.{Op}
use Rattle.slot_law.specs.Slots.{Slot, Meets, through}

-- one side of the rule table: the pending ones are its left, or its right, for that incoming changeset
abbrev pub Side : Type 0
Side = Changeset Instr → Meets (Changeset Instr) Instr

-- ---- a lane
-- a slot's instruction, which bears that value, on a list of that length
abbrev pub told_by : CellName → Value → ℕ → Option Op → Option Instr
told_by c v n None = None
told_by c v n (Some a) = Some (instr_at c v a.does a.place n)

-- the slots of a lane, each with the head of its changeset and its value
abbrev pub told_slots : CellName → ℕ → List (Option Op) → List (Changeset Instr × Value) → List (Slot (Changeset Instr) Instr)
told_slots c n [] vs = []
told_slots c n (s ∷ ss) [] = []
told_slots c n (s ∷ ss) (v ∷ vs) = (v.0, told_by c v.1 n s) ∷ told_slots c (length_after s n) ss vs

-- there are so many, and each has the stamp of its changeset
abbrev pub Owned : List (Option Op) → List (Changeset Instr × Value) → Type 0
Owned [] [] = Unit {0}
Owned [] (v ∷ vs) = ⊥
Owned (s ∷ ss) [] = ⊥
Owned (None ∷ ss) (v ∷ vs) = Owned ss vs
Owned (Some a ∷ ss) (v ∷ vs) = (stamp_of v.0 ≡ a.stamp) × Owned ss vs

-- ---- a lane that an instruction crossed
abbrev pub slots_after : Bool → CellName → LaneOf → Op → List (Changeset Instr × Value) → List (Slot (Changeset Instr) Instr)
slots_after lane_left c a b vs = told_slots c (lane_after (lane_later lane_left) a b).first (lane_after (lane_later lane_left) a b).slots vs

-- and what is left of the instruction behind it
abbrev pub left_behind : Bool → CellName → LaneOf → Op → Value → Option Instr
left_behind lane_left c a b w = told_by c w (length_at_end a.first a.slots) (crossed (lane_later lane_left) a.slots (Some b)).left

-- an instruction goes through the slots of a lane as it crosses the lane
abbrev pub Goes : Bool → Side → Type 0
Goes lane_left side = (c : CellName) (a : LaneOf) (b : Op) (w : Value) (e : Changeset Instr) (vs : List (Changeset Instr × Value))
    → Chains a.first a.slots → a.first + length a.slots < top → Within b.does b.place a.first → Owned a.slots vs → stamp_of e ≡ b.stamp
    → through (side e) (told_slots c a.first a.slots vs) (told_by c w a.first (Some b)) ≡ Some (slots_after lane_left c a b vs, left_behind lane_left c a b w)

-- and the slots have their owners still
abbrev pub StillOwned : Type 0
StillOwned = (lane_left : Bool) (a : LaneOf) (b : Op) (vs : List (Changeset Instr × Value)) → Owned a.slots vs → Owned (lane_after (lane_later lane_left) a b).slots vs

-- ---- barriers
-- what drops each list instruction of a cell: the erasure of its object, and a Clear
pub data Barrier : Type 0 where
  Erasing : Barrier
  Clearing : Barrier

abbrev pub barrier_at : Barrier → CellName → Instr
barrier_at Erasing c = instrs.EraseObject (record { table = c.table; key = c.key })
barrier_at Clearing c = instrs.Clear (record { cell = c })

-- an incoming list instruction falls at a pending barrier, and what is behind that isn't met
abbrev pub StopsAt : Side → Type 0
StopsAt side = (e t : Changeset Instr) (c : CellName) (k : Barrier) (w : Value) (n : ℕ) (b : Op) (xs us ys : List (Slot (Changeset Instr) Instr)) (x : Option Instr)
    → through (side e) xs x ≡ Some (us, told_by c w n (Some b)) → through (side e) (xs ++ (t, Some (barrier_at k c)) ∷ ys) x ≡ Some (us ++ (t, Some (barrier_at k c)) ∷ ys, None)

-- the slots of a lane, all fallen
abbrev pub fallen : List (Option Op) → List (Option Op)
fallen [] = []
fallen (s ∷ ss) = None ∷ fallen ss

-- an incoming barrier goes through the slots of a lane, and all of them fall
abbrev pub Sweeps : Side → Type 0
Sweeps side = (e : Changeset Instr) (c : CellName) (k : Barrier) (n : ℕ) (ss : List (Option Op)) (vs : List (Changeset Instr × Value)) → Owned ss vs
    → through (side e) (told_slots c n ss vs) (Some (barrier_at k c)) ≡ Some (told_slots c n (fallen ss) vs, Some (barrier_at k c))
