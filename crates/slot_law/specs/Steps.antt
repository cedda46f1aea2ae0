-- One incoming instruction and all slots: it meets its lane, or its rivals, and passes all others.
use Rattle.std.specs.Prelude.{◌≡◌, ◌+◌, ◌<◌, Bool, true, false, not, ◌||◌, List, [], ◌∷◌, ◌++◌, Option, Some, None, length}
use Rattle.sync_data.specs.declared.value.Value.{Value}
use Rattle.sync_data.specs.declared.instr.CellName.{CellName}
use Rattle.sync_data.specs.declared.instr.Instr.{Instr}
use Rattle.sync_base.specs.Rules.{top}
use Rattle.sync_theory.specs.Changesets.{Changeset}
use Rattle.list_places.specs.Places.{Within}
use Rattle.list_places.specs.Moves.{instr_at}
use Rattle.sync_rivals.specs.Homes.{Place, eraser, first_rival, second_rival}
use Rattle.sync_rivals.specs.Strangers.{place_of, IsFoundBy}
use Rattle.list_lane.specs.Lanes.{LaneOf, Chains}
use Rattle.list_lane.specs.Told.{stamp_of}
use Rattle.list_lane.specs.declared.op.Op.{Op}
use Rattle.slot_law.specs.Slots.{Slot, through, pick, put, PassesOthers, StaysInClass}
use Rattle.slot_law.specs.Lanes.{Side, told_by, told_slots, Owned, slots_after, left_behind, Barrier, barrier_at}

-- ---- rivals
-- a test passes none of the places where rivals of an instruction are listed
abbrev pub finds_none : (Place → Bool) → Instr → Bool
finds_none test b = not (test (eraser (place_of b)) || (test (first_rival (place_of b)) || test (second_rival (place_of b))))

-- a slot's instruction, if it stands, is found under all its places
abbrev pub IsFoundIn : (Place → Bool) → Option Instr → Type 0
IsFoundIn test None = Unit {0}
IsFoundIn test (Some a) = IsFoundBy test a

-- and so is that of each slot that isn't marked
abbrev pub OthersFound : {T : Type 0} → (Place → Bool) → List Bool → List (Slot T Instr) → Type 0
OthersFound test [] [] = Unit {0}
OthersFound test [] (s ∷ ss) = IsFoundIn test s.1 × OthersFound test [] ss
OthersFound test (m ∷ ms) [] = Unit {0}
OthersFound test (true ∷ ms) (s ∷ ss) = OthersFound test ms ss
OthersFound test (false ∷ ms) (s ∷ ss) = IsFoundIn test s.1 × OthersFound test ms ss

-- what finds no rival there passes them, and so does what is left of it
abbrev pub RivalsPass : Side → Type 0
RivalsPass side = (e : Changeset Instr) (test : Place → Bool) → StaysInClass (side e) (finds_none test) × ((ms : List Bool) (ss : List (Slot (Changeset Instr) Instr)) → OthersFound test ms ss → PassesOthers (side e) (finds_none test) ms ss)

-- ---- a list instruction, and slots of which those that are marked are its lane, or begin with its lane
pub record Meeting (c : CellName) (a : LaneOf) (b : Op) (w : Value) (e : Changeset Instr) (vs : List (Changeset Instr × Value)) (test : Place → Bool) (ms : List Bool) (ss : List (Slot (Changeset Instr) Instr)) : Type 0 where
  -- the lane chains and has room, and the instruction was made on the list before it
  pub chains : Chains a.first a.slots
  pub room : a.first + length a.slots < top
  pub within : Within b.does b.place a.first
  pub owned : Owned a.slots vs
  pub stamp : stamp_of e ≡ b.stamp
  -- it finds no rival among the other slots
  pub others : OthersFound test ms ss
  pub stranger : finds_none test (instr_at c w b.does b.place a.first) ≡ true

-- it crosses the lane, which is put back; all other slots stay
abbrev pub Steps : Bool → Side → Type 0
Steps lane_left side = (c : CellName) (a : LaneOf) (b : Op) (w : Value) (e : Changeset Instr) (vs : List (Changeset Instr × Value)) (test : Place → Bool) (ms : List Bool) (ss : List (Slot (Changeset Instr) Instr)) → Meeting c a b w e vs test ms ss
    → pick ms ss ≡ told_slots c a.first a.slots vs
    → through (side e) ss (told_by c w a.first (Some b)) ≡ Some (put ms ss (slots_after lane_left c a b vs), left_behind lane_left c a b w)

-- where a barrier follows the lane, it falls there, whatever is behind that
abbrev pub StepsTo : Bool → Side → Type 0
StepsTo lane_left side = (c : CellName) (a : LaneOf) (b : Op) (w : Value) (e : Changeset Instr) (vs : List (Changeset Instr × Value)) (test : Place → Bool) (ms : List Bool) (ss : List (Slot (Changeset Instr) Instr)) → Meeting c a b w e vs test ms ss
    → (t : Changeset Instr) (k : Barrier) (ys : List (Slot (Changeset Instr) Instr)) → pick ms ss ≡ told_slots c a.first a.slots vs ++ (t, Some (barrier_at k c)) ∷ ys
    → through (side e) ss (told_by c w a.first (Some b)) ≡ Some (put ms ss (slots_after lane_left c a b vs ++ (t, Some (barrier_at k c)) ∷ ys), None)

-- in general what is left of it behind the lane goes through the other marked slots, which all stand behind the lane
abbrev pub StepsOn : Bool → Side → Type 0
StepsOn lane_left side = (c : CellName) (a : LaneOf) (b : Op) (w : Value) (e : Changeset Instr) (vs : List (Changeset Instr × Value)) (test : Place → Bool) (ms : List Bool) (ss : List (Slot (Changeset Instr) Instr)) → Meeting c a b w e vs test ms ss
    → (ys us : List (Slot (Changeset Instr) Instr)) (z : Option Instr) → pick ms ss ≡ told_slots c a.first a.slots vs ++ ys
    → through (side e) ys (left_behind lane_left c a b w) ≡ Some (us, z)
    → through (side e) ss (told_by c w a.first (Some b)) ≡ Some (put ms ss (slots_after lane_left c a b vs ++ us), z)
