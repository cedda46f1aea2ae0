-- Crossing a lane is crossing the changesets that it tells, one by one.
use Rattle.std.specs.Prelude.{◌≡◌, Bool, List, Option, Some, Ok}
use Rattle.sync_data.specs.declared.instr.CellName.{CellName}
use Rattle.sync_data.specs.declared.instr.Instr.{Instr}
use Rattle.sync_theory.specs.Changesets.{Changeset, cross_sets}
use Rattle.sync_theory.specs.Grid.{rebase, carry}
use Rattle.sync_law.specs.Instrs.{meet}
use Rattle.list_lane.specs.Ops.{lane_later}
use Rattle.list_lane.specs.Lanes.{LaneOf, crossed, length_at_end}
use Rattle.list_lane.specs.Told.{told_set, told_sets, IsTold, AreTold}
use Rattle.list_lane.specs.declared.op.Op.{Op}

-- the lane on the left: a client's changesets, which an entry of another crosses
abbrev pub CrossesLeft : LaneOf → Op → Option Op → LaneOf → Type 0
CrossesLeft a b left after = (c : CellName) (ps : List (Changeset Instr)) (e : Changeset Instr) → AreTold c a.slots ps → IsTold c (Some b) e →
    rebase (cross_sets meet) (told_sets a.first a.slots ps) (told_set a.first (Some b) e) ≡ Ok (told_sets after.first after.slots ps, told_set (length_at_end a.first a.slots) left e)

-- the lane on the right: a server's entries, which a client's change crosses
abbrev pub CrossesRight : LaneOf → Op → Option Op → LaneOf → Type 0
CrossesRight a b left after = (c : CellName) (ps : List (Changeset Instr)) (e : Changeset Instr) → AreTold c a.slots ps → IsTold c (Some b) e →
    carry (cross_sets meet) (told_set a.first (Some b) e) (told_sets a.first a.slots ps) ≡ Ok (told_set (length_at_end a.first a.slots) left e, told_sets after.first after.slots ps)

-- a lane that was crossed tells the same changesets
abbrev pub StillTold : Type 0
StillTold = (lane_left : Bool) (c : CellName) (a : LaneOf) (b : Op) (ps : List (Changeset Instr)) → AreTold c a.slots ps → AreTold c (crossed (lane_later lane_left) a.slots (Some b)).slots ps
