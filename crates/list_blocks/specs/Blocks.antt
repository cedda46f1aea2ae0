-- Blocks: instructions of one list, several in a changeset, as a lane tells them.
use Rattle.std.specs.Prelude.{◌≡◌, ℕ, List, [], ◌∷◌, ◌++◌, Option, None, Some}
use Rattle.sync_data.specs.declared.value.Value.{Value}
use Rattle.sync_data.specs.declared.entry.Stamp.{Stamp}
use Rattle.sync_data.specs.declared.instr.CellName.{CellName}
use Rattle.sync_data.specs.declared.instr.Instr.{Instr}
use Rattle.sync_theory.specs.Lists.{Crossing}
use Rattle.sync_theory.specs.Changesets.{Changeset, later_stamp}
use Rattle.sync_law.specs.Instrs.{meet}
use Rattle.list_places.specs.Moves.{instr_at, moved}
use Rattle.list_places.specs.declared.moves.ListAction.{ListAction}
use Rattle.list_lane.specs.Lanes.{LaneOf, length_after}
use Rattle.list_lane.specs.Told.{action, told_sets, AreTold}
use Rattle.list_lane.specs.declared.op.Op.{Op}

-- ---- one instruction
-- it does that there, in the list of the cell, which has that length
pub record ActsAs (c : CellName) (n : ℕ) (i : Instr) (b : Op) : Type 0 where
  pub value : Value
  pub is : i ≡ instr_at c value b.does b.place n

-- what a slot does on a list of that length
abbrev pub slot_action : ℕ → Option Op → Option ListAction
slot_action n None = None
slot_action n (Some a) = Some (action a.does a.place n)

abbrev pub slot_actions : ℕ → List (Option Op) → List (Option ListAction)
slot_actions n [] = []
slot_actions n (s ∷ ss) = slot_action n s ∷ slot_actions (length_after s n) ss

-- instructions as each does what is told beside it; those that fell are left out
abbrev pub acted : List (Option ListAction) → List Instr → List Instr
acted [] is = []
acted (x ∷ xs) [] = []
acted (None ∷ xs) (i ∷ is) = acted xs is
acted (Some a ∷ xs) (i ∷ is) = moved a i ∷ acted xs is

-- ---- a block in a lane
-- changesets of that stamp with one of the instructions each
abbrev pub single : Stamp → Instr → Changeset Instr
single t i = record { origin = t.ident; number = 0; ms = t.ms; instrs = i ∷ [] }

abbrev pub singles : Stamp → List Instr → List (Changeset Instr)
singles t [] = []
singles t (i ∷ is) = single t i ∷ singles t is

-- the instructions of changesets, one after another
abbrev pub all_instrs : {I : Type 0} → List (Changeset I) → List I
all_instrs [] = []
all_instrs (p ∷ ps) = p.instrs ++ all_instrs ps

-- the instructions of a block as a lane tells them
abbrev pub block : LaneOf → Stamp → List Instr → List Instr
block a t is = all_instrs (told_sets a.first a.slots (singles t is))

-- a lane tells just these
pub record Tells (c : CellName) (t : Stamp) (is : List Instr) (a : LaneOf) : Type 0 where
  pub told : AreTold c a.slots (singles t is)
  pub same : block a t is ≡ is

-- instructions of that stamp cross whatever block the lane tells: these actions are left of them, and the lane tells what is left of the block
pub record CrossesBlock (c : CellName) (own : Stamp) (is : List Instr) (xs : List (Option ListAction)) (before after : LaneOf) : Type 0 where
  pub told : (t : Stamp) (rs : List Instr) → AreTold c before.slots (singles t rs) → AreTold c after.slots (singles t rs)
  pub crosses : (t : Stamp) (rs : List Instr) → AreTold c before.slots (singles t rs) → Crossing (λ x y. meet x y (later_stamp own.ms own.ident t.ms t.ident)) is (block before t rs) (acted xs is) (block after t rs)
