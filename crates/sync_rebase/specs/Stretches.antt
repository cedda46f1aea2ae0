-- A stretch of unsent changesets, whose one list instruction each stands as a lane tells it.
use Rattle.std.specs.Prelude.{◌≡◌, ◌<◌, ◌≤◌, ◌+◌, ◌-◌, ◌⊎◌, ℕ, zero, suc, List, [], ◌∷◌, ◌++◌, Option, None, Some, IfSome, drop, length, slice_index_or}
use Rattle.sync_data.specs.declared.instr.Instr.{Instr}
use Rattle.sync_data.specs.declared.entry.Stamp.{Stamp}
use Rattle.sync_base.specs.Effects.{CellPath}
use Rattle.sync_base.specs.Rules.{top}
use Rattle.sync_model.specs.Clients.{Unsent}
use Rattle.list_places.specs.Moves.{kind_in, first_cell}
use Rattle.list_lane.specs.Lanes.{LaneOf, length_after, length_at_end, length_before, slot_at, Fits}
use Rattle.list_lane.specs.Told.{told}
use Rattle.list_lane.specs.declared.op.Op.{Op}
use Rattle.sync_rebase.specs.declared.stretch.Stretch.{Stretch}

-- a list from a place on
abbrev pub from_place : {A : Type 0} → ℕ → (List A → List A) → List A → List A
from_place zero f us = f us
from_place (suc i) f [] = []
from_place (suc i) f (u ∷ us) = u ∷ from_place i f us

-- ---- what a lane shows
abbrev pub told_unsent : ℕ → Option Op → Unsent Instr → Unsent Instr
told_unsent n s u = record u { current = told n s u.current }

-- one changeset by each slot, from that length of the list on
abbrev pub overlaid : ℕ → List (Option Op) → List (Unsent Instr) → List (Unsent Instr)
overlaid n [] us = us
overlaid n (s ∷ ss) [] = []
overlaid n (s ∷ ss) (u ∷ us) = told_unsent n s u ∷ overlaid (length_after s n) ss us

abbrev pub laid : ℕ → LaneOf → List (Unsent Instr) → List (Unsent Instr)
laid i a = from_place i (overlaid a.first a.slots)

-- the unsent changesets, where there is a stretch of them or none
abbrev pub shown_by : Option Stretch → List (Unsent Instr) → List (Unsent Instr)
shown_by None us = us
shown_by (Some s) us = laid s.start s.lane us

-- ---- what a lane may show
abbrev pub stamp_by : ℕ → Unsent Instr → Stamp
stamp_by own u = record { ms = u.original.ms; ident = own }

-- an instruction as it was written, of a client with that ident, is of this cell, and does what the slot tells at whatever place
pub record Holds (cell : Option CellPath) (own : ℕ) (s : Option Op) (u : Unsent Instr) : Type 0 where
  pub cell_is : IfSome s (λ a. first_cell u.current ≡ cell)
  pub stamp : IfSome s (λ a. a.stamp ≡ stamp_by own u)
  pub kind : IfSome s (λ a. kind_in u.current ≡ Some a.does)

-- there are so many, and each does
abbrev pub AllHold : Option CellPath → ℕ → List (Option Op) → List (Unsent Instr) → Type 0
AllHold cell own [] us = Unit {0}
AllHold cell own (s ∷ ss) [] = ⊥
AllHold cell own (s ∷ ss) (u ∷ us) = Holds cell own s u × AllHold cell own ss us

pub record Stands (us : List (Unsent Instr)) (s : Stretch) : Type 0 where
  pub within : s.start + length s.lane.slots ≤ length us
  pub held : AllHold (first_cell s.sample.instrs) s.own s.lane.slots (drop s.start us)

-- a place lies outside of it
abbrev pub Outside : ℕ → Stretch → Type 0
Outside n s = (n < s.start) ⊎ (s.start + length s.lane.slots ≤ n)

-- what a stretch tells at a place, and the length of the list there
abbrev pub IsSlotAt : ℕ → Stretch → Option (Option Op × ℕ) → Type 0
IsSlotAt n s None = Outside n s
IsSlotAt n s (Some p) = (j : ℕ) × (n ≡ s.start + j) × (j < length s.lane.slots) × (p.0 ≡ slot_at j s.lane.slots) × (p.1 ≡ length_before j s.lane.first s.lane.slots)

abbrev pub IsToldAt : ℕ → Option Stretch → Option (Option Op × ℕ) → Type 0
IsToldAt n None o = o ≡ None
IsToldAt n (Some s) o = IsSlotAt n s o

-- a stretch begins one place sooner
abbrev pub StepsBack : Option Stretch → Option Stretch → Type 0
StepsBack None o = o ≡ None
StepsBack (Some s) o = o ≡ Some (record s { start = s.start - 1 })

-- an unsent changeset stands at a place
abbrev pub IsAt : ℕ → List (Unsent Instr) → Unsent Instr → Type 0
IsAt n us u = u ≡ slice_index_or us n u

-- ---- how a stretch grows
-- a changeset of a client is so in a lane of that cell, where it acts on a list of that length
pub record IsSlotOf (u : Unsent Instr) (cell : Option CellPath) (own n : ℕ) (s : Option Op) : Type 0 where
  pub told : told_unsent n s u ≡ u
  pub holds : Holds cell own s u
  pub fits : Fits n s

-- a lane with one slot more
abbrev pub lane_with : Option Op → LaneOf → LaneOf
lane_with s a = record { first = a.first; slots = a.slots ++ s ∷ [] }

-- the changeset behind a stretch can follow on in its lane
pub record Follows (us : List (Unsent Instr)) (s : Stretch) (slot : Option Op) : Type 0 where
  pub next : Unsent Instr
  pub at : IsAt (s.start + length s.lane.slots) us next
  pub within : s.start + length s.lane.slots < length us
  pub is_slot : IsSlotOf next (first_cell s.sample.instrs) s.own (length_at_end s.lane.first s.lane.slots) slot
  pub room : s.lane.first + length s.lane.slots + 1 < top
