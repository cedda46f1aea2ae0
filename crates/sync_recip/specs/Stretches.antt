-- A stretch of entries, whose one list instruction each stands as a lane tells it.
use Rattle.std.specs.Prelude.{◌≡◌, ◌<◌, ◌≤◌, ◌+◌, ◌⊎◌, ℕ, zero, suc, List, [], ◌∷◌, ◌++◌, Option, None, Some, IfSome, drop, length, slice_index_or}
use Rattle.sync_data.specs.declared.instr.Instr.{Instr}
use Rattle.sync_data.specs.declared.entry.Entry.{Entry}
use Rattle.sync_data.specs.declared.entry.Stamp.{Stamp}
use Rattle.sync_base.specs.Effects.{CellPath}
use Rattle.sync_base.specs.Rules.{top}
use Rattle.list_places.specs.Moves.{kind_in, first_cell}
use Rattle.list_lane.specs.Lanes.{LaneOf, length_after, length_at_end, length_before, slot_at, Fits}
use Rattle.list_lane.specs.Told.{told}
use Rattle.list_lane.specs.declared.op.Op.{Op}
use Rattle.sync_recip.specs.declared.kept.Kept.{Kept}
use Rattle.sync_recip.specs.declared.stretch.Stretch.{Stretch}

-- a list from a place on
abbrev pub from_place : {A : Type 0} → ℕ → (List A → List A) → List A → List A
from_place zero f xs = f xs
from_place (suc i) f [] = []
from_place (suc i) f (x ∷ xs) = x ∷ from_place i f xs

-- ---- what a lane shows
abbrev pub instrs_in : Kept → List Instr
instrs_in k = k.item.changes.instrs

-- an entry with these instructions
abbrev pub holding : List Instr → Entry → Entry
holding is e = record e { changes = record e.changes { instrs = is } }

abbrev pub with_instrs : List Instr → Kept → Kept
with_instrs is k = record k { item = holding is k.item }

abbrev pub told_kept : ℕ → Option Op → Kept → Kept
told_kept n s k = with_instrs (told n s (instrs_in k)) k

-- one entry by each slot, from that length of the list on
abbrev pub overlaid : ℕ → List (Option Op) → List Kept → List Kept
overlaid n [] ks = ks
overlaid n (s ∷ ss) [] = []
overlaid n (s ∷ ss) (k ∷ ks) = told_kept n s k ∷ overlaid (length_after s n) ss ks

abbrev pub laid : ℕ → LaneOf → List Kept → List Kept
laid i a = from_place i (overlaid a.first a.slots)

-- the entries, where there is a stretch of them or none
abbrev pub shown_by : Option Stretch → List Kept → List Kept
shown_by None ks = ks
shown_by (Some s) ks = laid s.start s.lane ks

-- ---- what a lane may show
abbrev pub stamp_in : Kept → Stamp
stamp_in k = record { ms = k.item.changes.ms; ident = k.item.origin }

-- an entry's instruction as it was kept is of this cell, and does what the slot tells at whatever place
pub record Holds (cell : Option CellPath) (s : Option Op) (k : Kept) : Type 0 where
  pub cell_is : IfSome s (λ a. first_cell (instrs_in k) ≡ cell)
  pub stamp : IfSome s (λ a. a.stamp ≡ stamp_in k)
  pub kind : IfSome s (λ a. kind_in (instrs_in k) ≡ Some a.does)

-- there are so many, and each does
abbrev pub AllHold : Option CellPath → List (Option Op) → List Kept → Type 0
AllHold cell [] ks = Unit {0}
AllHold cell (s ∷ ss) [] = ⊥
AllHold cell (s ∷ ss) (k ∷ ks) = Holds cell s k × AllHold cell ss ks

pub record Stands (ks : List Kept) (s : Stretch) : Type 0 where
  pub within : s.start + length s.lane.slots ≤ length ks
  pub held : AllHold (first_cell s.sample.changes.instrs) s.lane.slots (drop s.start ks)

-- a place lies outside of it
abbrev pub Outside : ℕ → Stretch → Type 0
Outside n s = (n < s.start) ⊎ (s.start + length s.lane.slots ≤ n)

-- what a stretch tells at a place, and the length of the list there
abbrev pub IsSlotAt : ℕ → Stretch → Option (Option Op × ℕ) → Type 0
IsSlotAt n s None = Outside n s
IsSlotAt n s (Some p) = (j : ℕ) × (n ≡ s.start + j) × (j < length s.lane.slots) × (p.0 ≡ slot_at j s.lane.slots) × (p.1 ≡ length_before j s.lane.first s.lane.slots)

abbrev pub IsToldAt : ℕ → Option Stretch → Option (Option Op × ℕ) → Type 0
IsToldAt n None o = o ≡ None
IsToldAt n (Some s) o = IsSlotAt n s o

-- an entry stands at a place
abbrev pub IsAt : ℕ → List Kept → Kept → Type 0
IsAt n ks k = k ≡ slice_index_or ks n k

-- ---- how a stretch grows
-- an entry is so in a lane of that cell, where it acts on a list of that length
pub record IsSlotOf (e : Entry) (cell : Option CellPath) (n : ℕ) (s : Option Op) : Type 0 where
  pub told : told n s e.changes.instrs ≡ e.changes.instrs
  pub cell_is : IfSome s (λ a. first_cell e.changes.instrs ≡ cell)
  pub stamp : IfSome s (λ a. a.stamp ≡ record { ms = e.changes.ms; ident = e.origin })
  pub kind : IfSome s (λ a. kind_in e.changes.instrs ≡ Some a.does)
  pub fits : Fits n s

-- a lane with one slot more
abbrev pub lane_with : Option Op → LaneOf → LaneOf
lane_with s a = record { first = a.first; slots = a.slots ++ s ∷ [] }

-- the entry behind a stretch can follow on in its lane
pub record Follows (ks : List Kept) (s : Stretch) (slot : Option Op) : Type 0 where
  pub next : Kept
  pub at : IsAt (s.start + length s.lane.slots) ks next
  pub within : s.start + length s.lane.slots < length ks
  pub is_slot : IsSlotOf next.item (first_cell s.sample.changes.instrs) (length_at_end s.lane.first s.lane.slots) slot
  pub room : s.lane.first + length s.lane.slots + 1 < top
