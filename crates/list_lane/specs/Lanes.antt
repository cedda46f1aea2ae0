-- A lane: list instructions one after another, each in a slot, which is empty where its instruction fell.
use Rattle.std.specs.Prelude.{◌≡◌, ℕ, zero, suc, Bool, not, List, [], ◌∷◌, Option, None, Some}
use Rattle.sync_data.specs.declared.entry.Stamp.{Stamp}
use Rattle.list_places.specs.Places.{longer, Within}
use Rattle.list_lane.specs.Ops.{op_after}
use Rattle.list_lane.specs.declared.op.Op.{Op}

-- the length of the list on which the first of them acts, and the slots
pub record LaneOf : Type 0 where
  pub first : ℕ
  pub slots : List (Option Op)

-- ---- a lane and the instruction that crossed it
pub record Crossed : Type 0 where
  pub slots : List (Option Op)
  pub left : Option Op

abbrev pub behind : Option Op → Crossed → Crossed
behind s r = record { slots = s ∷ r.slots; left = r.left }

-- each of the lane meets it in turn; the flag of two stamps is whether that of the lane is the later one
abbrev pub crossed : (Stamp → Stamp → Bool) → List (Option Op) → Option Op → Crossed
crossed l [] b = record { slots = []; left = b }
crossed l (s ∷ ss) None = record { slots = s ∷ ss; left = None }
crossed l (None ∷ ss) (Some b) = behind None (crossed l ss (Some b))
crossed l (Some a ∷ ss) (Some b) = behind (op_after (l a.stamp b.stamp) a b) (crossed l ss (op_after (not (l a.stamp b.stamp)) b a))

-- ---- lengths of the list
-- after an instruction, if it is there
abbrev pub length_after : Option Op → ℕ → ℕ
length_after None n = n
length_after (Some a) n = longer a.does n

-- after a lane
abbrev pub length_at_end : ℕ → List (Option Op) → ℕ
length_at_end n [] = n
length_at_end n (s ∷ ss) = length_at_end (length_after s n) ss

-- before the slot at a place
abbrev pub length_before : ℕ → ℕ → List (Option Op) → ℕ
length_before i n [] = n
length_before zero n (s ∷ ss) = n
length_before (suc i) n (s ∷ ss) = length_before i (length_after s n) ss

-- an instruction lies in a list of that length
abbrev pub Fits : ℕ → Option Op → Type 0
Fits n None = Unit {0}
Fits n (Some a) = Within a.does a.place n

-- each of the lane lies in the list as those before it left it
abbrev pub Chains : ℕ → List (Option Op) → Type 0
Chains n [] = Unit {0}
Chains n (s ∷ ss) = Fits n s × Chains (length_after s n) ss

-- the lane that an instruction crossed
abbrev pub lane_after : (Stamp → Stamp → Bool) → LaneOf → Op → LaneOf
lane_after l a b = record { first = longer b.does a.first; slots = (crossed l a.slots (Some b)).slots }

-- ---- slots
-- the first
abbrev pub first_slot : List (Option Op) → Option Op
first_slot [] = None
first_slot (s ∷ ss) = s

-- a lane without it
abbrev pub without_first : ℕ → List (Option Op) → LaneOf
without_first n [] = record { first = n; slots = [] }
without_first n (s ∷ ss) = record { first = length_after s n; slots = ss }

-- the one at a place; none past the end
abbrev pub slot_at : ℕ → List (Option Op) → Option Op
slot_at i [] = None
slot_at zero (s ∷ ss) = s
slot_at (suc i) (s ∷ ss) = slot_at i ss

-- ---- what is left of an instruction
-- it is the same at another place, and lies in a list of that length
pub record IsLeftOf (b : Op) (n : ℕ) (z : Op) : Type 0 where
  pub does : z.does ≡ b.does
  pub stamp : z.stamp ≡ b.stamp
  pub within : Within z.does z.place n
