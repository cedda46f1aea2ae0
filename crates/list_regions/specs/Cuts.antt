-- A region becomes two, slot by slot.
use Rattle.std.specs.Prelude.{◌≡◌, ℕ, ◌+◌, List, [], ◌∷◌, ◌++◌, drop, Option, None, Some}
use Rattle.list_places.specs.Places.{longer, Within}
use Rattle.list_lane.specs.Lanes.{length_at_end, length_before}
use Rattle.list_lane.specs.Parts.{from}
use Rattle.list_lane.specs.declared.op.Op.{Op}
use Rattle.list_regions.specs.Regions.{RegionOf}

-- numbered slots, those of them in the first x elements, and those behind the g elements that follow, whose places count from
-- there. Empty slots are in neither
pub data Cut (g : ℕ) : ℕ → List ℕ → List (Option Op) → List ℕ → List (Option Op) → List ℕ → List (Option Op) → Type 0 where
  finished : {x : ℕ} → Cut g x [] [] [] [] [] []
  left_out : {x n : ℕ} {os ns ms : List ℕ} {us ss ts : List (Option Op)} → Cut g x os us ns ss ms ts → Cut g x (n ∷ os) (None ∷ us) ns ss ms ts
  in_front : {x n : ℕ} {a : Op} {os ns ms : List ℕ} {us ss ts : List (Option Op)} → Within a.does a.place x → Cut g (longer a.does x) os us ns ss ms ts → Cut g x (n ∷ os) (Some a ∷ us) (n ∷ ns) (Some a ∷ ss) ms ts
  in_back : {x n : ℕ} {a : Op} {os ns ms : List ℕ} {us ss ts : List (Option Op)} → Cut g x os us ns ss ms ts → Cut g x (n ∷ os) (Some (from (x + g) a) ∷ us) ns ss (n ∷ ms) (Some a ∷ ts)

-- the halves of a region, with one element between them
pub record IsCut (m q r : RegionOf) : Type 0 where
  pub gap : q.gap ≡ m.gap
  pub one : r.gap ≡ 1
  pub first : m.lane.first ≡ q.lane.first + (1 + r.lane.first)
  pub cut : Cut 1 q.lane.first m.numbers m.lane.slots q.numbers q.lane.slots r.numbers r.lane.slots

-- the same of its slots up to a place: what becomes of those from there on makes it the halves of all
pub record Cutting (m : RegionOf) (i : ℕ) (q r : RegionOf) : Type 0 where
  pub gap : q.gap ≡ m.gap
  pub one : r.gap ≡ 1
  pub first : m.lane.first ≡ q.lane.first + (1 + r.lane.first)
  pub steps : (ns ms : List ℕ) (ss ts : List (Option Op)) → Cut 1 (length_at_end q.lane.first q.lane.slots) (drop i m.numbers) (drop i m.lane.slots) ns ss ms ts
      → Cut 1 q.lane.first m.numbers m.lane.slots (q.numbers ++ ns) (q.lane.slots ++ ss) (r.numbers ++ ms) (r.lane.slots ++ ts)
  pub last : length_before i m.lane.first m.lane.slots ≡ length_at_end q.lane.first q.lane.slots + (1 + length_at_end r.lane.first r.lane.slots)
