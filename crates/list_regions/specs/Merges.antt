-- Two regions become one, slot by slot.
use Rattle.std.specs.Prelude.{◌≡◌, ℕ, ◌+◌, ◌<◌, ◌≤◌, List, ◌++◌, length, drop, slice_get, Option, Some}
use Rattle.sync_base.specs.Rules.{top}
use Rattle.list_lane.specs.Lanes.{length_at_end, length_before}
use Rattle.list_lane.specs.declared.op.Op.{Op}
use Rattle.list_regions.specs.Regions.{RegionOf, Ahead, Merge}
use Rattle.list_regions.specs.declared.merge.Turn.{Turn}
use Rattle.list_regions.specs.declared.merge.Next.{Next}
use Rattle.list_regions.specs.declared.merge.Next.TheVariants.{Own, Other, Shared}

-- as many numbers as slots, and not too many
pub record Slots (q : RegionOf) : Type 0 where
  pub are : length q.numbers ≡ length q.lane.slots
  pub few : length q.lane.slots < top

-- what is left to merge makes the whole of what is merged
pub record Merging (q r : RegionOf) (t : Turn) (m : RegionOf) : Type 0 where
  pub steps : (os : List ℕ) (us : List (Option Op)) → Merge r.gap t.length (drop t.left q.numbers) (drop t.left q.lane.slots) (drop t.right r.numbers) (drop t.right r.lane.slots) os us
      → Merge r.gap q.lane.first q.numbers q.lane.slots r.numbers r.lane.slots (m.numbers ++ os) (m.lane.slots ++ us)
  pub gap : m.gap ≡ q.gap
  pub first : m.lane.first ≡ q.lane.first + (r.gap + r.lane.first)
  pub length_is : t.length ≡ length_before t.left q.lane.first q.lane.slots
  pub last : length_at_end m.lane.first m.lane.slots ≡ t.length + (r.gap + length_before t.right r.lane.first r.lane.slots)
  pub left : t.left ≤ length q.lane.slots
  pub right : t.right ≤ length r.lane.slots

-- which of both has the next number
abbrev pub IsBefore : RegionOf → RegionOf → Turn → Next → Type 0
IsBefore q r t Own = (n : ℕ) × (slice_get q.numbers t.left ≡ Some n) × Ahead n (drop t.right r.numbers)
IsBefore q r t Other = (n : ℕ) × (slice_get r.numbers t.right ≡ Some n) × Ahead n (drop t.left q.numbers)
IsBefore q r t Shared = (n : ℕ) × (slice_get q.numbers t.left ≡ Some n) × (slice_get r.numbers t.right ≡ Some n)

-- the region of both
pub record IsMerged (q r m : RegionOf) : Type 0 where
  pub gap : m.gap ≡ q.gap
  pub first : m.lane.first ≡ q.lane.first + (r.gap + r.lane.first)
  pub merge : Merge r.gap q.lane.first q.numbers q.lane.slots r.numbers r.lane.slots m.numbers m.lane.slots
  pub last : length_at_end m.lane.first m.lane.slots ≡ length_at_end q.lane.first q.lane.slots + (r.gap + length_at_end r.lane.first r.lane.slots)
