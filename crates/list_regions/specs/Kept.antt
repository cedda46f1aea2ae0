-- What is kept of regions, and what crossing them is.
use Rattle.std.specs.Prelude.{◌≡◌, ℕ, suc, ◌+◌, ◌-◌, ◌<◌, ◌≤◌, Bool, List, [], ◌∷◌, ◌++◌, length, take, set, insert, max, slice_get, Option, None, Some}
use Rattle.sync_data.specs.declared.entry.Stamp.{Stamp}
use Rattle.sync_base.specs.Rules.{top}
use Rattle.sync_theory.specs.Grid.{tail}
use Rattle.list_places.specs.Places.{longer, Within}
use Rattle.list_places.specs.declared.places.Does.{Does}
use Rattle.list_places.specs.declared.places.Does.TheVariants.{Inserts, Erases, Updates}
use Rattle.list_lane.specs.Lanes.{LaneOf, crossed, lane_after, length_after, length_at_end, without_first, Chains}
use Rattle.list_lane.specs.Flat.{IsLane}
use Rattle.list_lane.specs.Parts.{from}
use Rattle.list_lane.specs.declared.op.Op.{Op}
use Rattle.list_regions.specs.Regions.{RegionOf, number, moved_on, befores, afters, Whole}

-- an instruction at another place
abbrev pub at : Op → ℕ → Op
at b p = record b { place = p }

-- a region that it crosses, or with so many elements in front
abbrev pub crossed_region : (Stamp → Stamp → Bool) → RegionOf → Op → RegionOf
crossed_region l q b = record q { lane = lane_after l q.lane b }

abbrev pub with_gap : ℕ → RegionOf → RegionOf
with_gap g q = record q { gap = g }

-- a region by its parts
abbrev pub region : ℕ → List ℕ → ℕ → List (Option Op) → RegionOf
region g ns x ss = record { gap = g; numbers = ns; lane = record { first = x; slots = ss } }

-- a region of y elements and no slot, behind p elements
abbrev pub fresh : ℕ → ℕ → RegionOf
fresh p y = record { gap = p; numbers = []; lane = record { first = y; slots = [] } }

-- regions with such a one in front of the i-th, which lies behind g elements then
abbrev pub with_fresh : List RegionOf → ℕ → RegionOf → ℕ → ℕ → ℕ → List RegionOf
with_fresh qs i q p y g = insert (set qs i (record q { gap = g })) i (fresh p y)

-- slots in a list with n elements more in front
abbrev pub onward : ℕ → List (Option Op) → List (Option Op)
onward n [] = []
onward n (None ∷ ss) = None ∷ onward n ss
onward n (Some a ∷ ss) = Some (from n a) ∷ onward n ss

-- a region with the element in front of it, or with the one behind it
abbrev pub with_front : RegionOf → RegionOf
with_front q = record { gap = q.gap - 1; numbers = q.numbers; lane = record { first = q.lane.first + 1; slots = onward 1 q.lane.slots } }

abbrev pub with_end : RegionOf → RegionOf
with_end q = record q { lane = record { first = q.lane.first + 1; slots = q.lane.slots } }

-- an insertion in front of a region, which pushes all of it
abbrev pub earliest : Op
earliest = record { does = Inserts; place = 0; stamp = record { ms = 0; ident = 0 } }

-- a region with a slot more
abbrev pub pushed_region : ℕ → Option Op → RegionOf → RegionOf
pushed_region n s q = record { gap = q.gap; numbers = q.numbers ++ n ∷ []; lane = record { first = q.lane.first; slots = q.lane.slots ++ s ∷ [] } }

-- a region without its first slot
abbrev pub popped_region : RegionOf → RegionOf
popped_region q = record { gap = q.gap; numbers = tail q.numbers; lane = without_first q.lane.first q.lane.slots }

-- a region has as many numbers as slots, and its list can't become too long
pub record IsRegion (gap : ℕ) (numbers : List ℕ) (lane : LaneOf) : Type 0 where
  pub numbers_are : length numbers ≡ length lane.slots
  pub room : gap + lane.first + length lane.slots < top

-- the same in one list
pub record IsListed (numbers : List ℕ) (first : ℕ) (slots : List (Option Op)) : Type 0 where
  pub numbers_are : length numbers ≡ length slots
  pub chains : Chains first slots

-- the regions of a lane whose first slot has that number
pub record IsRegions (popped count first last : ℕ) (qs : List RegionOf) (ss : List (Option Op)) : Type 0 where
  pub whole : Whole popped qs ss
  pub lane : IsLane first last count ss
  pub fits : befores qs ≤ first
  pub numbers : popped + count < 18446744073709551615

-- how many elements an instruction needs for itself
abbrev pub elements : Does → ℕ
elements Inserts = 0
elements Erases = 1
elements Updates = 1

-- how long what it touches has to be, with all in front of that
abbrev pub reach : Does → ℕ → ℕ
reach Inserts p = p
reach Erases p = p + 1
reach Updates p = p + 1

-- an instruction that was made on the list before them
pub record Meets (qs : List RegionOf) (b : Op) : Type 0 where
  pub popped : ℕ
  pub length_is : ℕ
  pub slots : List (Option Op)
  pub whole : Whole popped qs slots
  pub within : Within b.does b.place length_is
  pub room : length_is + length slots + 1 < top
  pub fits : befores qs ≤ length_is

-- it crosses them, and they become others; z is left of it
pub record Passes (l : Stamp → Stamp → Bool) (qs : List RegionOf) (b : Op) (z : Option Op) (zs : List RegionOf) : Type 0 where
  pub slots : (k : ℕ) (ss : List (Option Op)) → Whole k qs ss → Whole k zs (crossed l ss (Some b)).slots × ((crossed l ss (Some b)).left ≡ z)
  pub fits : (n : ℕ) → befores qs ≤ n → Within b.does b.place n → befores zs ≤ longer b.does n

-- ---- an instruction that acts on the list behind them, to become the slot with that number
pub record Ends (qs : List RegionOf) (b : Op) (number : ℕ) : Type 0 where
  pub popped : ℕ
  pub length_is : ℕ
  pub slots : List (Option Op)
  pub whole : Whole popped qs slots
  pub within : Within b.does b.place (length_at_end length_is slots)
  pub room : length_is + length slots + 1 < top
  pub fits : befores qs ≤ length_is
  pub number_is : popped + length slots ≡ number

-- an insertion among elements is in front of one and behind one
abbrev pub Inner : Does → ℕ → Type 0
Inner Inserts p = 0 < p
Inner Erases p = Unit {0}
Inner Updates p = Unit {0}

-- it acts so far behind the regions in front of a place
pub record LiesBehind (qs : List RegionOf) (b : Op) (i offset : ℕ) : Type 0 where
  pub place : b.place ≡ afters (take i qs) + offset
  pub inner : 0 < i → Inner b.does offset

-- others tell the same slots, and lie in a list that is long enough for b
pub record Opened (qs : List RegionOf) (b : Op) (zs : List RegionOf) : Type 0 where
  pub same : (k : ℕ) (ss : List (Option Op)) → Whole k qs ss → Whole k zs ss
  pub fits : befores zs + afters qs ≤ befores qs + max (afters qs) (reach b.does b.place)

-- the region at a place is touched by b there
pub record Touches (qs : List RegionOf) (b : Op) (i : ℕ) (inner : Op) : Type 0 where
  pub region : RegionOf
  pub is : slice_get qs i ≡ Some region
  pub inner_is : inner ≡ at b inner.place
  pub within : Within b.does inner.place (length_at_end region.lane.first region.lane.slots)
  pub place : b.place ≡ afters (take i qs) + (region.gap + inner.place)

-- they have a slot more
pub record Pushed (qs : List RegionOf) (b : Op) (number : ℕ) (zs : List RegionOf) : Type 0 where
  pub slots : (k : ℕ) (ss : List (Option Op)) → k + length ss ≡ number → Whole k qs ss → Whole k zs (ss ++ Some b ∷ [])
  pub fits : befores zs + afters qs ≤ befores qs + max (afters qs) (reach b.does b.place)

-- ---- the first slot leaves
-- they tell some slots, of which the first has that number
pub record Starts (qs : List RegionOf) (k : ℕ) : Type 0 where
  pub length_is : ℕ
  pub slot : Option Op
  pub slots : List (Option Op)
  pub whole : Whole k qs (slot ∷ slots)
  pub room : length_is + length slots + 1 < top
  pub fits : befores qs ≤ length_is
  pub low : k < 18446744073709551615

-- no region has it
abbrev pub AllLater : ℕ → List RegionOf → Type 0
AllLater k qs = (i : ℕ) (q : RegionOf) → slice_get qs i ≡ Some q → number q ≡ k → ⊥

-- the first slot of the region at a place leaves
pub record PopsAt (qs : List RegionOf) (k i : ℕ) (z : Option Op) (zs : List RegionOf) : Type 0 where
  pub gap : ℕ
  pub first : ℕ
  pub numbers : List ℕ
  pub slot : Option Op
  pub slots : List (Option Op)
  pub is : slice_get qs i ≡ Some (region gap (k ∷ numbers) first (slot ∷ slots))
  pub regions : zs ≡ set qs i (region gap numbers (length_after slot first) slots)
  pub popped : z ≡ moved_on (befores (take i qs) + gap) slot

-- the slot with that number leaves, and z was in it
pub record PopsFirst (qs : List RegionOf) (k : ℕ) (z : Option Op) (zs : List RegionOf) : Type 0 where
  pub slots : (s : Option Op) (ss : List (Option Op)) → Whole k qs (s ∷ ss) → Whole (suc k) zs ss × (z ≡ s)
  pub fits : befores zs ≤ length_after z (befores qs)

-- ---- a walk over all of them
-- they tell some slots, of which one has that number
pub record Walked (qs : List RegionOf) (n : ℕ) : Type 0 where
  pub popped : ℕ
  pub place : ℕ
  pub length_is : ℕ
  pub slots : List (Option Op)
  pub whole : Whole popped qs slots
  pub chains : Chains length_is slots
  pub room : length_is + length slots < top
  pub fits : befores qs ≤ length_is
  pub within : place < length slots
  pub number_is : popped + place ≡ n

-- ---- regions that others took the place of
-- they tell some slots of a list that can't become too long
pub record Holds (qs : List RegionOf) : Type 0 where
  pub popped : ℕ
  pub length_is : ℕ
  pub slots : List (Option Op)
  pub whole : Whole popped qs slots
  pub room : length_is + length slots + 1 < top
  pub fits : befores qs ≤ length_is

-- others tell the same slots, and lie in a list of that length
pub record Alike (qs zs : List RegionOf) : Type 0 where
  pub same : (k : ℕ) (ss : List (Option Op)) → Whole k qs ss → Whole k zs ss
  pub befores_are : befores zs ≡ befores qs

-- they tell some slots, and neither they nor a list with one more element can become too long
pub record Loose (qs : List RegionOf) : Type 0 where
  pub popped : ℕ
  pub slots : List (Option Op)
  pub whole : Whole popped qs slots
  pub room : befores qs + length slots < top

-- others tell the same slots, and are no longer
pub record Shrunk (qs zs : List RegionOf) : Type 0 where
  pub same : (k : ℕ) (ss : List (Option Op)) → Whole k qs ss → Whole k zs ss
  pub low : befores zs ≤ befores qs
