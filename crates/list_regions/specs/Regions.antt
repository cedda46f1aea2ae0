-- A lane in regions, in order of places. Between them lie elements that none of the lane erases or updates.
use Rattle.std.specs.Prelude.{◌≡◌, ℕ, zero, suc, ◌+◌, ◌<◌, ◌==◌, nat_lt, if◌then◌else◌, List, [], ◌∷◌, Option, None, Some}
use Rattle.list_places.specs.Places.{longer}
use Rattle.list_lane.specs.Lanes.{LaneOf, length_after, length_at_end, Chains}
use Rattle.list_lane.specs.Parts.{Parts, from}
use Rattle.list_lane.specs.declared.op.Op.{Op}

-- ---- a region: so many elements in front of it, the numbers of its slots, and these as a lane of its own
pub record RegionOf : Type 0 where
  pub gap : ℕ
  pub numbers : List ℕ
  pub lane : LaneOf

-- how long it is with the elements in front of it, before its slots and behind them
abbrev pub before : RegionOf → ℕ
before q = q.gap + q.lane.first

abbrev pub after : RegionOf → ℕ
after q = q.gap + length_at_end q.lane.first q.lane.slots

-- the number of its first slot; that of no slot where it has none
abbrev pub first_number : List ℕ → ℕ
first_number [] = 18446744073709551615
first_number (n ∷ ns) = n

abbrev pub number : RegionOf → ℕ
number q = first_number q.numbers

abbrev pub befores : List RegionOf → ℕ
befores [] = 0
befores (q ∷ qs) = before q + befores qs

abbrev pub afters : List RegionOf → ℕ
afters [] = 0
afters (q ∷ qs) = after q + afters qs

-- ---- what is left of a lane and its regions
-- no slot has an instruction
abbrev pub AllEmpty : List (Option Op) → Type 0
AllEmpty [] = Unit {0}
AllEmpty (None ∷ ss) = AllEmpty ss
AllEmpty (Some a ∷ ss) = ⊥

abbrev pub empties : ℕ → List (Option Op)
empties zero = []
empties (suc c) = None ∷ empties c

-- slots among all slots from number k on, so many of them
abbrev pub spread : ℕ → ℕ → List ℕ → List (Option Op) → List (Option Op)
spread k zero ns ss = []
spread k (suc c) [] ss = None ∷ spread (suc k) c [] ss
spread k (suc c) (n ∷ ns) [] = None ∷ spread (suc k) c ns []
spread k (suc c) (n ∷ ns) (s ∷ ss) = if n == k then s ∷ spread (suc k) c ns ss else None ∷ spread (suc k) c (n ∷ ns) (s ∷ ss)

-- the slots of the first x elements, and those behind the g elements that follow, together
abbrev pub weave : ℕ → ℕ → List (Option Op) → List (Option Op) → List (Option Op)
weave x g [] rs = []
weave x g (l ∷ ls) [] = []
weave x g (Some a ∷ ls) (r ∷ rs) = Some a ∷ weave (longer a.does x) g ls rs
weave x g (None ∷ ls) (None ∷ rs) = None ∷ weave x g ls rs
weave x g (None ∷ ls) (Some a ∷ rs) = Some (from (x + g) a) ∷ weave x g ls rs

-- the slots of the first x elements and of the regions behind them
abbrev pub woven : ℕ → ℕ → ℕ → List (Option Op) → List RegionOf → List (Option Op)
woven k c x ls [] = ls
woven k c x ls (q ∷ qs) = weave x q.gap ls (woven k c q.lane.first (spread k c q.numbers q.lane.slots) qs)

-- ---- the same as facts
-- slots with those numbers lie among all slots from number k on
pub data Spread : ℕ → List ℕ → List (Option Op) → List (Option Op) → Type 0 where
  end : {k : ℕ} → Spread k [] [] []
  skip : {k : ℕ} {ns : List ℕ} {ss fs : List (Option Op)} → Spread (suc k) ns ss fs → Spread k ns ss (None ∷ fs)
  here : {k : ℕ} {ns : List ℕ} {s : Option Op} {ss fs : List (Option Op)} → Spread (suc k) ns ss fs → Spread k (k ∷ ns) (s ∷ ss) (s ∷ fs)

-- the slots of the first x elements, the regions behind them, and all their slots from number k on
pub data Woven (k : ℕ) : ℕ → List (Option Op) → List RegionOf → List (Option Op) → Type 0 where
  last : {x : ℕ} {ls : List (Option Op)} → Chains x ls → Woven k x ls [] ls
  next : {x : ℕ} {q : RegionOf} {qs : List RegionOf} {ls fs rs ss : List (Option Op)} → 0 < q.gap → Spread k q.numbers q.lane.slots fs → Woven k q.lane.first fs qs rs → Parts q.gap x ss ls rs → Woven k x ls (q ∷ qs) ss

-- the regions of a lane, and all its slots; in front of the first there may be no element
pub data Whole (k : ℕ) : List RegionOf → List (Option Op) → Type 0 where
  none : {ss : List (Option Op)} → AllEmpty ss → Whole k [] ss
  first : {q : RegionOf} {qs : List RegionOf} {ls fs rs ss : List (Option Op)} → AllEmpty ls → Spread k q.numbers q.lane.slots fs → Woven k q.lane.first fs qs rs → Parts q.gap zero ss ls rs → Whole k (q ∷ qs) ss

-- ---- slots of two regions in one, by their numbers
-- a number is in front of those of other slots
abbrev pub Ahead : ℕ → List ℕ → Type 0
Ahead n [] = Unit {0}
Ahead n (m ∷ ms) = n < m

-- a slot in a list with n elements more in front
abbrev pub moved_on : ℕ → Option Op → Option Op
moved_on n None = None
moved_on n (Some a) = Some (from n a)

abbrev pub either : Option Op → Option Op → Option Op
either None t = t
either (Some a) t = Some a

-- the slots of a region of x elements and those of the one behind the g elements that follow. Where they share a number, at
-- most one of both slots has an instruction
pub data Merge (g : ℕ) : ℕ → List ℕ → List (Option Op) → List ℕ → List (Option Op) → List ℕ → List (Option Op) → Type 0 where
  nothing : {x : ℕ} → Merge g x [] [] [] [] [] []
  left : {x n : ℕ} {s : Option Op} {ns ms os : List ℕ} {ss ts us : List (Option Op)} → Ahead n ms → Merge g (length_after s x) ns ss ms ts os us → Merge g x (n ∷ ns) (s ∷ ss) ms ts (n ∷ os) (s ∷ us)
  right : {x m : ℕ} {t : Option Op} {ns ms os : List ℕ} {ss ts us : List (Option Op)} → Ahead m ns → Merge g x ns ss ms ts os us → Merge g x ns ss (m ∷ ms) (t ∷ ts) (m ∷ os) (moved_on (x + g) t ∷ us)
  both : {x n m : ℕ} {s t : Option Op} {ns ms os : List ℕ} {ss ts us : List (Option Op)} → n ≡ m → Merge g (length_after s x) ns ss ms ts os us → Merge g x (n ∷ ns) (s ∷ ss) (m ∷ ms) (t ∷ ts) (n ∷ os) (either s (moved_on (x + g) t) ∷ us)

-- ---- a slot by its number
abbrev pub find : ℕ → List ℕ → List (Option Op) → Option Op
find n [] ss = None
find n (m ∷ ms) [] = None
find n (m ∷ ms) (s ∷ ss) = if m == n then s else find n ms ss

-- the length of the list before it, where it was x before them all
abbrev pub length_to : ℕ → ℕ → List ℕ → List (Option Op) → ℕ
length_to n x [] ss = x
length_to n x (m ∷ ms) [] = x
length_to n x (m ∷ ms) (s ∷ ss) = if nat_lt m n then length_to n (length_after s x) ms ss else x

-- the same of all regions
abbrev pub look : ℕ → List RegionOf → Option Op
look n [] = None
look n (q ∷ qs) = either (moved_on q.gap (find n q.numbers q.lane.slots)) (moved_on (q.gap + length_to n q.lane.first q.numbers q.lane.slots) (look n qs))

abbrev pub lengths_to : ℕ → List RegionOf → ℕ
lengths_to n [] = 0
lengths_to n (q ∷ qs) = q.gap + length_to n q.lane.first q.numbers q.lane.slots + lengths_to n qs
