-- Slots whose places have all moved by one number since they were written, and where they lie.
use Rattle.std.specs.Prelude.{◌≡◌, ℕ, ◌+◌, ◌-◌, ◌≤◌, min, max, Bool, true, false, not, if◌then◌else◌, List, [], ◌∷◌, Option, None, Some}
use Rattle.sync_data.specs.declared.entry.Stamp.{Stamp}
use Rattle.sync_theory.specs.Changesets.{later_stamp}
use Rattle.list_places.specs.Places.{longer}
use Rattle.list_places.specs.declared.places.Does.{Does}
use Rattle.list_places.specs.declared.places.Does.TheVariants.{Inserts, Erases, Updates}
use Rattle.list_lane.specs.declared.op.Op.{Op}
use Rattle.list_lane.specs.declared.bounds.Bounds.{Bounds}

-- ---- moved on, and back
abbrev pub lifted : ℕ → ℕ → Op → Op
lifted up down a = record a { place = a.place + up - down }

abbrev pub lift : ℕ → ℕ → Option Op → Option Op
lift up down None = None
lift up down (Some a) = Some (lifted up down a)

abbrev pub lift_all : ℕ → ℕ → List (Option Op) → List (Option Op)
lift_all up down [] = []
lift_all up down (s ∷ ss) = lift up down s ∷ lift_all up down ss

-- ---- one in front of another: it stands, and pushes the other
-- of two at one place; the flag is whether the second has the later stamp
abbrev pub Leads : Does → Does → Bool → Type 0
Leads Inserts Inserts l = l ≡ true
Leads Inserts Erases l = Unit {0}
Leads Inserts Updates l = Unit {0}
Leads Erases e l = ⊥
Leads Updates e l = ⊥

abbrev pub InFront : Bool → Op → Op → Type 0
InFront l a b = (a.place ≤ b.place) × ((a.place ≡ b.place) → Leads a.does b.does l)

-- ---- all on one side of an instruction; the flag of two stamps is whether that of the lane is the later one
-- each is behind it
abbrev pub AllBehind : (Stamp → Stamp → Bool) → Op → List (Option Op) → Type 0
AllBehind l b [] = Unit {0}
AllBehind l b (None ∷ ss) = AllBehind l b ss
AllBehind l b (Some a ∷ ss) = InFront (l a.stamp b.stamp) b a × AllBehind l b ss

-- and is pushed by what is done there
abbrev pub push_by : Does → Option Op → Option Op
push_by d None = None
push_by d (Some a) = Some (record a { place = longer d a.place })

abbrev pub pushed_all : Does → List (Option Op) → List (Option Op)
pushed_all d [] = []
pushed_all d (s ∷ ss) = push_by d s ∷ pushed_all d ss

-- each is in front of it, as those before it pushed it
abbrev pub AllBefore : (Stamp → Stamp → Bool) → Op → List (Option Op) → Type 0
AllBefore l b [] = Unit {0}
AllBefore l b (None ∷ ss) = AllBefore l b ss
AllBefore l b (Some a ∷ ss) = InFront (not (l a.stamp b.stamp)) a b × AllBefore l (record b { place = longer a.does b.place }) ss

-- each has a stamp to which that flag applies
abbrev pub AllLater : Bool → (Stamp → Stamp → Bool) → Stamp → List (Option Op) → Type 0
AllLater f l t [] = Unit {0}
AllLater f l t (None ∷ ss) = AllLater f l t ss
AllLater f l t (Some a ∷ ss) = (l a.stamp t ≡ f) × AllLater f l t ss

-- ---- where they lie
-- no place is before that one
abbrev pub AllFrom : ℕ → List (Option Op) → Type 0
AllFrom m [] = Unit {0}
AllFrom m (None ∷ ss) = AllFrom m ss
AllFrom m (Some a ∷ ss) = (m ≤ a.place) × AllFrom m ss

-- each place is before that one, as those before it pushed that; the flag is whether an insertion at it counts as before it
abbrev pub width : Bool → Does → ℕ
width true Inserts = 0
width false Inserts = 1
width t Erases = 1
width t Updates = 1

abbrev pub AllPast : Bool → ℕ → List (Option Op) → Type 0
AllPast t p [] = Unit {0}
AllPast t p (None ∷ ss) = AllPast t p ss
AllPast t p (Some a ∷ ss) = (a.place + width t a.does ≤ p) × AllPast t (longer a.does p) ss

-- how many are insertions, and erasures
abbrev pub is_insertion : Does → ℕ
is_insertion Inserts = 1
is_insertion Erases = 0
is_insertion Updates = 0

abbrev pub is_erasure : Does → ℕ
is_erasure Inserts = 0
is_erasure Erases = 1
is_erasure Updates = 0

abbrev pub insertions : List (Option Op) → ℕ
insertions [] = 0
insertions (None ∷ ss) = insertions ss
insertions (Some a ∷ ss) = insertions ss + is_insertion a.does

abbrev pub erasures : List (Option Op) → ℕ
erasures [] = 0
erasures (None ∷ ss) = erasures ss
erasures (Some a ∷ ss) = erasures ss + is_erasure a.does

-- none has an earlier stamp than that, or a later one
abbrev pub is_after : Stamp → Stamp → Bool
is_after s t = later_stamp s.ms s.ident t.ms t.ident

abbrev pub NoneBefore : Stamp → List (Option Op) → Type 0
NoneBefore e [] = Unit {0}
NoneBefore e (None ∷ ss) = NoneBefore e ss
NoneBefore e (Some a ∷ ss) = (is_after e a.stamp ≡ false) × NoneBefore e ss

abbrev pub NoneAfter : Stamp → List (Option Op) → Type 0
NoneAfter e [] = Unit {0}
NoneAfter e (None ∷ ss) = NoneAfter e ss
NoneAfter e (Some a ∷ ss) = (is_after a.stamp e ≡ false) × NoneAfter e ss

-- bounds hold for slots; the counts are exact
pub record Bounded (b : Bounds) (ss : List (Option Op)) : Type 0 where
  pub low : AllFrom b.low ss
  pub past : AllPast false b.past ss
  pub edge : AllPast true b.edge ss
  pub inserted : b.inserted ≡ insertions ss
  pub erased : b.erased ≡ erasures ss
  pub earliest : NoneBefore b.earliest ss
  pub latest : NoneAfter b.latest ss

-- bounds with a slot behind all others
abbrev pub earlier_of : Stamp → Stamp → Stamp
earlier_of s t = if is_after t s then s else t

abbrev pub later_of : Stamp → Stamp → Stamp
later_of s t = if is_after s t then s else t

abbrev pub with_op : Op → Bounds → Bounds
with_op a b = record {
  low = min a.place b.low;
  past = max b.past (a.place + b.erased + 1 - b.inserted);
  edge = max b.edge (a.place + b.erased + 1 - is_insertion a.does - b.inserted);
  inserted = b.inserted + is_insertion a.does;
  erased = b.erased + is_erasure a.does;
  earliest = earlier_of a.stamp b.earliest;
  latest = later_of a.stamp b.latest;
}

abbrev pub with_slot : Option Op → Bounds → Bounds
with_slot None b = b
with_slot (Some a) b = with_op a b

-- bounds without the first slot, which may be looser than they need be
abbrev pub without_op : Does → Bounds → Bounds
without_op Inserts b = record b { past = b.past + 1; edge = b.edge + 1; inserted = b.inserted - 1 }
without_op Erases b = record b { past = b.past - 1; edge = b.edge - 1; erased = b.erased - 1 }
without_op Updates b = b

abbrev pub without_slot : Option Op → Bounds → Bounds
without_slot None b = b
without_slot (Some a) b = without_op a.does b

-- what is kept of a burst: bounds of its slots as they were written, and it wasn't moved back beyond the front of the list
pub record IsBurst (up down : ℕ) (b : Bounds) (ss : List (Option Op)) : Type 0 where
  pub bounded : Bounded b ss
  pub front : down ≤ b.low + up
