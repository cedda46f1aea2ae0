-- A lane on both sides of elements that none of it erases or updates.
use Rattle.std.specs.Prelude.{◌≡◌, ℕ, ◌+◌, ◌<◌, Bool, List, [], ◌∷◌, Option, None, Some}
use Rattle.std.specs.Option.{option_map}
use Rattle.sync_data.specs.declared.entry.Stamp.{Stamp}
use Rattle.list_places.specs.Places.{longer, Within}
use Rattle.list_places.specs.declared.places.Does.{Does}
use Rattle.list_places.specs.declared.places.Does.TheVariants.{Inserts, Erases, Updates}
use Rattle.list_lane.specs.Lanes.{crossed, length_at_end}
use Rattle.list_lane.specs.declared.op.Op.{Op}

-- a place that counts from behind n elements, in the whole list
abbrev pub from : ℕ → Op → Op
from n a = record a { place = a.place + n }

-- the slots of a lane, of its part in the first x elements, and of its part behind the g elements that follow, whose places
-- count from there; each part is empty where the other has an instruction
pub data Parts (g : ℕ) : ℕ → List (Option Op) → List (Option Op) → List (Option Op) → Type 0 where
  end : {x : ℕ} → Parts g x [] [] []
  empty : {x : ℕ} {ss ls rs : List (Option Op)} → Parts g x ss ls rs → Parts g x (None ∷ ss) (None ∷ ls) (None ∷ rs)
  front : {x : ℕ} {a : Op} {ss ls rs : List (Option Op)} → Within a.does a.place x → Parts g (longer a.does x) ss ls rs → Parts g x (Some a ∷ ss) (Some a ∷ ls) (None ∷ rs)
  back : {x : ℕ} {a : Op} {ss ls rs : List (Option Op)} → Parts g x ss ls rs → Parts g x (Some (from (x + g) a) ∷ ss) (None ∷ ls) (Some a ∷ rs)

-- what is before them crosses the part before them, and that behind stays
abbrev pub CrossesBefore : Type 0
CrossesBefore = (l : Stamp → Stamp → Bool) (g x : ℕ) (ss ls rs : List (Option Op)) (b : Op) → 0 < g → Parts g x ss ls rs → Within b.does b.place x →
    Parts g (longer b.does x) (crossed l ss (Some b)).slots (crossed l ls (Some b)).slots rs × ((crossed l ss (Some b)).left ≡ (crossed l ls (Some b)).left)

-- what is behind them crosses the part behind them, and that before stays
abbrev pub CrossesBehind : Type 0
CrossesBehind = (l : Stamp → Stamp → Bool) (g x : ℕ) (ss ls rs : List (Option Op)) (b : Op) → 0 < g → Parts g x ss ls rs →
    Parts g x (crossed l ss (Some (from (x + g) b))).slots ls (crossed l rs (Some b)).slots × ((crossed l ss (Some (from (x + g) b))).left ≡ option_map (from (length_at_end x ls + g)) (crossed l rs (Some b)).left)

-- an insertion among them crosses neither part, and there is one of them more
abbrev pub PassesAmong : Type 0
PassesAmong = (l : Stamp → Stamp → Bool) (g x p : ℕ) (ss ls rs : List (Option Op)) (b : Op) → b.does ≡ Inserts → 0 < p → p < g → Parts g x ss ls rs →
    Parts (g + 1) x (crossed l ss (Some (record b { place = x + p }))).slots ls rs × ((crossed l ss (Some (record b { place = x + p }))).left ≡ Some (record b { place = length_at_end x ls + p }))

-- an element is erased or updated
abbrev pub IsOfElement : Does → Type 0
IsOfElement Inserts = ⊥
IsOfElement Erases = Unit {0}
IsOfElement Updates = Unit {0}

-- nor does what erases or updates one of them
abbrev pub PassesOne : Type 0
PassesOne = (l : Stamp → Stamp → Bool) (g x p : ℕ) (ss ls rs : List (Option Op)) (b : Op) → IsOfElement b.does → p < g → Parts g x ss ls rs →
    Parts (longer b.does g) x (crossed l ss (Some (record b { place = x + p }))).slots ls rs × ((crossed l ss (Some (record b { place = x + p }))).left ≡ Some (record b { place = length_at_end x ls + p }))
