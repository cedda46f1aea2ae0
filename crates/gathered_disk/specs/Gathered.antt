-- What a gathered disk shows, and what stands on the disk below it meanwhile.
use Rattle.std.specs.Prelude.{◌≡◌, ◌⊎◌, ℕ, ◌+◌, ◌*◌, ◌^◌, ◌<◌, Bool, true, false, List, [], ◌∷◌, length, take, get_or, Option, None, Some}
use Rattle.sync_disk.specs.Disk.{Torn, put}
use Rattle.sync_disk.specs.Strokes.{Stroke}
use Rattle.sync_disk.specs.Images.{IsImage, SinceStroke, state}
use Rattle.sync_disk.specs.Origin.{Origin}
use Rattle.sync_disk.specs.declared.leaves.Leaves.{Leaves}
use Rattle.sync_disk.specs.declared.leaves.Leaves.TheVariants.{Drop, Keep}

-- these bytes behind a gate, and the gate opened
abbrev pub gathered : List ℕ → ℕ → List ℕ → Bool → List ℕ
gathered b gate behind false = put b (gate + 1) behind
gathered b gate behind true = put (put b (gate + 1) behind) gate (1 ∷ [])

-- all that is shown stands there, but for its open gate, which may be any byte
pub record IsLetIn (b : List ℕ) (gate : ℕ) (shown c : List ℕ) : Type 0 where
  pub inside : gate < length shown
  pub front : take gate shown ≡ take gate b
  pub open_ : get_or shown gate 0 ≡ 1
  pub torn : Torn gate 1 shown c

-- What a landing may leave: the bytes up to the gate as they were, with any others behind it, or all that is shown.
abbrev pub NoneOrAll : List ℕ → ℕ → List ℕ → List ℕ → Type 0
NoneOrAll b gate shown c = (take (gate + 1) c ≡ take (gate + 1) b) ⊎ IsLetIn b gate shown c

-- the content of the disk below, where it is told
abbrev pub base_of : Option (List ℕ) → List ℕ
base_of None = []
base_of (Some b) = b

-- what a read would give: the content of the disk below after these strokes
abbrev pub shown : Bool → Option (List ℕ) → List Stroke → Option (List ℕ)
shown true told strokes = None
shown false None strokes = None
shown false (Some b) strokes = Some (state b strokes).content

-- what a crash would leave of it after these strokes, now and from some stroke on, where its content is told
abbrev pub images_of : Option (List ℕ) → List Stroke → List ℕ → Type 0
images_of None strokes c = Unit {0}
images_of (Some b) strokes c = IsImage (state b strokes) c

abbrev pub images_since_of : Option (List ℕ) → List Stroke → ℕ → List ℕ → Type 0
images_since_of None strokes t c = Unit {0}
images_since_of (Some b) strokes t c = SinceStroke b strokes t c

abbrev pub leaves_of : Bool → Leaves
leaves_of true = Drop
leaves_of false = Keep

-- Its origin tells the content below, the gate and whether it is closed: so no call that leaves its origin as it is changes
-- any of them.
abbrev pub origin_of : Bool → Option (List ℕ) → ℕ → ℕ → Origin
origin_of closed told listed gate = record { start = base_of told; stop = None; leaves = leaves_of closed; listed = listed * 2 ^ 63 + gate }
