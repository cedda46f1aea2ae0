-- The beginning and the end of a list that places leave as they are.
use Rattle.std.specs.Prelude.{◌≡◌, ℕ, Bool, true, not, ◌&&◌, ◌||◌, List, [], ◌∷◌, nat_le, take, reverse, Option, Some}
use Rattle.std.specs.Ordering.{eq_by_cmp}
use Rattle.sync_data.specs.declared.value.Value.{Value}
use Rattle.sync_base.specs.Effects.{CellPath, path_of}
use Rattle.sync_base.specs.Footprints.{CellAt}
use Rattle.sync_base.specs.Merged.{path_cmp}
use Rattle.sync_base.specs.States.{State, Cell, Many, cell_at}
use Rattle.sync_changed.specs.declared.place.Place.{Place}
use Rattle.sync_changed.specs.declared.place.Place.TheVariants as places
use Rattle.sync_changed.specs.Places.{covers}

-- the first elements of a list, so many, and the last lie beside the place
abbrev pub spares : ℕ → ℕ → CellPath → Place → Bool
spares front back q (places.Elements c before behind) = not (eq_by_cmp path_cmp q (path_of c)) || (nat_le front before && nat_le back behind)
spares front back q place = not (covers place (CellAt q))

-- beside each of the places
abbrev pub all_spare : ℕ → ℕ → CellPath → List Place → Bool
all_spare front back q [] = true
all_spare front back q (place ∷ ps) = spares front back q place && all_spare front back q ps

-- ---- the elements of a list; of any other cell none
abbrev pub elements : Option Cell → List Value
elements (Some (Many xs)) = xs
elements x = []

-- two lists have the same first elements, so many, and the same last
pub record SameEnds (front back : ℕ) (xs ys : List Value) : Type 0 where
  pub beginning : take front xs ≡ take front ys
  pub end : take back (reverse xs) ≡ take back (reverse ys)

abbrev pub SameEndsAt : ℕ → ℕ → CellPath → State → State → Type 0
SameEndsAt front back q s t = SameEnds front back (elements (cell_at s q.0 q.1)) (elements (cell_at t q.0 q.1))
