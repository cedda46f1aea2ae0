-- The spot of a filter at which the objects of a list lie.
use Rattle.std.specs.Prelude.{◌≡◌, ℕ, false, List, [], ◌∷◌, Option, None, Some}
use Rattle.std.specs.Option.{option_map}
use Rattle.sync_data.specs.declared.instr.Instr.{Instr}
use Rattle.sync_base.specs.Effects.{effect_of}
use Rattle.sync_base.specs.Objects.{object_of}
use Rattle.sync_index.specs.Filters.{spot_of}
use Rattle.sync_index.specs.Touched.{Touched, may_touch}

-- that of the key of its object; of the schema, none
abbrev pub spot_in : Instr → Option ℕ
spot_in i = option_map (λ o. spot_of o.1) (object_of (effect_of i))

-- each is about an object of this spot
abbrev pub AllAt : ℕ → List Instr → Type 0
AllAt spot [] = Unit {0}
AllAt spot (i ∷ is) = (spot_in i ≡ Some spot) × AllAt spot is

-- and so where a spot is told
abbrev pub LieAt : Option ℕ → List Instr → Type 0
LieAt None is = Unit {0}
LieAt (Some spot) is = AllAt spot is

-- the index knows of none of them
abbrev pub Misses : Touched → List Instr → Type 0
Misses t [] = Unit {0}
Misses t (i ∷ is) = (may_touch t i ≡ false) × Misses t is
