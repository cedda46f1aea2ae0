-- A finite map with a function applied at each key.
use Rattle.std.specs.Prelude.{List, [], ◌∷◌}
use Rattle.std.specs.declared.cmp.Ordering.{Ordering}
use Rattle.std.specs.FinMap.{FinMap, entries, from_sorted}

module _ {K X Y : Type 0} (f : K → X → Y) where
  abbrev pub mapped : List (K × X) → List (K × Y)
  mapped [] = []
  mapped (e ∷ es) = (e.0, f e.0 e.1) ∷ mapped es

  unfoldable pub map_with : {R : K → K → Ordering} → FinMap R X → FinMap R Y
  map_with m = from_sorted (mapped (entries m))
