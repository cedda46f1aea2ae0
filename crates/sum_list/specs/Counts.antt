-- What is added up of the items in front of a place.
use Rattle.std.specs.Prelude.{ℕ}
use Rattle.sum_list.specs.declared.measured.Measure.{Measure}
use Rattle.sum_list.specs.declared.measured.Measure.TheVariants.{Places, Before, After}

-- the one of three that a measure is
abbrev pub by : {A : Type 0} → Measure → A → A → A → A
by Places x y z = x
by Before x y z = y
by After x y z = z

module _ {X : Type 0} where
  -- what a measure adds up of an item with the lengths f and g
  abbrev pub counts : (X → ℕ) → (X → ℕ) → Measure → X → ℕ
  counts f g m = by m (λ _. 1) f g
