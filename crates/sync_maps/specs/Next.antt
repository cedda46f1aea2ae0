-- The least key above another, or the least of all.
use Rattle.std.specs.Prelude.{◌≡◌, Bool, true, false, Option, None, Some}
use Rattle.std.specs.declared.cmp.Ordering.{Ordering}
use Rattle.std.specs.Ordering.{is_lt}

module _ {K : Type 0} (R : K → K → Ordering) where
  abbrev pub is_above : Option K → K → Bool
  is_above None q = true
  is_above (Some k) q = is_lt (R k q)

  -- of the keys that the test passes: none above `after` where the answer is none, else the answer is above `after` and no other above `after` is less
  abbrev pub IsNext : (K → Bool) → Option K → Option K → Type 0
  IsNext has after None = (q : K) → has q ≡ true → is_above after q ≡ false
  IsNext has after (Some k) = (has k ≡ true) × (is_above after k ≡ true) × ((q : K) → has q ≡ true → is_above after q ≡ true → is_lt (R q k) ≡ false)
