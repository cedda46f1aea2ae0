-- Where the gate of a record stands.
use Rattle.std.specs.Prelude.{ℕ, zero, suc, ◌+◌, ◌-◌, ◌^◌, min, List, [], ◌∷◌, length}

-- the place of a gate behind so many records, from one place on
abbrev pub gate_from : ℕ → List (List ℕ) → ℕ → ℕ
gate_from place [] number = place
gate_from place (r ∷ rs) zero = place
gate_from place (r ∷ rs) (suc number) = gate_from (place + 5 + length r) rs number

-- and in a file
abbrev pub gate_of : List (List ℕ) → ℕ → ℕ
gate_of file number = gate_from 8 file number

-- a place as it is told, which is 2^64 - 1 where it would be above
abbrev pub told : ℕ → ℕ
told place = min place (2 ^ 64 - 1)
