-- The parts of a block of bytes.
use Rattle.std.specs.Prelude.{ℕ, ◌-◌, ◌≤◌, List, take, drop, Option, None, Some}

-- from a place to another
abbrev pub part : List ℕ → ℕ × ℕ → List ℕ
part bytes (start, end) = take (end - start) (drop start bytes)

-- both lie within so many bytes
abbrev pub IsWithin : ℕ → ℕ × ℕ → Type 0
IsWithin len (start, end) = (start ≤ end) × (end ≤ len)
