-- Two concurrent instructions of one list, by their places alone.
use Rattle.std.specs.Prelude.{ℕ, ◌+◌, ◌-◌, ◌<◌, ◌≤◌, Bool, not, ◌&&◌, ◌||◌, ◌==◌, nat_lt, nat_le, if◌then◌else◌, Option, None, Some}
use Rattle.list_places.specs.declared.places.Does.{Does}
use Rattle.list_places.specs.declared.places.Does.TheVariants.{Inserts, Erases, Updates}

-- the length of a list after an instruction
abbrev pub longer : Does → ℕ → ℕ
longer Inserts n = n + 1
longer Erases n = n - 1
longer Updates n = n

-- a place lies in a list of that length: as a gap, or as an element
abbrev pub Within : Does → ℕ → ℕ → Type 0
Within Inserts p n = p ≤ n
Within Erases p n = p < n
Within Updates p n = p < n

-- where the first of two concurrent instructions stands after the other, if it stays; the flag is whether it is the later one
abbrev pub place_after : Bool → Does → ℕ → Does → ℕ → Option ℕ
place_after l Inserts p Inserts q = Some (if nat_lt p q || ((p == q) && not l) then p else p + 1)
place_after l Inserts p Erases q = Some (if nat_le p q then p else p - 1)
place_after l Inserts p Updates q = Some p
place_after l Erases p Inserts q = Some (if nat_le q p then p + 1 else p)
place_after l Erases p Erases q = if p == q then None else Some (if nat_lt p q then p else p - 1)
place_after l Erases p Updates q = Some p
place_after l Updates p Inserts q = Some (if nat_le q p then p + 1 else p)
place_after l Updates p Erases q = if p == q then None else Some (if nat_lt p q then p else p - 1)
place_after l Updates p Updates q = if p == q then (if l then Some p else None) else Some p
