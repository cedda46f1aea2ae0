-- What sources give and sinks take.
use Rattle.std.specs.Prelude.{◌≡◌, ℕ, List, ◌++◌, take, Option}
use Rattle.std.specs.Option.{option_map}

-- The source had the piece in front of what it has left. A source that doesn't tell its bytes goes on not telling them.
abbrev pub Gave : List ℕ → Option (List ℕ) → Option (List ℕ) → Type 0
Gave piece old new = old ≡ option_map (λ rest. piece ++ rest) new

-- The sink has the piece behind what it had.
abbrev pub Took : List ℕ → Option (List ℕ) → Option (List ℕ) → Type 0
Took piece old new = new ≡ option_map (λ had. had ++ piece) old

-- The sink has some of the bytes, from their front, behind what it had.
abbrev pub TookSome : List ℕ → Option (List ℕ) → Option (List ℕ) → Type 0
TookSome bytes old new = (n : ℕ) × Took (take n bytes) old new

-- bytes that are still to be read, the calls so far, the numbers of the calls that fail, and the faults
pub record MemoryInput : Type 0 where
  pub left : List ℕ
  pub calls : ℕ
  pub failing : List ℕ
  pub faults : ℕ

-- bytes that were written, the calls so far, the numbers of the calls that fail, and the faults
pub record MemoryOutput : Type 0 where
  pub taken : List ℕ
  pub calls : ℕ
  pub failing : List ℕ
  pub faults : ℕ
