-- The part of an input that a reader hands out: its first 2^32 bytes.
use Rattle.std.specs.Prelude.{ℕ, ◌+◌, ◌-◌, Bool, List, ◌++◌, length, take, nat_le, Option}
use Rattle.std.specs.Option.{option_map}

-- as many bytes are read, and no more
abbrev pub max_input : ℕ
max_input = 4294967296

-- what is still to be handed out, and whether the input goes on behind it, or ends just there
pub record Input : Type 0 where
  pub ahead : List ℕ
  pub is_cut : Bool

-- of a reader that has taken so many bytes and holds some of them, over a source that has left
abbrev pub input_ahead : ℕ → List ℕ → List ℕ → Input
input_ahead taken held left = record { ahead = held ++ take (max_input - taken) left; is_cut = nat_le max_input (taken + length left) }

abbrev pub input_of : ℕ → List ℕ → Option (List ℕ) → Option Input
input_of taken held left = option_map (input_ahead taken held) left
