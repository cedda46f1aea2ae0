-- Strings, as their bytes, each once, in the order of their first use.
use Rattle.std.specs.Prelude.{ℕ, ◌≤◌, Bool, List, [], ◌∷◌, ◌++◌, Option, length, fold, position, if◌then◌else◌}
use Rattle.std.specs.List.{list_any, position_or_len, AllByRecursion}
use Rattle.std.specs.Str.{bytes_eq}

abbrev pub has_string : List (List ℕ) → List ℕ → Bool
has_string strings s = list_any (bytes_eq s) strings

-- the string's place, or the number of all strings where it isn't one of them
abbrev pub place_of : List (List ℕ) → List ℕ → ℕ
place_of strings s = position_or_len (bytes_eq s) strings

-- the string's place, where it is one of them
abbrev pub place_in : List (List ℕ) → List ℕ → Option ℕ
place_in strings s = position (bytes_eq s) strings

-- the strings after one was used: a new one goes last
abbrev pub with_string : List (List ℕ) → List ℕ → List (List ℕ)
with_string strings s = if has_string strings s then strings else strings ++ s ∷ []

-- the strings after several were used, in that order
abbrev pub with_strings : List (List ℕ) → List (List ℕ) → List (List ℕ)
with_strings strings used = fold with_string strings used

abbrev pub AreShort : List (List ℕ) → Type 0
AreShort strings = AllByRecursion (λ s. length s ≤ 255) strings
