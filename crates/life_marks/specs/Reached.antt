-- Of each life the highest number of a transaction that is told.
use Rattle.std.specs.Prelude.{ℕ, Bool, List, nat_le, bytes_eq, if◌then◌else◌, max}
use Rattle.std.specs.BTreeMap.{get}
use Rattle.std.specs.Cmp.Lexicographic.{slice_cmp}
use Rattle.std.specs.Ordering.{nat_cmp}
use Rattle.std.specs.Option.{unwrap_or, is_some}
use Rattle.life_bytes.specs.Parts.{TokenParts}
use Rattle.life_marks.specs.declared.reached.Reached.{Reached}

-- the number of each life; 0 where none is told
abbrev pub number_of : Reached → List ℕ → ℕ
number_of reached life = unwrap_or (get (slice_cmp nat_cmp) reached.numbers life) 0

-- a number of this life is told
abbrev pub is_told : Reached → List ℕ → Bool
is_told reached life = is_some (get (slice_cmp nat_cmp) reached.numbers life)

abbrev pub nothing_reached : List ℕ → ℕ
nothing_reached life = 0

-- the transaction of this token is there
abbrev pub has : (List ℕ → ℕ) → TokenParts → Bool
has numbers token = nat_le token.number (numbers token.life)

-- and from now on it is
abbrev pub raised : TokenParts → (List ℕ → ℕ) → List ℕ → ℕ
raised token numbers life = if bytes_eq token.life life then max token.number (numbers life) else numbers life
