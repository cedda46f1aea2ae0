-- Lists of lives, one life for each number, and the runs that spell them.
use Rattle.std.specs.Prelude.{◌≡◌, ℕ, ◌+◌, ◌≤◌, Bool, true, false, not, ◌&&◌, List, [], ◌∷◌, length, All, Option, None, Some, replicate, bytes_eq, flat_map, nat_le, sum_by, if◌then◌else◌}
use Rattle.life_bytes.specs.declared.run.Run.{Run}

-- a life is 16 bytes
abbrev pub IsLife : List ℕ → Type 0
IsLife life = length life ≡ 16

abbrev pub Lives : Type 0
Lives = List (List ℕ)

-- the most runs, and the most numbers that they have together
abbrev pub most_runs : ℕ
most_runs = 4097

abbrev pub most_numbers : ℕ
most_numbers = 4294967295

-- the life of each number that the runs have
abbrev pub lives_of : List Run → Lives
lives_of runs = flat_map (λ run. replicate run.count run.life) runs

abbrev pub run_of : ℕ → List ℕ → Run
run_of count life = record { count = count; life = life }

-- one more number in front of runs
abbrev pub in_front : List ℕ → List Run → List Run
in_front life [] = run_of 1 life ∷ []
in_front life (run ∷ runs) = if bytes_eq life run.life then run_of (run.count + 1) run.life ∷ runs else run_of 1 life ∷ run ∷ runs

-- the fewest runs that have these lives
abbrev pub runs_of : Lives → List Run
runs_of [] = []
runs_of (life ∷ lives) = in_front life (runs_of lives)

-- lives that can be spelled
pub record AreLives (lives : Lives) : Type 0 where
  pub few : length (runs_of lives) ≤ most_runs
  pub within : length lives ≤ most_numbers

-- and each is one
abbrev pub AreWholeLives : Lives → Type 0
AreWholeLives lives = AreLives lives × All IsLife lives

-- ---- which runs are those of their lives

abbrev pub count_of : List Run → ℕ
count_of runs = sum_by (λ run. run.count) runs

abbrev pub is_other : Option (List ℕ) → List ℕ → Bool
is_other None life = true
is_other (Some before) life = not (bytes_eq before life)

-- each has a number or more, and another life than the one before it
abbrev pub are_apart : Option (List ℕ) → List Run → Bool
are_apart before [] = true
are_apart before (run ∷ runs) = nat_le 1 run.count && (is_other before run.life && are_apart (Some run.life) runs)

abbrev pub are_runs : List Run → Bool
are_runs runs = are_apart None runs && nat_le (count_of runs) most_numbers

abbrev pub AreRuns : List Run → Type 0
AreRuns runs = (length runs ≤ most_runs) × (are_runs runs ≡ true)

-- what a value of runs holds
pub record HoldsRuns (runs : List Run) (count : ℕ) : Type 0 where
  pub are : AreRuns runs
  pub counted : count ≡ count_of runs

-- the last run has this life
abbrev pub ends_with : List ℕ → List Run → Bool
ends_with life [] = false
ends_with life (run ∷ []) = bytes_eq run.life life
ends_with life (run ∷ next ∷ runs) = ends_with life (next ∷ runs)

-- so many more numbers of this life behind runs
abbrev pub pushed : List ℕ → ℕ → List Run → List Run
pushed life count [] = run_of count life ∷ []
pushed life count (run ∷ []) = if bytes_eq run.life life then run_of (run.count + count) run.life ∷ [] else run ∷ run_of count life ∷ []
pushed life count (run ∷ next ∷ runs) = run ∷ pushed life count (next ∷ runs)
