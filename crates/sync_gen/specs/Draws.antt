-- Draws: numbers that follow from a state, each with the state after it. The state begins as the seed.
use Rattle.std.specs.Prelude.{ℕ, ◌+◌, ◌*◌, ◌/◌, ◌%◌, ◌^◌}

unfoldable pub next : ℕ → ℕ
next x = (x * 6364136223846793005 + 1442695040888963407) % 2 ^ 64

-- what is drawn from a state, and the state after it
abbrev pub Drawing : Type 0 → Type 0
Drawing A = ℕ → A × ℕ

-- a number below n, from the state's upper bits
unfoldable pub draw : ℕ → Drawing ℕ
draw n x = ((next x / 2 ^ 33) % n, next x)

-- what is given, without a draw
abbrev pub given : {A : Type 0} → A → Drawing A
given a x = (a, x)

-- a draw, and what is drawn after it
abbrev pub and_then : {A B : Type 0} → Drawing A → (A → Drawing B) → Drawing B
and_then d rest x = rest (d x).0 (d x).1
