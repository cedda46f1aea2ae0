-- Counts of faults. A count never falls, and stands still at 2^64 - 1.
use Rattle.std.specs.Prelude.{ℕ, ◌+◌, ◌≤◌, min}

-- the greatest count
abbrev pub most_faults : ℕ
most_faults = 18446744073709551615

-- the count one higher, or the same at its end
abbrev pub counted : ℕ → ℕ
counted n = min (n + 1) most_faults

-- the count is greater than it was, or stands at its end
abbrev pub HasRisen : ℕ → ℕ → Type 0
HasRisen old new = new ≤ old → most_faults ≤ new
