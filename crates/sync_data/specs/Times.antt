-- Times: what is one, and their order.
use Rattle.std.specs.Prelude.{ℤ, pos, negsuc, ◌≤ℤ◌, ◌<ℤ◌}
use Rattle.std.specs.declared.cmp.Ordering.{Ordering}
use Rattle.std.specs.Ordering.{int_cmp, on, then_cmp}
use Rattle.std.specs.Cmp.{IsTotalOrder, int_cmp_total, on_total, then_total}

pub record Moment : Type 0 where
  pub secs : ℤ
  pub nanos : ℤ

-- the nanoseconds are less than a second, and of the seconds' sign
pub record IsTime (secs nanos : ℤ) : Type 0 where
  pub low : negsuc 999999998 ≤ℤ nanos
  pub high : nanos ≤ℤ pos 999999999
  pub after : pos 0 <ℤ secs → pos 0 ≤ℤ nanos
  pub before : secs <ℤ pos 0 → nanos ≤ℤ pos 0

abbrev pub moment_secs : Moment → ℤ
moment_secs m = m.secs

abbrev pub moment_nanos : Moment → ℤ
moment_nanos m = m.nanos

-- by seconds, then by nanoseconds
abbrev pub time_cmp : Moment → Moment → Ordering
time_cmp = then_cmp (on moment_secs int_cmp) (on moment_nanos int_cmp)

pub time_cmp_total : IsTotalOrder time_cmp
time_cmp_total = then_total (on_total moment_secs int_cmp_total) (on_total moment_nanos int_cmp_total)
