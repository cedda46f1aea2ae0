-- The order of stamps.
use Rattle.std.specs.Prelude.{ℕ}
use Rattle.std.specs.declared.cmp.Ordering.{Ordering}
use Rattle.std.specs.Ordering.{nat_cmp, on, then_cmp}
use Rattle.std.specs.Cmp.{IsTotalOrder, nat_cmp_total, on_total, then_total}
use Rattle.sync_data.specs.declared.entry.Stamp.{Stamp}

abbrev pub stamp_ms : Stamp → ℕ
stamp_ms s = s.ms

abbrev pub stamp_ident : Stamp → ℕ
stamp_ident s = s.ident

-- by milliseconds, then by ident
abbrev pub stamp_cmp : Stamp → Stamp → Ordering
stamp_cmp = then_cmp (on stamp_ms nat_cmp) (on stamp_ident nat_cmp)

pub stamp_cmp_total : IsTotalOrder stamp_cmp
stamp_cmp_total = then_total (on_total stamp_ms nat_cmp_total) (on_total stamp_ident nat_cmp_total)
