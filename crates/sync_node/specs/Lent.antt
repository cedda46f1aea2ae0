-- The origin of a disk that is lent.
use Rattle.std.specs.Prelude.{◌≡◌, ℕ, suc}
use Rattle.sync_disk.specs.Origin.{Origin}

-- It has the name of the loan where others have how many calls were set to fail: so no call changes the loan, and the laws
-- on disks of which no call was set to fail say nothing of a lent one.
abbrev pub lent_origin : Origin → ℕ → Origin
lent_origin o loan = record { start = o.start; stop = o.stop; leaves = o.leaves; listed = suc loan }

pub no_loan_is_zero : (n : ℕ) → suc n ≡ 0 → ⊥
no_loan_is_zero n is = cc
