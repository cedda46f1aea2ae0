use Rattle.std.proofs.Common.{◌≡◌, Some, ◌-◌, ◌≤◌, length, take, drop}
use Rattle.sync_theory.specs.Lists.{row}
use Rattle.sync_theory.specs.Loops.{row_after}
use Rattle.sync_law.specs.Instrs.{meet}
use Rattle.sync_transform.proofs.row.pass.Given as goal

-- what was written so far, with what the rest of the row gives, is what the row gives
abbrev pub invariant-loop-read : goal.invariant-loop-read
invariant-loop-read l = record {
  so_far : row (λ a b. meet a b l.left_later) (Some l.fn.left) l.fn.rights ≡ row_after (take l.written l.rights) l.read (row (λ a b. meet a b l.left_later) (Some l.now) (drop l.read l.rights));
  order : l.written ≤ l.read;
  within : l.read ≤ length l.rights;
}

abbrev pub decreases-loop-read : goal.decreases-loop-read
decreases-loop-read l = length l.rights - l.read
