use Rattle.std.proofs.Common.{◌≡◌, ◌-◌, ◌≤◌, length, take, drop}
use Rattle.std.specs.Option.{option_copied}
use Rattle.sync_theory.specs.Lists.{cross}
use Rattle.sync_theory.specs.Loops.{cross_after}
use Rattle.sync_law.specs.Instrs.{meet}
use Rattle.sync_transform.specs.Indexes.{IsCovered}
use Rattle.sync_transform.proofs.crossing.cross_slices.Given as goal

-- what was written so far, with what the rest of the rows gives, is what the lists give
abbrev pub invariant-loop-read : goal.invariant-loop-read
invariant-loop-read l = record {
  so_far : cross (λ a b. meet a b l.left_later) l.fn.lefts l.fn.rights ≡ cross_after (take l.written l.lefts) l.read (cross (λ a b. meet a b l.left_later) (drop l.read l.lefts) (drop l.freed l.rights));
  order : l.written ≤ l.read;
  within : l.read ≤ length l.lefts;
  freed : l.freed ≤ length l.rights;
  indexed : IsCovered (option_copied l.index) (drop l.freed l.rights);
}

abbrev pub decreases-loop-read : goal.decreases-loop-read
decreases-loop-read l = length l.lefts - l.read
