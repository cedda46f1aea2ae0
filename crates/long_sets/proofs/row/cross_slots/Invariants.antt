use Rattle.std.proofs.Common.{◌≡◌, ◌≤◌, ◌-◌, length, take, drop}
use Rattle.sync_data.specs.declared.instr.Instr.{Instr}
use Rattle.sync_theory.specs.Lists.{kept}
use Rattle.sync_theory.specs.Changesets.{Changeset, is_later}
use Rattle.sync_rivals.specs.Lists.{Lists}
use Rattle.sync_rivals.specs.Marks.{Knows}
use Rattle.long_sets.specs.Rows.{lists_in}
use Rattle.long_sets.proofs.Going.{Ahead}
use Rattle.long_sets.proofs.row.cross_slots.Given as goal

abbrev pub invariant-loop-place : goal.invariant-loop-place
invariant-loop-place l = record {
  within : l.place ≤ length l.slots;
  size : length l.slots ≡ length l.initial.slots;
  listed : Lists l.index (lists_in l.slots);
  known : Knows l.codes (kept l.left);
  ahead : (t e : Changeset Instr) → is_later e t ≡ l.left_later → Ahead t e l.initial.slots l.initial.left (take l.place l.slots) (drop l.place l.slots) l.left;
}

abbrev pub decreases-loop-place : goal.decreases-loop-place
decreases-loop-place l = length l.slots - l.place
