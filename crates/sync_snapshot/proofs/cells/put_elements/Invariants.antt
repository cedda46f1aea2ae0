use Rattle.std.proofs.Common.{◌≡◌, ◌-◌, ◌≤◌, ◌++◌, length, drop}
use Rattle.sync_base.specs.Effects.{path_of}
use Rattle.snapshot_law.specs.Build.{insertions}
use Rattle.sync_snapshot.specs.Lists.{edit_instrs}
use Rattle.sync_snapshot.proofs.cells.put_elements.Given as goal

-- the insertions so far, and those of the elements that are left
abbrev pub invariant-loop-place : goal.invariant-loop-place
invariant-loop-place l =
    (l.list.items ++ edit_instrs (path_of l.name) (insertions l.place (drop l.place l.items)) ≡ l.fn.list.items ++ edit_instrs (path_of l.name) (insertions 0 l.items))
    × (l.place ≤ length l.items)

abbrev pub decreases-loop-place : goal.decreases-loop-place
decreases-loop-place l = length l.items - l.place
